-- What the items of a trace do to a run, one after another.
use Rattle.std.proofs.Common.{◌≡◌, ℕ, ◌+◌, List, [], ◌∷◌, ◌++◌, length, true, false, cond, Result, Ok, Err, refl, ◌∙◌, ap, subst, arith}
use Rattle.std.proofs.lemmas.List.{length-append}
use Rattle.heap_base.proofs.Counting.{total-append}
use Rattle.graph_meaning.specs.declared.collection.Collection.{Collection}
use Rattle.graph_meaning.specs.declared.event.Event.{Event}
use Rattle.graph_meaning.specs.declared.event.Event.TheVariants.{Alloc, Store, SetWeak, Root, AssertDead, StartRegion, AssertAllDead, AssertInstances, AssertUnshared, AssertOwnedBy, Collect}
use Rattle.graph_meaning.specs.declared.reaction.React.{React}
use Rattle.graph_meaning.specs.declared.reaction.React.TheVariants.{Report, Halt, Force}
use Rattle.graph_meaning.specs.declared.refusal.Refusal.{Refusal}
use Rattle.graph_meaning.specs.Heap.{Heap}
use Rattle.graph_meaning.specs.Step.{step}
use Rattle.graph_meaning.specs.Collecting.{Rules, collection_of, after_collection}
use Rattle.trace_reader.specs.Meaning.{Item, blank, event, refused}
use Rattle.report.specs.Run.{RunRules, collection_rules, Totals, RunState, Turn, RunResult, Ending, violations_of, with_collections, turn_to}
use Rattle.report.specs.Run.{turn_by_step, turn, turn_of_item, end_of_trace, refused_line, halted, empty_run, with_earlier, halts, after_turn}
use Rattle.report.specs.Run.{by_turn, run, last_status, run_status}

-- ---- totals

pub violations_of-append : (xs ys : List Collection) → violations_of (xs ++ ys) ≡ violations_of xs + violations_of ys
violations_of-append xs ys = total-append (λ (c : Collection). length c.verdicts) xs ys

Totals-equal : (s t : Totals) → s.collections ≡ t.collections → s.violations ≡ t.violations → s ≡ t
Totals-equal s t p q =
    let totals : ℕ → ℕ → Totals = λ c v. record { collections = c; violations = v } in
    ap (λ c. totals c s.violations) p ∙ ap (totals t.collections) q

pub with_collections-nil : (t : Totals) → with_collections t [] ≡ t
with_collections-nil t = Totals-equal (with_collections t []) t (omega arith) (omega arith)

pub with_collections-one : (t : Totals) (c : Collection) → with_collections t (c ∷ []) ≡ record { collections = t.collections + 1; violations = t.violations + length c.verdicts }
with_collections-one t c = Totals-equal (with_collections t (c ∷ [])) _ (omega arith) (omega arith)

pub with_collections-append : (t : Totals) (xs ys : List Collection) → with_collections t (xs ++ ys) ≡ with_collections (with_collections t xs) ys
with_collections-append t xs ys =
    Totals-equal (with_collections t (xs ++ ys)) (with_collections (with_collections t xs) ys) (omega (arith, length-append xs ys)) (omega (arith, violations_of-append xs ys))

-- ---- collections before a run

pub run_status-with_earlier : (before : Totals) (made : List Collection) (r : RunResult) → run_status before (with_earlier made r) ≡ run_status (with_collections before made) r
unfolding run_status
run_status-with_earlier before made r =
    ap (λ (t : Totals). last_status t r.ending) (with_collections-append before made r.collections)

pub run_status-empty_run : (before : Totals) (ending : Ending) → run_status before (empty_run ending) ≡ last_status before ending
unfolding run_status
run_status-empty_run before ending = ap (λ (t : Totals). last_status t ending) (with_collections-nil before)

-- ---- one operation

-- an operation that is no collection is a step
pub turn-step : (rules : Rules) (s : RunState) (e : Event) → (e ≡ Collect → ⊥) → turn rules s e ≡ turn_by_step s (step s.heap e)
unfolding turn
turn-step rules s (Alloc id kind slots thread) other = refl
turn-step rules s (Store at slot to) other = refl
turn-step rules s (SetWeak at slot weak) other = refl
turn-step rules s (Root name to) other = refl
turn-step rules s (AssertDead id) other = refl
turn-step rules s (StartRegion thread) other = refl
turn-step rules s (AssertAllDead thread) other = refl
turn-step rules s (AssertInstances kind limit) other = refl
turn-step rules s (AssertUnshared id) other = refl
turn-step rules s (AssertOwnedBy owner ownee) other = refl
turn-step rules s Collect other = absurd (other refl)

pub turn-applied : (rules : Rules) (s : RunState) (e : Event) (h : Heap) → (e ≡ Collect → ⊥) → step s.heap e ≡ Ok h → turn rules s e ≡ Ok (turn_to s [] h)
turn-applied rules s e h other is = turn-step rules s e other ∙ ap (turn_by_step s) is

pub turn-refused : (rules : Rules) (s : RunState) (e : Event) (r : Refusal) → (e ≡ Collect → ⊥) → step s.heap e ≡ Err r → turn rules s e ≡ Err r
turn-refused rules s e r other is = turn-step rules s e other ∙ ap (turn_by_step s) is

pub turn-collect : (rules : Rules) (s : RunState) → turn rules s Collect ≡ Ok (turn_to s (collection_of rules (s.totals.collections + 1) s.heap ∷ []) (after_collection rules s.heap))
unfolding turn
turn-collect rules s = refl

-- What each turn keeps: the totals are those of all collections so far, and one line more was read.
pub record IsTurn (s : RunState) (t : Turn) : Type 0 where
  pub totals : t.state.totals ≡ with_collections s.totals t.collections
  pub lines : t.state.lines ≡ s.lines + 1

IsTurn-turn_to : (s : RunState) (made : List Collection) (h : Heap) → IsTurn s (turn_to s made h)
IsTurn-turn_to s made h = record { totals = refl; lines = refl }

IsTurn-by_step : (s : RunState) (t : Turn) (result : Result Heap Refusal) → turn_by_step s result ≡ Ok t → IsTurn s t
IsTurn-by_step s t (Ok h) is = subst (IsTurn s) (cc) (IsTurn-turn_to s [] h)
IsTurn-by_step s t (Err r) is = absurd (cc)

pub IsTurn-of_event : (rules : Rules) (s : RunState) (e : Event) (t : Turn) → turn rules s e ≡ Ok t → IsTurn s t
unfolding turn
IsTurn-of_event rules s Collect t is = subst (IsTurn s) (cc) (IsTurn-turn_to s (collection_of rules (s.totals.collections + 1) s.heap ∷ []) (after_collection rules s.heap))
IsTurn-of_event rules s e t is = IsTurn-by_step s t (step s.heap e) is

pub IsTurn-of_item : (rules : Rules) (s : RunState) (item : Item) (t : Turn) → turn_of_item rules s item ≡ Ok t → IsTurn s t
IsTurn-of_item rules s blank t is = subst (IsTurn s) (cc) (IsTurn-turn_to s [] s.heap)
IsTurn-of_item rules s (event e) t is = IsTurn-of_event rules s e t is
IsTurn-of_item rules s (refused r) t is = absurd (cc)

-- ---- one item

pub run-nil : (rules : RunRules) (s : RunState) → run rules s [] ≡ empty_run end_of_trace
unfolding run
run-nil rules s = refl

pub run-turns : (rules : RunRules) (s : RunState) (item : Item) (t : Turn) (items : List Item) → turn_of_item (collection_rules rules) s item ≡ Ok t →
    run rules s (item ∷ items) ≡ after_turn rules.react t (λ next. run rules next items)
unfolding run
run-turns rules s item t items is = ap (λ o. by_turn rules.react (s.lines + 1) o (λ next. run rules next items)) is

-- behind a turn a run goes on, or halts
turn-goes_on : (react : React) (t : Turn) (go_on : RunState → RunResult) → halts react t.collections ≡ false → after_turn react t go_on ≡ with_earlier t.collections (go_on t.state)
turn-goes_on react t go_on is =
    ap (λ b. with_earlier t.collections (cond b (empty_run (halted t.state.totals.collections (violations_of t.collections))) (go_on t.state))) is

turn-halts : (react : React) (t : Turn) (go_on : RunState → RunResult) → halts react t.collections ≡ true →
    after_turn react t go_on ≡ with_earlier t.collections (empty_run (halted t.state.totals.collections (violations_of t.collections)))
turn-halts react t go_on is =
    ap (λ b. with_earlier t.collections (cond b (empty_run (halted t.state.totals.collections (violations_of t.collections))) (go_on t.state))) is

-- the run goes on from the turn of its first item
pub run-goes_on : (rules : RunRules) (s : RunState) (item : Item) (t : Turn) (items : List Item) → turn_of_item (collection_rules rules) s item ≡ Ok t → halts rules.react t.collections ≡ false →
    run rules s (item ∷ items) ≡ with_earlier t.collections (run rules t.state items)
run-goes_on rules s item t items is on =
    run-turns rules s item t items is ∙ turn-goes_on rules.react t (λ next. run rules next items) on

-- or halts behind it
pub run-halts : (rules : RunRules) (s : RunState) (item : Item) (t : Turn) (items : List Item) → turn_of_item (collection_rules rules) s item ≡ Ok t → halts rules.react t.collections ≡ true →
    run rules s (item ∷ items) ≡ with_earlier t.collections (empty_run (halted t.state.totals.collections (violations_of t.collections)))
run-halts rules s item t items is stops =
    run-turns rules s item t items is ∙ turn-halts rules.react t (λ next. run rules next items) stops

-- or ends at its line
pub run-ends : (rules : RunRules) (s : RunState) (item : Item) (r : Refusal) (items : List Item) →
    turn_of_item (collection_rules rules) s item ≡ Err r → run rules s (item ∷ items) ≡ empty_run (refused_line (s.lines + 1) r)
unfolding run
run-ends rules s item r items is = ap (λ o. by_turn rules.react (s.lines + 1) o (λ next. run rules next items)) is

-- nothing halts a run where no collection was made
pub halts-nothing : (react : React) → halts react [] ≡ false
halts-nothing Report = refl
halts-nothing Halt = refl
halts-nothing Force = refl
