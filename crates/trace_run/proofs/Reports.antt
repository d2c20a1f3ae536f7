-- The run of the program and the defined run have the same report.
use Rattle.std.proofs.Common.{◌≡◌, ℕ, ◌+◌, List, [], ◌∷◌, ◌++◌, Bool, true, false, cond, Result, Ok, Err, refl, sym, ◌∙◌, ap}
use Rattle.heap_base.specs.declared.status.Status.{Status}
use Rattle.graph_meaning.specs.declared.collection.Collection.{Collection}
use Rattle.graph_meaning.specs.declared.event.Event.{Event}
use Rattle.graph_meaning.specs.declared.event.Event.TheVariants.{Alloc, Store, SetWeak, Root, AssertDead, StartRegion, AssertAllDead, AssertInstances, AssertUnshared, AssertOwnedBy, Collect}
use Rattle.graph_meaning.specs.declared.refusal.Refusal.{Refusal}
use Rattle.graph_meaning.specs.Heap.{Heap}
use Rattle.trace_reader.specs.Meaning.{Item, blank, event, refused}
use Rattle.report.specs.Run as meant
use Rattle.report.specs.Run.{RunRules, collection_rules, Totals, RunState, Turn, RunResult, with_collections, violations_of, turn, turn_of_item}
use Rattle.report.specs.Run.{turn_by_step, end_of_trace, refused_line, halted, is_halted, is_at_end, empty_run, with_earlier, run_status}
use Rattle.report.specs.Run.{first_state, run}
use Rattle.report.specs.Text.{halt_text}
use Rattle.report.specs.Report.{collections_text, report_text}
use Rattle.trace_run.specs.Program as program
use Rattle.trace_run.specs.Program.{Effect, Report, report_on, report_by, takes_item, by_effect, ends_so, behind}
use Rattle.trace_run.specs.Audits.{AuditState, state_of, first_audit_state, audit_report, effect_of, effect_of_turn, audit_meaning}
use Rattle.report.proofs.Runs.{with_collections-nil, IsTurn, IsTurn-of_item, run-nil, run-goes_on, run-halts, run-ends, halts-nothing, run_status-with_earlier, run_status-empty_run}
use Rattle.report.proofs.RunTexts.{collections_text-append, report_text-with_earlier, report_text-empty_run}
use Rattle.trace_run.proofs.Runs as runs

Report-equal : (r q : Report) → r.text ≡ q.text → r.part ≡ q.part → r.status ≡ q.status → r.is_halted ≡ q.is_halted → r.is_at_end ≡ q.is_at_end → r ≡ q
Report-equal r q text part status halting ending =
    let of : List ℕ → List ℕ → Status → Bool → Bool → Report = λ t p s h e. record { text = t; part = p; status = s; is_halted = h; is_at_end = e } in
    ap (λ t. of t r.part r.status r.is_halted r.is_at_end) text
    ∙ ap (λ p. of q.text p r.status r.is_halted r.is_at_end) part
    ∙ ap (λ s. of q.text q.part s r.is_halted r.is_at_end) status
    ∙ ap (λ h. of q.text q.part q.status h r.is_at_end) halting
    ∙ ap (λ e. of q.text q.part q.status q.is_halted e) ending

-- the report on a run, where collections of these totals came before it
abbrev report_from : Totals → RunResult → Report
report_from before ran = record {
  text = report_text before ran;
  part = collections_text ran.collections;
  status = run_status before ran;
  is_halted = is_halted ran.ending;
  is_at_end = is_at_end ran.ending;
}

-- ---- one item

-- the effect of a turn, where it is known whether the run halts
abbrev pub effect_by : RunRules → Turn → Bool → Effect AuditState
effect_by rules t b =
    cond b
    (program.halts (collections_text t.collections) (record { text = halt_text t.state.totals.collections (violations_of t.collections); violated = true }))
    (program.goes_on (collections_text t.collections) (state_of rules t.state))

-- an operation's effect doesn't depend on the number of lines before it
step-any_lines : (rules : RunRules) (h : Heap) (t : Totals) (m n : ℕ) (made : Result Heap Refusal) →
    effect_of rules (turn_by_step (record { heap = h; totals = t; lines = m }) made) ≡ effect_of rules (turn_by_step (record { heap = h; totals = t; lines = n }) made)
step-any_lines rules h t m n (Ok after) = refl
step-any_lines rules h t m n (Err r) = refl

pub turn-any_lines : (rules : RunRules) (s : RunState) (n : ℕ) (e : Event) →
    effect_of rules (turn (collection_rules rules) (record s { lines = n }) e) ≡ effect_of rules (turn (collection_rules rules) s e)
unfolding turn
turn-any_lines rules s n Collect = refl
turn-any_lines rules s n (Alloc id kind slots thread) = step-any_lines rules s.heap s.totals n s.lines _
turn-any_lines rules s n (Store at slot to) = step-any_lines rules s.heap s.totals n s.lines _
turn-any_lines rules s n (SetWeak at slot weak) = step-any_lines rules s.heap s.totals n s.lines _
turn-any_lines rules s n (Root name to) = step-any_lines rules s.heap s.totals n s.lines _
turn-any_lines rules s n (AssertDead id) = step-any_lines rules s.heap s.totals n s.lines _
turn-any_lines rules s n (StartRegion thread) = step-any_lines rules s.heap s.totals n s.lines _
turn-any_lines rules s n (AssertAllDead thread) = step-any_lines rules s.heap s.totals n s.lines _
turn-any_lines rules s n (AssertInstances kind limit) = step-any_lines rules s.heap s.totals n s.lines _
turn-any_lines rules s n (AssertUnshared id) = step-any_lines rules s.heap s.totals n s.lines _
turn-any_lines rules s n (AssertOwnedBy owner ownee) = step-any_lines rules s.heap s.totals n s.lines _

-- nothing was made and the heap is this
pub effect-nothing : (rules : RunRules) (s : RunState) (h : Heap) → effect_of_turn rules (meant.turn_to s [] h) ≡ program.goes_on [] (record { rules = rules; heap = h; totals = s.totals })
effect-nothing rules s h =
    let after : Totals → AuditState = λ t. record { rules = rules; heap = h; totals = t } in
    ap (effect_by rules (meant.turn_to s [] h)) (halts-nothing rules.react)
    ∙ ap (λ t. program.goes_on [] (after t)) (with_collections-nil s.totals)

-- the effect of an item is that of its turn
takes-turn : (rules : RunRules) (s : RunState) (item : Item) → takes_item audit_meaning (state_of rules s) item ≡ effect_of rules (turn_of_item (collection_rules rules) s item)
takes-turn rules s blank = sym (effect-nothing rules s s.heap)
takes-turn rules s (event e) = turn-any_lines rules s 0 e
takes-turn rules s (refused r) = refl

-- ---- all items

-- the report behind collections that came before
from-with_earlier : (before : Totals) (made : List Collection) (r : RunResult) (q : program.RunResult) → report_on q ≡ report_from (with_collections before made) r →
    report_on (behind (collections_text made) q) ≡ report_from before (with_earlier made r)
from-with_earlier before made r q same = Report-equal _ _
    (runs.report_on-text (collections_text made) q ∙ ap (λ (x : Report). collections_text made ++ x.text) same ∙ sym (report_text-with_earlier before made r))
    (ap (λ (x : Report). collections_text made ++ x.part) same ∙ sym (collections_text-append made r.collections))
    (ap (λ (x : Report). x.status) same ∙ sym (run_status-with_earlier before made r))
    (ap (λ (x : Report). x.is_halted) same)
    (ap (λ (x : Report). x.is_at_end) same)

at_end : (rules : RunRules) (s : RunState) → report_on (ends_so (program.end_of_trace (audit_meaning.ends (state_of rules s)))) ≡ report_from s.totals (empty_run end_of_trace)
at_end rules s = Report-equal _ _ (sym (report_text-empty_run s.totals end_of_trace)) refl (sym (run_status-empty_run s.totals end_of_trace)) refl refl

at_refusal : (before : Totals) (line : ℕ) (r : Refusal) → report_on (ends_so (program.refused_line line r)) ≡ report_from before (empty_run (refused_line line r))
at_refusal before line r = Report-equal _ _ (sym (report_text-empty_run before (refused_line line r))) refl (sym (run_status-empty_run before (refused_line line r))) refl refl

-- one item more, where the reports are the same from every state behind it
module _ (rules : RunRules) (s : RunState) (item : Item) (items : List Item)
    (later : (t : RunState) → report_on (program.run audit_meaning (state_of rules t) t.lines items) ≡ report_from t.totals (run rules t items))
  where
    abbrev next : AuditState → program.RunResult
    next t = program.run audit_meaning t (s.lines + 1) items

    of_turn : (t : Turn) → turn_of_item (collection_rules rules) s item ≡ Ok t → (b : Bool) → meant.halts rules.react t.collections ≡ b →
        report_on (by_effect (s.lines + 1) (effect_of_turn rules t) next) ≡ report_from s.totals (run rules s (item ∷ items))
    of_turn t is true stops =
        let ending : meant.Ending = halted t.state.totals.collections (violations_of t.collections) in
        let before = with_collections s.totals t.collections in
        ap (λ (b : Bool). report_on (by_effect (s.lines + 1) (effect_by rules t b) next)) stops
        ∙ from-with_earlier s.totals t.collections (empty_run ending) (ends_so (program.halted (record { text = halt_text t.state.totals.collections (violations_of t.collections); violated = true })))
        (Report-equal _ _ (sym (report_text-empty_run before ending)) refl (sym (run_status-empty_run before ending)) refl refl)
        ∙ ap (report_from s.totals) (sym (run-halts rules s item t items is stops))
    of_turn t is false on =
        let turned : IsTurn s t = IsTurn-of_item (collection_rules rules) s item t is in
        ap (λ (b : Bool). report_on (by_effect (s.lines + 1) (effect_by rules t b) next)) on
        ∙ from-with_earlier s.totals t.collections (run rules t.state items) (next (state_of rules t.state))
        (ap (λ n. report_on (program.run audit_meaning (state_of rules t.state) n items)) (sym turned.lines)
        ∙ later t.state
        ∙ ap (λ b. report_from b (run rules t.state items)) turned.totals)
        ∙ ap (report_from s.totals) (sym (run-goes_on rules s item t items is on))

    by_case : (o : Result Turn Refusal) → turn_of_item (collection_rules rules) s item ≡ o →
        report_on (by_effect (s.lines + 1) (effect_of rules o) next) ≡ report_from s.totals (run rules s (item ∷ items))
    by_case (Ok t) is = of_turn t is (meant.halts rules.react t.collections) refl
    by_case (Err r) is = at_refusal s.totals (s.lines + 1) r ∙ ap (report_from s.totals) (sym (run-ends rules s item r items is))

    same_item : report_on (program.run audit_meaning (state_of rules s) s.lines (item ∷ items)) ≡ report_from s.totals (run rules s (item ∷ items))
    same_item =
        ap report_on (runs.run-takes audit_meaning (state_of rules s) s.lines item items ∙ ap (λ e. by_effect (s.lines + 1) e next) (takes-turn rules s item))
        ∙ by_case (turn_of_item (collection_rules rules) s item) refl

pub same_report : (rules : RunRules) (s : RunState) (items : List Item) → report_on (program.run audit_meaning (state_of rules s) s.lines items) ≡ report_from s.totals (run rules s items)
same_report rules s [] =
    ap report_on (runs.run-nil audit_meaning (state_of rules s) s.lines) ∙ at_end rules s ∙ ap (report_from s.totals) (sym (run-nil rules s))
same_report rules s (item ∷ items) = same_item rules s item items (λ t. same_report rules t items)

-- from the beginning of a trace
pub audit_is_reported : (rules : RunRules) (items : List Item) → report_by audit_meaning (first_audit_state rules) items ≡ audit_report rules items
audit_is_reported rules items = same_report rules (first_state rules.most) items
