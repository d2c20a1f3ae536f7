-- What an event is to the program of an audit.
use Rattle.std.proofs.Common.{◌≡◌, ◌≢◌, ℕ, List, [], ◌∷◌, length, true, false, Result, Ok, Err, IfOk, refl, sym, ◌∙◌, ap, arith}
use Rattle.heap_base.specs.declared.errors.OutOfMemory.{OutOfMemory}
use Rattle.graph_meaning.specs.declared.event.Event.{Event}
use Rattle.graph_meaning.specs.declared.event.Event.TheVariants.{Collect}
use Rattle.graph_meaning.specs.declared.refusal.Refusal.{Refusal}
use Rattle.graph_meaning.specs.Heap.{Heap}
use Rattle.graph_meaning.specs.Step.{step}
use Rattle.graph_meaning.specs.Collecting.{collection_counted, after_collection}
use Rattle.report.specs.Run as meant
use Rattle.report.specs.Run.{collection_rules, Totals, RunState, Turn, turn_to, with_collections, violations_of}
use Rattle.report.specs.Text.{collection_text, halt_text}
use Rattle.trace_run.specs.declared.taken.Taken.{Taken}
use Rattle.trace_run.specs.declared.taken.Taken.TheVariants.{GoesOn, Halts}
use Rattle.trace_run.specs.Program.{Effect, Last, TakesEvent, goes_on, refuses, halts}
use Rattle.trace_run.specs.Audits.{AuditState, IsDue, audit_meaning, behind_next, effect_of, next_of}
use Rattle.report.proofs.Runs.{with_collections-one, turn-applied, turn-refused, turn-collect}
use Rattle.report.proofs.RunTexts.{collections_text-one}
use Rattle.trace_run.proofs.Reports.{effect_by, effect-nothing}

abbrev at : AuditState → RunState
at s = record { heap = s.heap; totals = s.totals; lines = 0 }

-- ---- a collection

abbrev next_turn : AuditState → Turn
next_turn s = turn_to (at s) (next_of s ∷ []) (after_collection (collection_rules s.rules) s.heap)

effect-collect : (s : AuditState) → audit_meaning.takes s Collect ≡ effect_by s.rules (next_turn s) (meant.halts s.rules.react (next_of s ∷ []))
effect-collect s = ap (effect_of s.rules) (turn-collect (collection_rules s.rules) (at s))

-- the run goes on behind it
collect-goes_on : (s : AuditState) → meant.halts s.rules.react (next_of s ∷ []) ≡ false → audit_meaning.takes s Collect ≡ goes_on (collection_text (next_of s)) (behind_next s)
collect-goes_on s on =
    let made = next_of s in
    let state : Totals → AuditState = λ t. record { rules = s.rules; heap = after_collection (collection_rules s.rules) s.heap; totals = t } in
    effect-collect s
    ∙ ap (effect_by s.rules (next_turn s)) on
    ∙ ap (λ t. goes_on t (state (with_collections s.totals (made ∷ [])))) (collections_text-one made)
    ∙ ap (λ t. goes_on (collection_text made) (state t)) (with_collections-one s.totals made)

number_of : (s : AuditState) → (with_collections s.totals (next_of s ∷ [])).collections ≡ (next_of s).number
unfolding collection_counted
number_of s = refl

-- or halts
collect-halts : (s : AuditState) → meant.halts s.rules.react (next_of s ∷ []) ≡ true →
    audit_meaning.takes s Collect ≡ halts (collection_text (next_of s)) (record { text = halt_text (next_of s).number (length (next_of s).verdicts); violated = true })
collect-halts s stops =
    let made = next_of s in
    let halt : List ℕ → ℕ → ℕ → Effect AuditState = λ t n v. halts t (record { text = halt_text n v; violated = true }) in
    let violations : violations_of (made ∷ []) ≡ length made.verdicts = omega arith in
    effect-collect s
    ∙ ap (effect_by s.rules (next_turn s)) stops
    ∙ ap (λ t. halt t (with_collections s.totals (made ∷ [])).collections (violations_of (made ∷ []))) (collections_text-one made)
    ∙ ap (λ n. halt (collection_text made) n (violations_of (made ∷ []))) (number_of s)
    ∙ ap (halt (collection_text made) made.number) violations

-- what the next collection makes due is its effect
pub takes-due : (s : AuditState) (made : Result Taken OutOfMemory) → IfOk made (IsDue s.rules.react (next_of s)) →
    IfOk made (λ taken. TakesEvent (audit_meaning.takes s Collect) (Ok taken) (behind_next s))
takes-due s (Err e) due = tt
takes-due s (Ok (GoesOn text)) due = collect-goes_on s due.0 ∙ ap (λ t. goes_on t (behind_next s)) (sym due.1)
takes-due s (Ok (Halts text last)) due =
    let last_of : Last = record { text = halt_text (next_of s).number (length (next_of s).verdicts); violated = true } in
    (last_of, collect-halts s due.0 ∙ ap (λ t. halts t last_of) (sym due.1), (due.2, due.3))

-- ---- operations

-- one that was applied
pub takes-applied : (s : AuditState) (e : Event) (h : Heap) → e ≢ Collect → step s.heap e ≡ Ok h → audit_meaning.takes s e ≡ goes_on [] (record s { heap = h })
takes-applied s e h other is = ap (effect_of s.rules) (turn-applied (collection_rules s.rules) (at s) e h other is) ∙ effect-nothing s.rules (at s) h

-- one that is refused
pub takes-refused : (s : AuditState) (e : Event) (r : Refusal) → e ≢ Collect → step s.heap e ≡ Err r → audit_meaning.takes s e ≡ refuses r
takes-refused s e r other is = ap (effect_of s.rules) (turn-refused (collection_rules s.rules) (at s) e r other is)
