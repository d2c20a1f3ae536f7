-- What an audit is at its beginning, and what a collection and an operation are to it.
use Rattle.std.proofs.Common.{◌≡◌, ◌≢◌, ◌+◌, ◌≤◌, List, [], length, Result, Ok, Err, IfOk, Some, sym, ◌∙◌, ap, subst, arith}
use Rattle.std.specs.Result.{result_err}
use Rattle.heap_base.specs.declared.errors.OutOfMemory.{OutOfMemory}
use Rattle.graph_meaning.specs.declared.collection.Collection.{Collection}
use Rattle.graph_meaning.specs.declared.event.Event.{Event}
use Rattle.graph_meaning.specs.declared.event.Event.TheVariants.{Collect}
use Rattle.graph_meaning.specs.declared.refusal.Refusal.{Refusal}
use Rattle.graph_meaning.specs.Step.{step}
use Rattle.graph_meaning.specs.Collecting.{Rules, collection_of, after_collection}
use Rattle.trace_reader.specs.Meaning.{Item}
use Rattle.report.specs.Run.{RunRules, collection_rules}
use Rattle.trace_run.specs.declared.taken.Taken.{Taken}
use Rattle.trace_run.specs.Program.{TakesEvent, goes_on, report_by}
use Rattle.trace_run.specs.Audits.{AuditState, IsDue, audit_meaning, audit_report, behind_next, next_of}
use Rattle.audit_core.specs.Audit.{Audit, after_next, first_audit}
use Rattle.audit_run.specs.Auditors.{IsCollected, auditor_state}
use Rattle.trace_run.proofs.Effects as effects
use Rattle.trace_run.proofs.Reports.{audit_is_reported}

-- the report of an audit whose auditor has made no collection yet
pub is_reported : (rules : RunRules) (a : Audit) (r : Rules) → a ≡ first_audit rules.most r → (items : List Item) → report_by audit_meaning (auditor_state rules a) items ≡ audit_report rules items
is_reported rules a r is items = ap (λ (x : Audit). report_by audit_meaning (auditor_state rules x) items) is ∙ audit_is_reported rules items

-- ---- what a collection leaves

pub rules-kept : (old new : Audit) (c : Collection) → IsCollected old (Ok c) new → new.rules ≡ old.rules
unfolding after_next
rules-kept old new c collected = ap (λ (a : Audit). a.rules) collected.1

pub one_more : (old new : Audit) (c : Collection) → IsCollected old (Ok c) new → new.collections ≤ old.collections + 1
unfolding after_next
one_more old new c collected = omega (arith, ap (λ (a : Audit). a.collections) collected.1)

-- the collection is the next of the audit
found-next : (rules : RunRules) (old new : Audit) (c : Collection) → old.rules ≡ collection_rules rules → IsCollected old (Ok c) new → c ≡ next_of (auditor_state rules old)
found-next rules old new c is collected = collected.0 ∙ ap (λ (r : Rules). collection_of r (old.collections + 1) old.heap) is

-- and the auditor stands behind it
stands-behind : (rules : RunRules) (old new : Audit) (c : Collection) → old.rules ≡ collection_rules rules → IsCollected old (Ok c) new →
    auditor_state rules new ≡ behind_next (auditor_state rules old)
unfolding after_next
stands-behind rules old new c is collected =
    ap (λ (a : Audit). auditor_state rules a) collected.1
    ∙ ap (λ (r : Rules). let s : AuditState = record {
      rules = rules;
      heap = after_collection r old.heap;
      totals = record
          { collections = old.collections + 1; violations = old.violations + length (collection_of r (old.collections + 1) old.heap).verdicts };
    } in s) is

-- what it made due is its effect
pub takes-due : (rules : RunRules) (old new : Audit) (c : Collection) (made : Result Taken OutOfMemory) → old.rules ≡ collection_rules rules →
    IsCollected old (Ok c) new → IfOk made (IsDue rules.react c) →
    IfOk made (λ taken. TakesEvent (audit_meaning.takes (auditor_state rules old) Collect) (Ok taken) (auditor_state rules new))
takes-due rules old new c made is collected due =
    let s = auditor_state rules old in
    let next : IfOk made (IsDue rules.react (next_of s)) = subst (λ (x : Collection). IfOk made (IsDue rules.react x)) (found-next rules old new c is collected) due in
    subst (λ (t : AuditState). IfOk made (λ taken. TakesEvent (audit_meaning.takes s Collect) (Ok taken) t)) (sym (stands-behind rules old new c is collected)) (effects.takes-due s made next)

-- a collection is taken as the event that is one
pub takes-collect : (rules : RunRules) (old new : Audit) (e : Event) (taken : Taken) → e ≡ Collect →
    TakesEvent (audit_meaning.takes (auditor_state rules old) Collect) (Ok taken) (auditor_state rules new) →
    TakesEvent (audit_meaning.takes (auditor_state rules old) e) (Ok taken) (auditor_state rules new)
takes-collect rules old new e taken is takes =
    subst (λ (x : Event). TakesEvent (audit_meaning.takes (auditor_state rules old) x) (Ok taken) (auditor_state rules new)) (sym is) takes

-- ---- operations

-- an operation that was applied
pub applied-goes_on : (rules : RunRules) (old new : Audit) (e : Event) → e ≢ Collect → step old.heap e ≡ Ok new.heap →
    new ≡ record old { heap = new.heap; cells = new.cells } →
    audit_meaning.takes (auditor_state rules old) e ≡ goes_on [] (auditor_state rules new)
applied-goes_on rules old new e other is rest =
    effects.takes-applied (auditor_state rules old) e new.heap other is
    ∙ ap (λ (a : Audit). let s : AuditState = record { rules = rules; heap = new.heap; totals = record { collections = a.collections; violations = a.violations } } in goes_on [] s) (sym rest)

pub no_more : (old new : Audit) → new ≡ record old { heap = new.heap; cells = new.cells } → new.collections ≤ old.collections + 1
no_more old new rest = omega (arith, ap (λ (a : Audit). a.collections) rest)

pub from_result_err : {T : Type 0} (made : Result T Refusal) (r : Refusal) → result_err made ≡ Some r → made ≡ Err r
from_result_err (Ok x) r p = cc
from_result_err (Err s) r p = cc
