-- What an event makes due.
use Rattle.std.proofs.Common.{◌≡◌, [], ◌∷◌, false, Result, Ok, Err, Some, sym, ◌∙◌, ap}
use Rattle.std.specs.Result.{result_err}
use Rattle.graph_meaning.specs.declared.collection.Collection.{Collection}
use Rattle.graph_meaning.specs.declared.event.Event.{Event}
use Rattle.graph_meaning.specs.declared.event.Event.TheVariants.{Collect}
use Rattle.graph_meaning.specs.declared.refusal.Refusal.{Refusal}
use Rattle.report.specs.Run as meant
use Rattle.report.specs.Text.{collection_text}
use Rattle.trace_run.specs.declared.taken.Due.TheVariants.{Lines}
use Rattle.trace_run.specs.declared.taken.Taken.TheVariants.{GoesOn}
use Rattle.trace_run.specs.Program.{goes_on}
use Rattle.trace_run.specs.Audits.{AuditState, audit_meaning, behind_next, next_of}
use Rattle.trace_run.proofs.Effects.{takes-due}

-- a collection, where the run doesn't halt behind it
pub collect-due : (s s' : AuditState) (e : Event) (c : Collection) → meant.halts s.rules.react (next_of s ∷ []) ≡ false → e ≡ Collect →
    c ≡ next_of s → s' ≡ behind_next s → audit_meaning.takes s e ≡ goes_on (collection_text c) s'
collect-due s s' e c on is made after =
    ap (audit_meaning.takes s) is ∙ takes-due s (Ok (GoesOn (Some (Lines c)))) (on, ap collection_text made) ∙ ap (goes_on (collection_text c)) (sym after)

-- the refusal that is told
pub from_result_err : {T : Type 0} (made : Result T Refusal) (r : Refusal) → result_err made ≡ Some r → made ≡ Err r
from_result_err (Ok x) r p = cc
from_result_err (Err s) r p = cc
