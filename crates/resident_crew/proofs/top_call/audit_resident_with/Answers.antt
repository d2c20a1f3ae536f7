use Rattle.std.proofs.Common.{refl}
use Rattle.streams.specs.Streams.{stream_of}
use Rattle.heap_base.specs.declared.limits.TheConstants.{LONGEST_TRACE}
use Rattle.trace_run.specs.Outcome.{trace_report}
use Rattle.trace_run.proofs.Endings.{nothing_written}
use Rattle.trace_run.specs.Audits.{audit_report}
use Rattle.resident_crew.specs.Outcome.{rules}
use Rattle.resident_crew.proofs.top_call.audit_resident_with.Goals as goal

pub returns-in_default-clause-refused : goal.returns-in_default-clause-refused
returns-in_default-clause-refused g c =
    λ _. (refl, c.refuse_words.ensures (stream_of g.S.Source.left g.S.Source.faults c.args.source.now))

pub returns-in_default-start-clause-taken : goal.returns-in_default-start-clause-taken
returns-in_default-start-clause-taken g c = λ workers _. nothing_written (trace_report LONGEST_TRACE (audit_report rules)) _ _ refl
