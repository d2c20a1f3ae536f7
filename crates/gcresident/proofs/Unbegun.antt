-- What stands where memory is out before an audit begins.
use Rattle.std.proofs.Common.{ℕ, Option, None, Some, refl}
use Rattle.std.proofs.KnownBytes.{Keeps-refl}
use Rattle.heap_base.specs.declared.limits.TheConstants.{LONGEST_TRACE}
use Rattle.heap_base.specs.declared.status.Status.TheVariants.{NoMemory}
use Rattle.trace_run.specs.Audits.{audit_report}
use Rattle.trace_run.specs.Outcome.{Outside, trace_report}
use Rattle.trace_run.proofs.Endings.{nothing_written}
use Rattle.resident_crew.specs.Outcome.{rules}
use Rattle.gcresident.specs.Asked.{AuditsAsAsked}

pub nothing_read_or_written : (asked : Option ℕ) (o : Outside) → AuditsAsAsked asked o o NoMemory
nothing_read_or_written None o = (refl, Keeps-refl o.sink.bytes)
nothing_read_or_written (Some workers) o = nothing_written (trace_report LONGEST_TRACE (audit_report rules)) o o refl
