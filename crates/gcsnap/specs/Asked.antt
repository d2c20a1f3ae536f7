-- What stands after the program, by its arguments.
use Rattle.std.specs.Prelude.{◌≡◌, Option, None, Some}
use Rattle.std.specs.Io.KnownBytes.{Keeps}
use Rattle.heap_base.specs.Limits.{usual_limits}
use Rattle.heap_base.specs.declared.status.Status.{Status}
use Rattle.heap_base.specs.declared.status.Status.TheVariants.{ReadFault}
use Rattle.graph_meaning.specs.Heap.{empty_heap}
use Rattle.trace_run.specs.Outcome.{Outside, EndsAs, RefusesWords, trace_report}
use Rattle.trace_run.specs.Program.{report_by}
use Rattle.heap_snapshot.specs.declared.from_trace.TheConstants.{LONGEST_TRACE}
use Rattle.heap_snapshot.specs.declared.run.Command.{Command}
use Rattle.heap_snapshot.specs.declared.run.Command.TheVariants.{FromTrace, ToTrace}
use Rattle.heap_snapshot.specs.Words.{usage_line}
use Rattle.heap_snapshot.specs.FromTrace.{snapshot_meaning}
use Rattle.heap_snapshot.specs.ToTrace.{ConversionEndsAs}

-- A snapshot was made of the trace, or a trace of the snapshot, as the command line asks. Where it is refused, the source is left unread, and
-- the usage line was written. Where a read failed, nothing was.
pub record ConvertsAsAsked (asked : Option Command) (old new : Outside) (answer : Status) : Type 0 where
  pub from_trace : asked ≡ Some FromTrace → EndsAs (trace_report LONGEST_TRACE (report_by snapshot_meaning (empty_heap usual_limits))) old new answer
  pub to_trace : asked ≡ Some ToTrace → ConversionEndsAs old new answer
  pub unread : asked ≡ None → new.source ≡ old.source
  pub refused : asked ≡ None → RefusesWords usage_line old new answer
  pub unwritten : answer ≡ ReadFault → Keeps old.sink.bytes new.sink.bytes
