use Rattle.std.proofs.Common.{refl}
use Rattle.streams.specs.Streams.{stream_of}
use Rattle.heap_base.specs.declared.limits.TheConstants.{LONGEST_TRACE}
use Rattle.trace_run.specs.Program.{report_by}
use Rattle.trace_run.specs.Outcome.{trace_report}
use Rattle.trace_run.proofs.Endings.{nothing_written}
use Rattle.minor_gc.specs.MinorRuns.{first_minor_state, minor_meaning}
use Rattle.minor_gc.proofs.running.minor_run.Goals as goal

pub returns-then-words-ne1-clause-refused : goal.returns-then-words-ne1-clause-refused
returns-then-words-ne1-clause-refused g c = λ _. c.refuse_words.ensures (stream_of g.S.Source.left g.S.Source.faults c.args.source.now)

pub returns-in_default-clause-taken : goal.returns-in_default-clause-taken
returns-in_default-clause-taken g c = λ _. nothing_written (trace_report LONGEST_TRACE (report_by minor_meaning first_minor_state)) _ _ refl
