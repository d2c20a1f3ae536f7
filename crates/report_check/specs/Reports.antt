-- How a report compares with the one that is defined for a trace.
use Rattle.std.specs.Prelude.{ℕ, List, Option, IfSome, codes, ◌++◌, decimal}
use Rattle.std.specs.Io.KnownBytes.{Keeps}
use Rattle.streams.specs.Streams.{Stream}
use Rattle.heap_base.specs.declared.status.Status.{Status}
use Rattle.heap_base.specs.declared.status.Status.TheVariants.{Clean, Violated, NoMemory}
use Rattle.heap_base.specs.declared.limits.TheConstants.{LONGEST_TRACE}
use Rattle.graph_meaning.specs.declared.reaction.React.TheVariants.{Report}
use Rattle.trace_reader.specs.Items.{items_of}
use Rattle.report.specs.Report.{report_of}
use Rattle.trace_run.specs.Outcome.{WritesOnce, sink_change}
use Rattle.trace_run.specs.Audits.{rules_by}
use Rattle.report_check.specs.Comparing.{TellsDifference}
use Rattle.report_check.specs.declared.compared.Compared.{Compared}
use Rattle.report_check.specs.declared.compared.Compared.TheVariants.{Equal, Differs}

-- the report on these bytes of a trace that shows so many paths of each collection
abbrev pub report_with_paths : ℕ → List ℕ → List ℕ
report_with_paths paths bytes = report_of (rules_by paths Report) (items_of LONGEST_TRACE bytes)

-- The report of a source compares so with that on the trace of another, where both tell their bytes.
abbrev pub TellsOfReports : ℕ → Option (List ℕ) → Option (List ℕ) → Compared → Type 0
TellsOfReports paths trace report compared = IfSome trace (λ bytes. TellsDifference report (report_with_paths paths bytes) compared)

-- the line that says how they compare
abbrev pub comparison_line : Compared → List ℕ
comparison_line Equal = codes "report equal\n"
comparison_line (Differs n) = codes "report differs at byte " ++ decimal n ++ codes "\n"

-- the status of a check by how they compare
abbrev pub comparison_status : Compared → Status
comparison_status Equal = Clean
comparison_status (Differs n) = Violated

-- The line was appended, or a beginning of it where the sink failed, or nothing where memory ran out.
abbrev pub Writes : Compared → Stream → Stream → Status → Type 0
Writes compared old new NoMemory = Keeps old.bytes new.bytes
Writes compared old new answer = WritesOnce (comparison_line compared) (comparison_status compared) (sink_change old new) answer
