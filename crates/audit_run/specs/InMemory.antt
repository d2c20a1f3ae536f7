-- What a program makes of a trace in memory.
use Rattle.std.specs.Prelude.{◌≡◌, ◌⊎◌, ℕ, ◌≤◌, List, [], Some, take}
use Rattle.heap_base.specs.declared.status.Status.TheVariants.{WriteFault, NoMemory}
use Rattle.report.specs.Run.{RunRules}
use Rattle.trace_run.specs.Outcome.{Outside, of_bytes}
use Rattle.trace_run.specs.Program.{Report}
use Rattle.console.specs.Numbers.{number_of}
use Rattle.audit_run.specs.Outcome.{report_by_rules}

-- a source that has these bytes left and a sink that is empty, and no call of either has failed
abbrev pub holding : List ℕ → Outside
holding bytes = record { source = record { bytes = Some bytes; faults = 0 }; sink = record { bytes = Some []; faults = 0 } }

-- the report that is defined for these bytes, by these rules
abbrev pub defined_report : RunRules → List ℕ → Report
defined_report rules bytes = of_bytes (report_by_rules rules) bytes

-- Where the program ends with 0, 1 or 2, it wrote exactly this report, and that is the number of the report's status. Where a write failed or
-- memory was out, it wrote a beginning of the report.
pub record WritesReport (report : Report) (text : List ℕ) (number : ℕ) : Type 0 where
  pub whole : number ≤ 2 → (text ≡ report.text) × (number ≡ number_of report.status)
  pub part : (number ≡ number_of WriteFault) ⊎ (number ≡ number_of NoMemory) → (n : ℕ) × (text ≡ take n report.text)
