-- What stands after the program, by its arguments.
use Rattle.std.specs.Prelude.{◌≡◌, ℕ, Option, None, Some}
use Rattle.heap_base.specs.declared.status.Status.{Status}
use Rattle.trace_run.specs.Outcome.{RefusesWords, outside_of}
use Rattle.report_check.specs.Checked.{World, IsChecked, usage_line}

-- The report was checked, with as many paths as the command line asks for. Where it is refused, both files are left unread and the usage
-- line was written.
abbrev pub ChecksAsAsked : Option ℕ → World → World → Status → Type 0
ChecksAsAsked None old new answer =
    (new.trace ≡ old.trace) × (new.report ≡ old.report) × RefusesWords usage_line (outside_of old.trace old.sink) (outside_of new.trace new.sink) answer
ChecksAsAsked (Some paths) old new answer = IsChecked paths old new answer
