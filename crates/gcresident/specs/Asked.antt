-- What stands after the program, by its arguments.
use Rattle.std.specs.Prelude.{◌≡◌, ℕ, Option, None, Some}
use Rattle.heap_base.specs.declared.status.Status.{Status}
use Rattle.trace_run.specs.Outcome.{Outside}
use Rattle.resident_crew.specs.Outcome.{EndsAs, RefusesWords}

-- Where a number of workers is asked for, the trace was audited, by whatever number. Where the command line is refused, the source is left
-- unread and the usage line was written.
abbrev pub AuditsAsAsked : Option ℕ → Outside → Outside → Status → Type 0
AuditsAsAsked None old new answer = (new.source ≡ old.source) × RefusesWords old new answer
AuditsAsAsked (Some workers) old new answer = EndsAs old new answer
