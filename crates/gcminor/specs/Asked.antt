-- What stands after the program, by its arguments.
use Rattle.std.specs.Prelude.{◌≡◌, ◌≢◌, ℕ}
use Rattle.heap_base.specs.declared.limits.TheConstants.{LONGEST_TRACE}
use Rattle.heap_base.specs.declared.status.Status.{Status}
use Rattle.trace_run.specs.Outcome.{Outside, EndsAs, RefusesWords, trace_report}
use Rattle.trace_run.specs.Program.{report_by}
use Rattle.minor_gc.specs.MinorRuns.{first_minor_state, minor_meaning, minor_usage}

-- With one word, the program's name, collections were made over the trace. With any other number of words, the source is left unread, and the
-- usage line was written.
pub record CollectsAsAsked (words : ℕ) (old new : Outside) (answer : Status) : Type 0 where
  pub taken : words ≡ 1 → EndsAs (trace_report LONGEST_TRACE (report_by minor_meaning first_minor_state)) old new answer
  pub unread : words ≢ 1 → new.source ≡ old.source
  pub refused : words ≢ 1 → RefusesWords minor_usage old new answer
