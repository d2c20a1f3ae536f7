-- What stands when the auditor's top call has returned, by the status that it answers.
use Rattle.std.specs.Prelude.{ℕ, List, codes}
use Rattle.heap_base.specs.Limits.{usual_limits}
use Rattle.heap_base.specs.declared.limits.Limits.{Limits}
use Rattle.heap_base.specs.declared.limits.TheConstants.{LONGEST_TRACE}
use Rattle.heap_base.specs.declared.status.Status.{Status}
use Rattle.report.specs.Run.{RunRules}
use Rattle.trace_run.specs.Outcome as outcome
use Rattle.trace_run.specs.Outcome.{Outside, TraceReport, trace_report}
use Rattle.trace_run.specs.Audits.{audit_report, rules_within}
use Rattle.settings.specs.declared.settings.Settings.{Settings}
use Rattle.audit_run.specs.declared.auditing.Plan.{Plan}

-- what a run under these limits goes by with these settings; the number of workers is no part of it
abbrev pub rules_under : Limits → Settings → RunRules
rules_under most s = rules_within most s.paths s.react

-- what a run under the usual limits goes by with these settings
abbrev pub rules_of : Settings → RunRules
rules_of s = rules_under usual_limits s

-- what an audit goes by with this plan
abbrev pub rules_in : Plan → RunRules
rules_in plan = rules_within plan.limits plan.paths plan.react

-- what is to be reported on a trace by these rules
abbrev pub report_by_rules : RunRules → TraceReport
report_by_rules rules = trace_report LONGEST_TRACE (audit_report rules)

-- what is written where the words of the command line are refused
abbrev pub usage_line : List ℕ
usage_line = codes "usage: gcaudit [--workers N] [--paths P] [--react R] [--gen K --size N]\n"

-- what gcheap writes where the words of the command line are refused
abbrev pub large_usage_line : List ℕ
large_usage_line = codes "usage: gcheap [--workers N] [--paths P] [--react R]\n"

-- What stands after a run by these rules, by its status: the report is that of an audit.
abbrev pub EndsAs : RunRules → Outside → Outside → Status → Type 0
EndsAs rules old new answer = outcome.EndsAs (report_by_rules rules) old new answer

-- What was appended where the words of the command line are refused, by the status.
abbrev pub RefusesWords : Outside → Outside → Status → Type 0
RefusesWords old new answer = outcome.RefusesWords usage_line old new answer

-- The same for gcheap.
abbrev pub RefusesLargeWords : Outside → Outside → Status → Type 0
RefusesLargeWords old new answer = outcome.RefusesWords large_usage_line old new answer
