-- What stands when the top call has returned, by the status that it answers.
use Rattle.std.specs.Prelude.{ℕ, List, codes}
use Rattle.heap_base.specs.declared.limits.TheConstants.{LONGEST_TRACE, USUAL_PATHS}
use Rattle.heap_base.specs.declared.status.Status.{Status}
use Rattle.graph_meaning.specs.declared.reaction.React.TheVariants.{Report}
use Rattle.report.specs.Run.{RunRules}
use Rattle.trace_run.specs.Outcome as outcome
use Rattle.trace_run.specs.Outcome.{Outside, trace_report}
use Rattle.trace_run.specs.Audits.{audit_report, rules_by}

-- what every run goes by: violations are reported, and the usual number of paths is shown
abbrev pub rules : RunRules
rules = rules_by USUAL_PATHS Report

-- what is written where the words of the command line are refused
abbrev pub usage_line : List ℕ
usage_line = codes "usage: gcresident [--workers N]\n"

-- What stands after a run, by its status: the report is that of an audit.
abbrev pub EndsAs : Outside → Outside → Status → Type 0
EndsAs old new answer = outcome.EndsAs (trace_report LONGEST_TRACE (audit_report rules)) old new answer

-- What was appended where the words of the command line are refused, by the status.
abbrev pub RefusesWords : Outside → Outside → Status → Type 0
RefusesWords old new answer = outcome.RefusesWords usage_line old new answer
