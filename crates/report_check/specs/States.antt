-- Where the run of a check stands.
use Rattle.graph_meaning.specs.declared.reaction.React.TheVariants.{Report}
use Rattle.trace_run.specs.Audits.{AuditState, rules_by}
use Rattle.report_check.specs.declared.checking.Checking.{Checking}

-- its rules, its heap, and the totals of its collections
abbrev pub checked_state : Checking → AuditState
checked_state c = record {
  rules = rules_by c.paths Report;
  heap = c.parts.heap;
  totals = record { collections = c.collections; violations = c.violations };
}
