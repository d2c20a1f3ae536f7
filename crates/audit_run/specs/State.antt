-- Where an audit stands.
use Rattle.trace_run.specs.Audits.{AuditState, rules_within}
use Rattle.audit_run.specs.declared.program.TraceAudit.{TraceAudit}
use Rattle.audit_run.specs.Auditors.{auditor_state}

-- its rules, and the heap and the totals of its auditor
abbrev pub state_in : TraceAudit → AuditState
state_in a = auditor_state (rules_within a.most a.paths a.react) a.auditor
