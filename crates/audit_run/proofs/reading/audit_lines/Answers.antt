use Rattle.std.proofs.Common.{refl}
use Rattle.trace_run.proofs.Endings.{nothing_written}
use Rattle.audit_run.specs.Outcome.{report_by_rules, rules_in}
use Rattle.audit_run.proofs.reading.audit_lines.Goals as goal

pub returns-in_default : goal.returns-in_default
returns-in_default g c = nothing_written (report_by_rules (rules_in c.args.audit.plan)) _ _ refl
