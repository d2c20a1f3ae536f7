use Rattle.std.proofs.Common.{refl}
use Rattle.settings.specs.Settings.{settings_by}
use Rattle.audit_run.proofs.Plans.{read_settings}
use Rattle.audit_run.proofs.laws.the_usual_limits_give_the_same_report.Goals as goal

pub returns : goal.returns
returns c = λ words s taken. let read = read_settings (settings_by words) s taken in (read.0, read.1, refl)
