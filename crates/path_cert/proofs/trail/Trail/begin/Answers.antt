use Rattle.path_cert.proofs.ShownSteps.{HasShown-none}
use Rattle.path_cert.proofs.trail.Trail.begin.Goals as goal

pub returns-clause-shown : goal.returns-clause-shown
returns-clause-shown c = HasShown-none (record { total = c.args.total; shown = c.new.result }) c.new.ensures.items
