use Rattle.path_cert.proofs.MetCells.{none-met}
use Rattle.path_cert.proofs.finding.Search.begin.Goals as goal

pub returns-clause-met : goal.returns-clause-met
returns-clause-met c x =
    none-met c.reserve_number.new.self.met_in.items c.reserve_number.new.self.round x c.reserve_number.new.self.past
