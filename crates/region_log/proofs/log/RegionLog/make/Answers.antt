use Rattle.std.proofs.Common.{ap, ◌∙◌}
use Rattle.region_log.specs.Regions.{region_table}
use Rattle.region_log.proofs.Tables.{region_table-none}
use Rattle.region_log.proofs.log.RegionLog.make.Goals as goal

pub returns : goal.returns
returns c = ap region_table c.new.ensures.items ∙ region_table-none
