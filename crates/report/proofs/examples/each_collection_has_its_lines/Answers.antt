use Rattle.report.proofs.Computed.{regions_nest}
use Rattle.report.proofs.examples.each_collection_has_its_lines.Goals as goal

pub returns : goal.returns
returns c = regions_nest
