use Rattle.std.proofs.Common.{◌∙◌}
use Rattle.object_table.proofs.Named.{found_is}
use Rattle.object_table.proofs.roots.Roots.has.Goals as goal

pub returns : goal.returns
returns c = c.is_ok.ensures.value ∙ found_is c.args.self.now c.args.name.now c.search.result c.search.ensures.ordered c.search.ensures.in_range c.search.ensures.found c.search.ensures.gap
