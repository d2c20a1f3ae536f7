use Rattle.std.proofs.Common.{subst}
use Rattle.std.specs.List.{slice_get}
use Rattle.object_paths.specs.declared.cell_reference.CellReference.{CellReference}
use Rattle.object_paths.specs.References.{RefersTo}
use Rattle.object_paths.proofs.PlainWays.{few-root}
use Rattle.object_paths.proofs.plain_levels.PlainLevels.reference_path.Goals as goal

pub returns-in-Root-clause-few : goal.returns-in-Root-clause-few
returns-in-Root-clause-few c =
    let p = c.args.table.now in
    let refers = subst (λ (r : CellReference). RefersTo c.args.table.now r c.requires.refers.0) c.in-Root.is c.requires.refers.1 in
    few-root p.table (slice_get p.table.roots c.in-Root.root) c.requires.refers.0 refers c.root_path.result c.root_path.ensures.path
