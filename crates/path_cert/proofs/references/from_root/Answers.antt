use Rattle.std.proofs.Common.{ap}
use Rattle.std.specs.Option.{is_some}
use Rattle.path_cert.proofs.FirstLevel.{root-held}
use Rattle.path_cert.proofs.references.from_root.Goals as goal

pub object_kind-requires : goal.object_kind-requires
object_kind-requires c = ap is_some (root-held c.args.table.now c.args.root c.root_cell-cell.result c.requires c.root_cell-cell.ensures.cell)

pub object_id-id-requires : goal.object_id-id-requires
object_id-id-requires c = ap is_some (root-held c.args.table.now c.args.root c.root_cell-cell.result c.requires c.root_cell-cell.ensures.cell)
