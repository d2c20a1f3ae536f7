use Rattle.std.proofs.Common.{◌∙◌}
use Rattle.object_table.proofs.Shown.{object_shown}
use Rattle.object_table.proofs.views.view_of.Goals as goal

pub returns : goal.returns
returns c =
    object_shown c.args.kinds.now c.args.cells.now.cells c.args.object.now c.number.result c.in_ok-kind.kind c.in_ok-slots.slots
    (c.number.ensures.value ∙ c.id.ensures) (rw (c.in_ok-kind.ensures, ← c.kind.ensures) c.name.ensures) c.in_ok-slots.ensures
