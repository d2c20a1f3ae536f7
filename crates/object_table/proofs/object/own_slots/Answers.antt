use Rattle.std.proofs.Common.{◌∙◌, ap, take}
use Rattle.std.proofs.lemmas.List.{take-replicate}
use Rattle.object_table.proofs.object.own_slots.Goals as goal

pub returns : goal.returns
returns c =
    c.truncate.ensures.items ∙ ap (take c.args.count) c.from-slots.ensures.0 ∙ take-replicate c.args.count 4 c.args.slot c.requires
