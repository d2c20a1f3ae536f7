use Rattle.std.proofs.Common.{length, ◌∙◌, ap, arith}
use Rattle.std.proofs.lemmas.List.{length-map}
use Rattle.object_table.specs.Chains.{resident_in}
use Rattle.object_table.proofs.Chains.{length-cells_after}
use Rattle.object_table.proofs.Housing.{front_kept, front_shorter, swept_housed, swept_held}
use Rattle.object_table.proofs.StrongSlots.{strong-front}
use Rattle.object_table.proofs.cells.Cells.keep.Goals as goal

pub sweep-self-inside-requires : goal.sweep-self-inside-requires
sweep-self-inside-requires c =
    strong-front c.args.kept.now c.self.inside.pages.cells c.drop_last.new.pages.cells c.drop_last.ensures.front (rw (← c.self.view_is) at c.requires)

pub invariant_of-self : goal.invariant_of-self
invariant_of-self c =
    let shorter = front_shorter c.args.kept.now c.self.inside.pages.cells c.drop_last.new.pages.cells c.drop_last.ensures in
    swept_housed c.args.kept.now c.drop_last.new.pages.cells c.sweep-self-inside.new.pages.cells c.sweep-self-inside.result
    (omega (arith, shorter, c.self.invariant.few)) c.sweep-self-inside.ensures.cells c.sweep-self-inside.ensures.first

pub returns-clause-count : goal.returns-clause-count
returns-clause-count c = rw (← c.self.view_is)
    (let shorter = front_shorter c.args.kept.now c.self.inside.pages.cells c.drop_last.new.pages.cells c.drop_last.ensures in
    let swept = ap length c.sweep-self-inside.ensures.cells ∙ length-cells_after c.args.kept.now 0 c.drop_last.new.pages.cells in
    omega (arith, shorter, swept, length-map c.sweep-self-inside.new.pages.cells resident_in, length-map c.self.inside.pages.cells resident_in))

pub returns-clause-after : goal.returns-clause-after
returns-clause-after c = rw (← c.self.view_is)
    (λ cell. swept_held c.args.kept.now c.drop_last.new.pages.cells c.sweep-self-inside.new.pages.cells c.sweep-self-inside.ensures.cells cell
    ∙ front_kept c.args.kept.now c.self.inside.pages.cells c.drop_last.new.pages.cells c.drop_last.ensures cell)
