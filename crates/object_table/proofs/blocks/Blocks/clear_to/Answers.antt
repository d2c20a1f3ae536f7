use Rattle.std.proofs.Common.{length, not, ◌∙◌, ap, arith}
use Rattle.graph_meaning.proofs.Membership.{length-filter_le}
use Rattle.object_table.specs.Blocks.{all_entries}
use Rattle.object_table.specs.Located.{is_marked_id}
use Rattle.object_table.proofs.Numbering.{all_entries-laid, is_laid}
use Rattle.object_table.proofs.blocks.Blocks.clear_to.Goals as goal

pub renumber-requires : goal.renumber-requires
renumber-requires c =
    let same = c.merge_neighbours.ensures.same ∙ c.drop_empty.ensures.same ∙ c.clear_blocks.ensures in
    let few = rw (← c.self.view_is) at c.requires.few in
    omega (arith, ap length same, length-filter_le (λ r. not (is_marked_id c.args.ids.now c.args.marked.now r.1)) (all_entries c.self.inside.blocks.items), few)

pub invariant_of-self : goal.invariant_of-self
invariant_of-self c = rw c.renumber.ensures (is_laid 0 _ c.merge_neighbours.ensures.some)

pub returns : goal.returns
returns c = rw (← c.self.view_is, c.renumber.ensures) (all_entries-laid 0 c.merge_neighbours.new.blocks.items ∙ c.merge_neighbours.ensures.same ∙ c.drop_empty.ensures.same ∙ c.clear_blocks.ensures)
