use Rattle.std.proofs.Common.{length, ◌∙◌, ap, arith}
use Rattle.std.proofs.lemmas.List.Edits.{length-remove}
use Rattle.object_table.specs.Blocks.{all_entries}
use Rattle.object_table.proofs.Numbering.{all_entries-laid, is_laid}
use Rattle.object_table.proofs.blocks.Blocks.remove.Goals as goal

pub renumber-requires : goal.renumber-requires
renumber-requires c =
    let same = c.merge_with_next-2.ensures.same ∙ c.merge_with_next.ensures.same ∙ c.take.ensures.taken in
    let within = rw (← c.self.view_is) at c.requires.in_range in
    let few = rw (← c.self.view_is) at c.requires.few in
    omega (arith, ap length same, length-remove (all_entries c.self.inside.blocks.items) c.args.place within, few)

pub invariant_of-self : goal.invariant_of-self
invariant_of-self c = rw c.renumber.ensures (is_laid 0 _ c.merge_with_next-2.ensures.some)

pub returns : goal.returns
returns c = rw (← c.self.view_is, c.renumber.ensures)
    (all_entries-laid 0 c.merge_with_next-2.new.blocks.items ∙ c.merge_with_next-2.ensures.same ∙ c.merge_with_next.ensures.same ∙ c.take.ensures.taken)
