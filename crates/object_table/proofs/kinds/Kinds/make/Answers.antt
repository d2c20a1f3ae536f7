use Rattle.object_table.proofs.Indexes.{IsIndexed-none}
use Rattle.object_table.proofs.kinds.Kinds.make.Goals as goal

pub invariant_of-result : goal.invariant_of-result
invariant_of-result c = rw (c.new.ensures.items, c.make.ensures) IsIndexed-none
