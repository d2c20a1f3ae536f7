-- The parts of a nursery, as it has them, and what is known of them.
use Rattle.std.specs.Vec.{vec_capacity}
use Rattle.object_table.specs.Placed.{IsPlaced, IsSound}
use Rattle.minor_gc.specs.declared.nursery.Nursery.TheInside.{Inside}
use Rattle.minor_gc.specs.Nurseries.{NurseryParts, IsNursery}

abbrev pub parts_in : Inside → NurseryParts
parts_in n = record {
  placed = n.table;
  old_up_to = n.old_up_to;
  greatest = n.greatest;
  marks = n.search.marks.items;
  work = n.search.work.items;
  counts = n.counts.items;
  remembered = n.remembered.items;
  room = vec_capacity n.remembered;
}

-- a nursery whose table is placed and sound
pub record IsSoundNursery (n : NurseryParts) : Type 0 where
  pub nursery : IsNursery n
  pub placed : IsPlaced n.placed
  pub sound : IsSound n.placed.table
