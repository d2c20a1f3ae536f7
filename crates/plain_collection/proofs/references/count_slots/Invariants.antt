use Rattle.std.proofs.Common.{◌≡◌, length, ℕ, ◌+◌, List, take}
use Rattle.graph_meaning.specs.Assertions.{Reference}
use Rattle.graph_meaning.specs.Roles.{id_at}
use Rattle.object_table.specs.Placed.{slots_in}
use Rattle.object_paths.proofs.Listing.{with_slots}
use Rattle.plain_collection.specs.Counting.{AtMost, CountsLists}
use Rattle.plain_collection.proofs.references.count_slots.Given as goal

abbrev pub invariant-loop-slot : goal.invariant-loop-slot
invariant-loop-slot l = record {
  counts : (before : ℕ → List Reference) → CountsLists l.table before l.fn.counts.items →
      CountsLists l.table (with_slots before (id_at l.table.cells l.holder) (take l.slot (slots_in l.table l.holder))) l.counts.items;
  each : length l.counts.items ≡ length l.fn.counts.items;
  few : (most : ℕ) → AtMost most l.fn.counts.items → AtMost (most + l.slot) l.counts.items;
}
