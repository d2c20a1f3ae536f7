-- The edges of an object, by cells.
use Rattle.std.specs.Prelude.{◌≡◌, ℕ, ◌<◌, List, length, Option, None, is_some, if◌then◌else◌, slice_index_or}
use Rattle.std.specs.Option.{option_and_then}
use Rattle.graph_meaning.specs.Heap.{edge_of}
use Rattle.object_table.specs.declared.slot.Slot.{Slot}
use Rattle.object_table.specs.Placed.{PlacedTable, id_in, slots_in, slot_in}

-- the cell that a slot leads to: none where it is weak, or empty
abbrev pub cell_edge : Slot → Option ℕ
cell_edge s = if s.weak then None else s.held

-- These are the edges of the object in a cell: one for each of its slots, which leads to the cell of the object that the slot leads to.
pub record AreEdgesAt (p : PlacedTable) (cell : ℕ) (edges : List (Option ℕ)) : Type 0 where
  pub count : length edges ≡ length (slots_in p cell)
  pub leads : (slot : ℕ) → slot < length edges → option_and_then (id_in p) (slice_index_or edges slot None) ≡ edge_of (slot_in p cell slot)
  pub in_a_cell : (slot : ℕ) → slot < length edges → is_some (slice_index_or edges slot None) ≡ is_some (edge_of (slot_in p cell slot))
