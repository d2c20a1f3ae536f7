-- What is counted by cells.
use Rattle.std.specs.Prelude.{◌≡◌, ℕ, ◌≤◌, List, ◌++◌, length, Bool, ◌||◌, is_some, Some, slice_index}
use Rattle.graph_meaning.specs.Assertions.{Reference}
use Rattle.object_table.specs.Placed.{PlacedTable, id_in}
use Rattle.path_cert.specs.Levels.{LevelTable, level_in}

-- a path from an owner or from a root leads to the object in a cell, by the levels from both
abbrev pub is_reached_in : LevelTable → LevelTable → ℕ → Bool
is_reached_in owners roots cell = is_some (level_in owners cell) || is_some (level_in roots cell)

-- The count in the cell of each object is the length of its list.
abbrev pub CountsLists : PlacedTable → (ℕ → List Reference) → List ℕ → Type 0
CountsLists p lists counts = (cell id : ℕ) → id_in p cell ≡ Some id → slice_index counts cell ≡ length (lists id)

-- Whatever lists the counts were the lengths of, they are the lengths of the same lists with these references after them.
abbrev pub CountsMore : PlacedTable → (ℕ → List Reference) → List ℕ → List ℕ → Type 0
CountsMore p more before after = (lists : ℕ → List Reference) → CountsLists p lists before → CountsLists p (λ id. lists id ++ more id) after

-- no count is greater
abbrev pub AtMost : ℕ → List ℕ → Type 0
AtMost most counts = (cell : ℕ) → slice_index counts cell ≤ most
