-- What is said of objects by the cells that hold them, said by their ids.
use Rattle.std.specs.Prelude.{ℕ, Bool, false}
use Rattle.std.specs.Option.{option_map_or}
use Rattle.object_table.specs.Placed.{PlacedTable, cell_of}

-- whether the object with this id stands in a cell that passes the test
abbrev pub by_id : PlacedTable → (ℕ → Bool) → ℕ → Bool
by_id p test id = option_map_or test (cell_of p id) false
