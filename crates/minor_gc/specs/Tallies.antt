-- Which cells hold one of some objects.
use Rattle.std.specs.Prelude.{◌≡◌, ℕ, List, IsTrue, Some}
use Rattle.graph_meaning.specs.Reach.{has_id}
use Rattle.object_table.specs.Placed.{PlacedTable, id_in}

-- the cell holds one of these objects
abbrev pub HoldsOneOf : PlacedTable → List ℕ → ℕ → Type 0
HoldsOneOf p ids cell = (id : ℕ) × (id_in p cell ≡ Some id) × IsTrue (has_id ids id)
