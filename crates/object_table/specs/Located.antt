-- The ids of the live objects, each with the cell of its object.
use Rattle.std.specs.Prelude.{ℕ, ◌<◌, List, Bool, false}
use Rattle.std.specs.List.{AllPairs}
use Rattle.std.specs.Option.{option_map_or}
use Rattle.std.specs.Ordering.{nat_cmp}
use Rattle.std.specs.Map.{lookup}
use Rattle.std.specs.BTreeMap.{is_at}
use Rattle.object_table.specs.Residents.{is_flagged}

-- each id is below those after it
abbrev pub RisesById : List (ℕ × ℕ) → Type 0
RisesById ids = AllPairs (λ a b. a.0 < b.0) ids

-- whether the object with this id stands in a marked cell
abbrev pub is_marked_id : List (ℕ × ℕ) → List Bool → ℕ → Bool
is_marked_id ids marked id = option_map_or (is_flagged marked) (lookup (is_at (nat_cmp id)) ids) false
