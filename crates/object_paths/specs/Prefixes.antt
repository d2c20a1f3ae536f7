-- What a search for first references has found so far.
use Rattle.std.specs.Prelude.{◌≡◌, ℕ, ◌==◌, ◌||◌, List, [], ◌∷◌, ◌++◌, length, filter, Bool, false, if◌then◌else◌, Option, None, Some, IsSome, slice_get, slice_index_or}
use Rattle.std.specs.List.{flat_map}
use Rattle.graph_meaning.specs.Assertions.{Reference, slots_to}
use Rattle.graph_meaning.specs.Heap.{Table, ids}
use Rattle.graph_meaning.specs.Reach.{has_id}
use Rattle.graph_meaning.specs.Roles.{RoleTable, id_at}
use Rattle.object_table.specs.Placed.{PlacedTable, id_in}
use Rattle.object_paths.specs.declared.cell_reference.FirstReferences.{FirstReferences}
use Rattle.object_paths.specs.References.{StartList}

-- For each cell the place of its object among the asked ones, if it is one; and for each of these the first references so far.
pub record Finding : Type 0 where
  pub places : List (Option ℕ)
  pub found : List FirstReferences

-- The places are those of the asked cells, and there is an entry for each of these.
pub record AreAsked (p : PlacedTable) (asked : List ℕ) (f : Finding) : Type 0 where
  pub held : (n cell : ℕ) → slice_get asked n ≡ Some cell → IsSome (id_in p cell)
  pub placed : (n cell : ℕ) → slice_get asked n ≡ Some cell → slice_index_or f.places cell None ≡ Some n
  pub only : (n cell : ℕ) → slice_index_or f.places cell None ≡ Some n → slice_get asked n ≡ Some cell
  pub each : length f.found ≡ length asked

-- The first references to each asked object were found, of those in its list.
pub record FindsFirst (p : PlacedTable) (asked : List ℕ) (lists : ℕ → List Reference) (f : Finding) : Type 0 where
  pub are : AreAsked p asked f
  pub first : (n cell : ℕ) (r : FirstReferences) → slice_get asked n ≡ Some cell → slice_get f.found n ≡ Some r → StartList p (id_at p.cells cell) (lists (id_at p.cells cell)) r

-- this reference alone, to the object with this id
abbrev pub only_to : ℕ → Reference → ℕ → List Reference
only_to id r x = if id == x then r ∷ [] else []

-- The lists after are those before, with this reference more in the list of the object with this id.
abbrev pub IsOneMore : ℕ → Reference → (ℕ → List Reference) → (ℕ → List Reference) → Type 0
IsOneMore id r before after = (x : ℕ) → after x ≡ before x ++ only_to id r x

-- Whatever lists the search found the first references of, it finds those of the same lists with these references after them.
abbrev pub FindsMore : PlacedTable → (ℕ → List Reference) → Finding → Finding → Type 0
FindsMore p more before after =
    (asked : List ℕ) (lists : ℕ → List Reference) → FindsFirst p asked lists before → FindsFirst p asked (λ id. lists id ++ more id) after

-- the references to an object by the slots of the objects that are scanned
abbrev pub scanned_slots : Table → (ℕ → Bool) → ℕ → List Reference
scanned_slots t is_scanned id = flat_map (slots_to t id) (filter is_scanned (ids t))

-- It is said by cell which objects are scanned: those that are kept, and the owners.
abbrev pub ScannedByCell : PlacedTable → RoleTable → List Bool → (ℕ → Bool) → Type 0
ScannedByCell p r kept is_scanned =
    (cell id : ℕ) → id_in p cell ≡ Some id → is_scanned id ≡ (slice_index_or kept cell false || has_id r.owners cell)
