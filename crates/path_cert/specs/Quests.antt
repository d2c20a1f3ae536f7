-- What holds while the search of an owner is under way.
use Rattle.std.specs.Prelude.{◌≡◌, ◌+◌, ℕ, List, length, not, count_by, Bool, false, ◌||◌, ◌&&◌, ◌⊎◌, IsTrue, IsSome, Some, IsSomeAnd}
use Rattle.std.specs.List.{range_with_len}
use Rattle.graph_meaning.specs.Heap.{targets}
use Rattle.graph_meaning.specs.Reach.{has_id}
use Rattle.graph_meaning.specs.Roles.{RoleTable, id_at}
use Rattle.object_table.specs.Placed.{PlacedTable, id_in}
use Rattle.path_cert.specs.Finds.{is_border_cell, found_ids}

-- The cells that were met, and those of them from which the search still has to go on.
pub record SearchState : Type 0 where
  pub met : ℕ → Bool
  pub work : List ℕ

-- how many cells are still to be looked at: those that were not met, and those on the worklist
abbrev pub remaining : ℕ → SearchState → ℕ
remaining cells s = count_by (λ cell. not (s.met cell)) (range_with_len 0 cells) + length s.work

-- These cells were met. The search goes on from those that are new and no border objects.
pub record MeetsAll (r : RoleTable) (cells : List ℕ) (before after : SearchState) : Type 0 where
  pub met : (x : ℕ) → after.met x ≡ (before.met x || has_id cells x)
  pub work : (x : ℕ) → has_id after.work x ≡ (has_id before.work x || ((after.met x && not (before.met x)) && not (is_border_cell r x)))

-- A table and its roles.
pub record RoledTable : Type 0 where
  pub placed : PlacedTable
  pub roles : RoleTable

-- The cells of the objects with these ids were met.
pub record Reaches (t : RoledTable) (ids : List ℕ) (before after : SearchState) : Type 0 where
  pub cells : List ℕ
  pub are : (cell id : ℕ) → id_in t.placed cell ≡ Some id → has_id cells cell ≡ has_id ids id
  pub held : (cell : ℕ) → IsTrue (has_id cells cell) → IsSome (id_in t.placed cell)
  pub meets : MeetsAll t.roles cells before after

-- The search of an owner in a table with roles.
pub record Quest : Type 0 where
  pub placed : PlacedTable
  pub roles : RoleTable
  pub owner : ℕ

-- what the edges of the object in a cell lead to was met
abbrev pub IsFollowed : PlacedTable → SearchState → ℕ → Type 0
IsFollowed p s x = (cell id : ℕ) → id_in p cell ≡ Some id → IsTrue (has_id (targets p.table (id_at p.cells x)) id) → IsTrue (s.met cell)

-- Only what the owner finds was met; and the search went on, or will, from what was met and is no border object.
pub record IsSearching (q : Quest) (s : SearchState) : Type 0 where
  pub sound : (x : ℕ) → IsTrue (s.met x) → IsSomeAnd (id_in q.placed x) (λ id. IsTrue (has_id (found_ids q.placed q.roles q.owner) id))
  pub waiting : (x : ℕ) → IsTrue (has_id s.work x) → IsTrue (s.met x) × (is_border_cell q.roles x ≡ false)
  pub closed : (x : ℕ) → IsTrue (s.met x) → is_border_cell q.roles x ≡ false → IsTrue (has_id s.work x) ⊎ IsFollowed q.placed s x

-- where the search goes as it should, it does so afterwards
abbrev pub KeepsSearching : Quest → SearchState → SearchState → Type 0
KeepsSearching q before after =
    IsFollowed q.placed before q.owner → IsSearching q before → IsFollowed q.placed after q.owner × IsSearching q after
