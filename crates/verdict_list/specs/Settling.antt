-- What is known of ownees while their owners are asked.
use Rattle.std.specs.Prelude.{◌≡◌, ◌≢◌, ◌==◌, ℕ, List, [], length, Bool, false, ◌&&◌, ◌||◌, IsSome, slice_index_or}
use Rattle.std.specs.List.{All, list_any}
use Rattle.graph_meaning.specs.Reach.{has_id}
use Rattle.object_table.specs.Placed.{PlacedTable, id_in}
use Rattle.graph_meaning.specs.Roles.{RoleTable}
use Rattle.path_cert.specs.Finds.{finds_in}
use Rattle.verdict_list.specs.declared.settling.Ownership.{Ownership}

-- both the owner and the ownee are objects
abbrev pub IsOfObjects : PlacedTable → Ownership → Type 0
IsOfObjects p o = IsSome (id_in p o.owner) × IsSome (id_in p o.ownee)

-- in one of these pairs it is the ownee, and found by the owner
abbrev pub is_found_in : PlacedTable → RoleTable → List Ownership → ℕ → Bool
is_found_in p r pairs x = list_any (λ o. o.ownee == x && finds_in p r o.owner x) pairs

-- the flag of a cell
abbrev pub flag_of : List Bool → ℕ → Bool
flag_of flags cell = slice_index_or flags cell false

-- the flags of cells are those before, and true where the test is
abbrev pub Flags : (ℕ → Bool) → List Bool → List Bool → Type 0
Flags test before after = (x : ℕ) → flag_of after x ≡ (flag_of before x || test x)

-- What was noted of the ownees that were asked for, and the owner to ask next, for these ownees.
pub record OwneeNotes : Type 0 where
  pub found : List Bool
  pub owner : ℕ
  pub ownees : List ℕ

-- What is noted, with what the owner finds that is asked next, is what there was to find in these pairs.
pub record HasAsked (p : PlacedTable) (r : RoleTable) (pairs : List Ownership) (a : OwneeNotes) : Type 0 where
  pub each : length a.found ≡ length p.cells
  pub owner : a.ownees ≢ [] → IsSome (id_in p a.owner)
  pub ownees : All (λ ownee. IsSome (id_in p ownee)) a.ownees
  pub found : (x : ℕ) → (flag_of a.found x || (has_id a.ownees x && finds_in p r a.owner x)) ≡ is_found_in p r pairs x
