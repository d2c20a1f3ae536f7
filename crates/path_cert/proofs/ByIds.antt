-- What is said by cell, by ids; and the owners that roles name.
use Rattle.std.proofs.Common.{◌≡◌, ℕ, Bool, true, false, List, get_or, sym, refl, ap, subst, Option, None, Some}
use Rattle.std.specs.Prelude.{IsSome}
use Rattle.std.specs.List.{All}
use Rattle.std.specs.Option.{option_map_or}
use Rattle.std.proofs.lemmas.Bool.{false≢true}
use Rattle.std.proofs.lemmas.List.Quantifiers.{position-Some}
use Rattle.graph_meaning.specs.Roles.{RoleTable, AreRolesOf}
use Rattle.graph_meaning.proofs.Membership.{All-has_id}
use Rattle.object_table.specs.Placed.{PlacedTable, id_in, IsPlaced, cell_of, holds_id}
use Rattle.object_table.proofs.ObjectsByCell.{holds_id-true, cell_of-held}
use Rattle.path_cert.specs.Cells.{by_id}

-- a test by cell, at the object that a cell holds
pub by_id-held : (p : PlacedTable) → IsPlaced p → (test : ℕ → Bool) (cell id : ℕ) → id_in p cell ≡ Some id → by_id p test id ≡ test cell
by_id-held p placed test cell id held = ap (λ o. option_map_or test o false) (cell_of-held p placed cell id held)

-- a cell with the object passes, where the test passes it
pub by_id-true : (p : PlacedTable) (test : ℕ → Bool) (id : ℕ) → by_id p test id ≡ true → (cell : ℕ) × (id_in p cell ≡ Some id) × (test cell ≡ true)
by_id-true p test id is = go (cell_of p id) refl is
  where
    go : (o : Option ℕ) → cell_of p id ≡ o → option_map_or test o false ≡ true → (cell : ℕ) × (id_in p cell ≡ Some id) × (test cell ≡ true)
    go None at is = absurd (false≢true is)
    go (Some cell) at is = (cell, holds_id-true id (id_in p cell) (position-Some (holds_id id) p.cells cell None at).1, is)

-- the cells of owners hold objects
pub owners-held : (cells : List (Option ℕ)) (kinds : ℕ) (r : RoleTable) (owners : List ℕ) → owners ≡ r.owners → AreRolesOf cells kinds r → All (λ owner. IsSome (get_or cells owner None)) owners
owners-held cells kinds r owners same roles =
    subst (All (λ owner. IsSome (get_or cells owner None))) (sym same)
    (λ k d within.
    (let named = (roles.are_owners (get_or r.owners k d)).0 (All-has_id r.owners k d within) in
    (roles.by_others named.0 (get_or r.owners k d) named.1).1))
