-- The object in a cell, its id and its type.
use Rattle.std.proofs.Common.{◌≡◌, ℕ, ◌<◌, true, List, [], length, get_or, sym, refl, ap, ◌∙◌, subst, arith, Option, None, Some, IsTrue}
use Rattle.std.specs.Prelude.{IsSome}
use Rattle.std.specs.List.{position, slice_get}
use Rattle.std.specs.Option.{IfSome, is_some, option_and_then, option_map_or}
use Rattle.std.specs.Str.{bytes_eq}
use Rattle.std.proofs.lemmas.Bool.{false≢true}
use Rattle.std.proofs.lemmas.List.Quantifiers.{position-Some}
use Rattle.std.proofs.lemmas.Option.{get_or_from_slice_get}
use Rattle.std.proofs.lemmas.Slice.Eq.{bytes_eq-Decides}
use Rattle.graph_meaning.specs.Heap.{Object, object_at, kind_at}
use Rattle.graph_meaning.specs.Roles.{id_at}
use Rattle.object_table.specs.Placed.{PlacedTable, id_in, object_in, slots_in, IsPlaced}
pub use Rattle.object_table.proofs.ObjectsByCell.{held-id, id-held, held-within}

-- the number of a type is below the number of types, and its name is the type's
pub kind_named : (kinds : List (List ℕ)) (kind name : List ℕ) (n : ℕ) → position (bytes_eq kind) kinds ≡ Some n → slice_get kinds n ≡ Some name → name ≡ kind
kind_named kinds kind name n at is =
    let same : bytes_eq kind (get_or kinds n []) ≡ true = (position-Some (bytes_eq kind) kinds n [] at).1 in
    sym (get_or_from_slice_get kinds n name [] is) ∙ sym ((bytes_eq-Decides kind (get_or kinds n [])).0 same)

-- the object in a cell that holds one
module _ (p : PlacedTable) (placed : IsPlaced p) (cell n : ℕ) (held : IsSome (id_in p cell)) (kind : IfSome (object_in p cell) (λ o. position (bytes_eq o.kind) p.table.kinds ≡ Some n)) where
  abbrev id : ℕ
  id = id_at p.cells cell

  object_there : (o : Option Object) → object_at p.table.objects id ≡ o → IsTrue (is_some o) → (x : Object) × (object_at p.table.objects id ≡ Some x)
  object_there None is live = absurd (false≢true live)
  object_there (Some x) is live = (x, is)

  there : (x : Object) × (object_at p.table.objects id ≡ Some x)
  there = object_there (object_at p.table.objects id) refl (placed.live cell id (held-id p cell held))

  numbered : position (bytes_eq there.0.kind) p.table.kinds ≡ Some n
  numbered = subst (λ o. IfSome o (λ x. position (bytes_eq x.kind) p.table.kinds ≡ Some n)) (ap (option_and_then (object_at p.table.objects)) (held-id p cell held) ∙ there.1) kind

  pub kind-in_range : n < length p.table.kinds
  kind-in_range = (position-Some (bytes_eq there.0.kind) p.table.kinds n [] numbered).0

  pub kind-is : (name : List ℕ) → slice_get p.table.kinds n ≡ Some name → name ≡ kind_at p.table id
  kind-is name is =
      kind_named p.table.kinds there.0.kind name n numbered is ∙ sym (ap (λ o. option_map_or (λ (x : Object). x.kind) o []) there.1)

-- a cell with a slot holds an object
pub held-from_edge : (p : PlacedTable) (cell slot : ℕ) → slot < length (slots_in p cell) → IsSome (id_in p cell)
held-from_edge p cell slot within = go (id_in p cell) within
  where
    go : (o : Option ℕ) → slot < length (option_map_or (λ (x : Object). x.slots) (option_and_then (object_at p.table.objects) o) []) → IsSome o
    go None within = absurd (omega arith)
    go (Some _) within = refl
