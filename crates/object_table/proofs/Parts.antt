-- What the parts of a table say of it: which objects are live, in which cells they stand, and how many cells are taken.
use Rattle.std.proofs.Common.{◌≡◌, ℕ, zero, suc, ◌+◌, ◌<◌, ◌≤◌, List, [], ◌∷◌, length, map, get_or, slice_get, true, eqb, eq-eqb, ne_eqb, Option}
use Rattle.std.proofs.Common.{Some, None, IfSome, is_some, unwrap_or, option_and_then, refl, sym, ◌∙◌, ap, ⊎_elim, arith}
use Rattle.std.specs.List.{All}
use Rattle.std.specs.Option.{option_map, option_map_or}
use Rattle.std.proofs.lemmas.Bool.{false≢true, cases_eq}
use Rattle.std.proofs.lemmas.Bool.Decides.{nat_tests}
use Rattle.std.proofs.lemmas.List.{length-map, get_or-map}
use Rattle.std.proofs.lemmas.Option.{same_Some, slice_get_within, get_or_from_slice_get}
use Rattle.heap_base.specs.Counting.{bit, total, times, AsOften}
use Rattle.heap_base.proofs.Counting.{total-ones, as_often-from_times}
use Rattle.graph_meaning.specs.Heap.{Object, empty_slot, object_at, is_live}
use Rattle.object_table.specs.declared.slot.Slot.{Slot as CellSlot}
use Rattle.object_table.specs.Placed.{id_in, object_in, slots_in, slot_in, IsPlaced}
use Rattle.object_table.specs.Residents.{Resident, held_at, id_held, is_taken, next_cell}
use Rattle.object_table.specs.Parts.{TableParts, slot_of, object_of, nobody, object_at_cell, placed_of, IsLaidOut}
use Rattle.object_table.proofs.Lookups.{found, found-here, found-somewhere}
use Rattle.object_table.proofs.Chains.{next-taken, next-empty}

-- ---- cells

-- a cell with an id holds an object with it
pub held_with_id : (cells : List (Option Resident)) (cell id : ℕ) → id_held cells cell ≡ Some id → (o : Resident) × (held_at cells cell ≡ Some o) × (o.id ≡ id)
held_with_id cells cell id is = go (held_at cells cell) refl is
  where
    go : (o : Option Resident) → held_at cells cell ≡ o → option_map (λ q. q.id) o ≡ Some id → (q : Resident) × (held_at cells cell ≡ Some q) × (q.id ≡ id)
    go None e is = absurd cc
    go (Some o) e is = (o, e, same_Some o.id id is)

pub taken_with : (cells : List (Option Resident)) (cell : ℕ) (o : Resident) → held_at cells cell ≡ Some o → is_taken cells cell ≡ true
taken_with cells cell o is = ap is_some is

pub held_taken : (cells : List (Option Resident)) (cell : ℕ) → is_taken cells cell ≡ true → (o : Resident) × (held_at cells cell ≡ Some o)
held_taken cells cell is = go (held_at cells cell) refl is
  where
    go : (o : Option Resident) → held_at cells cell ≡ o → is_some o ≡ true → (q : Resident) × (held_at cells cell ≡ Some q)
    go None e is = absurd (false≢true is)
    go (Some o) e is = (o, e)

-- the ids of the cells, one after another
pub id_in-cells : (cells : List (Option Resident)) (cell : ℕ) → get_or (map (option_map (λ (o : Resident). o.id)) cells) cell None ≡ id_held cells cell
id_in-cells [] cell = refl
id_in-cells (c ∷ cells) zero = refl
id_in-cells (c ∷ cells) (suc cell) = id_in-cells cells cell

-- ---- ids

-- a number that is counted in a list stands in it
times_somewhere : (x : ℕ) (xs : List (ℕ × ℕ)) → 0 < times x (map (λ e. e.1) xs) → (i : ℕ) × (i < length xs) × ((d : ℕ × ℕ) → (get_or xs i d).1 ≡ x)
times_somewhere x [] h = absurd (omega arith)
times_somewhere x (e ∷ xs) h =
    ⊎_elim
    (λ (same : e.1 ≡ x). (0, omega arith, λ d. same))
    (λ apart.
    let none : bit (eqb e.1 x) ≡ 0 = ap bit (ne_eqb e.1 x apart) in
    let rest = times_somewhere x xs (omega arith) in
    (suc rest.0, omega (arith, rest.1), rest.2))
    (cases_eq e.1 x)

module _ (p : TableParts) (laid : IsLaidOut p) where
  -- an id leads to the cell that holds its object
  pub stands_found : (id cell : ℕ) → found p.ids id ≡ Some cell → id_held p.cells cell ≡ Some id
  stands_found id cell is =
      let (i, within, at) = found-somewhere p.ids id cell is in
      let e = at (id, cell) in
      ap (λ (f : ℕ × ℕ). id_held p.cells f.1) (sym e) ∙ laid.stands i (id, cell) within ∙ ap (λ (f : ℕ × ℕ). Some f.0) e

  -- and to no other
  pub found_held : (id cell : ℕ) → id_held p.cells cell ≡ Some id → found p.ids id ≡ Some cell
  found_held id cell is =
      let (o, held, same) = held_with_id p.cells cell id is in
      let one : times cell (map (λ e. e.1) p.ids) ≡ 1 = laid.once cell ∙ ap bit (taken_with p.cells cell o held) in
      let (i, within, at) = times_somewhere cell p.ids (omega arith) in
      let d : ℕ × ℕ = (0, 0) in
      let here : (get_or p.ids i d).0 ≡ id = same_Some _ _ (sym (laid.stands i d within) ∙ ap (id_held p.cells) (at d) ∙ is) in
      found-here p.ids id i d laid.rising within here ∙ ap Some (at d)

  -- ---- objects

  -- an object is the one in the cell that its id leads to
  objects_found : (ids : List (ℕ × ℕ)) (id : ℕ) → All (λ e. id_held p.cells e.1 ≡ Some e.0) ids →
      object_at (map (λ e. object_at_cell p.kinds p.cells e.1) ids) id ≡ option_map (object_at_cell p.kinds p.cells) (found ids id)
  objects_found [] id stands = refl
  objects_found (e ∷ ids) id stands =
      let (o, held, same) = held_with_id p.cells e.1 e.0 (stands 0 e (omega arith)) in
      let its_id : (object_at_cell p.kinds p.cells e.1).id ≡ e.0 = ap (λ c. (unwrap_or c nobody).id) held ∙ same in
      let rest : object_at (map (λ e. object_at_cell p.kinds p.cells e.1) ids) id ≡ option_map (object_at_cell p.kinds p.cells) (found ids id) =
      objects_found ids id (λ k d h. stands (suc k) d (omega arith)) in
      grind (arith, nat_tests)

  pub object_at-found : (id : ℕ) → object_at (placed_of p).table.objects id ≡ option_map (object_at_cell p.kinds p.cells) (found p.ids id)
  object_at-found id = objects_found p.ids id laid.stands

  pub live_found : (id : ℕ) → is_live (placed_of p).table id ≡ is_some (found p.ids id)
  live_found id = ap is_some (object_at-found id) ∙ go (found p.ids id)
    where
      go : (o : Option ℕ) → is_some (option_map (object_at_cell p.kinds p.cells) o) ≡ is_some o
      go None = refl
      go (Some cell) = refl

  pub id_in-held : (cell : ℕ) → id_in (placed_of p) cell ≡ id_held p.cells cell
  id_in-held cell = id_in-cells p.cells cell

  -- what is found is where the object is
  pub cell_found : (id : ℕ) (o : Option ℕ) → o ≡ found p.ids id → IfSome o (λ cell. id_in (placed_of p) cell ≡ Some id)
  cell_found id None is = tt
  cell_found id (Some cell) is = id_in-held cell ∙ stands_found id cell (sym is)

  pub object_in-held : (cell : ℕ) (o : Resident) → held_at p.cells cell ≡ Some o → object_in (placed_of p) cell ≡ Some (object_of p.kinds p.cells o)
  object_in-held cell o is =
      let its_id : id_held p.cells cell ≡ Some o.id = ap (option_map (λ (q : Resident). q.id)) is in
      ap (option_and_then (object_at (placed_of p).table.objects)) (id_in-held cell ∙ its_id)
      ∙ object_at-found o.id
      ∙ ap (option_map (object_at_cell p.kinds p.cells)) (found_held o.id cell its_id)
      ∙ ap (λ c. Some (object_of p.kinds p.cells (unwrap_or c nobody))) is

  pub slots_in-held : (cell : ℕ) (o : Resident) → held_at p.cells cell ≡ Some o → slots_in (placed_of p) cell ≡ map (slot_of p.cells) o.slots
  slots_in-held cell o is = ap (λ q. option_map_or (λ (u : Object). u.slots) q []) (object_in-held cell o is)

  pub length-slots_in : (cell : ℕ) (o : Resident) → held_at p.cells cell ≡ Some o → length (slots_in (placed_of p) cell) ≡ length o.slots
  length-slots_in cell o is = ap length (slots_in-held cell o is) ∙ length-map o.slots (slot_of p.cells)

  pub slot_in-held : (cell slot : ℕ) (o : Resident) (s : CellSlot) → held_at p.cells cell ≡ Some o → slice_get o.slots slot ≡ Some s → slot_in (placed_of p) cell slot ≡ slot_of p.cells s
  slot_in-held cell slot o s is at =
      ap (λ l. get_or l slot empty_slot) (slots_in-held cell o is)
      ∙ get_or-map (slot_of p.cells) o.slots slot s empty_slot (slice_get_within o.slots slot s at)
      ∙ ap (slot_of p.cells) (get_or_from_slice_get o.slots slot s s at)

  pub is_placed : IsPlaced (placed_of p)
  is_placed = record {
    few = omega (arith, length-map p.cells (option_map (λ (o : Resident). o.id)), laid.few);
    live = λ cell id is. live_found id ∙ ap is_some (found_held id cell (sym (id_in-held cell) ∙ is));
    somewhere = λ id live. there id (found p.ids id) refl (sym (live_found id) ∙ live);
    once = λ cell other id is same. same_Some cell other (sym (found_held id cell (sym (id_in-held cell) ∙ is)) ∙ found_held id other (sym (id_in-held other) ∙ same));
  }
    where
      there : (id : ℕ) (o : Option ℕ) → found p.ids id ≡ o → is_some o ≡ true → (cell : ℕ) × (id_in (placed_of p) cell ≡ Some id)
      there id None is live = absurd (false≢true live)
      there id (Some cell) is live = (cell, id_in-held cell ∙ stands_found id cell is)

-- ---- how many cells are taken

-- the numbers of the taken cells, where the cells are numbered from n on
taken_from : ℕ → List (Option Resident) → List ℕ
taken_from n [] = []
taken_from n (Some o ∷ cells) = n ∷ taken_from (n + 1) cells
taken_from n (None ∷ cells) = taken_from (n + 1) cells

module _ where
  next : (n k : ℕ) → (n + 1) + k ≡ n + suc k
  next n k = omega arith

  times-below : (n c : ℕ) (cells : List (Option Resident)) → c < n → times c (taken_from n cells) ≡ 0
  unfolding taken_from
  times-below n c [] h = refl
  times-below n c (Some o ∷ cells) h =
      let apart : bit (eqb n c) ≡ 0 = ap bit (ne_eqb n c (λ same. omega arith)) in
      let rest = times-below (n + 1) c cells (omega arith) in
      omega arith
  times-below n c (None ∷ cells) h = times-below (n + 1) c cells (omega arith)

  times-taken : (n k : ℕ) (cells : List (Option Resident)) → times (n + k) (taken_from n cells) ≡ bit (is_taken cells k)
  unfolding taken_from
  times-taken n k [] = refl
  times-taken n zero (Some o ∷ cells) =
      let here : bit (eqb n (n + 0)) ≡ 1 = ap bit (eq-eqb n (n + 0) (omega arith)) in
      let rest = times-below (n + 1) (n + 0) cells (omega arith) in
      omega arith
  times-taken n (suc k) (Some o ∷ cells) =
      let apart : bit (eqb n (n + suc k)) ≡ 0 = ap bit (ne_eqb n (n + suc k) (λ same. omega arith)) in
      let next : n + suc k ≡ (n + 1) + k = omega arith in
      let rest : times (n + suc k) (taken_from (n + 1) cells) ≡ bit (is_taken cells k) = ap (λ c. times c (taken_from (n + 1) cells)) next ∙ times-taken (n + 1) k cells in
      omega arith
  times-taken n zero (None ∷ cells) = times-below (n + 1) (n + 0) cells (omega arith)
  times-taken n (suc k) (None ∷ cells) =
      let next : n + suc k ≡ (n + 1) + k = omega arith in
      ap (λ c. times c (taken_from (n + 1) cells)) next ∙ times-taken (n + 1) k cells

  -- what the taken cells add up to, of cells that stand in a longer list from n on
  total-taken : (f : Option Resident → ℕ) → f None ≡ 0 → (whole : List (Option Resident)) (n : ℕ) (cells : List (Option Resident)) →
      ((k : ℕ) → held_at whole (n + k) ≡ held_at cells k) → total (λ c. f (held_at whole c)) (taken_from n cells) ≡ total f cells
  unfolding taken_from
  total-taken f none whole n [] at = refl
  total-taken f none whole n (Some o ∷ cells) at =
      let first : n ≡ n + 0 = omega arith in
      let here : f (held_at whole n) ≡ f (Some o) = ap (λ k. f (held_at whole k)) first ∙ ap f (at 0) in
      let rest = total-taken f none whole (n + 1) cells (λ k. ap (held_at whole) (next n k) ∙ at (suc k)) in
      omega arith
  total-taken f none whole n (None ∷ cells) at =
      let rest = total-taken f none whole (n + 1) cells (λ k. ap (held_at whole) (next n k) ∙ at (suc k)) in
      omega (arith, none)

  length-taken : (n : ℕ) (cells : List (Option Resident)) → length (taken_from n cells) ≤ length cells
  unfolding taken_from
  length-taken n [] = omega arith
  length-taken n (Some o ∷ cells) = let rest = length-taken (n + 1) cells in omega arith
  length-taken n (None ∷ cells) = let rest = length-taken (n + 1) cells in omega arith

  -- all cells are taken where none comes next but a new one
  length-full : (n : ℕ) (cells : List (Option Resident)) → next_cell cells ≡ length cells → length (taken_from n cells) ≡ length cells
  unfolding taken_from
  length-full n [] full = refl
  length-full n (Some o ∷ cells) full =
      let rest = length-full (n + 1) cells (omega (arith, next-taken o cells)) in omega arith
  length-full n (None ∷ cells) full = absurd (omega (arith, next-empty cells))

  length-not_full : (n : ℕ) (cells : List (Option Resident)) → next_cell cells < length cells → length (taken_from n cells) < length cells
  unfolding taken_from
  length-not_full n [] h = absurd (omega arith)
  length-not_full n (Some o ∷ cells) h =
      let rest = length-not_full (n + 1) cells (omega (arith, next-taken o cells)) in omega arith
  length-not_full n (None ∷ cells) h = let rest = length-taken (n + 1) cells in omega arith

module _ (p : TableParts) (laid : IsLaidOut p) where
  zero-add : (c : ℕ) → 0 + c ≡ c
  zero-add c = omega arith

  -- the ids lead to the taken cells, to each once
  to_taken : AsOften (map (λ e. e.1) p.ids) (taken_from 0 p.cells)
  to_taken = as_often-from_times (map (λ e. e.1) p.ids) (taken_from 0 p.cells) (λ c. laid.once c ∙ sym (times-taken 0 c p.cells) ∙ ap (λ k. times k (taken_from 0 p.cells)) (zero-add c))

  -- there are as many ids as taken cells
  length-ids : length p.ids ≡ length (taken_from 0 p.cells)
  length-ids = sym (length-map p.ids (λ e. e.1)) ∙ sym (total-ones (map (λ e. e.1) p.ids)) ∙ to_taken (λ _. 1) ∙ total-ones (taken_from 0 p.cells)

  -- what the ids' cells add up to is what all cells add up to, where an empty one adds nothing
  pub total-cells : (f : Option Resident → ℕ) → f None ≡ 0 → total (λ c. f (held_at p.cells c)) (map (λ e. e.1) p.ids) ≡ total f p.cells
  total-cells f none = to_taken (λ c. f (held_at p.cells c)) ∙ total-taken f none p.cells 0 p.cells (λ k. ap (held_at p.cells) (zero-add k))

  pub full_cells : next_cell p.cells ≡ length p.cells → length p.ids ≡ length p.cells
  full_cells full = length-ids ∙ length-full 0 p.cells full

  pub not_full_cells : next_cell p.cells < length p.cells → length p.ids < length p.cells
  not_full_cells h = let few = length-not_full 0 p.cells h in let all = length-ids in omega arith
