-- The list of the empty cells, after each change of a cell.
use Rattle.std.proofs.Common.{◌≡◌, ℕ, zero, suc, ◌+◌, ◌<◌, List, [], ◌∷◌, ◌++◌, length, map, set, get_or, Bool, true, false, cond, Option, Some, None, refl, sym, ◌∙◌, ap, arith}
use Rattle.std.specs.List.{sum_by}
use Rattle.std.specs.Option.{option_map}
use Rattle.std.proofs.lemmas.List.Sums.{sum_by-cons}
use Rattle.std.proofs.lemmas.Option.{same_Some}
use Rattle.object_table.specs.declared.slot.Slot.{Slot}
use Rattle.object_table.specs.declared.cell.Cell.{Cell}
use Rattle.object_table.specs.declared.cell.Cell.TheVariants.{Taken, Empty}
use Rattle.object_table.specs.Residents.{Resident, is_flagged, resident_after, resident_cleared, holders_held, held_at, next_cell}
use Rattle.object_table.specs.Chains.{resident_in, empty_from, first_empty, LeadsOn, IsLinked, next_in, with_slot_put, with_slots_cleared, holders_at, cell_after, cells_after}

-- ---- the first empty cell

pub next-taken : (o : Resident) (cells : List (Option Resident)) → next_cell (Some o ∷ cells) ≡ next_cell cells + 1
next-taken o cells = grind arith

pub next-empty : (cells : List (Option Resident)) → next_cell (None ∷ cells) ≡ 0
next-empty cells = grind arith

pub first-none : (n : ℕ) (cells : List Cell) → first_empty n cells ≡ None → next_cell (map resident_in cells) ≡ length cells
first-none n [] none = grind arith
first-none n (Taken o ∷ cells) none = let rest = first-none (n + 1) cells none in omega (arith, next-taken o (map resident_in cells))
first-none n (Empty next ∷ cells) none = absurd cc

pub first-some : (n k : ℕ) (cells : List Cell) → first_empty n cells ≡ Some k → (k ≡ n + next_cell (map resident_in cells)) × (next_cell (map resident_in cells) < length cells)
first-some n k [] some = absurd cc
first-some n k (Taken o ∷ cells) some =
    let rest = first-some (n + 1) k cells some in
    let step = next-taken o (map resident_in cells) in
    (omega (arith, rest.0), omega (arith, rest.1))
first-some n k (Empty next ∷ cells) some =
    let same : n ≡ k = same_Some n k some in
    let none = next-empty (map resident_in cells) in
    (omega arith, omega arith)

-- ---- an object is put

pub linked_put : (n j : ℕ) (cells : List Cell) (o : Resident) → IsLinked n cells → first_empty n cells ≡ Some (n + j) →
    (first_empty n (set cells j (Taken o)) ≡ next_in (get_or cells j (Empty None))) × IsLinked n (set cells j (Taken o))
linked_put n j [] o linked some = absurd cc
linked_put n zero (Taken q ∷ cells) o linked some =
    let rest = first-some (n + 1) (n + 0) cells some in absurd (omega (arith, rest.0))
linked_put n (suc j) (Taken q ∷ cells) o linked some =
    let next : n + suc j ≡ (n + 1) + j = omega arith in
    let rest = linked_put (n + 1) j cells o linked.1 (some ∙ ap Some next) in
    (rest.0, (tt, rest.1))
linked_put n zero (Empty next ∷ cells) o linked some = (sym linked.0, (tt, linked.1))
linked_put n (suc j) (Empty next ∷ cells) o linked some =
    let same : n ≡ n + suc j = same_Some n (n + suc j) some in absurd (omega arith)

pub linked_push : (n : ℕ) (cells : List Cell) (o : Resident) → IsLinked n cells → first_empty n cells ≡ None → (first_empty n (cells ++ Taken o ∷ []) ≡ None) × IsLinked n (cells ++ Taken o ∷ [])
linked_push n [] o linked none = (refl, (tt, tt))
linked_push n (Taken q ∷ cells) o linked none = let rest = linked_push (n + 1) cells o linked.1 none in (rest.0, (tt, rest.1))
linked_push n (Empty next ∷ cells) o linked none = absurd cc

-- ---- a slot is put

-- the cell leads where it led, and is empty where it was
module _ (slot : ℕ) (value : Slot) where
  empty-put : (n : ℕ) (c : Cell) (later : Option ℕ) → empty_from n (with_slot_put slot value c) later ≡ empty_from n c later
  empty-put n (Taken o) later = refl
  empty-put n (Empty next) later = refl

  leads-put : (c : Cell) (later : Option ℕ) → LeadsOn c later → LeadsOn (with_slot_put slot value c) later
  leads-put (Taken o) later leads = tt
  leads-put (Empty next) later leads = leads

  pub linked_slot : (n k : ℕ) (cells : List Cell) (d : Cell) → IsLinked n cells →
      (first_empty n (set cells k (with_slot_put slot value (get_or cells k d))) ≡ first_empty n cells) × IsLinked n (set cells k (with_slot_put slot value (get_or cells k d)))
  linked_slot n k [] d linked = (refl, tt)
  linked_slot n zero (c ∷ cells) d linked = (empty-put n c (first_empty (n + 1) cells), (leads-put c (first_empty (n + 1) cells) linked.0, linked.1))
  linked_slot n (suc k) (c ∷ cells) d linked =
      let rest = linked_slot (n + 1) k cells d linked.1 in
      (ap (empty_from n c) rest.0, (rw rest.0 linked.0, rest.1))

-- ---- slots are cleared

-- each cell leads where it led, and is empty where it was
module _ (marked : List Bool) where
  empty-cleared : (n : ℕ) (c : Cell) (later : Option ℕ) → empty_from n (with_slots_cleared marked c) later ≡ empty_from n c later
  empty-cleared n (Taken o) later = refl
  empty-cleared n (Empty next) later = refl

  leads-cleared : (c : Cell) (later : Option ℕ) → LeadsOn c later → LeadsOn (with_slots_cleared marked c) later
  leads-cleared (Taken o) later leads = tt
  leads-cleared (Empty next) later leads = leads

  pub linked_cleared : (n : ℕ) (cells : List Cell) → IsLinked n cells →
      (first_empty n (map (with_slots_cleared marked) cells) ≡ first_empty n cells) × IsLinked n (map (with_slots_cleared marked) cells)
  linked_cleared n [] linked = (refl, tt)
  linked_cleared n (c ∷ cells) linked =
      let (first, rest) = linked_cleared (n + 1) cells linked.1 in
      (ap (empty_from n (with_slots_cleared marked c)) first ∙ empty-cleared n c (first_empty (n + 1) cells), (rw first (leads-cleared c (first_empty (n + 1) cells) linked.0), rest))

  resident-cleared : (c : Cell) → resident_in (with_slots_cleared marked c) ≡ option_map (resident_cleared marked) (resident_in c)
  resident-cleared (Taken o) = refl
  resident-cleared (Empty next) = refl

  pub cleared_residents : (cells : List Cell) → map resident_in (map (with_slots_cleared marked) cells) ≡ map (option_map (resident_cleared marked)) (map resident_in cells)
  cleared_residents [] = refl
  cleared_residents (c ∷ cells) =
      ap (λ x. x ∷ map resident_in (map (with_slots_cleared marked) cells)) (resident-cleared c) ∙ ap (λ l. option_map (resident_cleared marked) (resident_in c) ∷ l) (cleared_residents cells)

  pub holders_residents : (cells : List Cell) → sum_by (holders_held marked) (map resident_in cells) ≡ sum_by (holders_at marked) cells
  holders_residents [] = refl
  holders_residents (c ∷ cells) =
      sum_by-cons (holders_held marked) (resident_in c) (map resident_in cells) ∙ ap (λ n. holders_at marked c + n) (holders_residents cells) ∙ sym (sum_by-cons (holders_at marked) c cells)

-- ---- cells are emptied

leads-after : (b : Bool) (kept : List Bool) (later : Option ℕ) (c : Cell) → LeadsOn (cell_after b kept later c) later
leads-after true kept later (Taken o) = tt
leads-after true kept later (Empty next) = refl
leads-after false kept later (Taken o) = refl
leads-after false kept later (Empty next) = refl

pub linked_after : (kept : List Bool) (n : ℕ) (cells : List Cell) → IsLinked n (cells_after kept n cells)
linked_after kept n [] = tt
linked_after kept n (c ∷ cells) =
    let rest = cells_after kept (n + 1) cells in
    (leads-after (is_flagged kept n) kept (first_empty (n + 1) rest) c, linked_after kept (n + 1) cells)

pub length-cells_after : (kept : List Bool) (n : ℕ) (cells : List Cell) → length (cells_after kept n cells) ≡ length cells
length-cells_after kept n [] = refl
length-cells_after kept n (c ∷ cells) = ap suc (length-cells_after kept (n + 1) cells)

resident-after : (b : Bool) (kept : List Bool) (later : Option ℕ) (c : Cell) → resident_in (cell_after b kept later c) ≡ cond b (option_map (resident_after kept) (resident_in c)) None
resident-after true kept later (Taken o) = refl
resident-after true kept later (Empty next) = refl
resident-after false kept later (Taken o) = refl
resident-after false kept later (Empty next) = refl

none-cond : (b : Bool) → cond {A = Option Resident} b None None ≡ None
none-cond true = refl
none-cond false = refl

pub held_at-after : (kept : List Bool) (n k : ℕ) (cells : List Cell) →
    held_at (map resident_in (cells_after kept n cells)) k ≡ cond (is_flagged kept (n + k)) (option_map (resident_after kept) (held_at (map resident_in cells) k)) None
held_at-after kept n k [] = sym (none-cond (is_flagged kept (n + k)))
held_at-after kept n zero (c ∷ cells) =
    let same : n ≡ n + 0 = omega arith in
    resident-after (is_flagged kept n) kept (first_empty (n + 1) (cells_after kept (n + 1) cells)) c ∙ ap (λ m. cond (is_flagged kept m) (option_map (resident_after kept) (resident_in c)) None) same
held_at-after kept n (suc k) (c ∷ cells) =
    let same : (n + 1) + k ≡ n + suc k = omega arith in
    held_at-after kept (n + 1) k cells ∙ ap (λ m. cond (is_flagged kept m) (option_map (resident_after kept) (held_at (map resident_in cells) k)) None) same
