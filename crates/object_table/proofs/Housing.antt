-- What the calls on cells leave: what each cell holds, and the list of the empty ones.
use Rattle.std.proofs.Common.{◌≡◌, ℕ, zero, suc, ◌+◌, ◌-◌, ◌<◌, ◌≤◌, List, [], ◌∷◌, ◌++◌, length, map, take, drop, set, get_or, slice_get, Bool}
use Rattle.std.proofs.Common.{true, false, cond, Option, Some, None, is_some, IfSome, IsSome, ◌⊎◌, inl, inr, ⊎_elim, refl, sym, ◌∙◌, ap, subst}
use Rattle.std.proofs.Common.{arith, add-one, append_assoc, length-append}
use Rattle.std.specs.Option.{option_map}
use Rattle.std.proofs.Math.ListN.{get_or-eq_default}
use Rattle.std.proofs.Math.Seq.{drop-cons, set-append_seam, get_or-append_seam}
use Rattle.std.proofs.lemmas.Bool.{false≢true, cases_lt}
use Rattle.std.proofs.lemmas.Bool.Decides.{nat_tests}
use Rattle.std.proofs.lemmas.List.{take_more, take-take, length-take, length-take-le, get_or-take, take-map, take_all, drop_all, append-nil, length-map, length-set, length_push, map-set, map-append}
use Rattle.std.proofs.lemmas.Option.{same_Some, slice_get-get_or, get_or_from_slice_get}
use Rattle.heap_base.specs.declared.limits.TheConstants.{MOST_OBJECTS}
use Rattle.object_table.specs.declared.slot.Slot.{Slot}
use Rattle.object_table.specs.declared.cell.Cell.{Cell}
use Rattle.object_table.specs.declared.cell.Cell.TheVariants.{Taken, Empty}
use Rattle.object_table.specs.Paged.{Roomy}
use Rattle.object_table.specs.Residents.{Resident, is_flagged, resident_after, held_at, held_after, next_cell, with_resident}
use Rattle.object_table.specs.Chains.{resident_in, empty_from, first_empty, next_in, HasSlot, with_slot_put, with_slots_cleared, cell_after, cells_after, IsFrontOf, IsHoused}
use Rattle.object_table.proofs.Chains.{first-none, first-some, linked_put, linked_push, linked_slot, linked_cleared, linked_after, length-cells_after, held_at-after}

-- ---- one cell is changed

-- the cells alone
pub put_alone : (old later : Roomy Cell) (k : ℕ) (change : Cell → Cell) →
    IfSome (slice_get old.cells k) (λ c. later ≡ record old { cells = set old.cells k (change c) }) →
    IfSome (slice_get old.cells k) (λ c. later.cells ≡ set old.cells k (change c))
put_alone old later k change changed = go (slice_get old.cells k) changed
  where
    go : (o : Option Cell) → IfSome o (λ c. later ≡ record old { cells = set old.cells k (change c) }) → IfSome o (λ c. later.cells ≡ set old.cells k (change c))
    go None changed = tt
    go (Some c) changed = ap (λ r. r.cells) changed

-- ---- the cell that comes next

pub next_some : (cells : List Cell) (first : Option ℕ) (k : ℕ) → IsHoused cells first → first ≡ Some k → (k ≡ next_cell (map resident_in cells)) × (k < length cells)
next_some cells first k is some =
    let there = first-some 0 k cells (sym is.first_is ∙ some) in
    (omega (arith, there.0), omega (arith, there.0, there.1))

pub next_none : (cells : List Cell) (first : Option ℕ) → IsHoused cells first → first ≡ None → next_cell (map resident_in cells) ≡ length cells
next_none cells first is none = first-none 0 cells (sym is.first_is ∙ none)

-- ---- an object is put

pub put_housed : (cells : List Cell) (first : Option ℕ) (k : ℕ) (c : Cell) (o : Resident) → IsHoused cells first → first ≡ Some k →
    slice_get cells k ≡ Some c → IsHoused (set cells k (Taken o)) (next_in c)
put_housed cells first k c o is some at =
    let there = linked_put 0 k cells o is.linked (sym is.first_is ∙ some ∙ ap Some (omega arith)) in
    record {
      first_is = ap next_in (sym (get_or_from_slice_get cells k c (Empty None) at)) ∙ sym there.0;
      linked = there.1;
      few = omega (arith, length-set cells k (Taken o), is.few);
    }

pub put_is : (cells : List Cell) (first : Option ℕ) (k : ℕ) (o : Resident) → IsHoused cells first → first ≡ Some k → map resident_in (set cells k (Taken o)) ≡ with_resident (map resident_in cells) o
put_is cells first k o is some =
    let next = next_some cells first k is some in
    let long = length-map cells resident_in in
    let within : next_cell (map resident_in cells) < length (map resident_in cells) = omega (arith, next.0, next.1) in
    let changed : map resident_in (set cells k (Taken o)) ≡ set (map resident_in cells) (next_cell (map resident_in cells)) (Some o) =
    map-set resident_in cells k (Taken o) ∙ ap (λ j. set (map resident_in cells) j (Some o)) next.0 in
    grind (arith, nat_tests)

pub push_few : (cells : List Cell) (first : Option ℕ) → IsHoused cells first → first ≡ None → next_cell (map resident_in cells) < MOST_OBJECTS → length cells < MOST_OBJECTS
push_few cells first is none room = omega (arith, next_none cells first is none)

pub push_housed : (cells : List Cell) (first : Option ℕ) (o : Resident) → IsHoused cells first → first ≡ None → length cells < MOST_OBJECTS → IsHoused (cells ++ Taken o ∷ []) first
push_housed cells first o is none room =
    let there = linked_push 0 cells o is.linked (sym is.first_is ∙ none) in
    record {
      first_is = none ∙ sym there.0;
      linked = there.1;
      few = omega (arith, length_push cells (Taken o));
    }

pub push_is : (cells : List Cell) (first : Option ℕ) (o : Resident) → IsHoused cells first → first ≡ None → map resident_in (cells ++ Taken o ∷ []) ≡ with_resident (map resident_in cells) o
push_is cells first o is none =
    let next = next_none cells first is none in
    let long = length-map cells resident_in in
    let pushed : map resident_in (cells ++ Taken o ∷ []) ≡ map resident_in cells ++ Some o ∷ [] = map-append resident_in cells (Taken o ∷ []) in
    grind (arith, nat_tests)

-- ---- a slot is put

-- the cell that holds an object is taken
pub taken_cell : (cells : List Cell) (k : ℕ) (o : Resident) → held_at (map resident_in cells) k ≡ Some o → slice_get cells k ≡ Some (Taken o)
taken_cell [] k o is = absurd cc
taken_cell (Taken q ∷ cells) zero o is = ap (λ x. Some (Taken x)) (same_Some q o is)
taken_cell (Empty next ∷ cells) zero o is = absurd cc
taken_cell (c ∷ cells) (suc k) o is = taken_cell cells k o is

pub slot_there : (cells : List Cell) (k slot : ℕ) → IfSome (held_at (map resident_in cells) k) (λ o. slot < length o.slots) → IfSome (slice_get cells k) (HasSlot slot)
slot_there [] k slot there = tt
slot_there (Taken q ∷ cells) zero slot there = there
slot_there (Empty next ∷ cells) zero slot there = tt
slot_there (c ∷ cells) (suc k) slot there = slot_there cells k slot there

pub taken_within : (cells : List Cell) (k : ℕ) → IsSome (held_at (map resident_in cells) k) → k < length cells
taken_within [] k some = absurd cc
taken_within (c ∷ cells) zero some = omega arith
taken_within (c ∷ cells) (suc k) some = let rest = taken_within cells k some in omega arith

pub slot_housed : (cells : List Cell) (first : Option ℕ) (k slot : ℕ) (value : Slot) (later : List Cell) → IsHoused cells first →
    IsSome (held_at (map resident_in cells) k) → IfSome (slice_get cells k) (λ c. later ≡ set cells k (with_slot_put slot value c)) →
    IsHoused later first
slot_housed cells first k slot value later is some changed = go (held_at (map resident_in cells) k) refl some
  where
    go : (o : Option Resident) → held_at (map resident_in cells) k ≡ o → IsSome o → IsHoused later first
    go None e some = absurd cc
    go (Some o) e some =
        let at = taken_cell cells k o e in
        let is_later : later ≡ set cells k (with_slot_put slot value (Taken o)) = rw at at changed in
        let same : Taken o ≡ get_or cells k (Empty None) = sym (get_or_from_slice_get cells k (Taken o) (Empty None) at) in
        let there = linked_slot slot value 0 k cells (Empty None) is.linked in
        let whole : later ≡ set cells k (with_slot_put slot value (get_or cells k (Empty None))) = is_later ∙ ap (λ c. set cells k (with_slot_put slot value c)) same in
        subst (λ l. IsHoused l first) (sym whole) (record {
          first_is = is.first_is ∙ sym there.0;
          linked = there.1;
          few = omega (arith, length-set cells k (with_slot_put slot value (get_or cells k (Empty None))), is.few);
        })

pub slot_is : (cells : List Cell) (k slot : ℕ) (value : Slot) (later : List Cell) →
    IfSome (slice_get cells k) (λ c. later ≡ set cells k (with_slot_put slot value c)) →
    IfSome (held_at (map resident_in cells) k) (λ o. map resident_in later ≡ set (map resident_in cells) k (Some (record o { slots = set o.slots slot value })))
slot_is cells k slot value later changed = go (held_at (map resident_in cells) k) refl
  where
    go : (o : Option Resident) → held_at (map resident_in cells) k ≡ o → IfSome o (λ q. map resident_in later ≡ set (map resident_in cells) k (Some (record q { slots = set q.slots slot value })))
    go None e = tt
    go (Some o) e =
        let is_later : later ≡ set cells k (with_slot_put slot value (Taken o)) = rw (taken_cell cells k o e) at changed in
        ap (map resident_in) is_later ∙ map-set resident_in cells k (with_slot_put slot value (Taken o))

-- ---- slots are cleared

pub cleared_housed : (marked : List Bool) (cells : List Cell) (first : Option ℕ) → IsHoused cells first → IsHoused (map (with_slots_cleared marked) cells) first
cleared_housed marked cells first is =
    let (same, linked) = linked_cleared marked 0 cells is.linked in
    record {
      first_is = is.first_is ∙ sym same;
      linked = linked;
      few = omega (arith, length-map cells (with_slots_cleared marked), is.few);
    }

-- ---- cells are emptied, from the last to the first

-- The cells from place i on are those after the sweep, the others are as they were, and this is the first empty one of those.
pub record IsSwept (kept : List Bool) (old now : List Cell) (i : ℕ) (first : Option ℕ) : Type 0 where
  pub within : i ≤ length old
  pub cells : now ≡ take i old ++ cells_after kept i (drop i old)
  pub first_is : first ≡ first_empty i (cells_after kept i (drop i old))

pub swept_none : (kept : List Bool) (old : List Cell) (i : ℕ) → i ≡ length old → IsSwept kept old old i None
swept_none kept old i at =
    let none : drop i old ≡ [] = drop_all i old (omega arith) in
    let all : take i old ≡ old = take_all i old (omega arith) in
    record {
      within = omega arith;
      cells = rw (none, all) (sym (append-nil old));
      first_is = rw none refl;
    }

seam_get : (xs ys : List Cell) (x : Cell) (j : ℕ) → length xs ≡ j → slice_get (xs ++ x ∷ ys) j ≡ Some x
seam_get xs ys x j long =
    let all = length-append xs (x ∷ ys) in
    slice_get-get_or (xs ++ x ∷ ys) j x (omega arith) ∙ ap Some (ap (λ k. get_or (xs ++ x ∷ ys) k x) (sym long) ∙ get_or-append_seam xs x ys x)

seam_set : (xs ys : List Cell) (x y : Cell) (j : ℕ) → length xs ≡ j → set (xs ++ x ∷ ys) j y ≡ xs ++ y ∷ ys
seam_set xs ys x y j long = ap (λ k. set (xs ++ x ∷ ys) k y) (sym long) ∙ set-append_seam xs x ys y

-- the cell at j is swept, after those from j + 1 on
swept_at : (kept : List Bool) (old now later : List Cell) (j : ℕ) (first new : Option ℕ) → IsSwept kept old now (j + 1) first →
    IfSome (slice_get now j) (λ c. later ≡ set now j (cell_after (is_flagged kept j) kept first c)) →
    IfSome (slice_get now j) (λ c. new ≡ empty_from j (cell_after (is_flagged kept j) kept first c) first) → IsSwept kept old later j new
swept_at kept old now later j first new is put new_is =
    let within = is.within in
    let x : Cell = get_or old j (Empty None) in
    let rest : List Cell = cells_after kept (j + 1) (drop (j + 1) old) in
    let y : Cell = cell_after (is_flagged kept j) kept (first_empty (j + 1) rest) x in
    let here : drop j old ≡ x ∷ drop (j + 1) old = rw add-one (drop-cons old j (Empty None) (omega arith)) in
    let long : length (take j old) ≡ j = length-take-le j old (omega arith) in
    let before : now ≡ take j old ++ x ∷ rest = is.cells ∙ ap (λ l. l ++ rest) (take_more old j (Empty None) (omega arith)) ∙ append_assoc (take j old) (x ∷ []) rest in
    let at : slice_get now j ≡ Some x = ap (λ l. slice_get l j) before ∙ seam_get (take j old) rest x j long in
    let swept : cell_after (is_flagged kept j) kept first x ≡ y = ap (λ o. cell_after (is_flagged kept j) kept o x) is.first_is in
    let is_later : later ≡ set now j (cell_after (is_flagged kept j) kept first x) = rw at at put in
    let is_new : new ≡ empty_from j (cell_after (is_flagged kept j) kept first x) first = rw at at new_is in
    record {
      within = omega arith;
      cells = is_later
          ∙ ap (λ c. set now j c) swept
          ∙ ap (λ l. set l j y) before
          ∙ seam_set (take j old) rest x y j long
          ∙ ap (λ l. take j old ++ cells_after kept j l) (sym here);
      first_is = is_new
          ∙ ap (λ c. empty_from j c first) swept
          ∙ ap (λ o. empty_from j y o) is.first_is
          ∙ ap (λ l. first_empty j (cells_after kept j l)) (sym here);
    }

pub swept_more : (kept : List Bool) (old now later : List Cell) (i : ℕ) (first new : Option ℕ) → IsSwept kept old now i first → 0 < i →
    IfSome (slice_get now (i - 1)) (λ c. later ≡ set now (i - 1) (cell_after (is_flagged kept (i - 1)) kept first c)) →
    IfSome (slice_get now (i - 1)) (λ c. new ≡ empty_from (i - 1) (cell_after (is_flagged kept (i - 1)) kept first c) first) →
    IsSwept kept old later (i - 1) new
swept_more kept old now later i first new is positive put new_is =
    let next : i ≡ (i - 1) + 1 = omega arith in
    swept_at kept old now later (i - 1) first new (subst (λ k. IsSwept kept old now k first) next is) put new_is

pub swept_within : (kept : List Bool) (old now : List Cell) (i : ℕ) (first : Option ℕ) → IsSwept kept old now i first → 0 < i → i - 1 < length now
swept_within kept old now i first is positive =
    let within = is.within in
    let all = ap length is.cells ∙ length-append (take i old) (cells_after kept i (drop i old)) in
    let front = length-take-le i old within in
    omega arith

pub swept_all : (kept : List Bool) (old now : List Cell) (i : ℕ) (first : Option ℕ) → IsSwept kept old now i first → i ≡ 0 → (now ≡ cells_after kept 0 old) × (first ≡ first_empty 0 now)
swept_all kept old now i first is none =
    let all : now ≡ cells_after kept 0 old = is.cells ∙ ap (λ k. take k old ++ cells_after kept k (drop k old)) none in
    (all, is.first_is ∙ ap (λ k. first_empty k (cells_after kept k (drop k old))) none ∙ ap (first_empty 0) (sym all))

pub swept_housed : (kept : List Bool) (old now : List Cell) (first : Option ℕ) → length old ≤ MOST_OBJECTS → now ≡ cells_after kept 0 old → first ≡ first_empty 0 now → IsHoused now first
swept_housed kept old now first few all first_is = record {
  first_is = first_is;
  linked = rw all (linked_after kept 0 old);
  few = omega (arith, few, ap length all, length-cells_after kept 0 old);
}

pub swept_held : (kept : List Bool) (old now : List Cell) → now ≡ cells_after kept 0 old → (cell : ℕ) → held_at (map resident_in now) cell ≡ held_after kept (map resident_in old) cell
swept_held kept old now all cell =
    let same : 0 + cell ≡ cell = omega arith in
    ap (λ l. held_at (map resident_in l) cell) all
    ∙ held_at-after kept 0 cell old
    ∙ ap (λ k. cond (is_flagged kept k) (option_map (resident_after kept) (held_at (map resident_in old) cell)) None) same

-- ---- the last cells are taken away

pub front_held : (before after : List Cell) → after ≡ take (length after) before → (cell : ℕ) → cell < length after → held_at (map resident_in after) cell ≡ held_at (map resident_in before) cell
front_held before after front cell within =
    ap (λ l. held_at (map resident_in l) cell) front
    ∙ ap (λ l. held_at l cell) (sym (take-map resident_in (length after) before))
    ∙ get_or-take (length after) (map resident_in before) cell None within

kept_by : (kept : List Bool) (cells others : List Cell) (cell : ℕ) →
    held_at (map resident_in cells) cell ≡ held_at (map resident_in others) cell →
    held_after kept (map resident_in cells) cell ≡ held_after kept (map resident_in others) cell
kept_by kept cells others cell same = ap (λ o. cond (is_flagged kept cell) (option_map (resident_after kept) o) None) same

beyond : (kept : List Bool) (cells : List Cell) (cell : ℕ) → length cells ≤ cell → held_after kept (map resident_in cells) cell ≡ None
beyond kept cells cell past =
    ap (λ o. cond (is_flagged kept cell) (option_map (resident_after kept) o) None) (get_or-eq_default (map resident_in cells) None (omega (arith, length-map cells resident_in, past)))
    ∙ either (is_flagged kept cell)
  where
    either : (b : Bool) → cond b (option_map (resident_after kept) None) None ≡ None
    either true = refl
    either false = refl

none_there : {X : Type 0} (o : Option X) → is_some o ≡ false → o ≡ None
none_there None e = refl
none_there (Some x) e = absurd (false≢true (sym e))

module _ (kept : List Bool) where
  pub front_none : (cells : List Cell) → IsFrontOf kept cells cells
  front_none cells = record {
    front = sym (take_all (length cells) cells (omega arith));
    others = λ cell past. beyond kept cells cell past;
  }

  pub front_more : (before now after : List Cell) (cell : ℕ) → IsFrontOf kept before now → length now ≡ cell + 1 → after ≡ take cell now →
      is_some (held_after kept (map resident_in now) cell) ≡ false → IsFrontOf kept before after
  front_more before now after cell is count popped gone =
      let shorter : length after ≡ cell = ap length popped ∙ length-take-le cell now (omega (arith, count)) in
      record {
        front = popped
            ∙ ap (take cell) is.front
            ∙ take-take cell (length now) before (omega (arith, count))
            ∙ ap (λ k. take k before) (sym shorter);
        others = λ other past. ⊎_elim
            (λ later. is.others other (omega (arith, later, count)))
            (λ here. ap (held_after kept (map resident_in before)) here
            ∙ sym (kept_by kept now before cell (front_held before now is.front cell (omega (arith, count))))
            ∙ none_there (held_after kept (map resident_in now) cell) gone)
            (later_or_here cell other (omega (arith, past, shorter)));
      }
    where
      later_or_here : (cell other : ℕ) → cell ≤ other → (cell < other) ⊎ (other ≡ cell)
      later_or_here cell other le = ⊎_elim (λ lt. inl lt) (λ ge. inr (omega (arith, le, ge))) (cases_lt cell other)

  pub front_kept : (before after : List Cell) → IsFrontOf kept before after → (cell : ℕ) → held_after kept (map resident_in after) cell ≡ held_after kept (map resident_in before) cell
  front_kept before after is cell = ⊎_elim
      (λ within. kept_by kept after before cell (front_held before after is.front cell within))
      (λ past. beyond kept after cell past ∙ sym (is.others cell past))
      (cases_lt cell (length after))

  pub front_shorter : (before after : List Cell) → IsFrontOf kept before after → length after ≤ length before
  front_shorter before after is = omega (arith, ap length is.front, length-take (length after) before)
