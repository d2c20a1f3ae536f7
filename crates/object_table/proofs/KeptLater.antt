-- What is left where every object is kept whose id is not above a number, and the others are freed one by one.
use Rattle.std.proofs.Common.{◌≡◌, ℕ, ◌+◌, ◌-◌, ◌<◌, ◌≤◌, List, [], ◌∷◌, ◌++◌, length, map, take, drop, filter, get_or, suc, ◌==◌, ne_eqb, Bool}
use Rattle.std.proofs.Common.{true, false, not, ◌&&◌, ◌||◌, cond, IsTrue, Option, Some, None, IfSome, IsSome, is_some, refl, sym, ◌∙◌}
use Rattle.std.proofs.Common.{ap, subst, ⊎_elim, arith}
use Rattle.std.specs.List.{All, sum_by}
use Rattle.std.specs.Option.{option_map}
use Rattle.std.proofs.lemmas.Bool.{false≢true, cases_eq}
use Rattle.std.proofs.lemmas.List.{length-drop, length-take-le, length-map, get_or-drop, get_or-take, get_or-map, map-append, take-append-drop}
use Rattle.std.proofs.lemmas.List.Elements.{filter-append}
use Rattle.std.proofs.lemmas.List.Sums.{sum_by-append, sum_by-take-drop}
use Rattle.heap_base.specs.Counting.{bit, times}
use Rattle.heap_base.proofs.Counting.{times-append}
use Rattle.graph_meaning.specs.Heap.{is_live}
use Rattle.graph_meaning.specs.Reach.{has_id}
use Rattle.object_table.specs.declared.slot.Slot.{Slot as CellSlot}
use Rattle.object_table.specs.Placed.{id_in, kept_ids, HoldsOf, HoldKept, IsStacked}
use Rattle.object_table.specs.Residents.{Resident, is_flagged, slot_after, resident_after, held_at, held_after, id_held, is_taken}
use Rattle.object_table.specs.Parts.{TableParts, slot_of, placed_of, HoldsTaken, slots_at_cell, IsTable, held_unless, is_freed, StandInOrder}
use Rattle.object_table.proofs.Parts.{held_with_id, held_taken, taken_with, id_in-held, slots_in-held, is_placed}
use Rattle.object_table.proofs.Changes.{of_some, kept_cell}
use Rattle.object_table.proofs.Freed.{filter_all, kept_stays}
use Rattle.object_table.proofs.KeptSlots as slots

-- ---- entries and cells

-- a cell that isn't kept stands in no entry whose cells are all kept
times_kept : (kept : List Bool) (entries : List (ℕ × ℕ)) (cell : ℕ) → All (λ e. IsTrue (is_flagged kept e.1)) entries → is_flagged kept cell ≡ false → times cell (map (λ e. e.1) entries) ≡ 0
times_kept kept [] cell all flag = refl
times_kept kept (e ∷ entries) cell all flag =
    let rest = times_kept kept entries cell (λ k d h. all (suc k) d (omega arith)) flag in
    let apart : (e.1 == cell) ≡ false = ne_eqb e.1 cell (λ same. false≢true (sym flag ∙ ap (is_flagged kept) (sym same) ∙ all 0 e (omega arith))) in
    let none : bit (e.1 == cell) ≡ 0 = ap bit apart in
    omega arith

-- nor in one of which it is not freed
times_left : (kept : List Bool) (entries : List (ℕ × ℕ)) (cell : ℕ) → is_freed kept entries cell ≡ false → is_flagged kept cell ≡ false → times cell (map (λ e. e.1) entries) ≡ 0
times_left kept [] cell left flag = refl
times_left kept (e ∷ entries) cell left flag = go (e.1 == cell) refl (λ rest. times_left kept entries cell rest flag)
  where
    go : (b : Bool) → (e.1 == cell) ≡ b → (is_freed kept entries cell ≡ false → times cell (map (λ x. x.1) entries) ≡ 0) → bit (e.1 == cell) + times cell (map (λ x. x.1) entries) ≡ 0
    go true here more = absurd (false≢true (sym left ∙ ap (λ b. (b && not (is_flagged kept cell)) || is_freed kept entries cell) here ∙ ap (λ b. not b || is_freed kept entries cell) flag))
    go false here more =
        let none : bit (e.1 == cell) ≡ 0 = ap bit here in
        let rest = more (sym (ap (λ b. (b && not (is_flagged kept cell)) || is_freed kept entries cell) here) ∙ left) in
        omega arith

-- ---- what a kept object holds

pub same_slots : (kept : List Bool) (slots : List CellSlot) → All (λ s. IfSome s.held (λ cell. IsTrue (is_flagged kept cell))) slots → map (slot_after kept) slots ≡ slots
same_slots kept [] all = refl
same_slots kept (s ∷ slots) all =
    ap (λ x. x ∷ map (slot_after kept) slots) (one s.held (all 0 s (omega arith)))
    ∙ ap (λ l. s ∷ l) (same_slots kept slots (λ k d h. all (suc k) d (omega arith)))
  where
    one : (o : Option ℕ) → IfSome o (λ cell. IsTrue (is_flagged kept cell)) → slot_after kept (record { held = o; weak = s.weak }) ≡ record { held = o; weak = s.weak }
    one None h = refl
    one (Some cell) h = rw h refl

module _ (p : TableParts) (is : IsTable p) (kept : List Bool) (number first : ℕ) (before : All (λ e. e.0 ≤ number) (take first p.ids))
    (after : All (λ e. number < e.0) (drop first p.ids)) (within : first ≤ length p.ids)
    (others : (id : ℕ) → IsTrue (is_live (placed_of p).table id) → id ≤ number → IsTrue (has_id (kept_ids (placed_of p).cells kept) id))
    (stacked : IsStacked (placed_of p) number) (held_kept : HoldKept (placed_of p) (kept_ids (placed_of p).cells kept)) where
  abbrev later_ids : List (ℕ × ℕ)
  later_ids = drop first p.ids

  stands_in : (k : ℕ) (d : ℕ × ℕ) → k < length p.ids → id_in (placed_of p) (get_or p.ids k d).1 ≡ Some (get_or p.ids k d).0
  stands_in k d h = id_in-held p is.laid (get_or p.ids k d).1 ∙ is.laid.stands k d h

  pub all_kept : All (λ e. IsTrue (is_flagged kept e.1)) (take first p.ids)
  all_kept k d h =
      let long = length-take-le first p.ids within in
      let same : get_or (take first p.ids) k d ≡ get_or p.ids k d = get_or-take first p.ids k d (omega arith) in
      let low = before k d h in
      let e : ℕ × ℕ = get_or p.ids k d in
      let at = stands_in k d (omega arith) in
      let live = (is_placed p is.laid).live e.1 e.0 at in
      let has = others e.0 live (omega (arith, low, ap (λ (x : ℕ × ℕ). x.0) same)) in
      ap (λ (x : ℕ × ℕ). is_flagged kept x.1) same ∙ sym (kept_cell p is.laid kept e.1 e.0 (is.laid.stands k d (omega arith))) ∙ has

  nth : (k : ℕ) (d : ℕ × ℕ) → get_or later_ids k d ≡ get_or p.ids (first + k) d
  nth k d = get_or-drop first p.ids k d

  pub in_order : StandInOrder p.cells later_ids
  in_order = record {
    rising = λ i j d less h.
        let rest : length later_ids ≡ length p.ids - first = length-drop first p.ids in
        let a = after i d (omega arith) in
        let up = is.laid.rising (first + i) (first + j) d (omega arith) (omega arith) in
        let low =
        stacked.rising (get_or p.ids (first + i) d).1 (get_or p.ids (first + j) d).1 (get_or p.ids (first + i) d).0
        (get_or p.ids (first + j) d).0 (stands_in (first + i) d (omega arith)) (stands_in (first + j) d (omega arith))
        (subst (λ (e : ℕ × ℕ). number < e.0) (nth i d) a) up in
        omega (arith, low, ap (λ (e : ℕ × ℕ). e.1) (nth i d), ap (λ (e : ℕ × ℕ). e.1) (nth j d));
    full = λ k d h lower low.
        let rest : length later_ids ≡ length p.ids - first = length-drop first p.ids in
        let e : ℕ × ℕ = get_or p.ids (first + k) d in
        let same = ap (λ (x : ℕ × ℕ). x.1) (nth k d) in
        let at = stands_in (first + k) d (omega arith) in
        ⊎_elim
        (λ (here : lower ≡ e.1). let (o, held, its) = held_with_id p.cells e.1 e.0 (is.laid.stands (first + k) d (omega arith)) in ap (is_taken p.cells) here ∙ taken_with p.cells e.1 o held)
        (λ apart. taken_in lower (stacked.full e.0 (subst (λ (x : ℕ × ℕ). number < x.0) (nth k d) (after k d h)) e.1 lower at (omega (arith, low, same))))
        (cases_eq lower e.1);
  }
    where
      taken_in : (cell : ℕ) → IsSome (id_in (placed_of p) cell) → is_taken p.cells cell ≡ true
      taken_in cell some = go (held_at p.cells cell) refl (subst IsSome (id_in-held p is.laid cell) some)
        where
          go : (o : Option Resident) → held_at p.cells cell ≡ o → IsSome (option_map (λ (q : Resident). q.id) o) → is_some o ≡ true
          go None e some = absurd cc
          go (Some o) e some = refl

  -- a kept object stays as it is
  same_resident : (cell : ℕ) (o : Resident) → held_at p.cells cell ≡ Some o → is_flagged kept cell ≡ true → resident_after kept o ≡ o
  same_resident cell o held flag =
      let has_it : id_held p.cells cell ≡ Some o.id = ap (option_map (λ (q : Resident). q.id)) held in
      let kept_it = kept_cell p is.laid kept cell o.id has_it ∙ flag in
      let all = subst (All (HoldsOf (kept_ids (placed_of p).cells kept))) (slots_in-held p is.laid cell o held) (held_kept cell o.id (id_in-held p is.laid cell ∙ has_it) kept_it) in
      let taken : All (HoldsTaken p.cells) o.slots = of_some (λ q. All (HoldsTaken p.cells) q.slots) (held_at p.cells cell) o (is.laid.leads cell) held in
      ap (λ l. record o { slots = l }) (same_slots kept o.slots (each o.slots all taken))
    where
      one : (h : Option ℕ) (weak : Bool) → HoldsOf (kept_ids (placed_of p).cells kept) (slot_of p.cells (record { held = h; weak = weak })) →
          IfSome h (λ c. IsTrue (is_taken p.cells c)) → IfSome h (λ c. IsTrue (is_flagged kept c))
      one None weak holds taken = tt
      one (Some c) weak holds taken =
          let (q, at) = held_taken p.cells c taken in
          let its : id_held p.cells c ≡ Some q.id = ap (option_map (λ (u : Resident). u.id)) at in
          sym (kept_cell p is.laid kept c q.id its) ∙ of_some (λ id. IsTrue (has_id (kept_ids (placed_of p).cells kept) id)) (id_held p.cells c) q.id holds its

      each : (slots : List CellSlot) → All (HoldsOf (kept_ids (placed_of p).cells kept)) (map (slot_of p.cells) slots) →
          All (HoldsTaken p.cells) slots → All (λ s. IfSome s.held (λ c. IsTrue (is_flagged kept c))) slots
      each slots all taken k d h =
          one (get_or slots k d).held (get_or slots k d).weak
          (subst (HoldsOf (kept_ids (placed_of p).cells kept)) (get_or-map (slot_of p.cells) slots k d (slot_of p.cells d) h)
          (all k (slot_of p.cells d) (omega (arith, length-map slots (slot_of p.cells)))))
          (taken k d h)

  module _ (later : List (Option Resident)) (freed : (cell : ℕ) → held_at later cell ≡ held_unless (is_freed kept later_ids cell) p.cells cell) where
    pub held_is_after : (cell : ℕ) → held_at later cell ≡ held_after kept p.cells cell
    held_is_after cell = go (is_flagged kept cell) refl
      where
        same : (o : Option Resident) → held_at p.cells cell ≡ o → is_flagged kept cell ≡ true → option_map (resident_after kept) o ≡ o
        same None e flag = refl
        same (Some o) e flag = ap Some (same_resident cell o e flag)

        left : is_flagged kept cell ≡ false → (b : Bool) → is_freed kept later_ids cell ≡ b → held_unless b p.cells cell ≡ None
        left flag true e = refl
        left flag false e =
            let none : times cell (map (λ x. x.1) p.ids) ≡ 0 =
            ap (λ l. times cell (map (λ (x : ℕ × ℕ). x.1) l)) (sym (take-append-drop first p.ids))
            ∙ ap (times cell) (map-append (λ (x : ℕ × ℕ). x.1) (take first p.ids) later_ids)
            ∙ times-append cell (map (λ x. x.1) (take first p.ids)) (map (λ x. x.1) later_ids)
            ∙ omega (arith, times_kept kept (take first p.ids) cell all_kept flag, times_left kept later_ids cell e flag) in
            empty (held_at p.cells cell) refl (sym (is.laid.once cell) ∙ none)
          where
            empty : (o : Option Resident) → held_at p.cells cell ≡ o → bit (is_taken p.cells cell) ≡ 0 → held_at p.cells cell ≡ None
            empty None e none = e
            empty (Some o) e none = let one : bit (is_taken p.cells cell) ≡ 1 = ap (λ q. bit (is_some q)) e in absurd (omega arith)

        go : (b : Bool) → is_flagged kept cell ≡ b → held_at later cell ≡ held_after kept p.cells cell
        go true flag =
            freed cell
            ∙ ap (λ b. held_unless b p.cells cell) (kept_stays kept later_ids cell flag)
            ∙ sym (same (held_at p.cells cell) refl flag)
            ∙ ap (λ b. cond b (option_map (resident_after kept) (held_at p.cells cell)) None) (sym flag)
        go false flag =
            freed cell
            ∙ left flag (is_freed kept later_ids cell) refl
            ∙ ap (λ b. cond b (option_map (resident_after kept) (held_at p.cells cell)) None) (sym flag)

    module _ (n : ℕ) (counted : n + sum_by (λ e. slots_at_cell p.cells e.1) (filter (λ e. is_flagged kept e.1) later_ids) ≡ sum_by (λ e. slots_at_cell p.cells e.1) later_ids) where
      abbrev flagged : ℕ × ℕ → Bool
      flagged e = is_flagged kept e.1

      abbrev count : List (ℕ × ℕ) → ℕ
      count es = sum_by (λ e. slots_at_cell p.cells e.1) es

      counted_whole : n + count (filter flagged p.ids) ≡ count p.ids
      counted_whole =
          let whole : filter flagged p.ids ≡ take first p.ids ++ filter flagged later_ids =
          ap (filter flagged) (sym (take-append-drop first p.ids)) ∙ filter-append flagged (take first p.ids) later_ids
          ∙ ap (λ l. l ++ filter flagged later_ids) (filter_all flagged (take first p.ids) all_kept) in
          let stay : count (filter flagged p.ids) ≡ count (take first p.ids) + count (filter flagged later_ids) =
          ap count whole ∙ sum_by-append (λ (e : ℕ × ℕ). slots_at_cell p.cells e.1) (take first p.ids) (filter flagged later_ids) in
          omega (arith, sum_by-take-drop (λ (e : ℕ × ℕ). slots_at_cell p.cells e.1) p.ids first)

      pub freed_fits : n ≤ p.slots
      freed_fits = slots.freed_fits p is kept later held_is_after n counted_whole

      pub slots_left : p.slots - n ≡ sum_by (λ e. slots_at_cell later e.1) (filter flagged p.ids)
      slots_left = slots.slots_left p is kept later held_is_after n counted_whole
