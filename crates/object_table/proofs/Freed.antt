-- Objects that are freed one by one, in the order opposite to that in which they were added.
use Rattle.std.proofs.Common.{◌≡◌, ℕ, zero, suc, ◌+◌, ◌-◌, ◌<◌, ◌≤◌, List, [], ◌∷◌, length, map, take, drop, filter, set, get_or, Bool, true, false}
use Rattle.std.proofs.Common.{not, cond, ◌&&◌, ◌||◌, ◌==◌, IsTrue, Option, Some, None, IsSome, refl, sym, ◌∙◌, ap, subst, eq-eqb, ne_eqb, ◌≢◌, ◌⊎◌}
use Rattle.std.proofs.Common.{inl, inr, is_some, unwrap_or, arith, ⊎_elim, length-drop}
use Rattle.std.specs.List.{All, sum_by}
use Rattle.std.proofs.lemmas.Bool.{cases_eq}
use Rattle.std.proofs.lemmas.List.{length-set, drop_more, get_or-take, get_or-drop, get_or-set_other, get_or_default, length-take-le}
use Rattle.std.proofs.lemmas.List.Sums.{sum_by-cons, sum_by-take-drop}
use Rattle.object_table.specs.declared.cell.Cell.{Cell}
use Rattle.object_table.specs.declared.cell.Cell.TheVariants.{Taken, Empty}
use Rattle.object_table.specs.Residents.{Resident, is_flagged, held_at, is_taken}
use Rattle.object_table.specs.Located.{RisesById}
use Rattle.object_table.specs.Parts.{nobody, slots_at_cell, held_unless, is_freed, StandInOrder}
use Rattle.object_table.specs.Chains.{resident_in, first_empty, IsLinked, IsHoused}

-- ---- one cell

-- no cell up to this one is empty
abbrev IsFullTo : ℕ → List Cell → Type 0
IsFullTo cell cells = (lower : ℕ) → lower ≤ cell → IsSome (held_at (map resident_in cells) lower)

freed_linked : (n j : ℕ) (cells : List Cell) → IsLinked n cells → IsFullTo j cells →
    (first_empty n (set cells j (Empty (first_empty n cells))) ≡ Some (n + j)) × IsLinked n (set cells j (Empty (first_empty n cells)))
freed_linked n j [] linked full = let none = full 0 (omega arith) in absurd cc
freed_linked n zero (Taken o ∷ cells) linked full = (ap Some (omega arith), (refl, linked.1))
freed_linked n (suc j) (Taken o ∷ cells) linked full =
    let rest = freed_linked (n + 1) j cells linked.1 (λ lower h. full (suc lower) (omega arith)) in
    (rest.0 ∙ ap Some (omega arith), (tt, rest.1))
freed_linked n j (Empty next ∷ cells) linked full = let none = full 0 (omega arith) in absurd cc

pub freed_housed : (cells : List Cell) (first : Option ℕ) (cell : ℕ) → IsHoused cells first → IsFullTo cell cells → IsHoused (set cells cell (Empty first)) (Some cell)
freed_housed cells first cell is full =
    let there = freed_linked 0 cell cells is.linked full in
    let few = is.few in
    rw is.first_is (record {
      first_is = ap Some (omega arith) ∙ sym there.0;
      linked = there.1;
      few = omega (arith, length-set cells cell (Empty (first_empty 0 cells)));
    })

-- ---- a list of entries

-- where all pass, all stay
pub filter_all : {X : Type 0} (p : X → Bool) (xs : List X) → All (λ x. IsTrue (p x)) xs → filter p xs ≡ xs
filter_all p [] all = refl
filter_all p (x ∷ xs) all =
    ap (λ b. cond b (x ∷ filter p xs) (filter p xs)) (all 0 x (omega arith)) ∙ ap (λ l. x ∷ l) (filter_all p xs (λ k d h. all (suc k) d (omega arith)))

-- where the id before a place isn't above a number, no id before the place is
pub none_before : (entries : List (ℕ × ℕ)) (place number : ℕ) (e : ℕ × ℕ) → RisesById entries → 0 < place → place ≤ length entries →
    e ≡ get_or entries (place - 1) e → e.0 ≤ number → All (λ x. x.0 ≤ number) (take place entries)
none_before entries place number e rises some within is low k d h =
    let long = length-take-le place entries within in
    let here : get_or (take place entries) k d ≡ get_or entries k d = get_or-take place entries k d (omega arith) in
    subst (λ (x : ℕ × ℕ). x.0 ≤ number) (sym here) (
    ⊎_elim
    (λ (last : k ≡ place - 1). omega (arith, low, ap (λ (x : ℕ × ℕ). x.0) (is ∙ sym (ap (λ j. get_or entries j e) last) ∙ get_or_default entries k e d (omega arith))))
    (λ apart. let below = rises k (place - 1) d (omega arith) (omega arith) in omega (arith, low, below, ap (λ (x : ℕ × ℕ). x.0) (is ∙ get_or_default entries (place - 1) e d (omega arith))))
    (cases_eq k (place - 1))
    )

-- ---- cells that are freed

or_last : (a b : Bool) → a ≡ false → b ≡ false → (a || b) ≡ false
or_last a b first none = rw (first, none) refl

module _ (kept : List Bool) where
  set_none : (cells : List (Option Resident)) (cell : ℕ) → held_at (set cells cell None) cell ≡ None
  set_none [] cell = refl
  set_none (c ∷ cells) zero = refl
  set_none (c ∷ cells) (suc cell) = set_none cells cell

  -- no cell below those of these entries is one of them
  pub lower_stays : (entries : List (ℕ × ℕ)) (lower : ℕ) → All (λ e. lower < e.1) entries → is_freed kept entries lower ≡ false
  lower_stays [] lower below = refl
  lower_stays (e ∷ entries) lower below =
      let here : lower < e.1 = below 0 e (omega arith) in
      or_last ((e.1 == lower) && not (is_flagged kept lower)) (is_freed kept entries lower)
      (ap (λ b. b && not (is_flagged kept lower)) (ne_eqb e.1 lower (λ same. omega arith)))
      (lower_stays entries lower (λ k d h. below (suc k) d (omega arith)))

  -- a kept cell is not freed
  pub kept_stays : (entries : List (ℕ × ℕ)) (cell : ℕ) → is_flagged kept cell ≡ true → is_freed kept entries cell ≡ false
  kept_stays [] cell flag = refl
  kept_stays (e ∷ entries) cell flag =
      or_last ((e.1 == cell) && not (is_flagged kept cell)) (is_freed kept entries cell)
      (ap (λ b. (e.1 == cell) && not b) flag ∙ and_false (e.1 == cell))
      (kept_stays entries cell flag)
    where
      and_false : (b : Bool) → (b && false) ≡ false
      and_false true = refl
      and_false false = refl

  -- the cell of one of the entries is freed where it isn't kept
  pub other_is_freed : (entries : List (ℕ × ℕ)) (k : ℕ) (d : ℕ × ℕ) → k < length entries → is_flagged kept (get_or entries k d).1 ≡ false → is_freed kept entries (get_or entries k d).1 ≡ true
  other_is_freed [] k d h flag = absurd (omega arith)
  other_is_freed (e ∷ entries) zero d h flag = rw (eq-eqb e.1 e.1 refl, flag) refl
  other_is_freed (e ∷ entries) (suc k) d h flag =
      or_right ((e.1 == (get_or entries k d).1) && not (is_flagged kept (get_or entries k d).1)) (is_freed kept entries (get_or entries k d).1) (other_is_freed entries k d (omega arith) flag)
    where
      or_right : (a b : Bool) → b ≡ true → (a || b) ≡ true
      or_right true b is = refl
      or_right false b is = is

  module _ (cells : List (Option Resident)) (all : List (ℕ × ℕ)) (first place : ℕ) (stacked : StandInOrder cells (drop first all)) (late : first < place) (within : place ≤ length all) where
    -- the entry before the place
    abbrev here : ℕ × ℕ → ℕ × ℕ
    here d = get_or all (place - 1) d

    nth : (j : ℕ) (d : ℕ × ℕ) → first ≤ j → get_or (drop first all) (j - first) d ≡ get_or all j d
    nth j d h = get_or-drop first all (j - first) d ∙ ap (λ k. get_or all k d) (omega arith)

    -- its cell is below those of the entries from the place on
    pub cells_above : (d : ℕ × ℕ) → All (λ e. (here d).1 < e.1) (drop place all)
    cells_above d k e h =
        let long : length (drop place all) ≡ length all - place = length-drop place all in
        let rest : length (drop first all) ≡ length all - first = length-drop first all in
        let above = stacked.rising (place - 1 - first) (place + k - first) d (omega arith) (omega arith) in
        let one = ap (λ (x : ℕ × ℕ). x.1) (nth (place - 1) d (omega arith)) in
        let other = ap (λ (x : ℕ × ℕ). x.1) (nth (place + k) d (omega arith) ∙ sym (get_or-drop place all k d) ∙ get_or_default (drop place all) k d e h) in
        omega (arith, above, one, other)

    -- no cell up to its own is empty or freed
    pub full_here : (d : ℕ × ℕ) (lower : ℕ) → lower ≤ (here d).1 → IsTrue (is_taken cells lower) × (is_freed kept (drop place all) lower ≡ false)
    full_here d lower low =
        let rest : length (drop first all) ≡ length all - first = length-drop first all in
        let one = ap (λ (x : ℕ × ℕ). x.1) (nth (place - 1) d (omega arith)) in (
          stacked.full (place - 1 - first) d (omega arith) lower (omega (arith, one)),
          lower_stays (drop place all) lower (λ k e h. let above = cells_above d k e h in omega arith),
        )

    module _ (now : List (Option Resident)) (freed : (cell : ℕ) → held_at now cell ≡ held_unless (is_freed kept (drop place all) cell) cells cell) (d : ℕ × ℕ) where
      still : (lower : ℕ) → lower ≤ (here d).1 → held_at now lower ≡ held_at cells lower
      still lower low = freed lower ∙ ap (λ b. held_unless b cells lower) (full_here d lower low).1

      pub full_now : (cell : ℕ) → cell ≡ (here d).1 → (lower : ℕ) → lower ≤ cell → IsSome (held_at now lower)
      full_now cell is lower low = ap is_some (still lower (omega (arith, is))) ∙ (full_here d lower (omega (arith, is))).0

      -- how many slots the object has
      pub slots_here : (cell n : ℕ) (o : Resident) → cell ≡ (here d).1 → held_at now cell ≡ Some o → n ≡ length o.slots → n ≡ slots_at_cell cells (here d).1
      slots_here cell n o is held counted =
          counted ∙ sym (ap (λ (q : Option Resident). length (unwrap_or q nobody).slots) (sym (still (here d).1 (omega arith)) ∙ ap (held_at now) (sym is) ∙ held))

      next_entry : drop (place - 1) all ≡ here d ∷ drop place all
      next_entry = drop_more all (place - 1) d (omega arith) ∙ ap (λ k. here d ∷ drop k all) (omega arith)

      -- it is kept
      pub freed_kept : is_flagged kept (here d).1 ≡ true → (cell : ℕ) → held_at now cell ≡ held_unless (is_freed kept (drop (place - 1) all) cell) cells cell
      freed_kept flag cell =
          freed cell
          ∙ ap (λ b. held_unless b cells cell) (sym (go (cases_eq (here d).1 cell)))
          ∙ ap (λ es. held_unless (is_freed kept es cell) cells cell) (sym next_entry)
        where
          go : ((here d).1 ≡ cell) ⊎ ((here d).1 ≢ cell) → is_freed kept (here d ∷ drop place all) cell ≡ is_freed kept (drop place all) cell
          go (inl same) = ap (λ b. (((here d).1 == cell) && not b) || is_freed kept (drop place all) cell) (ap (is_flagged kept) (sym same) ∙ flag) ∙ no ((here d).1 == cell)
            where
              no : (b : Bool) → ((b && false) || is_freed kept (drop place all) cell) ≡ is_freed kept (drop place all) cell
              no true = refl
              no false = refl
          go (inr apart) = ap (λ b. (b && not (is_flagged kept cell)) || is_freed kept (drop place all) cell) (ne_eqb (here d).1 cell apart)

      -- it is freed
      pub freed_more : (later : List (Option Resident)) → is_flagged kept (here d).1 ≡ false → later ≡ set now (here d).1 None → (cell : ℕ) →
          held_at later cell ≡ held_unless (is_freed kept (drop (place - 1) all) cell) cells cell
      freed_more later flag put cell =
          ap (λ l. held_at l cell) put
          ∙ go (cases_eq cell (here d).1)
          ∙ ap (λ es. held_unless (is_freed kept es cell) cells cell) (sym next_entry)
        where
          go : (cell ≡ (here d).1) ⊎ (cell ≢ (here d).1) → held_at (set now (here d).1 None) cell ≡ held_unless (is_freed kept (here d ∷ drop place all) cell) cells cell
          go (inl same) =
              ap (held_at (set now (here d).1 None)) same
              ∙ set_none now (here d).1
              ∙ ap (λ b. held_unless b cells cell) (sym (other_is_freed (here d ∷ drop place all) 0 d (omega arith) flag) ∙ ap (is_freed kept (here d ∷ drop place all)) (sym same))
          go (inr apart) =
              get_or-set_other now (here d).1 cell None None apart
              ∙ freed cell
              ∙ ap (λ b. held_unless ((b && not (is_flagged kept cell)) || is_freed kept (drop place all) cell) cells cell) (sym (ne_eqb (here d).1 cell (λ same. apart (sym same))))

  -- ---- the slots of the objects that are freed

  module _ (cells : List (Option Resident)) where
    abbrev count : List (ℕ × ℕ) → ℕ
    count es = sum_by (λ e. slots_at_cell cells e.1) es

    abbrev kept_count : List (ℕ × ℕ) → ℕ
    kept_count es = count (filter (λ e. is_flagged kept e.1) es)

    pub counted_kept : (all : List (ℕ × ℕ)) (place slots : ℕ) (d : ℕ × ℕ) → 0 < place → place ≤ length all →
        is_flagged kept (get_or all (place - 1) d).1 ≡ true → slots + kept_count (drop place all) ≡ count (drop place all) →
        slots + kept_count (drop (place - 1) all) ≡ count (drop (place - 1) all)
    counted_kept all place slots d some within flag so_far =
        let e : ℕ × ℕ = get_or all (place - 1) d in
        let next : drop (place - 1) all ≡ e ∷ drop place all = drop_more all (place - 1) d (omega arith) ∙ ap (λ k. e ∷ drop k all) (omega arith) in
        let one = sum_by-cons (λ (x : ℕ × ℕ). slots_at_cell cells x.1) e (drop place all) in
        let two = sum_by-cons (λ (x : ℕ × ℕ). slots_at_cell cells x.1) e (filter (λ x. is_flagged kept x.1) (drop place all)) in
        rw (next, flag) (omega arith)

    pub counted_freed : (all : List (ℕ × ℕ)) (place slots n : ℕ) (d : ℕ × ℕ) → 0 < place → place ≤ length all →
        is_flagged kept (get_or all (place - 1) d).1 ≡ false → n ≡ slots_at_cell cells (get_or all (place - 1) d).1 →
        slots + kept_count (drop place all) ≡ count (drop place all) →
        (slots + n) + kept_count (drop (place - 1) all) ≡ count (drop (place - 1) all)
    counted_freed all place slots n d some within flag is so_far =
        let e : ℕ × ℕ = get_or all (place - 1) d in
        let next : drop (place - 1) all ≡ e ∷ drop place all = drop_more all (place - 1) d (omega arith) ∙ ap (λ k. e ∷ drop k all) (omega arith) in
        let one = sum_by-cons (λ (x : ℕ × ℕ). slots_at_cell cells x.1) e (drop place all) in
        rw (next, flag) (omega arith)

    pub count_fits : (all : List (ℕ × ℕ)) (place slots n : ℕ) (d : ℕ × ℕ) → 0 < place → place ≤ length all →
        n ≡ slots_at_cell cells (get_or all (place - 1) d).1 → slots + kept_count (drop place all) ≡ count (drop place all) → slots + n ≤ count all
    count_fits all place slots n d some within is so_far =
        let e : ℕ × ℕ = get_or all (place - 1) d in
        let next : drop (place - 1) all ≡ e ∷ drop place all = drop_more all (place - 1) d (omega arith) ∙ ap (λ k. e ∷ drop k all) (omega arith) in
        let one = ap count next ∙ sum_by-cons (λ (x : ℕ × ℕ). slots_at_cell cells x.1) e (drop place all) in
        let whole = sum_by-take-drop (λ (x : ℕ × ℕ). slots_at_cell cells x.1) all (place - 1) in
        omega arith
