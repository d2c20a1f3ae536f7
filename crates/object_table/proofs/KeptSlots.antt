-- The slots of the objects that are left where those whose cells aren't kept are freed.
use Rattle.std.proofs.Common.{◌≡◌, ℕ, ◌+◌, ◌-◌, ◌≤◌, List, [], ◌∷◌, length, filter, suc, Bool, true, cond, Option, Some, None, unwrap_or, refl, sym, ◌∙◌, ap, arith}
use Rattle.std.specs.List.{All, sum_by}
use Rattle.std.specs.Option.{option_map}
use Rattle.std.proofs.lemmas.List.{length-map}
use Rattle.std.proofs.lemmas.List.Elements.{filter_passes}
use Rattle.std.proofs.lemmas.List.Sums.{sum_by-cons}
use Rattle.object_table.specs.Residents.{Resident, is_flagged, slot_after, resident_after, held_at, held_after}
use Rattle.object_table.specs.Parts.{TableParts, nobody, slots_at_cell, IsTable}
use Rattle.object_table.proofs.Changes.{slot_count-is}

module _ (p : TableParts) (is : IsTable p) (kept : List Bool) (later : List (Option Resident)) (after : (cell : ℕ) → held_at later cell ≡ held_after kept p.cells cell) where
  abbrev flagged : ℕ × ℕ → Bool
  flagged e = is_flagged kept e.1

  abbrev count : List (ℕ × ℕ) → ℕ
  count es = sum_by (λ e. slots_at_cell p.cells e.1) es

  -- an object that stays has as many slots as before
  slots_stay : (cell : ℕ) → is_flagged kept cell ≡ true → slots_at_cell later cell ≡ slots_at_cell p.cells cell
  slots_stay cell flag =
      ap (λ (q : Option Resident). length (unwrap_or q nobody).slots) (after cell ∙ ap (λ b. cond b (option_map (resident_after kept) (held_at p.cells cell)) None) flag)
      ∙ same (held_at p.cells cell)
    where
      same : (o : Option Resident) → length (unwrap_or (option_map (resident_after kept) o) nobody).slots ≡ length (unwrap_or o nobody).slots
      same None = refl
      same (Some o) = length-map o.slots (slot_after kept)

  -- and so have those of a list
  count_stays : (es : List (ℕ × ℕ)) → All (λ e. flagged e ≡ true) es → sum_by (λ e. slots_at_cell later e.1) es ≡ count es
  count_stays [] all = refl
  count_stays (e ∷ es) all =
      let rest = count_stays es (λ k d h. all (suc k) d (omega arith)) in
      let one = slots_stay e.1 (all 0 e (omega arith)) in
      sum_by-cons (λ (x : ℕ × ℕ). slots_at_cell later x.1) e es ∙ ap (λ n. n + sum_by (λ x. slots_at_cell later x.1) es) one
      ∙ ap (λ n. slots_at_cell p.cells e.1 + n) rest ∙ sym (sum_by-cons (λ (x : ℕ × ℕ). slots_at_cell p.cells x.1) e es)

  module _ (n : ℕ) (counted : n + count (filter flagged p.ids) ≡ count p.ids) where
    total : p.slots ≡ count p.ids
    total = is.counted ∙ slot_count-is p

    pub freed_fits : n ≤ p.slots
    freed_fits = omega (arith, total)

    pub slots_left : p.slots - n ≡ sum_by (λ e. slots_at_cell later e.1) (filter flagged p.ids)
    slots_left =
        let same = count_stays (filter flagged p.ids) (filter_passes flagged p.ids) in
        omega (arith, total)
