-- Where every object is kept, nothing changes.
use Rattle.std.proofs.Common.{◌≡◌, ℕ, List, Bool, true, false, cond, IsTrue, Option, Some, None, IfSome, refl, sym, ◌∙◌, ap}
use Rattle.std.specs.List.{All}
use Rattle.std.specs.Option.{option_map}
use Rattle.std.proofs.lemmas.List.Elements.{All-weaker}
use Rattle.graph_meaning.specs.Collecting.{with_only}
use Rattle.object_table.specs.Placed.{kept_ids}
use Rattle.object_table.specs.Parts.{TableParts, placed_of, HoldsTaken, IsLaidOut}
use Rattle.object_table.specs.Residents.{Resident, is_flagged, resident_after, held_at, held_after, is_taken}
use Rattle.object_table.proofs.Lookups.{found-somewhere}
use Rattle.object_table.proofs.Parts.{held_taken, taken_with, found_held}
use Rattle.object_table.proofs.Changes.{kept_is}
use Rattle.object_table.proofs.Freed.{filter_all}
use Rattle.object_table.proofs.KeptLater.{same_slots}

module _ (p : TableParts) (laid : IsLaidOut p) (kept : List Bool) (all : All (λ e. IsTrue (is_flagged kept e.1)) p.ids) where
  -- each taken cell is kept, for an id leads to it
  taken_flagged : (cell : ℕ) → is_taken p.cells cell ≡ true → is_flagged kept cell ≡ true
  taken_flagged cell taken =
      let (o, held) = held_taken p.cells cell taken in
      let (i, within, at) = found-somewhere p.ids o.id cell (found_held p laid o.id cell (ap (option_map (λ (q : Resident). q.id)) held)) in
      let d : ℕ × ℕ = (0, 0) in
      ap (λ (e : ℕ × ℕ). is_flagged kept e.1) (sym (at d)) ∙ all i d within

  -- an object whose slots hold taken cells stays as it is
  same_resident : (o : Resident) → All (HoldsTaken p.cells) o.slots → resident_after kept o ≡ o
  same_resident o leads =
      ap (λ l. record o { slots = l })
      (same_slots kept o.slots (All-weaker (HoldsTaken p.cells) (λ s. IfSome s.held (λ c. IsTrue (is_flagged kept c))) (λ s taken. flagged s.held taken) o.slots leads))
    where
      flagged : (h : Option ℕ) → IfSome h (λ c. IsTrue (is_taken p.cells c)) → IfSome h (λ c. IsTrue (is_flagged kept c))
      flagged None taken = tt
      flagged (Some c) taken = taken_flagged c taken

  -- what is left of what a cell holds
  abbrev left : Bool → Option Resident → Option Resident
  left b o = cond b (option_map (resident_after kept) o) None

  -- each cell holds what it holds after the cells that are not kept were emptied
  same_held : (cell : ℕ) → held_at p.cells cell ≡ held_after kept p.cells cell
  same_held cell = go (held_at p.cells cell) refl (laid.leads cell)
    where
      nothing : (b : Bool) → None ≡ left b None
      nothing true = refl
      nothing false = refl

      go : (o : Option Resident) → held_at p.cells cell ≡ o → IfSome o (λ q. All (HoldsTaken p.cells) q.slots) → held_at p.cells cell ≡ held_after kept p.cells cell
      go None is leads = is ∙ nothing (is_flagged kept cell) ∙ ap (left (is_flagged kept cell)) (sym is)
      go (Some o) is leads =
          is
          ∙ ap Some (sym (same_resident o leads))
          ∙ ap (λ b. left b (Some o)) (sym (taken_flagged cell (taken_with p.cells cell o is)))
          ∙ ap (left (is_flagged kept cell)) (sym is)

  -- the table is the one with the kept objects alone
  pub same_with_only : (placed_of p).table ≡ with_only (kept_ids (placed_of p).cells kept) (placed_of p).table
  same_with_only =
      ap (λ l. (placed_of (record p { ids = l })).table) (sym (filter_all (λ e. is_flagged kept e.1) p.ids all))
      ∙ kept_is p laid kept p.cells same_held p.slots
