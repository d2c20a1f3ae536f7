-- Strong slots of kept objects hold kept ones, so a sweep empties weak slots alone.
use Rattle.std.proofs.Common.{◌≡◌, ℕ, ◌<◌, List, [], ◌∷◌, length, map, get_or, take, drop, Bool, true, false, cond, IsTrue, Option, None, Some}
use Rattle.std.proofs.Common.{refl, sym, ap, subst, ◌∙◌, arith, ◌-◌, ◌≤◌, ◌⊎◌, inl, inr, slice_get}
use Rattle.std.specs.List.{All, filter_map, enumerate_from}
use Rattle.std.specs.Option.{IfSome, option_and_then, option_map, option_map_or}
use Rattle.std.proofs.lemmas.Bool.{cases_lt}
use Rattle.std.proofs.lemmas.List.{get_or-map, get_or-take, get_or_past, length-map, length-take-le}
use Rattle.std.proofs.lemmas.List.Elements.{All-head, All-tail, All-map, All-weaker}
use Rattle.std.proofs.lemmas.Option.{slice_get-get_or}
use Rattle.std.proofs.Math.ListN.{get_or-append}
use Rattle.graph_meaning.specs.Heap.{Slot, Object, edge_of, numbered_edge, object_at, targets}
use Rattle.graph_meaning.specs.Reach.{has_id}
use Rattle.graph_meaning.proofs.EdgesOfSlots.{LeadsInto, edges_lead}
use Rattle.object_table.specs.Chains.{cells_after, resident_in}
use Rattle.object_table.specs.Parts.{TableParts, HoldsTaken, IsLaidOut, object_of, placed_of, slot_of}
use Rattle.object_table.specs.Placed.{LeadsToKept, kept_ids}
use Rattle.object_table.specs.Residents.{Resident, StrongHoldKept, StrongLeadToKept, held_at, id_held, is_flagged, is_taken, slot_after, slot_cleared}
use Rattle.object_table.specs.declared.cell.Cell.{Cell}
use Rattle.object_table.specs.declared.cell.Cell.TheVariants.{Empty}
use Rattle.object_table.specs.declared.slot.Slot.{Slot as CellSlot}
use Rattle.object_table.proofs.Changes.{kept_cell}
use Rattle.object_table.proofs.Housing.{IsSwept, front_held, swept_within}
use Rattle.object_table.proofs.Parts.{held_taken, id_in-held, object_in-held}

-- ---- one object

-- where no slot is weak, and none of the strong ones is emptied, all stay
pub none_emptied : (kept : List Bool) (slots : List CellSlot) → All (λ s. s.weak ≡ false → slot_after kept s ≡ s) slots → All (λ s. s.weak ≡ false) slots → map (slot_after kept) slots ≡ slots
none_emptied kept [] stay strong = refl
none_emptied kept (s ∷ slots) stay strong =
    let here = All-head (λ u. u.weak ≡ false → slot_after kept u ≡ u) s slots stay (All-head (λ u. u.weak ≡ false) s slots strong) in
    let rest = none_emptied kept slots (All-tail (λ u. u.weak ≡ false → slot_after kept u ≡ u) s slots stay) (All-tail (λ u. u.weak ≡ false) s slots strong) in
    λ i. here i ∷ rest i

weak-cleared : (marked : List Bool) (s : CellSlot) → (slot_cleared marked s).weak ≡ s.weak
weak-cleared marked s = go (option_map_or (is_flagged marked) s.held false)
  where
    go : (b : Bool) → (let left : CellSlot = cond b (record s { held = None }) s in left).weak ≡ s.weak
    go true = refl
    go false = refl

-- strong slots that are cleared stay strong
pub strong-cleared : (marked : List Bool) (slots : List CellSlot) → All (λ s. s.weak ≡ false) slots → All (λ s. s.weak ≡ false) (map (slot_cleared marked) slots)
strong-cleared marked slots strong =
    All-map (λ s. s.weak ≡ false) (slot_cleared marked) slots
    (All-weaker (λ s. s.weak ≡ false) (λ s. (slot_cleared marked s).weak ≡ false) (λ s is. weak-cleared marked s ∙ is) slots strong)

-- ---- all objects

module _ (p : TableParts) (laid : IsLaidOut p) (kept : List Bool) (leads : LeadsToKept (placed_of p).table (kept_ids (placed_of p).cells kept))
    (cell : ℕ) (o : Resident) (held : held_at p.cells cell ≡ Some o) (flagged : is_flagged kept cell ≡ true) where
  its_id : id_held p.cells cell ≡ Some o.id
  its_id = ap (option_map (λ (q : Resident). q.id)) held

  object_is : object_at (placed_of p).table.objects o.id ≡ Some (object_of p.kinds p.cells o)
  object_is =
      sym (ap (option_and_then (object_at (placed_of p).table.objects)) (id_in-held p laid cell ∙ its_id)) ∙ object_in-held p laid cell o held

  -- what an edge leads to stands in a kept cell
  target_kept : (k : ℕ) (d : CellSlot) → k < length o.slots → (c y : ℕ) → id_held p.cells c ≡ Some y → edge_of (slot_of p.cells (get_or o.slots k d)) ≡ Some y → is_flagged kept c ≡ true
  target_kept k d here c y at edge =
      let slots : List Slot = map (slot_of p.cells) o.slots in
      let same : get_or slots k (slot_of p.cells d) ≡ slot_of p.cells (get_or o.slots k d) = get_or-map (slot_of p.cells) o.slots k d (slot_of p.cells d) here in
      let lead : LeadsInto (filter_map numbered_edge (enumerate_from 0 slots)) (get_or slots k (slot_of p.cells d)) =
      edges_lead 0 slots k (slot_of p.cells d) (omega (arith, here, length-map o.slots (slot_of p.cells))) in
      let target : IsTrue (has_id (map (λ e. e.1) (filter_map numbered_edge (enumerate_from 0 slots))) y) =
      subst (λ q. IfSome q (λ z. IsTrue (has_id (map (λ e. e.1) (filter_map numbered_edge (enumerate_from 0 slots))) z))) (ap edge_of same ∙ edge) lead in
      let among : IsTrue (has_id (targets (placed_of p).table o.id) y) =
      subst (λ q. IsTrue (has_id (map (λ e. e.1) (option_map_or (λ (u : Object). filter_map numbered_edge (enumerate_from 0 u.slots)) q [])) y)) (sym object_is) target in
      sym (kept_cell p laid kept c y at) ∙ leads.by_edges o.id y (kept_cell p laid kept cell o.id its_id ∙ flagged) among

  strong_stays : (k : ℕ) (d : CellSlot) → k < length o.slots → (s : CellSlot) → get_or o.slots k d ≡ s → HoldsTaken p.cells s → s.weak ≡ false → (h : Option ℕ) → s.held ≡ h → slot_after kept s ≡ s
  strong_stays k d here s is taken strong None empty = rw empty refl
  strong_stays k d here s is taken strong (Some c) full =
      let at_taken : is_taken p.cells c ≡ true = subst (λ q. IfSome q (λ x. IsTrue (is_taken p.cells x))) full taken in
      let (u, there) = held_taken p.cells c at_taken in
      let at : id_held p.cells c ≡ Some u.id = ap (option_map (λ (q : Resident). q.id)) there in
      let edge : edge_of (slot_of p.cells (get_or o.slots k d)) ≡ Some u.id = ap (λ q. edge_of (slot_of p.cells q)) is ∙ (rw (strong, full) at) in
      rw (full, target_kept k d here c u.id at edge) refl

-- where no edge of a kept object leads to one that is not kept
pub strong_lead_to_kept : (p : TableParts) → IsLaidOut p → (kept : List Bool) → LeadsToKept (placed_of p).table (kept_ids (placed_of p).cells kept) → StrongLeadToKept kept p.cells
strong_lead_to_kept p laid kept leads cell flagged = go (held_at p.cells cell) refl (laid.leads cell)
  where
    go : (o : Option Resident) → held_at p.cells cell ≡ o → IfSome o (λ r. All (HoldsTaken p.cells) r.slots) → IfSome o (StrongHoldKept kept)
    go None is taken = tt
    go (Some o) is taken = λ k d here strong. strong_stays p laid kept leads cell o is flagged k d here (get_or o.slots k d) refl (taken k d here) strong (get_or o.slots k d).held refl

-- ---- cells of a list

-- what a place of the list holds, by the cell there
pub held_in-cells : (cells : List Cell) (cell : ℕ) (d : Cell) → cell < length cells → held_at (map resident_in cells) cell ≡ resident_in (get_or cells cell d)
held_in-cells cells cell d here = get_or-map resident_in cells cell d None here

-- it is the same in the first cells
pub strong-front : (kept : List Bool) (before after : List Cell) → after ≡ take (length after) before → StrongLeadToKept kept (map resident_in before) → StrongLeadToKept kept (map resident_in after)
strong-front kept before after front lead cell flagged = go (cases_lt cell (length after))
  where
    go : (cell < length after) ⊎ (length after ≤ cell) → IfSome (held_at (map resident_in after) cell) (StrongHoldKept kept)
    go (inl within) =
        let same = front_held before after front cell within in
        subst (λ q. IfSome q (StrongHoldKept kept)) (sym same) (lead cell flagged)
    go (inr past) = subst (λ q. IfSome q (StrongHoldKept kept)) (sym (get_or_past (map resident_in after) cell None (omega (arith, past, length-map after resident_in)))) tt

-- and in a cell that a sweep did not come to yet
pub strong-not_swept : (kept : List Bool) (old now : List Cell) (i : ℕ) (first : Option ℕ) → IsSwept kept old now i first → 0 < i →
    StrongLeadToKept kept (map resident_in old) → IsTrue (is_flagged kept (i - 1)) →
    IfSome (held_at (map resident_in now) (i - 1)) (StrongHoldKept kept)
strong-not_swept kept old now i first is positive lead flagged =
    let within = is.within in
    let front : length (take i old) ≡ i = length-take-le i old within in
    let same : get_or now (i - 1) (Empty None) ≡ get_or old (i - 1) (Empty None) =
    ap (λ cs. get_or cs (i - 1) (Empty None)) is.cells
    ∙ (get_or-append (take i old) (cells_after kept i (drop i old)) (Empty None) (i - 1) (omega (arith, front, positive)) ∙ get_or-take i old (i - 1) (Empty None) (omega arith)) in
    let here = swept_within kept old now i first is positive in
    subst (λ q. IfSome q (StrongHoldKept kept))
    (held_in-cells old (i - 1) (Empty None) (omega (arith, within, positive))
    ∙ (ap resident_in (sym same) ∙ sym (held_in-cells now (i - 1) (Empty None) here))) (lead (i - 1) flagged)

-- what is said of a place of the list, as of what it holds
pub strong-at : (kept : List Bool) (cells : List Cell) (cell : ℕ) → cell < length cells →
    IfSome (held_at (map resident_in cells) cell) (StrongHoldKept kept) →
    IfSome (slice_get cells cell) (λ c. IfSome (resident_in c) (StrongHoldKept kept))
strong-at kept cells cell here strong =
    subst (λ q. IfSome q (λ c. IfSome (resident_in c) (StrongHoldKept kept))) (sym (slice_get-get_or cells cell (Empty None) here))
    (subst (λ q. IfSome q (StrongHoldKept kept)) (held_in-cells cells cell (Empty None) here) strong)
