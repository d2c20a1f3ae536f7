-- What it is to the table that the slots and roots that hold the objects of marked cells are cleared.
use Rattle.std.proofs.Common.{◌≡◌, ℕ, zero, suc, ◌+◌, ◌<◌, ◌≤◌, List, [], ◌∷◌, length, map, filter, get_or, Bool, true, false, not, cond, IsTrue}
use Rattle.std.proofs.Common.{Option, Some, None, IfSome, is_some, unwrap_or, refl, sym, ◌∙◌, ap, subst, arith}
use Rattle.std.specs.List.{All, sum_by, count_by}
use Rattle.std.specs.Option.{option_map, option_map_or}
use Rattle.std.proofs.lemmas.Bool.{false≢true}
use Rattle.std.proofs.lemmas.List.{length-map}
use Rattle.std.proofs.lemmas.List.Elements.{All-head, All-tail, All-map, All-weaker}
use Rattle.std.proofs.lemmas.List.Sums.{sum_by-cons, sum_by-le-sum_by, count_by-le-length, length-filter}
use Rattle.heap_base.specs.declared.limits.TheConstants.{MOST_SLOTS}
use Rattle.heap_base.specs.Counting.{bit, total}
use Rattle.heap_base.proofs.Counting.{total-map}
use Rattle.graph_meaning.specs.Heap.{Object, slot_count}
use Rattle.graph_meaning.specs.Reach.{has_id}
use Rattle.graph_meaning.specs.Collecting.{slot_without, object_without, cut_off, holders_of}
use Rattle.graph_meaning.proofs.Membership.{filter_agree_all}
use Rattle.object_table.specs.declared.slot.Slot.{Slot as CellSlot}
use Rattle.object_table.specs.Blocks.{roots_cleared}
use Rattle.object_table.specs.Located.{is_marked_id}
use Rattle.object_table.specs.Placed.{marked_ids, IsSound}
use Rattle.object_table.specs.Residents.{Resident, is_flagged, holds_marked, slot_cleared, resident_cleared, holders_held, held_at, id_held, is_taken}
use Rattle.object_table.specs.Parts.{TableParts, slot_of, object_of, nobody, object_at_cell, placed_of, HoldsTaken, IsLaidOut, IsTable}
use Rattle.object_table.proofs.Lookups.{found}
use Rattle.object_table.proofs.Parts.{held_with_id, held_taken, stands_found, found_held, id_in-cells, total-cells}
use Rattle.object_table.proofs.Changes.{of_some, changed_objects, has_kept, kept_cell, slots_emptied}
use Rattle.object_table.proofs.Sound.{slot_count-cut_off, sound_cut_off}

-- ---- sums

-- a sum over what a list is made of
sum-from : {X Y : Type 0} (f : X → ℕ) (g : Y → ℕ) (make : X → Y) (xs : List X) → All (λ x. g (make x) ≡ f x) xs → sum_by g (map make xs) ≡ sum_by f xs
sum-from f g make [] same = refl
sum-from f g make (x ∷ xs) same =
    let here : g (make x) ≡ f x = All-head (λ x. g (make x) ≡ f x) x xs same in
    let rest = sum-from f g make xs (All-tail (λ x. g (make x) ≡ f x) x xs same) in
    let whole = sum_by-cons g (make x) (map make xs) in
    let parts = sum_by-cons f x xs in
    omega arith

sum-total : {X : Type 0} (f : X → ℕ) (xs : List X) → sum_by f xs ≡ total f xs
sum-total f [] = refl
sum-total f (x ∷ xs) = sum_by-cons f x xs ∙ ap (λ n. f x + n) (sum-total f xs)

-- ---- the table

module _ (p : TableParts) (laid : IsLaidOut p) (marked : List Bool) where
  abbrev pub gone : ℕ → Bool
  gone = has_id (marked_ids (placed_of p).cells marked)

  abbrev later : List (Option Resident)
  later = map (option_map (resident_cleared marked)) p.cells

  abbrev pub with_cleared : TableParts
  with_cleared = record p { cells = later; roots = roots_cleared p.ids marked p.roots }

  -- what is asked by ids is asked by cells
  gone_is : (id : ℕ) → gone id ≡ is_marked_id p.ids marked id
  gone_is id = go (found p.ids id) refl
    where
      none : found p.ids id ≡ None → (b : Bool) → gone id ≡ b → b ≡ false
      none absent true has =
          let (c, at, flag) = has_kept (placed_of p).cells marked id has in
          absurd (false≢true (sym (ap is_some absent) ∙ ap is_some (found_held p laid id c (sym (id_in-cells p.cells c) ∙ at))))
      none absent false has = refl

      go : (o : Option ℕ) → found p.ids id ≡ o → gone id ≡ option_map_or (is_flagged marked) (found p.ids id) false
      go None absent = none absent (gone id) refl ∙ sym (ap (λ o. option_map_or (is_flagged marked) o false) absent)
      go (Some cell) at = kept_cell p laid marked cell id (stands_found p laid id cell at) ∙ sym (ap (λ o. option_map_or (is_flagged marked) o false) at)

  -- ---- cells

  held_later : (cell : ℕ) → held_at later cell ≡ option_map (resident_cleared marked) (held_at p.cells cell)
  held_later cell = go p.cells cell
    where
      go : (cells : List (Option Resident)) (cell : ℕ) → held_at (map (option_map (resident_cleared marked)) cells) cell ≡ option_map (resident_cleared marked) (held_at cells cell)
      go [] cell = refl
      go (c ∷ cells) zero = refl
      go (c ∷ cells) (suc cell) = go cells cell

  cleared_held : (cell : ℕ) (o : Resident) → held_at p.cells cell ≡ Some o → held_at later cell ≡ Some (resident_cleared marked o)
  cleared_held cell o is = held_later cell ∙ ap (option_map (resident_cleared marked)) is

  -- each object keeps its id
  same_id : (o : Option Resident) → option_map (λ (q : Resident). q.id) (option_map (resident_cleared marked) o) ≡ option_map (λ (q : Resident). q.id) o
  same_id None = refl
  same_id (Some o) = refl

  same_ids : (cell : ℕ) → id_held later cell ≡ id_held p.cells cell
  same_ids cell = ap (option_map (λ (q : Resident). q.id)) (held_later cell) ∙ same_id (held_at p.cells cell)

  same_taken : (cell : ℕ) → is_taken later cell ≡ is_taken p.cells cell
  same_taken cell = ap is_some (held_later cell) ∙ go (held_at p.cells cell)
    where
      go : (o : Option Resident) → is_some (option_map (resident_cleared marked) o) ≡ is_some o
      go None = refl
      go (Some o) = refl

  pub cleared_cells : (placed_of with_cleared).cells ≡ (placed_of p).cells
  cleared_cells = go p.cells
    where
      go : (cells : List (Option Resident)) → map (option_map (λ (q : Resident). q.id)) (map (option_map (resident_cleared marked)) cells) ≡ map (option_map (λ (q : Resident). q.id)) cells
      go [] = refl
      go (c ∷ cells) =
          ap (λ x. x ∷ map (option_map (λ (q : Resident). q.id)) (map (option_map (resident_cleared marked)) cells)) (same_id c) ∙ ap (λ l. option_map (λ (q : Resident). q.id) c ∷ l) (go cells)

  -- ---- slots

  -- whether it is one that is cleared
  holds_is : (s : CellSlot) → HoldsTaken p.cells s → option_map_or gone (slot_of p.cells s).held false ≡ holds_marked marked s
  holds_is s taken = go s.held taken
    where
      go : (h : Option ℕ) → IfSome h (λ cell. IsTrue (is_taken p.cells cell)) →
          option_map_or gone (slot_of p.cells (record { held = h; weak = s.weak })).held false ≡ option_map_or (is_flagged marked) h false
      go None taken = refl
      go (Some c) taken =
          let (o, held) = held_taken p.cells c taken in
          let has : id_held p.cells c ≡ Some o.id = ap (option_map (λ (q : Resident). q.id)) held in
          ap (λ id. option_map_or gone id false) has ∙ kept_cell p laid marked c o.id has

  slots_are : (slots : List CellSlot) → All (HoldsTaken p.cells) slots → map (slot_of later) (map (slot_cleared marked) slots) ≡ map (slot_without gone) (map (slot_of p.cells) slots)
  slots_are = slots_emptied p.cells later (is_flagged marked) gone (kept_cell p laid marked) (λ c id has stays. same_ids c ∙ has)

  its_slots : (cell : ℕ) (o : Resident) → held_at p.cells cell ≡ Some o → All (HoldsTaken p.cells) o.slots
  its_slots cell o is = of_some (λ u. All (HoldsTaken p.cells) u.slots) (held_at p.cells cell) o (laid.leads cell) is

  -- ---- objects

  object_is : (cell : ℕ) (o : Resident) → held_at p.cells cell ≡ Some o → object_at_cell p.kinds later cell ≡ object_without gone (object_at_cell p.kinds p.cells cell)
  object_is cell o is =
      ap (λ c. object_of p.kinds later (unwrap_or c nobody)) (cleared_held cell o is)
      ∙ ap (λ l. record { id = o.id; kind = get_or p.kinds o.kind []; slots = l }) (slots_are o.slots (its_slots cell o is))
      ∙ sym (ap (λ c. object_without gone (object_of p.kinds p.cells (unwrap_or c nobody))) is)

  roots_are : roots_cleared p.ids marked p.roots ≡ filter (λ r. not (gone r.1)) p.roots
  roots_are = filter_agree_all (λ r. not (is_marked_id p.ids marked r.1)) (λ r. not (gone r.1)) p.roots (λ k d h. ap not (sym (gone_is (get_or p.roots k d).1)))

  pub cleared_is : (placed_of with_cleared).table ≡ cut_off gone (placed_of p).table
  cleared_is =
      let objects = changed_objects p.ids (object_at_cell p.kinds later) (object_at_cell p.kinds p.cells) (object_without gone) (λ k d h.
      let e : ℕ × ℕ = get_or p.ids k d in
      let (o, held, same) = held_with_id p.cells e.1 e.0 (laid.stands k d h) in
      object_is e.1 o held) in
      ap (λ l. record { objects = l; roots = roots_cleared p.ids marked p.roots; greatest = p.greatest; kinds = p.kinds; most = p.most }) objects
      ∙ ap (λ l. record { objects = map (object_without gone) (placed_of p).table.objects; roots = l; greatest = p.greatest; kinds = p.kinds; most = p.most }) roots_are

  -- ---- how many are cleared

  abbrev holders : Object → ℕ
  holders o = count_by (λ s. option_map_or gone s.held false) o.slots

  holders_are : (cell : ℕ) (o : Resident) → held_at p.cells cell ≡ Some o → holders (object_at_cell p.kinds p.cells cell) ≡ holders_held marked (held_at p.cells cell)
  holders_are cell o is =
      ap (λ c. holders (object_of p.kinds p.cells (unwrap_or c nobody))) is
      ∙ sum-from (λ s. cond (holds_marked marked s) 1 0) (λ s. cond (option_map_or gone s.held false) 1 0) (slot_of p.cells) o.slots
      (All-weaker (HoldsTaken p.cells)
      (λ s. ◌≡◌ {A = ℕ} (cond (option_map_or gone (slot_of p.cells s).held false) 1 0) (cond (holds_marked marked s) 1 0))
      (λ s taken. ap (λ b. cond b 1 0) (holds_is s taken)) o.slots (its_slots cell o is))
      ∙ sym (ap (holders_held marked) is)

  pub slots_counted : sum_by (holders_held marked) p.cells ≡ sum_by holders (placed_of p).table.objects
  slots_counted =
      sum-total (holders_held marked) p.cells
      ∙ sym (total-cells p laid (holders_held marked) refl)
      ∙ total-map (λ c. holders_held marked (held_at p.cells c)) (λ e. e.1) p.ids
      ∙ sym (sum-total (λ e. holders_held marked (held_at p.cells e.1)) p.ids)
      ∙ sym (sum-from (λ e. holders_held marked (held_at p.cells e.1)) holders (λ e. object_at_cell p.kinds p.cells e.1) p.ids (λ k d h.
      let e : ℕ × ℕ = get_or p.ids k d in
      let (o, held, same) = held_with_id p.cells e.1 e.0 (laid.stands k d h) in
      holders_are e.1 o held))

  pub roots_counted : count_by (λ r. is_marked_id p.ids marked r.1) p.roots ≡ count_by (λ r. gone r.1) p.roots
  roots_counted =
      sym (length-filter (λ r. is_marked_id p.ids marked r.1) p.roots)
      ∙ ap length (filter_agree_all (λ r. is_marked_id p.ids marked r.1) (λ r. gone r.1) p.roots (λ k d h. sym (gone_is (get_or p.roots k d).1)))
      ∙ length-filter (λ r. gone r.1) p.roots

  -- ---- the parts stay laid out

  -- what a slot holds stays taken
  holds_later : (s : CellSlot) → HoldsTaken p.cells s → HoldsTaken later (slot_cleared marked s)
  holds_later s taken = go s.held taken
    where
      by : (c : ℕ) (b : Bool) → IsTrue (is_taken p.cells c) → HoldsTaken later (cond b (record { held = None; weak = s.weak }) (record { held = Some c; weak = s.weak }))
      by c true taken = tt
      by c false taken = same_taken c ∙ taken

      go : (h : Option ℕ) → IfSome h (λ cell. IsTrue (is_taken p.cells cell)) → HoldsTaken later (slot_cleared marked (record { held = h; weak = s.weak }))
      go None taken = tt
      go (Some c) taken = by c (is_flagged marked c) taken

  known_later : (o : Option Resident) → IfSome o (λ q. q.kind < length p.kinds) → IfSome (option_map (resident_cleared marked) o) (λ q. q.kind < length p.kinds)
  known_later None known = tt
  known_later (Some o) known = known

  leads_later : (o : Option Resident) → IfSome o (λ q. All (HoldsTaken p.cells) q.slots) → IfSome (option_map (resident_cleared marked) o) (λ q. All (HoldsTaken later) q.slots)
  leads_later None leads = tt
  leads_later (Some o) leads = All-map (HoldsTaken later) (slot_cleared marked) o.slots (All-weaker (HoldsTaken p.cells) (λ s. HoldsTaken later (slot_cleared marked s)) holds_later o.slots leads)

  cleared_laid : IsLaidOut with_cleared
  cleared_laid = record {
    rising = laid.rising;
    stands = λ k d h. same_ids (get_or p.ids k d).1 ∙ laid.stands k d h;
    once = λ c. laid.once c ∙ ap bit (sym (same_taken c));
    known = λ c. subst (λ o. IfSome o (λ q. q.kind < length p.kinds)) (sym (held_later c)) (known_later (held_at p.cells c) (laid.known c));
    leads = λ c. subst (λ o. IfSome o (λ q. All (HoldsTaken later) q.slots)) (sym (held_later c)) (leads_later (held_at p.cells c) (laid.leads c));
    few = omega (arith, length-map p.cells (option_map (resident_cleared marked)), laid.few);
  }

-- ---- the whole table

module _ (p : TableParts) (is : IsTable p) (marked : List Bool) where
  pub table_cleared : IsTable (with_cleared p is.laid marked)
  table_cleared =
      let same = cleared_is p is.laid marked in
      record {
        laid = cleared_laid p is.laid marked;
        counted = is.counted ∙ sym (slot_count-cut_off (gone p is.laid marked) (placed_of p).table) ∙ sym (ap slot_count same);
        sound = subst IsSound (sym same) (sound_cut_off (placed_of p).table (gone p is.laid marked) is.sound);
      }

  -- no more slots are cleared than there are
  pub slots_fit : sum_by (holders_held marked) p.cells ≤ MOST_SLOTS
  slots_fit =
      omega (
        arith,
        slots_counted p is.laid marked,
        sum_by-le-sum_by (holders p is.laid marked) (λ o. length o.slots) (placed_of p).table.objects (λ o. count_by-le-length (λ s. option_map_or (gone p is.laid marked) s.held false) o.slots),
        is.sound.limits.slots,
        is.sound.limits.possible.slots,
      )

  pub holders_counted : (slots roots : ℕ) → slots ≡ sum_by (holders_held marked) p.cells →
      roots ≡ count_by (λ r. is_marked_id p.ids marked r.1) p.roots → slots + roots ≡ holders_of (gone p is.laid marked) (placed_of p).table
  holders_counted slots roots in_slots in_roots = omega (arith, in_slots, in_roots, slots_counted p is.laid marked, roots_counted p is.laid marked)
