-- What each change of the parts is to the table, and that the parts stay laid out.
use Rattle.std.proofs.Common.{◌≡◌, ℕ, zero, suc, ◌+◌, ◌<◌, ◌≤◌, ◌≢◌, ◌==◌, List, [], ◌∷◌, ◌++◌, length, map, filter, replicate, set, get_or}
use Rattle.std.proofs.Common.{slice_get, Bool, true, false, not, ◌&&◌, ◌||◌, cond, eqb, eq-eqb, ne_eqb, IsTrue, Option, Some, None, IfSome, is_some}
use Rattle.std.proofs.Common.{if◌then◌else◌, unwrap_or, position, refl, sym, ◌∙◌, ap, subst, ⊎_elim, arith}
use Rattle.std.specs.List.{All, sum_by, list_any}
use Rattle.std.specs.Option.{option_map, option_map_or}
use Rattle.std.specs.Str.{bytes_eq}
use Rattle.std.proofs.lemmas.Bool.{false≢true, cases_eq, cases_lt}
use Rattle.std.proofs.lemmas.Bool.Decides.{nat_tests}
use Rattle.std.proofs.lemmas.List.{length-map, length-replicate, length-set, length_push, map-append, map-set, get_or-map, get_or_past, get_or_push}
use Rattle.std.proofs.lemmas.List.{get_or_append_left, get_or-set_same, get_or-set_other, set-get_or}
use Rattle.std.proofs.lemmas.List.Elements.{All-head, All-tail, All-push, All-weaker, All-replicate, All-set, All-map, All-filter, filter_passes}
use Rattle.std.proofs.lemmas.List.Kept.{AllPairs-filter}
use Rattle.std.proofs.lemmas.List.Quantifiers.{all_pairs_push, position-Some}
use Rattle.std.proofs.lemmas.List.Sums.{sum_by-cons, sum_by-append}
use Rattle.std.proofs.lemmas.Option.{same_Some, slice_get-get_or, slice_get_within, get_or_from_slice_get}
use Rattle.std.proofs.lemmas.Slice.Eq.{bytes_eq-Decides}
use Rattle.heap_base.specs.declared.limits.TheConstants.{MOST_OBJECTS}
use Rattle.heap_base.specs.Counting.{bit, times}
use Rattle.heap_base.proofs.Counting.{times-append, times-filter}
use Rattle.graph_meaning.specs.Heap.{Slot, Object, Table, empty_slot, slot_count}
use Rattle.graph_meaning.specs.Reach.{has_id}
use Rattle.graph_meaning.specs.Collecting.{slot_without, object_without, with_only}
use Rattle.graph_meaning.specs.Step.{with_kind, with_object, with_slot, with_changed_slot}
use Rattle.object_table.specs.declared.slot.Slot.{Slot as CellSlot}
use Rattle.object_table.specs.Placed.{TakesCell, NoneEmptyBelow, KeepsCells, kept_ids, cells_for_one_more}
use Rattle.object_table.specs.Residents.{Resident, no_edge, is_flagged, slot_after, resident_after, held_at, held_after, id_held, is_taken, next_cell, with_resident}
use Rattle.object_table.specs.Parts.{TableParts, slot_of, object_of, nobody, object_at_cell, placed_of, HoldsTaken, slots_at_cell, IsLaidOut}
use Rattle.object_table.proofs.Positions.{any-position}
use Rattle.object_table.proofs.Chains.{next-taken, next-empty}
use Rattle.object_table.proofs.Parts.{held_with_id, held_taken, taken_with, id_in-cells, found_held, id_in-held, full_cells, not_full_cells}

-- ---- objects that stay as they are

-- where two ways to make objects agree at each id, they make the same
same_objects : (ids : List (ℕ × ℕ)) (f g : ℕ → Object) → All (λ e. f e.1 ≡ g e.1) ids → map (λ e. f e.1) ids ≡ map (λ e. g e.1) ids
same_objects [] f g same = refl
same_objects (e ∷ ids) f g same =
    ap (λ o. o ∷ map (λ e. f e.1) ids) (same 0 e (omega arith)) ∙ ap (λ l. g e.1 ∷ l) (same_objects ids f g (λ k d h. same (suc k) d (omega arith)))

-- slots whose cells have the same ids stay as they are
same_slots : (cells later : List (Option Resident)) (slots : List CellSlot) → All (HoldsTaken cells) slots →
    ((cell : ℕ) → IsTrue (is_taken cells cell) → id_held later cell ≡ id_held cells cell) → map (slot_of later) slots ≡ map (slot_of cells) slots
same_slots cells later [] taken same = refl
same_slots cells later (s ∷ slots) taken same =
    ap (λ x. x ∷ map (slot_of later) slots) (here s.held (All-head (HoldsTaken cells) s slots taken))
    ∙ ap (λ l. slot_of cells s ∷ l) (same_slots cells later slots (All-tail (HoldsTaken cells) s slots taken) same)
  where
    here : (o : Option ℕ) → IfSome o (λ cell. IsTrue (is_taken cells cell)) → slot_of later (record s { held = o }) ≡ slot_of cells (record s { held = o })
    here None h = refl
    here (Some cell) h = ap (λ id. record { held = id; weak = s.weak }) (same cell h)

-- an object in a cell that stays
same_object : (kinds more : List (List ℕ)) (cells later : List (Option Resident)) (cell : ℕ) (o : Resident) → held_at cells cell ≡ Some o →
    held_at later cell ≡ Some o → get_or more o.kind [] ≡ get_or kinds o.kind [] → map (slot_of later) o.slots ≡ map (slot_of cells) o.slots →
    object_at_cell more later cell ≡ object_at_cell kinds cells cell
same_object kinds more cells later cell o is is_later kind slots =
    ap (λ c. object_of more later (unwrap_or c nobody)) is_later
    ∙ ap (λ k. record { id = o.id; kind = k; slots = map (slot_of later) o.slots }) kind
    ∙ ap (λ l. record { id = o.id; kind = get_or kinds o.kind []; slots = l }) slots
    ∙ sym (ap (λ c. object_of kinds cells (unwrap_or c nobody)) is)

-- what IfSome says of what there is
pub of_some : {X : Type 0} (P : X → Type 0) (o : Option X) (x : X) → IfSome o P → o ≡ Some x → P x
of_some P o x holds is = rw is at holds

-- ---- one type name more

kind_stays : (kinds : List (List ℕ)) (name : List ℕ) (k : ℕ) → k < length kinds → get_or (with_kind kinds name) k [] ≡ get_or kinds k []
kind_stays kinds name k h = grind (arith, get_or_append_left kinds (name ∷ []) [] k)

length-with_kind : (kinds : List (List ℕ)) (name : List ℕ) → length kinds ≤ length (with_kind kinds name)
length-with_kind kinds name = grind (arith, length_push kinds name)

-- the number of a name, or of the next one, is its own from then on
number_named : (kinds : List (List ℕ)) (name : List ℕ) (number : ℕ) → number ≡ unwrap_or (position (bytes_eq name) kinds) (length kinds) → slice_get (with_kind kinds name) number ≡ Some name
number_named kinds name number is = go (position (bytes_eq name) kinds) refl
  where
    go : (o : Option ℕ) → position (bytes_eq name) kinds ≡ o → slice_get (with_kind kinds name) number ≡ Some name
    go None e =
        let new : list_any (bytes_eq name) kinds ≡ false = any-position (bytes_eq name) kinds ∙ ap is_some e in
        let last : number ≡ length kinds = is ∙ ap (λ p. unwrap_or p (length kinds)) e in
        rw (new, last) (slice_get-get_or (kinds ++ name ∷ []) (length kinds) [] (omega (arith, length_push kinds name)) ∙ ap Some (get_or_push kinds name [] (length kinds) refl))
    go (Some n) e =
        let seen : list_any (bytes_eq name) kinds ≡ true = any-position (bytes_eq name) kinds ∙ ap is_some e in
        let at : number ≡ n = is ∙ ap (λ p. unwrap_or p (length kinds)) e in
        let found = position-Some (bytes_eq name) kinds n [] e in
        rw (seen, at) (slice_get-get_or kinds n [] found.0 ∙ ap Some (sym ((bytes_eq-Decides name (get_or kinds n [])).0 found.1)))

-- what holds of each object holds of it where there are more type names
known_more : (kinds : List (List ℕ)) (name : List ℕ) (o : Option Resident) → IfSome o (λ q. q.kind < length kinds) → IfSome o (λ q. q.kind < length (with_kind kinds name))
known_more kinds name None known = tt
known_more kinds name (Some o) known = omega (arith, length-with_kind kinds name)

module _ (p : TableParts) (laid : IsLaidOut p) (name : List ℕ) where
  abbrev pub with_name : TableParts
  with_name = record p { kinds = with_kind p.kinds name }

  pub objects-with_name : (placed_of with_name).table.objects ≡ (placed_of p).table.objects
  objects-with_name = same_objects p.ids (object_at_cell (with_kind p.kinds name) p.cells) (object_at_cell p.kinds p.cells) (λ k d h.
      let e : ℕ × ℕ = get_or p.ids k d in
      let (o, held, same) = held_with_id p.cells e.1 e.0 (laid.stands k d h) in
      same_object p.kinds (with_kind p.kinds name) p.cells p.cells e.1 o held held
      (kind_stays p.kinds name o.kind (of_some (λ q. q.kind < length p.kinds) (held_at p.cells e.1) o (laid.known e.1) held)) refl)

  pub laid-with_name : IsLaidOut with_name
  laid-with_name = record {
    rising = laid.rising;
    stands = laid.stands;
    once = laid.once;
    known = λ cell. known_more p.kinds name (held_at p.cells cell) (laid.known cell);
    leads = laid.leads;
    few = laid.few;
  }

-- ---- one object more

pub next_within : (cells : List (Option Resident)) → next_cell cells ≤ length cells
next_within [] = omega arith
next_within (Some o ∷ cells) = omega (arith, next-taken o cells, next_within cells)
next_within (None ∷ cells) = omega (arith, next-empty cells)

next_free : (cells : List (Option Resident)) → held_at cells (next_cell cells) ≡ None
next_free [] = refl
next_free (Some o ∷ cells) =
    let next : next_cell (Some o ∷ cells) ≡ suc (next_cell cells) = omega (arith, next-taken o cells) in
    ap (held_at (Some o ∷ cells)) next ∙ next_free cells
next_free (None ∷ cells) = ap (held_at (None ∷ cells)) (next-empty cells)

below_taken : (cells : List (Option Resident)) (lower : ℕ) → lower < next_cell cells → is_taken cells lower ≡ true
below_taken [] lower below = absurd (omega arith)
below_taken (None ∷ cells) lower below = absurd (omega (arith, next-empty cells))
below_taken (Some o ∷ cells) zero below = refl
below_taken (Some o ∷ cells) (suc lower) below = below_taken cells lower (omega (arith, next-taken o cells))

-- the cells after an object was put: it stands in the cell that came next, which was empty, and the others stay
module _ (cells : List (Option Resident)) (o : Resident) where
  put_inside : next_cell cells < length cells → with_resident cells o ≡ set cells (next_cell cells) (Some o)
  put_inside h = grind (arith, nat_tests)

  put_last : length cells ≤ next_cell cells → with_resident cells o ≡ cells ++ Some o ∷ []
  put_last h = grind (arith, nat_tests)

  put_at : held_at (with_resident cells o) (next_cell cells) ≡ Some o
  put_at = ⊎_elim
      (λ inside. ap (λ l. held_at l (next_cell cells)) (put_inside inside) ∙ get_or-set_same cells (next_cell cells) (Some o) None inside)
      (λ past. ap (λ l. held_at l (next_cell cells)) (put_last past) ∙ get_or_push cells (Some o) None (next_cell cells) (omega (arith, next_within cells)))
      (cases_lt (next_cell cells) (length cells))

  put_others : (cell : ℕ) → cell ≢ next_cell cells → held_at (with_resident cells o) cell ≡ held_at cells cell
  put_others cell apart = ⊎_elim
      (λ inside. ap (λ l. held_at l cell) (put_inside inside) ∙ get_or-set_other cells (next_cell cells) cell (Some o) None apart)
      (λ past. ap (λ l. held_at l cell) (put_last past) ∙ ⊎_elim
      (λ within. get_or_append_left cells (Some o ∷ []) None cell within)
      (λ beyond.
      let all = length_push cells (Some o) in
      get_or_past (cells ++ Some o ∷ []) cell None (omega (arith, next_within cells)) ∙ sym (get_or_past cells cell None beyond))
      (cases_lt cell (length cells)))
      (cases_lt (next_cell cells) (length cells))

  length-put_inside : next_cell cells < length cells → length (with_resident cells o) ≡ length cells
  length-put_inside h = ap length (put_inside h) ∙ length-set cells (next_cell cells) (Some o)

  length-put_last : length cells ≤ next_cell cells → length (with_resident cells o) ≡ length cells + 1
  length-put_last h = ap length (put_last h) ∙ length_push cells (Some o)

  -- a cell that was taken is not the one that came next
  taken_apart : (cell : ℕ) → IsTrue (is_taken cells cell) → cell ≢ next_cell cells
  taken_apart cell taken same = false≢true (sym (ap is_some (next_free cells)) ∙ ap (is_taken cells) (sym same) ∙ taken)

  put_stays : (cell : ℕ) → IsTrue (is_taken cells cell) → held_at (with_resident cells o) cell ≡ held_at cells cell
  put_stays cell taken = put_others cell (taken_apart cell taken)

-- the new object has empty slots, none weak
empty_slots : (cells : List (Option Resident)) (n : ℕ) → map (slot_of cells) (replicate n no_edge) ≡ replicate n empty_slot
empty_slots cells zero = refl
empty_slots cells (suc n) = ap (λ l. empty_slot ∷ l) (empty_slots cells n)

-- what a slot holds stays taken
still_taken : (cells later : List (Option Resident)) → ((cell : ℕ) → IsTrue (is_taken cells cell) → IsTrue (is_taken later cell)) →
    (o : Option Resident) → IfSome o (λ q. All (HoldsTaken cells) q.slots) → IfSome o (λ q. All (HoldsTaken later) q.slots)
still_taken cells later more None leads = tt
still_taken cells later more (Some o) leads = All-weaker (HoldsTaken cells) (HoldsTaken later) (λ s. one s.held) o.slots leads
  where
    one : (h : Option ℕ) → IfSome h (λ cell. IsTrue (is_taken cells cell)) → IfSome h (λ cell. IsTrue (is_taken later cell))
    one None h = tt
    one (Some cell) h = more cell h

module _ (p : TableParts) (laid : IsLaidOut p) (name : List ℕ) (id number slots : ℕ) (named : number ≡ unwrap_or (position (bytes_eq name) p.kinds) (length p.kinds)) where
  abbrev new : Resident
  new = record { id = id; kind = number; slots = replicate slots no_edge }

  abbrev later : List (Option Resident)
  later = with_resident p.cells new

  abbrev cell : ℕ
  cell = next_cell p.cells

  abbrev pub with_one : TableParts
  with_one = record { cells = later; ids = p.ids ++ (id, cell) ∷ []; roots = p.roots; kinds = with_kind p.kinds name; greatest = id; slots = p.slots + slots; most = p.most }

  stays : (k : ℕ) → IsTrue (is_taken p.cells k) → id_held later k ≡ id_held p.cells k
  stays k taken = ap (option_map (λ (o : Resident). o.id)) (put_stays p.cells new k taken)

  old_objects : map (λ e. object_at_cell (with_kind p.kinds name) later e.1) p.ids ≡ (placed_of p).table.objects
  old_objects = same_objects p.ids (object_at_cell (with_kind p.kinds name) later) (object_at_cell p.kinds p.cells) (λ k d h.
      let e : ℕ × ℕ = get_or p.ids k d in
      let (o, held, same) = held_with_id p.cells e.1 e.0 (laid.stands k d h) in
      let taken = taken_with p.cells e.1 o held in
      same_object p.kinds (with_kind p.kinds name) p.cells later e.1 o held (put_stays p.cells new e.1 taken ∙ held)
      (kind_stays p.kinds name o.kind (of_some (λ q. q.kind < length p.kinds) (held_at p.cells e.1) o (laid.known e.1) held))
      (same_slots p.cells later o.slots (of_some (λ q. All (HoldsTaken p.cells) q.slots) (held_at p.cells e.1) o (laid.leads e.1) held) stays))

  new_object : object_at_cell (with_kind p.kinds name) later cell ≡ record { id = id; kind = name; slots = replicate slots empty_slot }
  new_object =
      ap (λ c. object_of (with_kind p.kinds name) later (unwrap_or c nobody)) (put_at p.cells new)
      ∙ ap (λ k. record { id = id; kind = k; slots = map (slot_of later) (replicate slots no_edge) })
      (get_or_from_slice_get (with_kind p.kinds name) number name [] (number_named p.kinds name number named))
      ∙ ap (λ l. record { id = id; kind = name; slots = l }) (empty_slots later slots)

  pub added_is : (placed_of with_one).table ≡ with_object (placed_of p).table id name slots
  unfolding with_object
  added_is =
      let objects = map-append (λ (e : ℕ × ℕ). object_at_cell (with_kind p.kinds name) later e.1) p.ids ((id, cell) ∷ [])
      ∙ ap (λ l. l ++ object_at_cell (with_kind p.kinds name) later cell ∷ []) old_objects
      ∙ ap (λ o. (placed_of p).table.objects ++ o ∷ []) new_object in
      ap (λ l. record { objects = l; roots = p.roots; greatest = id; kinds = with_kind p.kinds name; most = p.most }) objects

  pub added_laid : All (λ e. e.0 < id) p.ids → length p.ids < MOST_OBJECTS → IsLaidOut with_one
  added_laid above room = record {
    rising = all_pairs_push (λ a b. a.0 < b.0) p.ids (id, cell) laid.rising above;
    stands = All-push (λ e. id_held later e.1 ≡ Some e.0) p.ids (id, cell) (λ k d h.
        let e : ℕ × ℕ = get_or p.ids k d in
        let (o, held, same) = held_with_id p.cells e.1 e.0 (laid.stands k d h) in
        stays e.1 (taken_with p.cells e.1 o held) ∙ laid.stands k d h)
        (ap (option_map (λ (o : Resident). o.id)) (put_at p.cells new));
    once = λ c. ap (times c) (map-append (λ (e : ℕ × ℕ). e.1) p.ids ((id, cell) ∷ [])) ∙ times-append c (map (λ e. e.1) p.ids) (cell ∷ []) ∙ counted c;
    known = λ c. ⊎_elim
        (λ (same : c ≡ cell). subst (λ o. IfSome o (λ q. q.kind < length (with_kind p.kinds name)))
        (sym (ap (held_at later) same ∙ put_at p.cells new))
        (slice_get_within (with_kind p.kinds name) number name (number_named p.kinds name number named)))
        (λ apart. subst (λ o. IfSome o (λ q. q.kind < length (with_kind p.kinds name))) (sym (put_others p.cells new c apart)) (known_more p.kinds name (held_at p.cells c) (laid.known c)))
        (cases_eq c cell);
    leads = λ c. ⊎_elim
        (λ (same : c ≡ cell). subst (λ o. IfSome o (λ q. All (HoldsTaken later) q.slots)) (sym (ap (held_at later) same ∙ put_at p.cells new)) (All-replicate (HoldsTaken later) slots no_edge tt))
        (λ apart. subst (λ o. IfSome o (λ q. All (HoldsTaken later) q.slots)) (sym (put_others p.cells new c apart))
        (still_taken p.cells later (λ k taken. ap is_some (put_stays p.cells new k taken) ∙ taken) (held_at p.cells c) (laid.leads c)))
        (cases_eq c cell);
    few = ⊎_elim
        (λ inside. omega (arith, length-put_inside p.cells new inside, laid.few))
        (λ past.
        let full : next_cell p.cells ≡ length p.cells = omega (arith, next_within p.cells) in
        omega (arith, length-put_last p.cells new past, full_cells p laid full))
        (cases_lt (next_cell p.cells) (length p.cells));
  }
    where
      counted : (c : ℕ) → times c (map (λ e. e.1) p.ids) + times c (cell ∷ []) ≡ bit (is_taken later c)
      counted c = ⊎_elim
          (λ (same : c ≡ cell).
          let before : times c (map (λ e. e.1) p.ids) ≡ 0 = laid.once c ∙ ap (λ k. bit (is_taken p.cells k)) same ∙ ap (λ o. bit (is_some o)) (next_free p.cells) in
          let after : bit (is_taken later c) ≡ 1 = ap (λ k. bit (is_taken later k)) same ∙ ap (λ o. bit (is_some o)) (put_at p.cells new) in
          let one : bit (eqb cell c) ≡ 1 = ap bit (eq-eqb cell c (sym same)) in
          omega arith)
          (λ apart.
          let same : bit (is_taken later c) ≡ bit (is_taken p.cells c) = ap (λ o. bit (is_some o)) (put_others p.cells new c apart) in
          let none : bit (eqb cell c) ≡ 0 = ap bit (ne_eqb cell c (λ e. apart (sym e))) in
          omega (arith, laid.once c))
          (cases_eq c cell)

  pub added_takes : TakesCell (placed_of p) (placed_of with_one) id
  added_takes = record {
    taken = (cell, id_in-held p laid cell ∙ ap (option_map (λ (o : Resident). o.id)) (next_free p.cells), id_in-cells later cell ∙ ap (option_map (λ (o : Resident). o.id)) (put_at p.cells new));
    others = λ c other is.
        let held : id_held p.cells c ≡ Some other = sym (id_in-held p laid c) ∙ is in
        let (o, at, same) = held_with_id p.cells c other held in
        id_in-cells later c ∙ stays c (taken_with p.cells c o at) ∙ held;
    count = length-map later (option_map (λ o. o.id)) ∙ count;
  }
    where
      objects : length (placed_of p).table.objects ≡ length p.ids
      objects = length-map p.ids (λ e. object_at_cell p.kinds p.cells e.1)

      cells_are : length (placed_of p).cells ≡ length p.cells
      cells_are = length-map p.cells (option_map (λ o. o.id))

      count : length later ≡ cells_for_one_more (placed_of p)
      count = ⊎_elim
          (λ inside.
          let more : eqb (length (placed_of p).cells) (length (placed_of p).table.objects) ≡ false = ne_eqb _ _ (λ same. omega (arith, not_full_cells p laid inside, objects, cells_are)) in
          length-put_inside p.cells new inside ∙ sym (cells_are) ∙ sym (ap (λ b. cond b (length (placed_of p).cells + 1) (length (placed_of p).cells)) more))
          (λ past.
          let full : next_cell p.cells ≡ length p.cells = omega (arith, next_within p.cells) in
          let all : eqb (length (placed_of p).cells) (length (placed_of p).table.objects) ≡ true = eq-eqb _ _ (omega (arith, full_cells p laid full, objects, cells_are)) in
          length-put_last p.cells new past ∙ ap (λ n. n + 1) (sym cells_are) ∙ sym (ap (λ b. cond b (length (placed_of p).cells + 1) (length (placed_of p).cells)) all))
          (cases_lt (next_cell p.cells) (length p.cells))

  -- no cell below the new object's is empty
  pub added_lowest : IsLaidOut with_one → NoneEmptyBelow (placed_of with_one) id
  added_lowest now c lower at below =
      let here : id_held later c ≡ Some id = sym (id_in-cells later c) ∙ at in
      let there : id_held later cell ≡ Some id = ap (option_map (λ (o : Resident). o.id)) (put_at p.cells new) in
      let same : c ≡ cell = same_Some c cell (sym (found_held with_one now id c here) ∙ found_held with_one now id cell there) in
      let taken = below_taken p.cells lower (omega (arith, same)) in
      let (o, held) = held_taken p.cells lower taken in
      ap is_some (id_in-cells later lower ∙ ap (option_map (λ (o : Resident). o.id)) (put_stays p.cells new lower taken ∙ held))

-- ---- a slot is changed

-- a taken cell is one of the cells
held_within : (cells : List (Option Resident)) (cell : ℕ) (o : Resident) → held_at cells cell ≡ Some o → cell < length cells
held_within [] cell o is = absurd cc
held_within (c ∷ cells) zero o is = omega arith
held_within (c ∷ cells) (suc cell) o is = let rest = held_within cells cell o is in omega arith

-- objects that a change turns into others
pub changed_objects : (ids : List (ℕ × ℕ)) (f g : ℕ → Object) (change : Object → Object) → All (λ e. f e.1 ≡ change (g e.1)) ids → map (λ e. f e.1) ids ≡ map change (map (λ e. g e.1) ids)
changed_objects [] f g change same = refl
changed_objects (e ∷ ids) f g change same =
    ap (λ o. o ∷ map (λ e. f e.1) ids) (same 0 e (omega arith)) ∙ ap (λ l. change (g e.1) ∷ l) (changed_objects ids f g change (λ k d h. same (suc k) d (omega arith)))

module _ (p : TableParts) (laid : IsLaidOut p) (cell slot : ℕ) (o : Resident) (s value : CellSlot) (is : held_at p.cells cell ≡ Some o)
    (at : slice_get o.slots slot ≡ Some s) (change : Slot → Slot) (changes : change (slot_of p.cells s) ≡ slot_of p.cells value) where
  abbrev changed : Resident
  changed = record o { slots = set o.slots slot value }

  abbrev later_cells : List (Option Resident)
  later_cells = set p.cells cell (Some changed)

  abbrev pub with_changed : TableParts
  with_changed = record p { cells = later_cells }

  changed_at : held_at later_cells cell ≡ Some changed
  changed_at = get_or-set_same p.cells cell (Some changed) None (held_within p.cells cell o is)

  changed_others : (c : ℕ) → c ≢ cell → held_at later_cells c ≡ held_at p.cells c
  changed_others c apart = get_or-set_other p.cells cell c (Some changed) None apart

  same_ids : (c : ℕ) → id_held later_cells c ≡ id_held p.cells c
  same_ids c = ⊎_elim
      (λ (same : c ≡ cell). ap (id_held later_cells) same ∙ ap (option_map (λ (q : Resident). q.id)) changed_at ∙ sym (ap (id_held p.cells) same ∙ ap (option_map (λ (q : Resident). q.id)) is))
      (λ apart. ap (option_map (λ (q : Resident). q.id)) (changed_others c apart))
      (cases_eq c cell)

  same_taken : (c : ℕ) → is_taken later_cells c ≡ is_taken p.cells c
  same_taken c = ⊎_elim
      (λ (same : c ≡ cell). ap (is_taken later_cells) same ∙ ap is_some changed_at ∙ sym (ap (is_taken p.cells) same ∙ ap is_some is))
      (λ apart. ap is_some (changed_others c apart))
      (cases_eq c cell)

  same_slot : (t : CellSlot) → slot_of later_cells t ≡ slot_of p.cells t
  same_slot t = go t.held
    where
      go : (h : Option ℕ) → slot_of later_cells (record t { held = h }) ≡ slot_of p.cells (record t { held = h })
      go None = refl
      go (Some c) = ap (λ id. record { held = id; weak = t.weak }) (same_ids c)

  all_slots : (slots : List CellSlot) → map (slot_of later_cells) slots ≡ map (slot_of p.cells) slots
  all_slots [] = refl
  all_slots (t ∷ slots) = ap (λ x. x ∷ map (slot_of later_cells) slots) (same_slot t) ∙ ap (λ l. slot_of p.cells t ∷ l) (all_slots slots)

  -- the object in the cell
  changed_object : object_at_cell p.kinds later_cells cell ≡ with_slot o.id slot change (object_at_cell p.kinds p.cells cell)
  changed_object =
      let old : List Slot = map (slot_of p.cells) o.slots in
      let slots : map (slot_of later_cells) (set o.slots slot value) ≡ set old slot (change (get_or old slot empty_slot)) =
      all_slots (set o.slots slot value)
      ∙ map-set (slot_of p.cells) o.slots slot value
      ∙ ap (set old slot)
      (sym changes
      ∙ ap change (sym (get_or-map (slot_of p.cells) o.slots slot s empty_slot (slice_get_within o.slots slot s at) ∙ ap (slot_of p.cells) (get_or_from_slice_get o.slots slot s s at))))
      in
      ap (λ c. object_of p.kinds later_cells (unwrap_or c nobody)) changed_at
      ∙ ap (λ l. record { id = o.id; kind = get_or p.kinds o.kind []; slots = l }) slots
      ∙ sym (ap (λ b. cond b (record { id = o.id; kind = get_or p.kinds o.kind []; slots = set old slot (change (get_or old slot empty_slot)) }) (object_of p.kinds p.cells o)) (eq-eqb o.id o.id refl))
      ∙ sym (ap (λ c. with_slot o.id slot change (object_of p.kinds p.cells (unwrap_or c nobody))) is)

  other_object : (c id : ℕ) → c ≢ cell → id_held p.cells c ≡ Some id → object_at_cell p.kinds later_cells c ≡ with_slot o.id slot change (object_at_cell p.kinds p.cells c)
  other_object c id apart has =
      let (q, held, same) = held_with_id p.cells c id has in
      let its_id : eqb (object_at_cell p.kinds p.cells c).id o.id ≡ false =
      ap (λ x. eqb (unwrap_or x nobody).id o.id) held ∙ ne_eqb q.id o.id (λ e.
      let here : id_held p.cells cell ≡ Some o.id = ap (option_map (λ (u : Resident). u.id)) is in
      let there : id_held p.cells c ≡ Some o.id = has ∙ ap Some (sym same ∙ e) in
      apart (same_Some c cell (sym (found_held p laid o.id c there) ∙ found_held p laid o.id cell here))) in
      same_object p.kinds p.kinds p.cells later_cells c q held (changed_others c apart ∙ held) refl (all_slots q.slots)
      ∙ sym
      (ap (λ b. cond b
      (record (object_at_cell p.kinds p.cells c)
      { slots = set (object_at_cell p.kinds p.cells c).slots slot (change (get_or (object_at_cell p.kinds p.cells c).slots slot empty_slot)) })
      (object_at_cell p.kinds p.cells c)) its_id)

  pub changed_is : (placed_of with_changed).table ≡ with_changed_slot (placed_of p).table o.id slot change
  unfolding with_changed_slot
  changed_is = ap (λ l. record { objects = l; roots = p.roots; greatest = p.greatest; kinds = p.kinds; most = p.most })
      (changed_objects p.ids (object_at_cell p.kinds later_cells) (object_at_cell p.kinds p.cells) (with_slot o.id slot change) (λ k d h.
      let e : ℕ × ℕ = get_or p.ids k d in
      ⊎_elim
      (λ (same : e.1 ≡ cell). ap (object_at_cell p.kinds later_cells) same ∙ changed_object ∙ ap (λ c. with_slot o.id slot change (object_at_cell p.kinds p.cells c)) (sym same))
      (λ apart. other_object e.1 e.0 apart (laid.stands k d h))
      (cases_eq e.1 cell)))

  pub changed_cells : (placed_of with_changed).cells ≡ (placed_of p).cells
  changed_cells =
      map-set (option_map (λ (q : Resident). q.id)) p.cells cell (Some changed)
      ∙ ap (set (map (option_map (λ (q : Resident). q.id)) p.cells) cell) (sym (id_in-cells p.cells cell ∙ ap (option_map (λ (q : Resident). q.id)) is))
      ∙ set-get_or (map (option_map (λ (q : Resident). q.id)) p.cells) cell None

  pub changed_laid : HoldsTaken p.cells value → IsLaidOut with_changed
  changed_laid holds = record {
    rising = laid.rising;
    stands = λ k d h. same_ids (get_or p.ids k d).1 ∙ laid.stands k d h;
    once = λ c. laid.once c ∙ ap bit (sym (same_taken c));
    known = λ c. ⊎_elim
        (λ (same : c ≡ cell). subst (λ q. IfSome q (λ u. u.kind < length p.kinds)) (sym (ap (held_at later_cells) same ∙ changed_at))
        (of_some (λ u. u.kind < length p.kinds) (held_at p.cells cell) o (laid.known cell) is))
        (λ apart. subst (λ q. IfSome q (λ u. u.kind < length p.kinds)) (sym (changed_others c apart)) (laid.known c))
        (cases_eq c cell);
    leads = λ c. ⊎_elim
        (λ (same : c ≡ cell). subst (λ q. IfSome q (λ u. All (HoldsTaken later_cells) u.slots)) (sym (ap (held_at later_cells) same ∙ changed_at))
        (more (Some changed)
        (All-set (HoldsTaken p.cells) o.slots slot value holds
        (of_some (λ u. All (HoldsTaken p.cells) u.slots) (held_at p.cells cell) o (laid.leads cell) is))))
        (λ apart. subst (λ q. IfSome q (λ u. All (HoldsTaken later_cells) u.slots)) (sym (changed_others c apart)) (more (held_at p.cells c) (laid.leads c)))
        (cases_eq c cell);
    few = omega (arith, length-set p.cells cell (Some changed), laid.few);
  }
    where
      more : (q : Option Resident) → IfSome q (λ u. All (HoldsTaken p.cells) u.slots) → IfSome q (λ u. All (HoldsTaken later_cells) u.slots)
      more = still_taken p.cells later_cells (λ k taken. same_taken k ∙ taken)

-- ---- cells are emptied

or_false_left : (a b : Bool) → a ≡ false → (a || b) ≡ true → b ≡ true
or_false_left true b out either = absurd (false≢true (sym out))
or_false_left false b out either = either

-- the id of an object whose cell is flagged is among those of the flagged cells, and the other way round
pub kept_has : (cells : List (Option ℕ)) (flags : List Bool) (c id : ℕ) → get_or cells c None ≡ Some id → get_or flags c false ≡ true → has_id (kept_ids cells flags) id ≡ true
kept_has [] flags c id is flag = absurd cc
kept_has (x ∷ cells) [] c id is flag = absurd (false≢true flag)
kept_has (None ∷ cells) (b ∷ flags) zero id is flag = absurd cc
kept_has (Some x ∷ cells) (true ∷ flags) zero id is flag = let same : x ≡ id = same_Some x id is in grind (arith, nat_tests)
kept_has (Some x ∷ cells) (false ∷ flags) zero id is flag = absurd (false≢true flag)
kept_has (None ∷ cells) (true ∷ flags) (suc c) id is flag = kept_has cells flags c id is flag
kept_has (Some x ∷ cells) (true ∷ flags) (suc c) id is flag = let rest = kept_has cells flags c id is flag in grind (arith, nat_tests)
kept_has (x ∷ cells) (false ∷ flags) (suc c) id is flag = kept_has cells flags c id is flag

pub has_kept : (cells : List (Option ℕ)) (flags : List Bool) (id : ℕ) → has_id (kept_ids cells flags) id ≡ true → (c : ℕ) × (get_or cells c None ≡ Some id) × (get_or flags c false ≡ true)
has_kept [] flags id has = absurd (false≢true has)
has_kept (x ∷ cells) [] id has = absurd (false≢true has)
has_kept (x ∷ cells) (false ∷ flags) id has = let rest = has_kept cells flags id has in (suc rest.0, rest.1, rest.2)
has_kept (None ∷ cells) (true ∷ flags) id has = let rest = has_kept cells flags id has in (suc rest.0, rest.1, rest.2)
has_kept (Some x ∷ cells) (true ∷ flags) id has = ⊎_elim
    (λ (same : x ≡ id). (0, ap Some same, refl))
    (λ apart.
    let left : has_id (kept_ids cells flags) id ≡ true = or_false_left (eqb x id) (has_id (kept_ids cells flags) id) (ne_eqb x id apart) has in
    let rest = has_kept cells flags id left in
    (suc rest.0, rest.1, rest.2))
    (cases_eq x id)

-- the id of an object is among those of the flagged cells exactly where its cell is flagged
pub kept_cell : (p : TableParts) → IsLaidOut p → (kept : List Bool) (cell id : ℕ) → id_held p.cells cell ≡ Some id → has_id (kept_ids (placed_of p).cells kept) id ≡ is_flagged kept cell
kept_cell p laid kept cell id is = both (has_id (kept_ids (placed_of p).cells kept) id) (is_flagged kept cell) refl refl
  where
    both : (a b : Bool) → has_id (kept_ids (placed_of p).cells kept) id ≡ a → is_flagged kept cell ≡ b → a ≡ b
    both true true x y = refl
    both false false x y = refl
    both true false x y =
        let (c, at, flag) = has_kept (placed_of p).cells kept id x in
        let same : c ≡ cell = same_Some c cell (sym (found_held p laid id c (sym (id_in-cells p.cells c) ∙ at)) ∙ found_held p laid id cell is) in
        absurd (false≢true (sym y ∙ ap (is_flagged kept) (sym same) ∙ flag))
    both false true x y = absurd (false≢true (sym x ∙ kept_has (placed_of p).cells kept cell id (id_in-cells p.cells cell ∙ is) y))

un_not : (b : Bool) → not b ≡ false → b ≡ true
un_not true e = refl
un_not false e = absurd (false≢true (sym e))

-- Slots are emptied by their cells, where a test of ids says of each object what the test of cells says of its cell, and the
-- other objects stay in their cells.
module _ (cells later : List (Option Resident)) (leaves gone : ℕ → Bool) (agree : (c id : ℕ) → id_held cells c ≡ Some id → gone id ≡ leaves c)
    (stay : (c id : ℕ) → id_held cells c ≡ Some id → leaves c ≡ false → id_held later c ≡ Some id) where
  abbrev emptied : CellSlot → CellSlot
  emptied s = if option_map_or leaves s.held false then record s { held = None } else s

  -- a slot that holds a taken cell
  slot_emptied : (s : CellSlot) → HoldsTaken cells s → slot_of later (emptied s) ≡ slot_without gone (slot_of cells s)
  slot_emptied s taken = go s.held taken
    where
      tested : (c id : ℕ) (b : Bool) → id_held cells c ≡ Some id → leaves c ≡ b →
          slot_of later (cond b (record { held = None; weak = s.weak }) (record { held = Some c; weak = s.weak }))
          ≡ cond b (record { held = None; weak = s.weak }) (record { held = Some id; weak = s.weak })
      tested c id true has is = refl
      tested c id false has is = ap (λ h. record { held = h; weak = s.weak }) (stay c id has is)

      go : (h : Option ℕ) → IfSome h (λ cell. IsTrue (is_taken cells cell)) →
          slot_of later (emptied (record { held = h; weak = s.weak })) ≡ slot_without gone (slot_of cells (record { held = h; weak = s.weak }))
      go None taken = refl
      go (Some c) taken =
          let (o, held) = held_taken cells c taken in
          let has : id_held cells c ≡ Some o.id = ap (option_map (λ (q : Resident). q.id)) held in
          tested c o.id (leaves c) has refl
          ∙ ap (λ b. cond b (record { held = None; weak = s.weak }) (record { held = Some o.id; weak = s.weak })) (sym (agree c o.id has))
          ∙ sym (ap (λ id. slot_without gone (record { held = id; weak = s.weak })) has)

  pub slots_emptied : (slots : List CellSlot) → All (HoldsTaken cells) slots → map (slot_of later) (map emptied slots) ≡ map (slot_without gone) (map (slot_of cells) slots)
  slots_emptied [] taken = refl
  slots_emptied (s ∷ slots) taken =
      ap (λ x. x ∷ map (slot_of later) (map emptied slots)) (slot_emptied s (All-head (HoldsTaken cells) s slots taken))
      ∙ ap (λ l. slot_without gone (slot_of cells s) ∷ l) (slots_emptied slots (All-tail (HoldsTaken cells) s slots taken))

module _ (p : TableParts) (laid : IsLaidOut p) (kept : List Bool) (later : List (Option Resident)) (after : (cell : ℕ) → held_at later cell ≡ held_after kept p.cells cell) where
  abbrev pub kept_now : List ℕ
  kept_now = kept_ids (placed_of p).cells kept

  abbrev gone : ℕ → Bool
  gone id = not (has_id kept_now id)

  kept_held : (cell : ℕ) (o : Resident) → held_at p.cells cell ≡ Some o → is_flagged kept cell ≡ true → held_at later cell ≡ Some (resident_after kept o)
  kept_held cell o is flag = after cell ∙ ap (λ b. cond b (option_map (resident_after kept) (held_at p.cells cell)) None) flag ∙ ap (option_map (resident_after kept)) is

  later_taken : (cell : ℕ) → is_taken later cell ≡ (is_flagged kept cell && is_taken p.cells cell)
  later_taken cell = ap is_some (after cell) ∙ go (is_flagged kept cell) (held_at p.cells cell)
    where
      go : (b : Bool) (o : Option Resident) → is_some (cond b (option_map (resident_after kept) o) None) ≡ (b && is_some o)
      go true None = refl
      go true (Some o) = refl
      go false o = refl

  slots_swept : (slots : List CellSlot) → All (HoldsTaken p.cells) slots → map (slot_of later) (map (slot_after kept) slots) ≡ map (slot_without gone) (map (slot_of p.cells) slots)
  slots_swept =
      slots_emptied p.cells later (λ cell. not (is_flagged kept cell)) gone (λ c id has. ap not (kept_cell p laid kept c id has))
      (λ c id has stays.
      let (o, held, same) = held_with_id p.cells c id has in
      ap (option_map (λ (q : Resident). q.id)) (kept_held c o held (un_not (is_flagged kept c) stays)) ∙ ap Some same)

  object_swept : (cell : ℕ) (o : Resident) → held_at p.cells cell ≡ Some o → is_flagged kept cell ≡ true → object_at_cell p.kinds later cell ≡ object_without gone (object_at_cell p.kinds p.cells cell)
  object_swept cell o is flag =
      ap (λ c. object_of p.kinds later (unwrap_or c nobody)) (kept_held cell o is flag)
      ∙ ap (λ l. record { id = o.id; kind = get_or p.kinds o.kind []; slots = l }) (slots_swept o.slots (of_some (λ u. All (HoldsTaken p.cells) u.slots) (held_at p.cells cell) o (laid.leads cell) is))
      ∙ sym (ap (λ c. object_without gone (object_of p.kinds p.cells (unwrap_or c nobody))) is)

  objects_swept : (ids : List (ℕ × ℕ)) → All (λ e. id_held p.cells e.1 ≡ Some e.0) ids →
      map (λ e. object_at_cell p.kinds later e.1) (filter (λ e. is_flagged kept e.1) ids)
      ≡ map (object_without gone) (filter (λ o. has_id kept_now o.id) (map (λ e. object_at_cell p.kinds p.cells e.1) ids))
  objects_swept [] stands = refl
  objects_swept (e ∷ ids) stands =
      let (o, held, same) = held_with_id p.cells e.1 e.0 (stands 0 e (omega arith)) in
      let its_id : (object_at_cell p.kinds p.cells e.1).id ≡ e.0 = ap (λ c. (unwrap_or c nobody).id) held ∙ same in
      go (is_flagged kept e.1) refl (ap (has_id kept_now) its_id ∙ kept_cell p laid kept e.1 e.0 (stands 0 e (omega arith)))
      (object_swept e.1 o held) (objects_swept ids (λ k d h. stands (suc k) d (omega arith)))
    where
      old : Object
      old = object_at_cell p.kinds p.cells e.1

      front : List Object
      front = map (λ e. object_at_cell p.kinds later e.1) (filter (λ e. is_flagged kept e.1) ids)

      back : List Object
      back = filter (λ o. has_id kept_now o.id) (map (λ e. object_at_cell p.kinds p.cells e.1) ids)

      go : (b : Bool) → is_flagged kept e.1 ≡ b → has_id kept_now old.id ≡ is_flagged kept e.1 →
          (is_flagged kept e.1 ≡ true → object_at_cell p.kinds later e.1 ≡ object_without gone old) → front ≡ map (object_without gone) back →
          map (λ f. object_at_cell p.kinds later f.1) (cond (is_flagged kept e.1) (e ∷ filter (λ f. is_flagged kept f.1) ids) (filter (λ f. is_flagged kept f.1) ids))
          ≡ map (object_without gone) (cond (has_id kept_now old.id) (old ∷ back) back)
      go true flag has swept rest = rw (has, flag) (ap (λ x. x ∷ front) (swept flag) ∙ ap (λ l. object_without gone old ∷ l) rest)
      go false flag has swept rest = rw (has, flag) rest

  abbrev pub with_kept : ℕ → TableParts
  with_kept slots = record { cells = later; ids = filter (λ e. is_flagged kept e.1) p.ids; roots = p.roots; kinds = p.kinds; greatest = p.greatest; slots = slots; most = p.most }

  pub kept_is : (slots : ℕ) → (placed_of (with_kept slots)).table ≡ with_only kept_now (placed_of p).table
  unfolding with_only
  kept_is slots = ap (λ l. record { objects = l; roots = p.roots; greatest = p.greatest; kinds = p.kinds; most = p.most }) (objects_swept p.ids laid.stands)

  kept_filter : (xs : List (ℕ × ℕ)) → map (λ e. e.1) (filter (λ e. is_flagged kept e.1) xs) ≡ filter (is_flagged kept) (map (λ e. e.1) xs)
  kept_filter [] = refl
  kept_filter (e ∷ xs) = go (is_flagged kept e.1) (kept_filter xs)
    where
      go : (b : Bool) → map (λ e. e.1) (filter (λ e. is_flagged kept e.1) xs) ≡ filter (is_flagged kept) (map (λ e. e.1) xs) →
          map (λ e. e.1) (cond b (e ∷ filter (λ e. is_flagged kept e.1) xs) (filter (λ e. is_flagged kept e.1) xs))
          ≡ cond b (e.1 ∷ filter (is_flagged kept) (map (λ e. e.1) xs)) (filter (is_flagged kept) (map (λ e. e.1) xs))
      go true rest = ap (λ l. e.1 ∷ l) rest
      go false rest = rest

  -- what a kept slot holds is kept
  holds_after : (s : CellSlot) → HoldsTaken p.cells s → HoldsTaken later (slot_after kept s)
  holds_after s taken = go s.held taken
    where
      flagged : (c : ℕ) (b : Bool) → is_flagged kept c ≡ b → IsTrue (is_taken p.cells c) →
          HoldsTaken later (cond (not b) (record { held = None; weak = s.weak }) (record { held = Some c; weak = s.weak }))
      flagged c true flag taken = later_taken c ∙ rw (flag, taken) refl
      flagged c false flag taken = tt

      go : (h : Option ℕ) → IfSome h (λ cell. IsTrue (is_taken p.cells cell)) → HoldsTaken later (slot_after kept (record { held = h; weak = s.weak }))
      go None taken = tt
      go (Some c) taken = flagged c (is_flagged kept c) refl taken

  after_known : (b : Bool) (o : Option Resident) → IfSome o (λ q. q.kind < length p.kinds) → IfSome (cond b (option_map (resident_after kept) o) None) (λ q. q.kind < length p.kinds)
  after_known true None known = tt
  after_known true (Some o) known = known
  after_known false o known = tt

  after_leads : (b : Bool) (o : Option Resident) → IfSome o (λ q. All (HoldsTaken p.cells) q.slots) → IfSome (cond b (option_map (resident_after kept) o) None) (λ q. All (HoldsTaken later) q.slots)
  after_leads true None leads = tt
  after_leads true (Some o) leads = All-map (HoldsTaken later) (slot_after kept) o.slots (All-weaker (HoldsTaken p.cells) (λ s. HoldsTaken later (slot_after kept s)) holds_after o.slots leads)
  after_leads false o leads = tt

  pub kept_laid : (slots : ℕ) → length later ≤ length p.cells → IsLaidOut (with_kept slots)
  kept_laid slots long = record {
    rising = AllPairs-filter (λ a b. a.0 < b.0) (λ e. is_flagged kept e.1) p.ids laid.rising;
    stands = λ k d h.
        let ids : List (ℕ × ℕ) = filter (λ e. is_flagged kept e.1) p.ids in
        let e : ℕ × ℕ = get_or ids k d in
        let there : id_held p.cells e.1 ≡ Some e.0 = All-filter (λ e. is_flagged kept e.1) (λ e. id_held p.cells e.1 ≡ Some e.0) p.ids laid.stands k d h in
        let (o, held, same) = held_with_id p.cells e.1 e.0 there in
        ap (option_map (λ (q : Resident). q.id)) (kept_held e.1 o held (filter_passes (λ e. is_flagged kept e.1) p.ids k d h)) ∙ ap Some same;
    once = λ c.
        ap (times c) (kept_filter p.ids)
        ∙ times-filter (is_flagged kept) c (map (λ e. e.1) p.ids)
        ∙ ap (λ n. cond (is_flagged kept c) n 0) (laid.once c)
        ∙ counted (is_flagged kept c) (is_taken p.cells c)
        ∙ ap bit (sym (later_taken c));
    known = λ c. subst (λ o. IfSome o (λ q. q.kind < length p.kinds)) (sym (after c)) (after_known (is_flagged kept c) (held_at p.cells c) (laid.known c));
    leads = λ c. subst (λ o. IfSome o (λ q. All (HoldsTaken later) q.slots)) (sym (after c)) (after_leads (is_flagged kept c) (held_at p.cells c) (laid.leads c));
    few = omega (arith, long, laid.few);
  }
    where
      counted : (a b : Bool) → cond a (bit b) 0 ≡ bit (a && b)
      counted true b = refl
      counted false b = refl

  pub kept_keeps : (slots : ℕ) → length later ≤ length p.cells → KeepsCells (placed_of p) (placed_of (with_kept slots)) kept_now
  kept_keeps slots long = record {
    others = λ cell id is has.
        let at : id_held p.cells cell ≡ Some id = sym (id_in-cells p.cells cell) ∙ is in
        let (o, held, same) = held_with_id p.cells cell id at in
        id_in-cells later cell ∙ ap (option_map (λ (q : Resident). q.id)) (kept_held cell o held (sym (kept_cell p laid kept cell id at) ∙ has)) ∙ ap Some same;
    count = omega (arith, length-map later (option_map (λ (o : Resident). o.id)), long, length-map p.cells (option_map (λ (o : Resident). o.id)));
  }

-- ---- the slots together

pub slot_count-is : (p : TableParts) → slot_count (placed_of p).table ≡ sum_by (λ e. slots_at_cell p.cells e.1) p.ids
slot_count-is p = go p.ids
  where
    go : (ids : List (ℕ × ℕ)) → sum_by (λ o. length o.slots) (map (λ e. object_at_cell p.kinds p.cells e.1) ids) ≡ sum_by (λ e. slots_at_cell p.cells e.1) ids
    go [] = refl
    go (e ∷ ids) =
        sum_by-cons (λ (o : Object). length o.slots) (object_at_cell p.kinds p.cells e.1) (map (λ e. object_at_cell p.kinds p.cells e.1) ids)
        ∙ ap (λ n. n + sum_by (λ o. length o.slots) (map (λ e. object_at_cell p.kinds p.cells e.1) ids)) (length-map (unwrap_or (held_at p.cells e.1) nobody).slots (slot_of p.cells))
        ∙ ap (λ n. slots_at_cell p.cells e.1 + n) (go ids)
        ∙ sym (sum_by-cons (λ (e : ℕ × ℕ). slots_at_cell p.cells e.1) e ids)

pub slot_count-added : (t : Table) (id : ℕ) (kind : List ℕ) (slots : ℕ) → slot_count (with_object t id kind slots) ≡ slot_count t + slots
unfolding with_object
slot_count-added t id kind slots =
    let o : Object = record { id = id; kind = kind; slots = replicate slots empty_slot } in
    let all = sum_by-append (λ (u : Object). length u.slots) t.objects (o ∷ []) in
    let one = sum_by-cons (λ (u : Object). length u.slots) o [] in
    let long = length-replicate slots empty_slot in
    omega arith

pub slot_count-changed : (t : Table) (at slot : ℕ) (change : Slot → Slot) → slot_count (with_changed_slot t at slot change) ≡ slot_count t
unfolding with_changed_slot
slot_count-changed t at slot change = go t.objects
  where
    each : (o : Object) (b : Bool) → length (cond b (record o { slots = set o.slots slot (change (get_or o.slots slot empty_slot)) }) o).slots ≡ length o.slots
    each o true = length-set o.slots slot (change (get_or o.slots slot empty_slot))
    each o false = refl

    go : (objects : List Object) → sum_by (λ o. length o.slots) (map (with_slot at slot change) objects) ≡ sum_by (λ o. length o.slots) objects
    go [] = refl
    go (o ∷ objects) =
        let rest = go objects in
        let here = each o (o.id == at) in
        let after = sum_by-cons (λ (u : Object). length u.slots) (with_slot at slot change o) (map (with_slot at slot change) objects) in
        let before = sum_by-cons (λ (u : Object). length u.slots) o objects in
        omega arith
