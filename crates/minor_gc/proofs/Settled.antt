-- A nursery after a collection.
use Rattle.std.proofs.Common.{◌≡◌, ℕ, zero, suc, ◌<◌, ◌≤◌, List, [], ◌∷◌, length, map, filter, get_or, Bool, true, false, not, cond, IsTrue, IfSome, Option, None, Some}
use Rattle.std.proofs.Common.{refl, sym, ◌∙◌, ap, subst, ⊎_elim, eq-eqb, arith, ◌-◌}
use Rattle.std.specs.List.{All, count_by}
use Rattle.std.specs.Option.{option_map_or, option_and_then}
use Rattle.std.proofs.lemmas.Bool.{cases_lt, le-ltb, or_left, or_right, and_right}
use Rattle.std.proofs.lemmas.List.{length-map, get_or_past}
use Rattle.std.proofs.lemmas.Option.{none-some}
use Rattle.std.proofs.lemmas.List.Elements.{All-map, All-weaker, All-filter}
use Rattle.graph_meaning.specs.Heap.{Slot, Object, Table, ids, object_at, is_live, targets}
use Rattle.graph_meaning.specs.Reach.{has_id}
use Rattle.graph_meaning.specs.Assertions.{root_ids}
use Rattle.graph_meaning.specs.Collecting.{slot_without, object_without, with_only}
use Rattle.graph_meaning.proofs.Distances.{same_bools}
use Rattle.graph_meaning.proofs.HeapLemmas.{has_id-ids}
use Rattle.graph_meaning.proofs.Membership.{length-filter_le}
use Rattle.graph_meaning.proofs.Rising.{ids-with_only}
use Rattle.object_table.specs.Placed.{PlacedTable, id_in, slots_in, IsPlaced, IsSound, kept_ids, LeadsToKept, HoldKept, KeepsCells}
use Rattle.object_table.proofs.Changes.{kept_has, has_kept}
use Rattle.object_table.proofs.ObjectsByCell.{edges-cell}
use Rattle.minor_gc.specs.Generations.{Generations, is_young, is_old, holds_young, remembered_set, after_keeping, collection_with}
use Rattle.minor_gc.specs.Marks.{Marks, is_marked}
use Rattle.minor_gc.specs.Nurseries.{NurseryParts, generations_of, young_count, NoneWeak, IsNursery}
use Rattle.minor_gc.proofs.Inside.{IsSoundNursery}
use Rattle.minor_gc.proofs.Keeping.{live_kept, all_has}
use Rattle.minor_gc.proofs.Lists.{filter-out}
use Rattle.minor_gc.proofs.Remembered.{remembers}
use Rattle.minor_gc.proofs.Targets.{IsStrong, AllStrong, slot_end, object_strong, target_live, none_pass}

-- ---- tables

-- lists with the same ids keep the same
same_with_only : (a b : List ℕ) → ((x : ℕ) → has_id a x ≡ has_id b x) → (t : Table) → with_only a t ≡ with_only b t
unfolding with_only
same_with_only a b same t =
    λ i. record t { objects = map (object_without (λ id. not (same id i))) (filter (λ (o : Object). same o.id i) t.objects) }

-- no slot is weak that wasn't
slot-strong : (gone : ℕ → Bool) (s : Slot) → IsStrong s → IsStrong (slot_without gone s)
slot-strong gone s = go (option_map_or gone s.held false)
  where
    go : (b : Bool) → s.weak ≡ false → (cond b (record s { held = None }) s).weak ≡ false
    go true old = old
    go false old = old

strong-without : (gone : ℕ → Bool) (objects : List Object) → All AllStrong objects → All AllStrong (map (object_without gone) objects)
strong-without gone objects strong =
    All-map AllStrong (object_without gone) objects (All-weaker AllStrong (λ o. AllStrong (object_without gone o)) each objects strong)
  where
    each : (o : Object) → AllStrong o → AllStrong (object_without gone o)
    each o old =
        All-map IsStrong (slot_without gone) o.slots (All-weaker IsStrong (λ s. IsStrong (slot_without gone s)) (slot-strong gone) o.slots old)

strong-with_only : (kept : List ℕ) (t : Table) → NoneWeak t → NoneWeak (with_only kept t)
unfolding with_only
strong-with_only kept t strong =
    strong-without (λ id. not (has_id kept id)) (filter (λ o. has_id kept o.id) t.objects) (All-filter (λ o. has_id kept o.id) AllStrong t.objects strong)

greatest-with_only : (kept : List ℕ) (t : Table) → (with_only kept t).greatest ≡ t.greatest
unfolding with_only
greatest-with_only kept t = refl

-- no more objects stay than there were
pub fewer_objects : (kept : List ℕ) (t u : Table) → u ≡ with_only kept t → length u.objects ≤ length t.objects
fewer_objects kept t u is =
    let same = ap (λ (t : Table). length t.objects) is in
    let left = length-map (with_only kept t).objects (λ o. o.id) in
    let all = length-map t.objects (λ o. o.id) in
    omega (arith, same, left, ap length (ids-with_only kept t), length-filter_le (has_id kept) (ids t), all)

nth_has : (roots : List (List ℕ × ℕ)) (k : ℕ) (d : List ℕ × ℕ) → k < length roots → has_id (map (λ r. r.1) roots) (get_or roots k d).1 ≡ true
nth_has [] k d h = absurd (omega arith)
nth_has (r ∷ roots) zero d h = or_left _ _ (eq-eqb r.1 r.1 refl)
nth_has (r ∷ roots) (suc k) d h = or_right _ _ (nth_has roots k d (omega arith))

-- ---- what is known once the search has ended, and after the collection

-- what is kept is live, the roots lead to it, and edges from it do
pub record IsKept (t : Table) (kept : List ℕ) : Type 0 where
  pub live : (x : ℕ) → IsTrue (has_id kept x) → IsTrue (is_live t x)
  pub roots : (x : ℕ) → IsTrue (has_id (root_ids t) x) → IsTrue (has_id kept x)
  pub edges : (x y : ℕ) → IsTrue (has_id kept x) → IsTrue (has_id (targets t x) y) → IsTrue (has_id kept y)

-- The search in a nursery has ended: the cells of what is kept are marked, and no others.
pub record MarksKept (n : NurseryParts) (kept : List ℕ) (m : Marks) : Type 0 where
  pub before : IsSoundNursery n
  pub closed : IsKept n.placed.table kept
  pub each : length m.marks ≡ length n.placed.cells
  pub marked : (cell id : ℕ) → id_in n.placed cell ≡ Some id → is_marked m cell ≡ has_id kept id
  pub unheld : (cell : ℕ) → id_in n.placed cell ≡ None → is_marked m cell ≡ false

-- What a collection leaves of a nursery where these cells are marked: in the table what is kept alone, each object in its
-- cell and old, and of each cell of this table the mark, and the count 0.
pub record LeavesKept (n : NurseryParts) (m : Marks) (after : NurseryParts) : Type 0 where
  pub placed : IsPlaced after.placed
  pub sound : IsSound after.placed.table
  pub table : after.placed.table ≡ with_only (kept_ids n.placed.cells m.marks) n.placed.table
  pub cells : KeepsCells n.placed after.placed (kept_ids n.placed.cells m.marks)
  pub old : after.old_up_to ≡ n.greatest
  pub greatest : after.greatest ≡ n.greatest
  pub each_mark : length after.marks ≡ length after.placed.cells
  pub marks : (cell : ℕ) → cell < length after.placed.cells → get_or after.marks cell false ≡ is_marked m cell
  pub idle : after.work ≡ []
  pub each_count : length after.counts ≡ length after.placed.cells
  pub counts : (cell : ℕ) → cell < length after.placed.cells → get_or after.counts cell 0 ≡ 0
  pub remembered : after.remembered ≡ []
  pub room : n.room ≤ after.room

module _ {n : NurseryParts} {kept : List ℕ} {m : Marks} (by_marks : MarksKept n kept m) where
  abbrev p : PlacedTable
  p = n.placed

  abbrev by_cell : List ℕ
  by_cell = kept_ids n.placed.cells m.marks

  pub ids_same : (x : ℕ) → has_id by_cell x ≡ has_id kept x
  ids_same x = same_bools (has_id by_cell x) (has_id kept x)
      (λ has. let there = has_kept p.cells m.marks x has in sym (by_marks.marked there.0 x there.1) ∙ there.2)
      (λ has.
      let there = by_marks.before.placed.somewhere x (by_marks.closed.live x has) in
      kept_has p.cells m.marks there.0 x there.1 (by_marks.marked there.0 x there.1 ∙ has))

  pub leads : LeadsToKept p.table by_cell
  leads = record {
    by_roots = λ k d h.
        let root = (get_or p.table.roots k d).1 in
        ids_same root ∙ by_marks.closed.roots root (nth_has p.table.roots k d h);
    by_edges = λ x y has edge. ids_same y ∙ by_marks.closed.edges x y (sym (ids_same x) ∙ has) edge;
  }

  slots_strong : (o : Option ℕ) → All IsStrong (option_map_or (λ (u : Object). u.slots) (option_and_then (object_at p.table.objects) o) [])
  slots_strong None = λ k d h. absurd (omega arith)
  slots_strong (Some id) = go (object_at p.table.objects id) refl
    where
      go : (o : Option Object) → object_at p.table.objects id ≡ o → All IsStrong (option_map_or (λ (u : Object). u.slots) o [])
      go None at = λ k d h. absurd (omega arith)
      go (Some o) at = object_strong p.table id o by_marks.before.nursery.strong at

  pub hold : HoldKept p by_cell
  hold cell id at has k d h = go (get_or (slots_in p cell) k d).held refl
    where
      go : (o : Option ℕ) → (get_or (slots_in p cell) k d).held ≡ o → IfSome o (λ y. IsTrue (has_id by_cell y))
      go None e = tt
      go (Some y) e =
          let end = slot_end 0 (slots_in p cell) k y d (slots_strong (id_in p cell)) h e in
          let edge : has_id (targets p.table id) y ≡ true = ap (λ es. has_id (map (λ (f : ℕ × ℕ). f.1) es) y) (edges-cell p cell id at) ∙ end in
          ids_same y ∙ by_marks.closed.edges id y (sym (ids_same id) ∙ has) edge

  module _ {after : NurseryParts} (leaves : LeavesKept n m after) where
    abbrev g' : Generations
    g' = generations_of after

    abbrev t' : Table
    t' = after.placed.table

    abbrev young_then : ℕ → Bool
    young_then = is_young g'

    -- what is live then was kept
    live_was : (x : ℕ) → IsTrue (is_live t' x) → IsTrue (has_id by_cell x) × IsTrue (is_live p.table x)
    live_was x live = live_kept by_cell p.table x (ap (λ (t : Table). is_live t x) (sym leaves.table) ∙ live)

    low : (x : ℕ) → IsTrue (is_live t' x) → x ≤ after.old_up_to
    low x live =
        let seen = has_id-ids p.table x ∙ (live_was x live).1 in
        let within = all_has (λ id. id ≤ p.table.greatest) (ids p.table) by_marks.before.sound.ids.within x seen in
        omega (arith, within, by_marks.before.nursery.greatest, leaves.old)

    old_then : (x : ℕ) → IsTrue (is_live t' x) → young_then x ≡ false
    old_then x live = le-ltb after.old_up_to x (low x live)

    -- its cell is the one that it had
    cell_was : (cell x : ℕ) → id_in after.placed cell ≡ Some x → id_in p cell ≡ Some x
    cell_was cell x at =
        let was = live_was x (leaves.placed.live cell x at) in
        let there = by_marks.before.placed.somewhere x was.1 in
        let still = leaves.cells.others there.0 x there.1 was.0 in
        ap (id_in p) (leaves.placed.once cell there.0 x at still) ∙ there.1

    -- a marked cell holds its object still
    marked_then : (cell : ℕ) → is_marked m cell ≡ option_map_or (is_old g') (id_in after.placed cell) false
    marked_then cell = go (id_in after.placed cell) refl
      where
        empty : (o : Option ℕ) → id_in p cell ≡ o → id_in after.placed cell ≡ None → (b : Bool) → is_marked m cell ≡ b → b ≡ false
        empty o at none false e = refl
        empty None at none true e = sym e ∙ by_marks.unheld cell at
        empty (Some x) at none true e =
            let has = ids_same x ∙ sym (by_marks.marked cell x at) ∙ e in
            absurd (none-some x (sym none ∙ leaves.cells.others cell x at has))

        go : (o : Option ℕ) → id_in after.placed cell ≡ o → is_marked m cell ≡ option_map_or (is_old g') o false
        go None at = empty (id_in p cell) refl at (is_marked m cell) refl
        go (Some x) at =
            let live = leaves.placed.live cell x at in
            by_marks.marked cell x (cell_was cell x at) ∙ sym (ids_same x) ∙ (live_was x live).0 ∙ sym (ap not (old_then x live))

    -- past the cells both lists have the default
    marks_then : (cell : ℕ) → get_or after.marks cell false ≡ option_map_or (is_old g') (id_in after.placed cell) false
    marks_then cell = ⊎_elim
        (λ within. leaves.marks cell within ∙ marked_then cell)
        (λ past.
        let none = get_or_past after.placed.cells cell None past in
        get_or_past after.marks cell false (omega (arith, past, leaves.each_mark)) ∙ sym (ap (λ o. option_map_or (is_old g') o false) none))
        (cases_lt cell (length after.placed.cells))

    targets_old : (x y : ℕ) → IsTrue (has_id (targets t' x) y) → young_then y ≡ false
    targets_old x y has = old_then y (target_live t' leaves.sound.slots x y has)

    none_young : (o : Option ℕ) → 0 ≡ young_count g' o
    none_young None = refl
    none_young (Some x) = pick (young_then x)
      where
        pick : (b : Bool) → 0 ≡ cond b 0 (count_by young_then (targets t' x))
        pick true = refl
        pick false = sym (none_pass young_then (targets t' x) (targets_old x)).1

    counts_then : (cell : ℕ) → get_or after.counts cell 0 ≡ young_count g' (id_in after.placed cell)
    counts_then cell = ⊎_elim
        (λ within. leaves.counts cell within)
        (λ past. get_or_past after.counts cell 0 (omega (arith, past, leaves.each_count)))
        (cases_lt cell (length after.placed.cells))
        ∙ none_young (id_in after.placed cell)

    remembered_then : [] ≡ remembered_set g'
    unfolding remembered_set
    remembered_then = go (ids t')
      where
        fails : (x : ℕ) → remembers g' x ≡ false
        fails x = and_right (is_old g' x) (holds_young g' x) (none_pass young_then (targets t' x) (targets_old x)).0

        go : (xs : List ℕ) → [] ≡ filter (remembers g') xs
        go [] = refl
        go (x ∷ xs) = go xs ∙ sym (filter-out (remembers g') x xs (fails x))

    pub settled : IsNursery after
    settled = record {
      greatest = leaves.greatest ∙ by_marks.before.nursery.greatest ∙ sym (ap (λ (t : Table). t.greatest) leaves.table ∙ greatest-with_only by_cell p.table);
      old = omega (arith, leaves.old, leaves.greatest);
      strong = subst NoneWeak (sym leaves.table) (strong-with_only by_cell p.table by_marks.before.nursery.strong);
      stacked = record {
        full = λ x young cell lower at below. absurd (let l = low x (leaves.placed.live cell x at) in omega arith);
        rising = λ cell other x later at there young less. absurd (let l = low x (leaves.placed.live cell x at) in omega arith);
      };
      each_mark = leaves.each_mark;
      marks = marks_then;
      idle = leaves.idle;
      each_count = leaves.each_count;
      counts = counts_then;
      remembered = leaves.remembered ∙ remembered_then;
      room = omega (arith, fewer_objects by_cell p.table t' leaves.table, by_marks.before.nursery.room, leaves.room);
    }

    table_is : t' ≡ with_only kept p.table
    table_is = leaves.table ∙ same_with_only by_cell kept ids_same p.table

    pub heap_is : generations_of after ≡ after_keeping kept (generations_of n)
    heap_is = λ i. record { table = table_is i; old_up_to = (leaves.old ∙ by_marks.before.nursery.greatest) i }

    -- what the collection says of itself, by how many objects were live, how many are left, and how many were remembered
    pub collection_is : (live left listed : ℕ) → live ≡ length p.table.objects → left ≡ length t'.objects → listed ≡ length n.remembered →
        record { live = live; freed = live - left; remembered = listed } ≡ collection_with kept (generations_of n)
    collection_is live left listed were are listed_is =
        let less : live - left ≡ length p.table.objects - length (with_only kept p.table).objects =
        λ i. were i - (are ∙ ap (λ (t : Table). length t.objects) table_is) i in
        λ i. record {
          live = were i;
          freed = less i;
          remembered = (listed_is ∙ ap (λ l. length l) by_marks.before.nursery.remembered) i;
        }
