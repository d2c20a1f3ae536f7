-- The searches of both collections, and what they mark.
use Rattle.std.proofs.Common.{◌≡◌, ◌==◌, ℕ, zero, suc, List, [], ◌++◌, length, filter, replicate, get_or, Bool, true, false, not, ◌||◌, ◌&&◌, IsTrue, Some, refl, sym, ◌∙◌, ap, ◌≤◌}
use Rattle.std.specs.List.{list_any, flat_map}
use Rattle.std.specs.Option.{option_map_or}
use Rattle.std.proofs.lemmas.Bool.{le-ltb, or_left, and_parts, and_from}
use Rattle.std.proofs.lemmas.List.{length-replicate}
use Rattle.graph_meaning.specs.Heap.{Table, ids, is_live, targets}
use Rattle.graph_meaning.specs.Reach.{has_id}
use Rattle.graph_meaning.specs.Assertions.{object_graph, root_ids}
use Rattle.graph_meaning.proofs.Distances.{same_bools}
use Rattle.graph_meaning.proofs.HeapLemmas.{has_id-ids}
use Rattle.graph_meaning.proofs.Membership.{has_id-filter, has_id-append, has_id-from_list_any, list_any-from_has_id, list_any-flat_map}
use Rattle.graph_meaning.proofs.Reaching.{reached_nodes-closed, reached_nodes-in_nodes}
use Rattle.object_table.specs.Placed.{PlacedTable, id_in}
use Rattle.minor_gc.specs.Generations.{Generations, is_young, is_old, holds_young, young_graph, young_starts, young_kept, kept_by_minor, kept_by_full}
use Rattle.minor_gc.specs.Marks.{Marks, is_marked, MarksAll, MarkSearch, IsMarkSearch, IsMarking}
use Rattle.minor_gc.specs.Nurseries.{NurseryParts, generations_of}
use Rattle.minor_gc.proofs.Inside.{IsSoundNursery}
use Rattle.minor_gc.proofs.Keeping.{all_has, in_minor, start_stays, edge_stays}
use Rattle.minor_gc.proofs.Marking.{Meets-join, searching-begin, marked-is}
use Rattle.minor_gc.proofs.Remembered.{remembers, remembered_is}
use Rattle.minor_gc.proofs.Settled.{IsKept, MarksKept}
use Rattle.minor_gc.proofs.Targets.{target_live}

-- What a search tells that has come to its end: it went on with whatever it was on, and nothing is left to follow.
pub record HasRun (p : PlacedTable) (before after : Marks) : Type 0 where
  pub each : length after.marks ≡ length before.marks
  pub searching : (q : MarkSearch) → q.placed ≡ p → IsMarkSearch q → IsMarking q before → IsMarking q after
  pub done : after.work ≡ []

and_true : (b : Bool) → (b && true) ≡ b
and_true true = refl
and_true false = refl

not_not : (b : Bool) → not (not b) ≡ b
not_not true = refl
not_not false = refl

module _ {n : NurseryParts} (is : IsSoundNursery n) where
  abbrev g : Generations
  g = generations_of n

  abbrev t : Table
  t = n.placed.table

  root_live : (x : ℕ) → IsTrue (has_id (root_ids t) x) → IsTrue (is_live t x)
  root_live x has = all_has (λ y. IsTrue (is_live t y)) (root_ids t) is.sound.roots x has

  edge_live : (x y : ℕ) → IsTrue (has_id (targets t x) y) → IsTrue (is_live t y)
  edge_live = target_live t is.sound.slots

  held_live : (cell id : ℕ) → id_in n.placed cell ≡ Some id → IsTrue (has_id (ids t) id)
  held_live cell id at = has_id-ids t id ∙ is.placed.live cell id at

  -- ---- a minor collection

  -- what the old objects hold
  abbrev held_by_old : List ℕ
  held_by_old = flat_map (targets t) (filter (is_old g) (ids t))

  stays : (x : ℕ) → IsTrue (has_id (kept_by_minor g) x) → IsTrue (is_old g x || has_id (young_kept g) x) × IsTrue (is_live t x)
  unfolding kept_by_minor
  stays x has =
      let both = and_parts _ _ (sym (has_id-filter (λ y. is_old g y || has_id (young_kept g) y) (ids t) x) ∙ has) in
      (both.0, sym (has_id-ids t x) ∙ both.1)

  minor_closed : IsKept t (kept_by_minor g)
  minor_closed = record {
    live = λ x has. (stays x has).1;
    roots = λ x has.
        let live = root_live x has in
        in_minor g x live (start_stays g x live (has_id-append (root_ids t) held_by_old x ∙ or_left _ _ has));
    edges = λ x y has edge.
        let was = stays x has in
        let live = edge_live x y edge in
        in_minor g y live (edge_stays g x y was.1 was.0 (edge, has_id-ids t y ∙ live));
  }

  abbrev marks_before : Marks
  marks_before = record { marks = n.marks; work = n.work }

  abbrev minor_quest : MarkSearch
  minor_quest = record { placed = n.placed; before = marks_before; graph = young_graph g; sources = young_starts g }

  mark_of : (cell id : ℕ) → id_in n.placed cell ≡ Some id → is_marked marks_before cell ≡ is_old g id
  mark_of cell id at = is.nursery.marks cell ∙ ap (λ o. option_map_or (is_old g) o false) at

  young_node : (id : ℕ) → IsTrue (has_id (young_graph g).nodes id) → IsTrue (is_young g id) × IsTrue (has_id (ids t) id)
  young_node id node = let both = and_parts _ _ (sym (has_id-filter (is_young g) (ids t) id) ∙ node) in (both.0, both.1)

  minor_is_quest : IsMarkSearch minor_quest
  minor_is_quest = record {
    nodes = λ cell id at.
        has_id-filter (is_young g) (ids t) id
        ∙ ap (λ b. is_young g id && b) (held_live cell id at)
        ∙ and_true (is_young g id)
        ∙ sym (ap not (mark_of cell id at) ∙ not_not (is_young g id));
    live = λ id has. sym (has_id-ids t id) ∙ (young_node id has).1;
    targets = λ id. refl;
    passable = λ id. refl;
  }

  -- a young object that an old one holds is held by a remembered one, and the other way round
  agree : (y : ℕ) → is_young g y ≡ true → has_id (flat_map (targets t) n.remembered) y ≡ has_id held_by_old y
  agree y young =
      ap (λ l. has_id (flat_map (targets t) l) y) (remembered_is g n.remembered is.nursery.remembered)
      ∙ list_any-flat_map (λ z. z == y) (targets t) (filter (remembers g) (ids t))
      ∙ same_bools (list_any holds (filter (remembers g) (ids t))) (list_any holds (filter (is_old g) (ids t))) old_one remembered_one
      ∙ sym (list_any-flat_map (λ z. z == y) (targets t) (filter (is_old g) (ids t)))
    where
      holds : ℕ → Bool
      holds x = has_id (targets t x) y

      old_one : list_any holds (filter (remembers g) (ids t)) ≡ true → list_any holds (filter (is_old g) (ids t)) ≡ true
      old_one any =
          let (x, among, edge) = has_id-from_list_any holds (filter (remembers g) (ids t)) any in
          let both = and_parts (remembers g x) (has_id (ids t) x) (sym (has_id-filter (remembers g) (ids t) x) ∙ among) in
          let old = and_parts (is_old g x) (holds_young g x) both.0 in
          list_any-from_has_id holds (filter (is_old g) (ids t)) x (has_id-filter (is_old g) (ids t) x ∙ and_from _ _ old.0 both.1) edge

      remembered_one : list_any holds (filter (is_old g) (ids t)) ≡ true → list_any holds (filter (remembers g) (ids t)) ≡ true
      remembered_one any =
          let (x, among, edge) = has_id-from_list_any holds (filter (is_old g) (ids t)) any in
          let both = and_parts (is_old g x) (has_id (ids t) x) (sym (has_id-filter (is_old g) (ids t) x) ∙ among) in
          let some = list_any-from_has_id (is_young g) (targets t x) y edge young in
          let its = and_from _ _ (and_from _ _ both.0 some) both.1 in
          list_any-from_has_id holds (filter (remembers g) (ids t)) x (has_id-filter (remembers g) (ids t) x ∙ its) edge

  abbrev held_by_remembered : List ℕ
  held_by_remembered = flat_map (targets t) n.remembered

  -- what a minor collection marks: it begins at the roots, and at what remembered objects hold
  module _ (roots objects m : Marks)
      (first : MarksAll n.placed (root_ids t) marks_before roots) (second : MarksAll n.placed held_by_remembered roots objects)
      (run : HasRun n.placed objects m) where
    minor_begins : IsMarking minor_quest objects
    minor_begins =
        searching-begin minor_quest is.placed minor_is_quest (root_ids t ++ held_by_remembered) same objects is.nursery.idle
        (Meets-join first second)
      where
        same : (id : ℕ) → IsTrue (has_id (young_graph g).nodes id) → has_id (root_ids t ++ held_by_remembered) id ≡ has_id (young_starts g) id
        same id node =
            has_id-append (root_ids t) held_by_remembered id
            ∙ ap (λ b. has_id (root_ids t) id || b) (agree id (young_node id node).0)
            ∙ sym (has_id-append (root_ids t) held_by_old id)

    minor_searching : IsMarking minor_quest m
    minor_searching = run.searching minor_quest refl minor_is_quest minor_begins

    minor_marked : (cell id : ℕ) → id_in n.placed cell ≡ Some id → is_marked m cell ≡ has_id (kept_by_minor g) id
    unfolding kept_by_minor young_kept
    minor_marked cell id at =
        let live = ap (λ b. (is_old g id || has_id (young_kept g) id) && b) (held_live cell id at) ∙ and_true (is_old g id || has_id (young_kept g) id) in
        marked-is minor_quest is.placed minor_is_quest m run.done minor_searching cell id at
        ∙ ap (λ b. b || has_id (young_kept g) id) (mark_of cell id at)
        ∙ sym (has_id-filter (λ y. is_old g y || has_id (young_kept g) y) (ids t) id ∙ live)

    pub minor_marks : MarksKept n (kept_by_minor g) m
    minor_marks = record {
      before = is;
      closed = minor_closed;
      each = run.each ∙ second.each ∙ first.each ∙ is.nursery.each_mark;
      marked = minor_marked;
      unheld = λ cell at. minor_searching.unheld cell at ∙ is.nursery.marks cell ∙ ap (λ o. option_map_or (is_old g) o false) at;
    }

  -- it keeps each old object
  pub old_kept : (id : ℕ) → IsTrue (is_live t id) → id ≤ n.old_up_to → IsTrue (has_id (kept_by_minor g) id)
  old_kept id live le = in_minor g id live (or_left _ _ (ap not (le-ltb n.old_up_to id le)))

  -- ---- a full one

  full_closed : IsKept t (kept_by_full g)
  unfolding kept_by_full
  full_closed = record {
    live = λ x has. sym (has_id-ids t x) ∙ reached_nodes-in_nodes (object_graph t) (root_ids t) x has;
    roots = λ x has. (reached_nodes-closed (object_graph t) (root_ids t)).from_sources x has (has_id-ids t x ∙ root_live x has);
    edges = λ x y has edge.
        (reached_nodes-closed (object_graph t) (root_ids t)).along_edges x y has refl (edge, has_id-ids t y ∙ edge_live x y edge);
  }

  -- what a full collection marks, for which the marks are taken away first: it begins at the roots
  module _ (cleared roots m : Marks)
      (none : cleared.marks ≡ replicate (length n.marks) false) (idle : cleared.work ≡ [])
      (first : MarksAll n.placed (root_ids t) cleared roots) (run : HasRun n.placed roots m) where
    abbrev full_quest : MarkSearch
    full_quest = record { placed = n.placed; before = cleared; graph = object_graph t; sources = root_ids t }

    unmarked : (cell : ℕ) → is_marked cleared cell ≡ false
    unmarked cell = ap (λ l. get_or l cell false) none ∙ past (length n.marks) cell
      where
        past : (k c : ℕ) → get_or (replicate k false) c false ≡ false
        past zero c = refl
        past (suc k) zero = refl
        past (suc k) (suc c) = past k c

    full_is_quest : IsMarkSearch full_quest
    full_is_quest = record {
      nodes = λ cell id at. held_live cell id at ∙ sym (ap not (unmarked cell));
      live = λ id has. sym (has_id-ids t id) ∙ has;
      targets = λ id. refl;
      passable = λ id. refl;
    }

    full_searching : IsMarking full_quest m
    full_searching =
        run.searching full_quest refl full_is_quest (searching-begin full_quest is.placed full_is_quest (root_ids t) (λ id node. refl) roots idle first)

    full_marked : (cell id : ℕ) → id_in n.placed cell ≡ Some id → is_marked m cell ≡ has_id (kept_by_full g) id
    unfolding kept_by_full
    full_marked cell id at =
        marked-is full_quest is.placed full_is_quest m run.done full_searching cell id at
        ∙ ap (λ b. b || has_id (kept_by_full g) id) (unmarked cell)

    pub full_marks : MarksKept n (kept_by_full g) m
    full_marks = record {
      before = is;
      closed = full_closed;
      each = run.each ∙ first.each ∙ ap length none ∙ length-replicate (length n.marks) false ∙ is.nursery.each_mark;
      marked = full_marked;
      unheld = λ cell at. full_searching.unheld cell at ∙ unmarked cell;
    }
