-- One level after another is settled.
use Rattle.std.proofs.Common.{◌≡◌, ◌≢◌, ℕ, zero, suc, ◌<◌, ◌≤◌, Bool, true, false, ◌&&◌, not, ⊎_elim, List, [], ◌++◌, length, take, drop, sym, refl}
use Rattle.std.proofs.Common.{ap, subst, ◌∙◌, arith, eqb-true, eq-eqb, ◌==◌, IsTrue, Some}
use Rattle.std.specs.Prelude.{find, AllPairs}
use Rattle.std.specs.Option.{is_some, option_map}
use Rattle.std.proofs.Math.Seq.{drop-append_seam}
use Rattle.std.proofs.lemmas.Bool.{not-true, or_right, and_parts, and_from, false≢true, false_from_ne_true}
use Rattle.std.proofs.lemmas.List.{take-append-drop, drop_all}
use Rattle.graph_meaning.specs.Heap.{ids, edges, targets}
use Rattle.graph_meaning.specs.Reach.{Graph, has_id, within, level, distance, predecessor}
use Rattle.graph_meaning.specs.Paths.{Way}
use Rattle.graph_meaning.specs.Roles.{id_at}
use Rattle.graph_meaning.proofs.Distances.{within-along}
use Rattle.graph_meaning.proofs.HeapLemmas.{has_id-ids}
use Rattle.graph_meaning.proofs.Membership.{has_id-append, has_id-filter, list_any-map, is_some-find}
use Rattle.object_table.specs.Placed.{PlacedTable, id_in, IsPlaced}
use Rattle.path_cert.specs.declared.arrival.Arrival.{Arrival}
use Rattle.path_cert.specs.Levels.{Search, open_graph_of, ends_of, arrival_in, is_new, some_level, AtLevel, ArrivesFirst, ArrivesNext, AreLevelsOf}
use Rattle.path_cert.specs.Frontiers.{Front, level_at, FrontGrows, HasTaken, Round, by_objects, AreByObjects, GoesUpTo, IsSettled, ShutByCell, IsAtLevel}
use Rattle.path_cert.proofs.HeldObjects.{held-id, id-held}
use Rattle.path_cert.proofs.LeastHolders.{edge_to, is_open, NoneHolds, LeastHolds, by_objects-least, by_objects-stays}
use Rattle.path_cert.proofs.Rounds.{find-least, within-node, level-within, level-first, level-from, level-last, level-distance, no-distance, level-rises}

not_equal : (a b : ℕ) → a ≢ b → (a == b) ≡ false
not_equal a b other = false_from_ne_true (a == b) (λ same. other (eqb-true a b same))

has_id-drop : (place : ℕ) (xs : List ℕ) (x : ℕ) → IsTrue (has_id (drop place xs) x) → IsTrue (has_id xs x)
has_id-drop place xs x at =
    ap (λ ys. has_id ys x) (sym (take-append-drop place xs)) ∙ has_id-append (take place xs) (drop place xs) x ∙ or_right _ _ at

module _ (p : PlacedTable) (placed : IsPlaced p) (rising : AllPairs (λ a b. a < b) (ids p.table)) (s : Search) where
  abbrev g : Graph
  g = open_graph_of p s

  abbrev ends : List ℕ
  ends = ends_of s

  node-cell : (x : ℕ) → IsTrue (has_id g.nodes x) → (cell : ℕ) × (id_in p cell ≡ Some x)
  node-cell x node = placed.somewhere x (sym (has_id-ids p.table x) ∙ node)

  cell-node : (cell id : ℕ) → id_in p cell ≡ Some id → IsTrue (has_id g.nodes id)
  cell-node cell id held = has_id-ids p.table id ∙ placed.live cell id held

  level-cell : (n x : ℕ) → IsTrue (has_id (level g ends n) x) → (cell : ℕ) × (id_in p cell ≡ Some x)
  level-cell n x at = node-cell x (within-node g ends n x (level-within g ends n x at))

  -- an edge leads to what one is found to
  edge-some : (x id : ℕ) → has_id (targets p.table x) id ≡ is_some (find (λ e. e.1 == id) (edges p.table x))
  edge-some x id =
      list_any-map (λ y. y == id) (λ (e : ℕ × ℕ). e.1) (edges p.table x) ∙ sym (is_some-find (λ e. e.1 == id) (edges p.table x))

  same_Some : {a b : ℕ} → Some a ≡ Some b → a ≡ b
  same_Some e = cc

  one_level : (m n x : ℕ) → IsTrue (has_id (level g ends m) x) → IsTrue (has_id (level g ends n) x) → m ≡ n
  one_level m n x at there = same_Some (sym (level-distance g ends m x at) ∙ level-distance g ends n x there)

  -- ---- where a level is settled

  module _ (n : ℕ) (f : Front) (place : ℕ) (now : IsAtLevel (record { placed = p; search = s }) n f place) where
    level-of : (cell id : ℕ) → id_in p cell ≡ Some id → IsTrue (has_id (level g ends n) id) → level_at f cell ≡ suc n
    level-of cell id held at = go (level_at f cell) refl
      where
        go : (k : ℕ) → level_at f cell ≡ k → k ≡ suc n
        go zero is = absurd (false≢true (sym ((now.settled cell id held).none is) ∙ level-within g ends n id at))
        go (suc m) is = ap suc (one_level m n id ((now.settled cell id held).some m is).1 at)

    of-level : (cell id : ℕ) → id_in p cell ≡ Some id → level_at f cell ≡ suc n → IsTrue (has_id (level g ends n) id)
    of-level cell id held is = ((now.settled cell id held).some n is).1

    -- where the order ends, nothing is of this level, and all levels are known
    pub levels-done : length f.order ≤ place → length f.arrivals ≡ length p.cells → AreLevelsOf p s (record { start = s.start; arrivals = f.arrivals })
    levels-done end each = record {
      start = refl;
      each = each;
      levels = λ cell id held. known cell id held (level_at f cell) refl;
      arrives = λ cell id held. (now.settled cell id held).arrives;
    }
      where
        empty : (x : ℕ) → has_id (level g ends n) x ≡ false
        empty x = false_from_ne_true _ (λ at.
            let cell = level-cell n x at in
            let is = level-of cell.0 x cell.1 at in
            let none = ap (λ xs. has_id xs cell.0) (drop_all place f.order end) in
            absurd (false≢true (sym none ∙ now.last cell.0 x cell.1 ∙ eq-eqb (level_at f cell.0) (suc n) is)))

        known : (cell id : ℕ) → id_in p cell ≡ Some id → (k : ℕ) → level_at f cell ≡ k → some_level (level_at f cell) ≡ option_map suc (distance g ends id)
        known cell id held zero is =
            ap some_level is ∙ sym (ap (option_map suc) (no-distance g ends n id empty ((now.settled cell id held).none is)))
        known cell id held (suc m) is =
            ap some_level is ∙ sym (ap (option_map suc) (level-distance g ends m id ((now.settled cell id held).some m is).1))

  -- ---- one level more

  module _ (shut : List Bool) (by_cell : ShutByCell p s shut) (n most : ℕ) (two : most ≡ suc (suc n)) (f : Front) (place : ℕ)
      (now : IsAtLevel (record { placed = p; search = s }) n f place) (up_to : GoesUpTo p (suc n) f) where
    abbrev r : Round
    r = record { placed = p; shut = shut; level = most }

    abbrev xs : List ℕ
    xs = drop place f.order

    positive : 0 < most
    positive = omega arith

    -- an open object of the level that holds another stands among those of the round
    among : (x id : ℕ) → IsTrue (has_id (level g ends n) x) → IsTrue (g.passable x) → IsTrue (has_id (targets p.table x) id) →
        (cell : ℕ) × (id_in p cell ≡ Some x) × IsTrue (has_id xs cell) × is_open r cell × IsTrue (is_some (edge_to r cell id))
    among x id at passes target =
        let cell = level-cell n x at in (
          cell.0,
          cell.1,
          now.last cell.0 x cell.1 ∙ eq-eqb (level_at f cell.0) (suc n) (level-of n f place now cell.0 x cell.1 at),
          sym (by_cell cell.0 x cell.1) ∙ not-true (s.is_shut x) passes,
          ap (λ y. is_some (find (λ e. e.1 == id) (edges p.table y))) (id-held p cell.0 x cell.1) ∙ sym (edge-some x id) ∙ target,
        )

    module _ (id : ℕ) (node : IsTrue (has_id g.nodes id)) (new : has_id (within g ends n) id ≡ false) (a : Arrival) where
      settled-none : NoneHolds r xs a id → IsSettled (record { placed = p; search = s }) (suc n) a id
      settled-none h = record {
        none = λ is. false_from_ne_true _ (λ there.
            let last = level-last g ends n id there new in
            let cell = among last.0 id last.1 last.2 last.3 in
            false≢true (sym (ap is_some (h.none cell.0 cell.2 cell.3)) ∙ cell.4));
        some = λ m is. absurd (let e = h.level in omega arith);
        arrives = subst (λ k. AtLevel k (ArrivesFirst p s a id) (ArrivesNext (record { placed = p; search = s }) a id)) (sym h.level) tt;
      }

      settled-some : LeastHolds r xs a id → IsSettled (record { placed = p; search = s }) (suc n) a id
      unfolding predecessor
      settled-some h =
          let held = held-id p a.from (up_to.held a.from (has_id-drop place f.order a.from h.among)) in
          let x = id_at p.cells a.from in
          let is_last : level_at f a.from ≡ suc n = eqb-true (level_at f a.from) (suc n) (sym (now.last a.from x held) ∙ h.among) in
          let at = of-level n f place now a.from x held is_last in
          let passes : IsTrue (g.passable x) = ap not (by_cell a.from x held ∙ h.opens) in
          let target : IsTrue (has_id (targets p.table x) id) = edge-some x id ∙ ap is_some h.edge in
          let there = within-along g ends n x id (level-within g ends n x at) passes (target, node) in
          let this_level : a.level ≡ suc (suc n) = h.level ∙ two in
          record {
            none = λ is. absurd (omega arith);
            some = λ m is.
                let same : suc n ≡ m = omega arith in
                (omega arith, subst (λ k. IsTrue (has_id (level g ends k) id)) same (level-from g ends n id there new));
            arrives = subst (λ k. AtLevel k (ArrivesFirst p s a id) (ArrivesNext (record { placed = p; search = s }) a id)) (sym this_level) (record {
              before = x;
              held = held;
              least = find-least (λ z. g.passable z && has_id (g.targets z) id) (level g ends n) x (level-rises g ends rising n) at (and_from _ _ passes target)
                  (λ y at_y ok.
                  let both = and_parts _ _ ok in
                  let cell = among y id at_y both.0 both.1 in
                  let low = h.least cell.0 cell.2 cell.3 cell.4 in
                  let is_y = id-held p cell.0 y cell.1 in
                  omega arith);
              edge = h.edge;
            });
          }

    settled-old : (a : Arrival) (id : ℕ) → 0 < a.level → IsSettled (record { placed = p; search = s }) n a id → IsSettled (record { placed = p; search = s }) (suc n) a id
    settled-old a id old was = record {
      none = λ is. absurd (omega arith);
      some = λ m is. (let had = was.some m is in let few = had.0 in (omega arith, had.1));
      arrives = was.arrives;
    }

    module _ (h : Front) (are : AreByObjects r xs f.arrivals h.arrivals) (grows : FrontGrows p f h) where
      settled-next : (cell id : ℕ) → id_in p cell ≡ Some id → IsSettled (record { placed = p; search = s }) (suc n) (arrival_in h.arrivals cell) id
      settled-next cell id held = subst (λ b. IsSettled (record { placed = p; search = s }) (suc n) b id) (sym (are cell id held)) (go (level_at f cell) refl)
        where
          go : (k : ℕ) → level_at f cell ≡ k → IsSettled (record { placed = p; search = s }) (suc n) (by_objects r xs (arrival_in f.arrivals cell) id) id
          go zero is =
              let new = (now.settled cell id held).none is in
              let node = cell-node cell id held in
              let a = by_objects r xs (arrival_in f.arrivals cell) id in
              ⊎_elim (settled-none id node new a) (settled-some id node new a) (by_objects-least r positive id xs (arrival_in f.arrivals cell) is)
          go (suc m) is =
              let old : 0 < level_at f cell = omega arith in
              let low : level_at f cell < most = let l = up_to.low cell in omega arith in
              subst (λ b. IsSettled (record { placed = p; search = s }) (suc n) b id) (sym (by_objects-stays r positive id xs (arrival_in f.arrivals cell) old low))
              (settled-old (arrival_in f.arrivals cell) id old (now.settled cell id held))

      -- what got this level is what is new in the order
      new-next : (cell id : ℕ) → id_in p cell ≡ Some id → (is_new (arrival_in f.arrivals cell) && not (is_new (arrival_in h.arrivals cell))) ≡ (level_at h cell == suc (suc n))
      new-next cell id held = subst (λ (b : Arrival). (is_new (arrival_in f.arrivals cell) && not (is_new b)) ≡ (b.level == suc (suc n))) (sym (are cell id held)) (go (level_at f cell) refl)
        where
          after : Arrival
          after = by_objects r xs (arrival_in f.arrivals cell) id

          go : (k : ℕ) → level_at f cell ≡ k →
              (is_new (arrival_in f.arrivals cell) && not (is_new (by_objects r xs (arrival_in f.arrivals cell) id))) ≡ ((by_objects r xs (arrival_in f.arrivals cell) id).level == suc (suc n))
          go zero is =
              let a = by_objects r xs (arrival_in f.arrivals cell) id in
              let was_new = eq-eqb (level_at f cell) 0 is in
              ⊎_elim
              (λ (none : NoneHolds r xs (by_objects r xs (arrival_in f.arrivals cell) id) id).
              let no_level = none.level in
              (λ x. was_new x && not (eq-eqb (by_objects r xs (arrival_in f.arrivals cell) id).level 0 no_level x))
              ∙ sym (not_equal (by_objects r xs (arrival_in f.arrivals cell) id).level (suc (suc n)) (λ same. omega arith)))
              (λ (least : LeastHolds r xs (by_objects r xs (arrival_in f.arrivals cell) id) id).
              let this_level : (by_objects r xs (arrival_in f.arrivals cell) id).level ≡ suc (suc n) = least.level ∙ two in
              (λ x. was_new x && not (not_equal (by_objects r xs (arrival_in f.arrivals cell) id).level 0 (λ same. omega arith) x))
              ∙ sym (eq-eqb (by_objects r xs (arrival_in f.arrivals cell) id).level (suc (suc n)) this_level))
              (by_objects-least r positive id xs (arrival_in f.arrivals cell) is)
          go (suc m) is =
              let old : 0 < level_at f cell = omega arith in
              let low : level_at f cell < most = let l = up_to.low cell in omega arith in
              let stays = by_objects-stays r positive id xs (arrival_in f.arrivals cell) old low in
              ap (λ b. b && not (is_new (by_objects r xs (arrival_in f.arrivals cell) id))) (not_equal (level_at f cell) 0 (λ same. omega arith))
              ∙ sym (ap (λ (b : Arrival). b.level == suc (suc n)) stays ∙ not_equal (level_at f cell) (suc (suc n)) (λ same. omega arith))

      pub at-next : IsAtLevel (record { placed = p; search = s }) (suc n) h (length f.order)
      at-next = record {
        settled = settled-next;
        last = λ cell id held.
            ap (λ ys. has_id ys cell) (ap (drop (length f.order)) grows.order ∙ drop-append_seam f.order grows.fresh) ∙ grows.new cell ∙ new-next cell id held;
      }

  -- ---- the first level

  module _ (f begin : Front) (taken : HasTaken p s.start s.sources f) (grows : FrontGrows p begin f) (nothing : begin.order ≡ [])
      (all_new : (cell : ℕ) → is_new (arrival_in begin.arrivals cell) ≡ true) where
    within-first : (id : ℕ) → IsTrue (has_id g.nodes id) → has_id (within g ends zero) id ≡ is_some (find (λ w. w.to == id) s.sources)
    unfolding within
    within-first id node =
        has_id-filter (has_id ends) g.nodes id
        ∙ ap (λ b. has_id ends id && b) node
        ∙ and_true (has_id ends id)
        ∙ list_any-map (λ y. y == id) (λ (w : Way). w.to) s.sources
        ∙ sym (is_some-find (λ w. w.to == id) s.sources)
      where
        and_true : (b : Bool) → (b && true) ≡ b
        and_true true = refl
        and_true false = refl

    settled-first : (cell id : ℕ) → id_in p cell ≡ Some id → IsSettled (record { placed = p; search = s }) 0 (arrival_in f.arrivals cell) id
    settled-first cell id held =
        let comes = taken.arrivals cell id held in
        let node = cell-node cell id held in
        let a = arrival_in f.arrivals cell in
        record {
          none = λ is. within-first id node ∙ ap is_some (comes.none is);
          some = λ m is.
              let few = comes.level in
              let first : a.level ≡ 1 = omega arith in
              let same : 0 ≡ m = omega arith in
              let by = comes.some first in
              (omega arith, subst (λ k. IsTrue (has_id (level g ends k) id)) same (level-first g ends id (within-first id node ∙ ap is_some by.1)));
          arrives = go a.level refl;
        }
      where
        go : (k : ℕ) → (arrival_in f.arrivals cell).level ≡ k →
            AtLevel (arrival_in f.arrivals cell).level (ArrivesFirst p s (arrival_in f.arrivals cell) id) (ArrivesNext (record { placed = p; search = s }) (arrival_in f.arrivals cell) id)
        go zero is = subst (λ k. AtLevel k (ArrivesFirst p s (arrival_in f.arrivals cell) id) (ArrivesNext (record { placed = p; search = s }) (arrival_in f.arrivals cell) id)) (sym is) tt
        go (suc zero) is =
            subst (λ k. AtLevel k (ArrivesFirst p s (arrival_in f.arrivals cell) id) (ArrivesNext (record { placed = p; search = s }) (arrival_in f.arrivals cell) id)) (sym is)
            (let by = (taken.arrivals cell id held).some is in record { way = by.0; first = by.1; by = by.2; leads = by.3 })
        go (suc (suc k)) is = absurd (let few = (taken.arrivals cell id held).level in omega arith)

    pub at-first : IsAtLevel (record { placed = p; search = s }) 0 f 0
    at-first = record {
      settled = settled-first;
      last = λ cell id held.
          ap (λ ys. has_id ys cell) (grows.order ∙ ap (λ ys. ys ++ grows.fresh) nothing)
          ∙ grows.new cell
          ∙ ap (λ b. b && not (is_new (arrival_in f.arrivals cell))) (all_new cell)
          ∙ low (level_at f cell) (taken.low cell);
    }
      where
        low : (k : ℕ) → k ≤ 1 → not (k == 0) ≡ (k == 1)
        low zero few = refl
        low (suc zero) few = refl
        low (suc (suc k)) few = absurd (omega arith)
