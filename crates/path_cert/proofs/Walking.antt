-- A walk back over the canonical path, from its end to its start.
use Rattle.std.proofs.Common.{◌≡◌, ℕ, zero, suc, ◌+◌, ◌<◌, Bool, true, false, ◌&&◌, cond, List, [], ◌∷◌, ◌++◌, length, sym, refl, ap, subst, ◌∙◌}
use Rattle.std.proofs.Common.{arith, eq-eqb, ◌==◌, Option, None, Some, append-nil, append_assoc}
use Rattle.std.specs.Prelude.{find, IsSome}
use Rattle.std.specs.List.{slice_get}
use Rattle.std.specs.Option.{IfSome, is_some, option_map, option_and_then}
use Rattle.std.proofs.lemmas.Bool.{or_left, or_right, false≢true}
use Rattle.std.proofs.lemmas.Option.{option_and_then_some}
use Rattle.graph_meaning.specs.declared.paths.PathFrom.{PathFrom}
use Rattle.graph_meaning.specs.declared.paths.PathStep.{PathStep}
use Rattle.graph_meaning.specs.declared.paths.PathView.{PathView}
use Rattle.graph_meaning.specs.Heap.{edges, edge_at, edge_of}
use Rattle.graph_meaning.specs.Reach.{Graph, has_id, level, distance, predecessor}
use Rattle.graph_meaning.specs.Paths.{Way, PathSearch, way_by_edge, root_way, owner_way, way_on_to, way_at, canonical_way, view_of, IsWay}
use Rattle.graph_meaning.specs.Roles.{id_at}
use Rattle.graph_meaning.proofs.Distances.{find_All, is_some-distance}
use Rattle.graph_meaning.proofs.Ways.{canonical_exists, edges-at, way_at-to}
use Rattle.object_table.specs.Placed.{PlacedTable, id_in, slot_in}
use Rattle.path_cert.specs.declared.start.Start.{Start}
use Rattle.path_cert.specs.declared.start.Start.TheVariants.{Roots, Owners}
use Rattle.path_cert.specs.declared.arrival.Arrival.{Arrival}
use Rattle.path_cert.specs.declared.trail.Trail.{Trail}
use Rattle.path_cert.specs.Levels.{Search, LevelTable, open_graph_of, ends_of, way_in, arrival_in, some_level, source_way, AtLevel, ArrivesFirst, ArrivesNext, AreLevelsOf}
use Rattle.path_cert.specs.Steps.{step_to, way_by_slot}
use Rattle.path_cert.specs.Trails.{path_steps, HasShown, ByStart, MayStartPath, IsStart}
use Rattle.path_cert.proofs.HeldObjects.{held-id, id-held}
use Rattle.path_cert.proofs.Rounds.{level-distance}

same_Some : {X : Type 0} {a b : X} → Some a ≡ Some b → a ≡ b
same_Some e = cc

-- what is found stands in the list
find-has_id : (q : ℕ → Bool) (xs : List ℕ) (x : ℕ) → find q xs ≡ Some x → has_id xs x ≡ true
find-has_id q [] x found = absurd (cc)
find-has_id q (z ∷ xs) x found = go (q z) (find-has_id q xs x) found
  where
    go : (b : Bool) → (find q xs ≡ Some x → has_id xs x ≡ true) → cond b (Some z) (find q xs) ≡ Some x → has_id (z ∷ xs) x ≡ true
    go true later found = or_left _ _ (eq-eqb z x (same_Some found))
    go false later found = or_right _ _ (later found)

slice_get-within : {X : Type 0} (xs : List X) (k : ℕ) (x : X) → slice_get xs k ≡ Some x → k < length xs
slice_get-within [] k x is = absurd (cc)
slice_get-within (y ∷ xs) zero x is = omega arith
slice_get-within (y ∷ xs) (suc k) x is = (let later = slice_get-within xs k x is in omega arith)

-- a level is told by itself
level-is : (k n : ℕ) → some_level k ≡ Some (suc n) → k ≡ suc n
level-is zero n is = absurd (cc)
level-is (suc k) n is = same_Some is

-- ---- a search by ids

abbrev pub path_search : PlacedTable → Search → PathSearch
path_search p s = record { table = p.table; is_shut = s.is_shut; sources = s.sources }

-- ---- one step back

-- the way is the one so many steps from the start
abbrev pub IsWayOf : PlacedTable → Search → Start → ℕ → Way → Type 0
IsWayOf p s Roots n w = way_at (path_search p s) n w.to ≡ Some w
IsWayOf p s Owners zero w = w ≡ owner_way p.table w.to
IsWayOf p s Owners (suc n) w = way_at (path_search p s) n w.to ≡ Some w

-- the level of an object so many steps from the start; an owner may have any, or none
abbrev pub IsLevelOf : Start → ℕ → ℕ → Type 0
IsLevelOf Roots n k = k ≡ suc n
IsLevelOf Owners zero k = Unit {0}
IsLevelOf Owners (suc n) k = k ≡ suc n

-- The way leads to the object in the cell by so many steps.
pub record LeadsHere (p : PlacedTable) (s : Search) (l : LevelTable) (left cell : ℕ) (w : Way) : Type 0 where
  pub held : id_in p cell ≡ Some w.to
  pub level : IsLevelOf s.start left (arrival_in l.arrivals cell).level
  pub is : IsWayOf p s s.start left w

-- the step by which the path arrives at the object in a cell
abbrev pub last_step : PlacedTable → LevelTable → ℕ → ℕ → PathStep
last_step p l cell id = step_to p.table ((arrival_in l.arrivals cell).slot, id)

-- The same, one step earlier, and that step.
pub record StepsBack (p : PlacedTable) (s : Search) (l : LevelTable) (left cell : ℕ) (w : Way) : Type 0 where
  pub before : Way
  pub leads : LeadsHere p s l left (arrival_in l.arrivals cell).from before
  pub last : w ≡ way_by_edge p.table before ((arrival_in l.arrivals cell).slot, w.to)
  pub edge : edge_at p.table before.to (arrival_in l.arrivals cell).slot ≡ Some w.to

module _ (p : PlacedTable) (s : Search) (l : LevelTable) (levels : AreLevelsOf p s l) where
  abbrev g : Graph
  g = open_graph_of p s

  -- the levels of the objects that predecessors are
  pub level-before : (n id before from : ℕ) → predecessor g (ends_of s) n id ≡ Some before → id_in p from ≡ Some before → (arrival_in l.arrivals from).level ≡ suc n
  unfolding predecessor
  level-before n id before from least held =
      let at = find-has_id (λ x. g.passable x && has_id (g.targets x) id) (level g (ends_of s) n) before least in
      level-is (arrival_in l.arrivals from).level n (levels.levels from before held ∙ ap (option_map suc) (level-distance g (ends_of s) n before at))

  module _ (cell id : ℕ) (held : id_in p cell ≡ Some id) where
    abbrev a : Arrival
    a = arrival_in l.arrivals cell

    -- beyond the first step
    next-back : (n : ℕ) (w : Way) → w.to ≡ id → a.level ≡ suc (suc n) → way_at (path_search p s) (suc n) id ≡ Some w →
        (before : Way) × (id_in p a.from ≡ Some before.to) × ((arrival_in l.arrivals a.from).level ≡ suc n)
        × (way_at (path_search p s) n before.to ≡ Some before) × (w ≡ way_by_edge p.table before (a.slot, id))
        × (edge_at p.table before.to a.slot ≡ Some id)
    unfolding way_at
    next-back n w to this_level found =
        let arrives = subst (λ k. AtLevel k (ArrivesFirst p s a id) (ArrivesNext (record { placed = p; search = s }) a id)) this_level (levels.arrives cell id held) in
        let known = sym (ap (λ o. option_and_then (way_on_to p.table id) (option_and_then (way_at (path_search p s) n) o)) arrives.least) ∙ found in
        option_and_then_some (way_on_to p.table id) (way_at (path_search p s) n arrives.before) w known
        (λ v at last.
        let to_before = way_at-to (path_search p s) n arrives.before v at in
        let edge = ap (λ x. find (λ e. e.1 == id) (edges p.table x)) to_before ∙ arrives.edge in (
          v,
          arrives.held ∙ ap Some (sym to_before),
          level-before n id arrives.before a.from arrives.least arrives.held,
          ap (way_at (path_search p s) n) to_before ∙ at,
          same_Some (sym last ∙ ap (option_map (way_by_edge p.table v)) edge),
          find_All (λ e. e.1 == id) (λ e. edge_at p.table v.to e.0 ≡ Some e.1) (edges p.table v.to) (a.slot, id) (edges-at p.table v.to) edge,
        ))

    -- the first step from an owner
    owner-back : (w : Way) → s.start ≡ Owners → a.level ≡ suc zero → way_at (path_search p s) zero id ≡ Some w →
        (o : ℕ) × (id_in p a.from ≡ Some o) × (w ≡ way_by_edge p.table (owner_way p.table o) (a.slot, id)) × (edge_at p.table o a.slot ≡ Some id)
    unfolding way_at
    owner-back w start first_level found =
        let arrives = subst (λ k. AtLevel k (ArrivesFirst p s a id) (ArrivesNext (record { placed = p; search = s }) a id)) first_level (levels.arrives cell id held) in
        let same = same_Some (sym found ∙ arrives.first) in
        let leads = subst (IsWay p.table) (sym same) arrives.leads in
        go (id_in p a.from) refl (sym (ap (λ (st : Start). source_way p st a id) start) ∙ arrives.by ∙ ap Some (sym same)) leads
      where
        go : (o : Option ℕ) → id_in p (arrival_in l.arrivals cell).from ≡ o →
            option_map (λ x. way_by_edge p.table (owner_way p.table x) ((arrival_in l.arrivals cell).slot, id)) o ≡ Some w → IsWay p.table w →
            (o : ℕ) × (id_in p (arrival_in l.arrivals cell).from ≡ Some o)
            × (w ≡ way_by_edge p.table (owner_way p.table o) ((arrival_in l.arrivals cell).slot, id))
            × (edge_at p.table o (arrival_in l.arrivals cell).slot ≡ Some id)
        go None at by leads = absurd (cc)
        go (Some o) at by leads = (o, at, sym (same_Some by), (subst (IsWay p.table) (sym (same_Some by)) leads).0)

    -- the root at which it starts
    pub root-back : (w : Way) → s.start ≡ Roots → a.level ≡ suc zero → way_at (path_search p s) zero id ≡ Some w →
        (r : List ℕ × ℕ) × (slice_get p.table.roots a.from ≡ Some r) × (w ≡ root_way p.table r)
    unfolding way_at
    root-back w start first_level found =
        let arrives = subst (λ k. AtLevel k (ArrivesFirst p s a id) (ArrivesNext (record { placed = p; search = s }) a id)) first_level (levels.arrives cell id held) in
        let same = same_Some (sym found ∙ arrives.first) in
        go (slice_get p.table.roots a.from) refl (sym (ap (λ (st : Start). source_way p st a id) start) ∙ arrives.by ∙ ap Some (sym same))
      where
        go : (o : Option (List ℕ × ℕ)) → slice_get p.table.roots (arrival_in l.arrivals cell).from ≡ o →
            option_map (root_way p.table) o ≡ Some w →
            (r : List ℕ × ℕ) × (slice_get p.table.roots (arrival_in l.arrivals cell).from ≡ Some r) × (w ≡ root_way p.table r)
        go None at by = absurd (cc)
        go (Some r) at by = (r, at, sym (same_Some by))

  -- ---- one step back

  pub steps-back : (left cell : ℕ) (w : Way) → LeadsHere p s l (suc left) cell w → StepsBack p s l left cell w
  steps-back left cell w leads = go s.start refl left leads.level leads.is
    where
      go : (start : Start) → s.start ≡ start → (n : ℕ) → IsLevelOf start (suc n) (arrival_in l.arrivals cell).level → IsWayOf p s start (suc n) w → StepsBack p s l n cell w
      go Roots start n this_level is =
          let back = next-back cell w.to leads.held n w refl this_level is in record {
            before = back.0;
            leads = record {
              held = back.1;
              level = subst (λ (st : Start). IsLevelOf st n (arrival_in l.arrivals (arrival_in l.arrivals cell).from).level) (sym start) back.2;
              is = subst (λ (st : Start). IsWayOf p s st n back.0) (sym start) back.3;
            };
            last = back.4;
            edge = back.5;
          }
      go Owners start zero this_level is =
          let back = owner-back cell w.to leads.held w start this_level is in record {
            before = owner_way p.table back.0;
            leads = record {
              held = back.1;
              level = subst (λ (st : Start). IsLevelOf st zero (arrival_in l.arrivals (arrival_in l.arrivals cell).from).level) (sym start) tt;
              is = subst (λ (st : Start). IsWayOf p s st zero (owner_way p.table back.0)) (sym start) refl;
            };
            last = back.2;
            edge = back.3;
          }
      go Owners start (suc n) this_level is =
          let back = next-back cell w.to leads.held n w refl this_level is in record {
            before = back.0;
            leads = record {
              held = back.1;
              level = subst (λ (st : Start). IsLevelOf st (suc n) (arrival_in l.arrivals (arrival_in l.arrivals cell).from).level) (sym start) back.2;
              is = subst (λ (st : Start). IsWayOf p s st (suc n) back.0) (sym start) back.3;
            };
            last = back.4;
            edge = back.5;
          }

  -- ---- the start

  pub may-start : (cell : ℕ) (w : Way) → LeadsHere p s l zero cell w → MayStartPath p l cell
  may-start cell w leads =
      subst (λ (st : Start). ByStart st ((arrival_in l.arrivals cell).from < length p.table.roots) (IsSome (id_in p cell))) (sym levels.start) (go s.start refl leads.level leads.is)
    where
      go : (start : Start) → s.start ≡ start → IsLevelOf start zero (arrival_in l.arrivals cell).level → IsWayOf p s start zero w →
          ByStart start ((arrival_in l.arrivals cell).from < length p.table.roots) (IsSome (id_in p cell))
      go Roots start this_level is =
          let root = root-back cell w.to leads.held w start this_level is in slice_get-within p.table.roots (arrival_in l.arrivals cell).from root.0 root.1
      go Owners start this_level is = subst IsSome (sym leads.held) refl

  pub start-is : (cell : ℕ) (w : Way) (from : PathFrom) → LeadsHere p s l zero cell w → IsStart p l cell from → w.from ≡ from
  start-is cell w from leads is =
      go s.start refl leads.level leads.is
      (subst (λ (st : Start). ByStart st (IfSome (slice_get p.table.roots (arrival_in l.arrivals cell).from) (λ r. from ≡ (root_way p.table r).from))
      (from ≡ (owner_way p.table (id_at p.cells cell)).from)) levels.start is)
    where
      go : (start : Start) → s.start ≡ start → IsLevelOf start zero (arrival_in l.arrivals cell).level → IsWayOf p s start zero w →
          ByStart start (IfSome (slice_get p.table.roots (arrival_in l.arrivals cell).from) (λ r. from ≡ (root_way p.table r).from)) (from ≡ (owner_way p.table (id_at p.cells cell)).from) →
          w.from ≡ from
      go Roots start this_level way is =
          let root = root-back cell w.to leads.held w start this_level way in
          let there = subst (λ o. IfSome o (λ r. from ≡ (root_way p.table r).from)) root.1 is in
          ap (λ (v : Way). v.from) root.2 ∙ sym there
      go Owners start this_level way is =
          ap (λ (v : Way). v.from) way ∙ ap (λ x. (owner_way p.table x).from) (sym (id-held p cell w.to leads.held)) ∙ sym is

  pub no-steps : (cell : ℕ) (w : Way) → LeadsHere p s l zero cell w → w.steps ≡ []
  no-steps cell w leads = go s.start refl leads.level leads.is
    where
      go : (start : Start) → s.start ≡ start → IsLevelOf start zero (arrival_in l.arrivals cell).level → IsWayOf p s start zero w → w.steps ≡ []
      go Roots start this_level way =
          (let root = root-back cell w.to leads.held w start this_level way in ap (λ (v : Way). v.steps) root.2)
      go Owners start this_level way = ap (λ (v : Way). v.steps) way

  -- ---- the end

  distance-is : (o : Option ℕ) (n : ℕ) → Some (suc n) ≡ option_map suc o → o ≡ Some n
  distance-is None n is = absurd (cc)
  distance-is (Some k) n is = (let same : suc n ≡ suc k = same_Some is in let e : k ≡ n = omega arith in ap Some e)

  some-way : (o : Option Way) → is_some o ≡ true → (w : Way) × (o ≡ Some w)
  some-way None is = absurd (false≢true is)
  some-way (Some w) is = (w, refl)

  -- the way to an object of a level
  way-at-level : (cell n : ℕ) → IsSome (id_in p cell) → (arrival_in l.arrivals cell).level ≡ suc n →
      (w : Way) × (way_in p s cell ≡ Some w) × (w.to ≡ id_at p.cells cell) × (way_at (path_search p s) n (id_at p.cells cell) ≡ Some w)
  unfolding canonical_way
  way-at-level cell n held is =
      let id = id_at p.cells cell in
      let far = distance-is (distance g (ends_of s) id) n (sym (ap some_level is) ∙ levels.levels cell id (held-id p cell held)) in
      let there = some-way (way_in p s cell) (canonical_exists p.table s.is_shut s.sources id ∙ sym (is_some-distance g (ends_of s) id) ∙ ap is_some far) in
      let at = sym (ap (option_and_then (λ n. way_at (path_search p s) n id)) far) ∙ there.1 in
      (there.0, there.1, way_at-to (path_search p s) n id there.0 at, at)

  pub way-there : (cell steps : ℕ) → IsSome (id_in p cell) → path_steps l.start (arrival_in l.arrivals cell).level ≡ Some steps → (w : Way) × (way_in p s cell ≡ Some w) × LeadsHere p s l steps cell w
  way-there cell steps held many =
      go s.start refl (arrival_in l.arrivals cell).level refl (sym (ap (λ (st : Start). path_steps st (arrival_in l.arrivals cell).level) levels.start) ∙ many)
    where
      go : (start : Start) → s.start ≡ start → (k : ℕ) → (arrival_in l.arrivals cell).level ≡ k →
          path_steps s.start (arrival_in l.arrivals cell).level ≡ Some steps → (w : Way) × (way_in p s cell ≡ Some w) × LeadsHere p s l steps cell w
      go start at zero is many =
          absurd (let none : None ≡ Some steps = sym (ap (path_steps s.start) is) ∙ many in cc)
      go Roots at (suc n) is many =
          let way = way-at-level cell n held is in
          let same : n ≡ steps = same_Some (sym ((λ i. path_steps (at i) (is i))) ∙ many) in (
            way.0,
            way.1,
            record {
              held = held-id p cell held ∙ ap Some (sym way.2);
              level = subst (λ (st : Start). IsLevelOf st steps (arrival_in l.arrivals cell).level) (sym at) (is ∙ ap suc same);
              is = subst (λ (st : Start). IsWayOf p s st steps way.0) (sym at) (subst (λ m. way_at (path_search p s) m way.0.to ≡ Some way.0) same (ap (way_at (path_search p s) n) way.2 ∙ way.3));
            },
          )
      go Owners at (suc n) is many =
          let way = way-at-level cell n held is in
          let same : suc n ≡ steps = same_Some (sym ((λ i. path_steps (at i) (is i))) ∙ many) in (
            way.0,
            way.1,
            subst (λ m. LeadsHere p s l m cell way.0) same (record {
              held = held-id p cell held ∙ ap Some (sym way.2);
              level = subst (λ (st : Start). IsLevelOf st (suc n) (arrival_in l.arrivals cell).level) (sym at) is;
              is = subst (λ (st : Start). IsWayOf p s st (suc n) way.0) (sym at) (ap (way_at (path_search p s) n) way.2 ∙ way.3);
            }),
          )

  none-of : (o : Option ℕ) → None ≡ option_map suc o → o ≡ None
  none-of None is = refl
  none-of (Some k) is = absurd (cc)

  pub no-way : (cell : ℕ) → IsSome (id_in p cell) → path_steps l.start (arrival_in l.arrivals cell).level ≡ None → way_in p s cell ≡ None
  unfolding canonical_way
  no-way cell held none =
      let id = id_at p.cells cell in
      let new = go l.start (arrival_in l.arrivals cell).level none in
      let far = none-of (distance g (ends_of s) id) (sym (ap some_level new) ∙ levels.levels cell id (held-id p cell held)) in
      ap (option_and_then (λ n. way_at (path_search p s) n id)) far
    where
      go : (start : Start) (k : ℕ) → path_steps start k ≡ None → k ≡ 0
      go start zero is = refl
      go Roots (suc n) is = absurd (cc)
      go Owners (suc n) is = absurd (cc)

-- ---- the walk

-- A walk back from the object in the cell `to`, where some steps come after it.
pub record Walk : Type 0 where
  pub placed : PlacedTable
  pub search : Search
  pub levels : LevelTable
  pub to : ℕ
  pub after : List PathStep

-- So many steps are left, from the object in the cell on; the rest of the path was met.
pub record HasWalked (k : Walk) (t : Trail) (left cell : ℕ) : Type 0 where
  pub way : Way
  pub rest : List PathStep
  pub leads : LeadsHere k.placed k.search k.levels left cell way
  pub shown : HasShown t left (rest ++ k.after)
  pub whole : (w : Way) → way_in k.placed k.search k.to ≡ Some w → (w.from ≡ way.from) × (w.steps ≡ way.steps ++ rest)

pub walk-begins : (k : Walk) (t : Trail) (steps : ℕ) → AreLevelsOf k.placed k.search k.levels → IsSome (id_in k.placed k.to) →
    path_steps k.levels.start (arrival_in k.levels.arrivals k.to).level ≡ Some steps → HasShown t steps k.after → HasWalked k t steps k.to
walk-begins k t steps levels held many has =
    let there = way-there k.placed k.search k.levels levels k.to steps held many in
    record {
      way = there.0;
      rest = [];
      leads = there.2;
      shown = has;
      whole = λ w is.
          let same = same_Some (sym is ∙ there.1) in
          (ap (λ (v : Way). v.from) same, ap (λ (v : Way). v.steps) same ∙ sym (append-nil there.0.steps));
    }

-- one step of the walk
pub walk-back : (k : Walk) (t u : Trail) (left cell : ℕ) → AreLevelsOf k.placed k.search k.levels → HasWalked k t (suc left) cell →
    ((after : List PathStep) → HasShown t (left + 1) after → HasShown u left (last_step k.placed k.levels cell (id_at k.placed.cells cell) ∷ after)) →
    HasWalked k u left (arrival_in k.levels.arrivals cell).from
walk-back k t u left cell levels now taken =
    let back = steps-back k.placed k.search k.levels levels left cell now.way now.leads in
    let id = id-held k.placed cell now.way.to now.leads.held in
    let step = last_step k.placed k.levels cell now.way.to in
    let one : suc left ≡ left + 1 = omega arith in
    record {
      way = back.before;
      rest = step ∷ now.rest;
      leads = back.leads;
      shown =
          subst (λ n. HasShown u left (last_step k.placed k.levels cell n ∷ (now.rest ++ k.after))) id (taken (now.rest ++ k.after) (subst (λ n. HasShown t n (now.rest ++ k.after)) one now.shown));
      whole = λ w is.
          let had = now.whole w is in (
            had.0 ∙ ap (λ (v : Way). v.from) back.last,
            had.1 ∙ ap (λ (v : Way). v.steps ++ now.rest) back.last ∙ append_assoc back.before.steps (step ∷ []) now.rest,
          );
    }

-- the walk is over
pub walk-ends : (k : Walk) (t : Trail) (steps cell : ℕ) (from : PathFrom) (v : PathView) → AreLevelsOf k.placed k.search k.levels →
    IsSome (id_in k.placed k.to) → path_steps k.levels.start (arrival_in k.levels.arrivals k.to).level ≡ Some steps → HasWalked k t zero cell →
    IsStart k.placed k.levels cell from → ((w : Way) → w.from ≡ from → HasShown t 0 w.steps → v ≡ view_of w) →
    IfSome (way_in k.placed k.search k.to) (λ w. v ≡ view_of (record { from = w.from; steps = w.steps ++ k.after; to = w.to }))
walk-ends k t steps cell from v levels held many now start view =
    let there = way-there k.placed k.search k.levels levels k.to steps held many in
    let had = now.whole there.0 there.1 in
    let rest : there.0.steps ≡ now.rest = had.1 ∙ ap (λ (xs : List PathStep). xs ++ now.rest) (no-steps k.placed k.search k.levels levels cell now.way now.leads) in
    let begins = had.0 ∙ start-is k.placed k.search k.levels levels cell now.way from now.leads start in
    subst (λ o. IfSome o (λ (w : Way). v ≡ view_of (record { from = w.from; steps = w.steps ++ k.after; to = w.to }))) (sym there.1)
    (view (record { from = there.0.from; steps = there.0.steps ++ k.after; to = there.0.to }) begins
    (subst (λ xs. HasShown t 0 (xs ++ k.after)) (sym rest) now.shown))

-- ---- what is answered

-- where it leads to is not shown
view_of-to : (from : PathFrom) (steps : List PathStep) (a b : ℕ) → view_of (record { from = from; steps = steps; to = a }) ≡ view_of (record { from = from; steps = steps; to = b })
unfolding view_of
view_of-to from steps a b = refl

-- the path to an object, with some steps after it
abbrev pub IsShownWith : PathView → List PathStep → Option Way → Type 0
IsShownWith v after way = IfSome way (λ w. v ≡ view_of (record { from = w.from; steps = w.steps ++ after; to = w.to }))

pub path-is : (v : PathView) (way : Option Way) (w : Way) → way ≡ Some w → IsShownWith v [] way → Some v ≡ option_map view_of way
path-is v way w there shown =
    let is = subst (λ o. IsShownWith v [] o) there shown in
    ap (λ (u : PathView). Some u) (is ∙ ap (λ (xs : List PathStep). view_of (record { from = w.from; steps = xs; to = w.to })) (append-nil w.steps)) ∙ sym (ap (option_map view_of) there)

pub path_then-is : (p : PlacedTable) (v : PathView) (way : Option Way) (w : Way) (cell slot id : ℕ) → way ≡ Some w →
    edge_of (slot_in p cell slot) ≡ Some id → IsShownWith v (step_to p.table (slot, id) ∷ []) way →
    Some v ≡ option_map view_of (option_and_then (λ u. way_by_slot p u cell slot) way)
path_then-is p v way w cell slot id there edge shown =
    let is = subst (λ o. IsShownWith v (step_to p.table (slot, id) ∷ []) o) there shown in
    ap (λ (u : PathView). Some u) (is ∙ view_of-to w.from (w.steps ++ step_to p.table (slot, id) ∷ []) w.to id)
    ∙ sym (ap (λ o. option_map view_of (option_map (λ y. way_by_edge p.table w (slot, y)) o)) edge)
    ∙ sym (ap (λ o. option_map view_of (option_and_then (λ u. way_by_slot p u cell slot) o)) there)
