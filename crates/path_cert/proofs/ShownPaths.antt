-- What is shown of a path is a path through what is shown of the table.
use Rattle.std.proofs.Common.{◌≡◌, ℕ, zero, suc, true, false, ◌&&◌, List, [], ◌∷◌, sym, refl, ap, subst, ◌∙◌, eq-eqb, ◌==◌, IsTrue, Option, None, Some}
use Rattle.std.specs.Prelude.{IsSome}
use Rattle.std.specs.List.{list_any, slice_get}
use Rattle.std.specs.Option.{IfSome, is_some, option_map, option_and_then, option_map_or}
use Rattle.std.specs.Str.{bytes_eq}
use Rattle.std.proofs.lemmas.Bool.{and_from, or_left, or_right, false≢true}
use Rattle.std.proofs.lemmas.Slice.Eq.{bytes_eq-Decides}
use Rattle.graph_meaning.specs.declared.paths.PathView.{PathView}
use Rattle.graph_meaning.specs.declared.views.ObjectView.{ObjectView}
use Rattle.graph_meaning.specs.Heap.{Object, Table, object_at, is_live, kind_at, edge_of, edge_at}
use Rattle.graph_meaning.specs.Paths.{Way, way_by_edge, root_way, owner_way, view_of, IsWay}
use Rattle.graph_meaning.specs.Roles.{id_at}
use Rattle.graph_meaning.specs.Views.{object_view, heap_view, has_object, has_start, is_path}
use Rattle.graph_meaning.proofs.Membership.{find-map}
use Rattle.graph_meaning.proofs.Showing.{ways_are_shown_as_paths}
use Rattle.graph_meaning.proofs.Ways.{IsWay-way_by_edge}
use Rattle.object_table.specs.Placed.{PlacedTable, id_in, slot_in, IsPlaced, IsSound}
use Rattle.path_cert.specs.declared.start.Start.{Start}
use Rattle.path_cert.specs.declared.start.Start.TheVariants.{Roots, Owners}
use Rattle.path_cert.specs.Levels.{Search, LevelTable, arrival_in, way_in, AreLevelsOf}
use Rattle.path_cert.specs.Steps.{way_by_slot}
use Rattle.path_cert.specs.Trails.{path_steps}
use Rattle.object_table.proofs.ObjectsByCell.{edge_at-cell}
use Rattle.path_cert.proofs.HeldObjects.{held-id}
use Rattle.path_cert.proofs.Walking.{IsLevelOf, IsWayOf, LeadsHere, root-back, steps-back, way-there}

bytes_same : (xs : List ℕ) → bytes_eq xs xs ≡ true
bytes_same xs = (bytes_eq-Decides xs xs).1 refl

-- a live object is shown with its type
live-shown : (t : Table) (id : ℕ) → IsTrue (is_live t id) → IsTrue (has_object (heap_view t) id (kind_at t id))
live-shown t id live =
    ap (λ o. option_map_or (λ (x : ObjectView). bytes_eq x.kind (kind_at t id)) o false) (find-map (λ (x : ObjectView). x.id == id) object_view t.objects) ∙ go (object_at t.objects id) live
  where
    go : (o : Option Object) → IsTrue (is_some o) → option_map_or (λ (x : ObjectView). bytes_eq x.kind (option_map_or (λ (x : Object). x.kind) o [])) (option_map object_view o) false ≡ true
    go None live = absurd (false≢true live)
    go (Some x) live = bytes_same x.kind

root-among : (roots : List (List ℕ × ℕ)) (k : ℕ) (r : List ℕ × ℕ) → slice_get roots k ≡ Some r → list_any (λ n. bytes_eq n.0 r.0 && (n.1 == r.1)) roots ≡ true
root-among [] k r is = absurd (cc)
root-among (n ∷ roots) zero r is =
    let same : n ≡ r = cc in
    or_left _ _ (subst (λ (m : List ℕ × ℕ). (bytes_eq m.0 r.0 && (m.1 == r.1)) ≡ true) (sym same) (and_from _ _ (bytes_same r.0) (eq-eqb r.1 r.1 refl)))
root-among (n ∷ roots) (suc k) r is = or_right _ _ (root-among roots k r is)

-- a path may start at a root, and at a live object
root-start : (t : Table) (k : ℕ) (r : List ℕ × ℕ) → slice_get t.roots k ≡ Some r → IsTrue (is_live t r.1) → IsTrue (has_start (heap_view t) (root_way t r).from)
root-start t k r is live = and_from _ _ (root-among t.roots k r is) (live-shown t r.1 live)

-- The way is a path through the table, and starts in it.
pub record IsWhole (p : PlacedTable) (w : Way) : Type 0 where
  pub starts : IsTrue (has_start (heap_view p.table) w.from)
  pub leads : IsWay p.table w

pub whole-shown : (p : PlacedTable) (w : Way) → IsSound p.table → IsWhole p w → IsTrue (is_path (heap_view p.table) (view_of w))
whole-shown p w sound whole = ways_are_shown_as_paths p.table w sound.slots whole.starts whole.leads

pub whole-root : (p : PlacedTable) (k : ℕ) (r : List ℕ × ℕ) → slice_get p.table.roots k ≡ Some r → IsTrue (is_live p.table r.1) → IsWhole p (root_way p.table r)
whole-root p k r is live = record { starts = root-start p.table k r is live; leads = refl }

pub whole-owner : (p : PlacedTable) (o : ℕ) → IsTrue (is_live p.table o) → IsWhole p (owner_way p.table o)
whole-owner p o live = record { starts = live-shown p.table o live; leads = refl }

pub whole-edge : (p : PlacedTable) (w : Way) (e : ℕ × ℕ) → IsWhole p w → edge_at p.table w.to e.0 ≡ Some e.1 → IsWhole p (way_by_edge p.table w e)
whole-edge p w e whole edge = record { starts = whole.starts; leads = IsWay-way_by_edge p.table w e whole.leads edge }

-- so are the ways that levels give
module _ (p : PlacedTable) (placed : IsPlaced p) (s : Search) (l : LevelTable) (levels : AreLevelsOf p s l) where
  whole-start : (cell : ℕ) (w : Way) → LeadsHere p s l zero cell w → IsWhole p w
  whole-start cell w leads = go s.start refl leads.level leads.is
    where
      live : IsTrue (is_live p.table w.to)
      live = placed.live cell w.to leads.held

      go : (start : Start) → s.start ≡ start → IsLevelOf start zero (arrival_in l.arrivals cell).level → IsWayOf p s start zero w → IsWhole p w
      go Roots start this_level way =
          let root = root-back p s l levels cell w.to leads.held w start this_level way in
          subst (IsWhole p) (sym root.2) (whole-root p (arrival_in l.arrivals cell).from root.0 root.1 (subst (λ (v : Way). IsTrue (is_live p.table v.to)) root.2 (placed.live cell w.to leads.held)))
      go Owners start this_level way = subst (IsWhole p) (sym way) (whole-owner p w.to (placed.live cell w.to leads.held))

  pub whole-way : (left cell : ℕ) (w : Way) → LeadsHere p s l left cell w → IsWhole p w
  whole-way zero cell w leads = whole-start cell w leads
  whole-way (suc left) cell w leads =
      let back = steps-back p s l levels left cell w leads in
      let before = whole-way left (arrival_in l.arrivals cell).from back.before back.leads in
      subst (IsWhole p) (sym back.last) (whole-edge p back.before ((arrival_in l.arrivals cell).slot, w.to) before back.edge)

-- ---- what is answered

-- what is shown of a whole way is a path
pub shown-whole : (p : PlacedTable) (v : PathView) (o : Option Way) → IsSound p.table → ((w : Way) → o ≡ Some w → IsWhole p w) → Some v ≡ option_map view_of o → IsTrue (is_path (heap_view p.table) v)
shown-whole p v None sound whole is = absurd (cc)
shown-whole p v (Some w) sound whole is =
    let same : v ≡ view_of w = cc in
    subst (λ u. IsTrue (is_path (heap_view p.table) u)) (sym same) (whole-shown p w sound (whole w refl))

same_Some : {X : Type 0} {a b : X} → Some a ≡ Some b → a ≡ b
same_Some e = cc

-- the path by a root alone
pub root-is_path : (p : PlacedTable) (k : ℕ) (r : List ℕ × ℕ) (v : PathView) → IsSound p.table → slice_get p.table.roots k ≡ Some r →
    IsTrue (is_live p.table r.1) → IfSome (slice_get p.table.roots k) (λ n. v ≡ view_of (root_way p.table n)) →
    IsTrue (is_path (heap_view p.table) v)
root-is_path p k r v sound is live shown =
    let same = subst (λ o. IfSome o (λ n. v ≡ view_of (root_way p.table n))) is shown in
    subst (λ u. IsTrue (is_path (heap_view p.table) u)) (sym same) (whole-shown p (root_way p.table r) sound (whole-root p k r is live))

-- the path to an object that levels give
pub path-is_path : (p : PlacedTable) (placed : IsPlaced p) (s : Search) (l : LevelTable) (levels : AreLevelsOf p s l) (cell steps : ℕ) (v : PathView) →
    IsSound p.table → IsSome (id_in p cell) → path_steps l.start (arrival_in l.arrivals cell).level ≡ Some steps →
    Some v ≡ option_map view_of (way_in p s cell) → IsTrue (is_path (heap_view p.table) v)
path-is_path p placed s l levels cell steps v sound held many is =
    let there = way-there p s l levels cell steps held many in
    shown-whole p v (way_in p s cell) sound (λ w at. subst (IsWhole p) (same_Some (sym there.1 ∙ at)) (whole-way p placed s l levels steps cell there.0 there.2)) is

-- and one step more
pub path_then-is_path : (p : PlacedTable) (placed : IsPlaced p) (s : Search) (l : LevelTable) (levels : AreLevelsOf p s l) (cell slot steps id : ℕ) (v : PathView) →
    IsSound p.table → IsSome (id_in p cell) → path_steps l.start (arrival_in l.arrivals cell).level ≡ Some steps →
    edge_of (slot_in p cell slot) ≡ Some id → Some v ≡ option_map view_of (option_and_then (λ u. way_by_slot p u cell slot) (way_in p s cell)) →
    IsTrue (is_path (heap_view p.table) v)
path_then-is_path p placed s l levels cell slot steps id v sound held many edge is =
    let there = way-there p s l levels cell steps held many in
    let before = whole-way p placed s l levels steps cell there.0 there.2 in
    let whole = whole-edge p there.0 (slot, id) before (edge_at-cell p cell there.0.to slot there.2.held ∙ edge) in
    let way = ap (option_and_then (λ u. way_by_slot p u cell slot)) there.1 ∙ ap (option_map (λ y. way_by_edge p.table there.0 (slot, y))) edge in
    shown-whole p v (option_and_then (λ u. way_by_slot p u cell slot) (way_in p s cell)) sound (λ w at. subst (IsWhole p) (same_Some (sym way ∙ at)) whole) is

-- the path of one step from an object
pub step-is_path : (p : PlacedTable) (placed : IsPlaced p) (cell slot id : ℕ) (v : PathView) → IsSound p.table → IsSome (id_in p cell) →
    edge_of (slot_in p cell slot) ≡ Some id → Some v ≡ option_map view_of (way_by_slot p (owner_way p.table (id_at p.cells cell)) cell slot) →
    IsTrue (is_path (heap_view p.table) v)
step-is_path p placed cell slot id v sound held edge is =
    let o = id_at p.cells cell in
    let at = held-id p cell held in
    let whole = whole-edge p (owner_way p.table o) (slot, id) (whole-owner p o (placed.live cell o at)) (edge_at-cell p cell o slot at ∙ edge) in
    let way = ap (option_map (λ y. way_by_edge p.table (owner_way p.table o) (slot, y))) edge in
    shown-whole p v (way_by_slot p (owner_way p.table o) cell slot) sound (λ w there. subst (IsWhole p) (same_Some (sym way ∙ there)) whole) is
