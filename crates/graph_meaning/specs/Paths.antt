-- The paths that verdicts show.
use Rattle.std.specs.Prelude.{◌≡◌, ℕ, zero, suc, ◌-◌, ◌*◌, max, ◌==◌, List, [], ◌∷◌, ◌++◌, length, map, take, drop, find, Bool, false, Option, Some}
use Rattle.std.specs.List.{flat_map}
use Rattle.std.specs.Option.{option_map, option_map_or, option_or, option_and_then}
use Rattle.heap_base.specs.declared.limits.TheConstants.{END_STEPS}
use Rattle.graph_meaning.specs.declared.paths.PathFrom.{PathFrom}
use Rattle.graph_meaning.specs.declared.paths.PathFrom.TheVariants.{Root, Owner}
use Rattle.graph_meaning.specs.declared.paths.PathStep.{PathStep}
use Rattle.graph_meaning.specs.declared.paths.PathView.{PathView}
use Rattle.graph_meaning.specs.declared.paths.Shown.{Shown}
use Rattle.graph_meaning.specs.declared.paths.Shown.TheVariants.{LeftOut, Path}
use Rattle.graph_meaning.specs.Heap.{Table, Heap, kind_at, edges, edge_at}
use Rattle.graph_meaning.specs.Reach.{Graph, distance, predecessor}
use Rattle.graph_meaning.specs.Assertions.{Reference, by_root, by_slot, open_graph, owner_ids, is_owned}

-- A way through a heap, whole: where it starts, its steps, and the object that it leads to.
pub record Way : Type 0 where
  pub from : PathFrom
  pub steps : List PathStep
  pub to : ℕ

-- the way that goes on by an edge
abbrev pub way_by_edge : Table → Way → ℕ × ℕ → Way
way_by_edge t w e = record { from = w.from; steps = w.steps ++ record { slot = e.0; id = e.1; kind = kind_at t e.1 } ∷ []; to = e.1 }

-- from a root to the object that it names
abbrev pub root_way : Table → List ℕ × ℕ → Way
root_way t r = record { from = Root r.0 r.1 (kind_at t r.1); steps = []; to = r.1 }

-- at an owner, with no step
abbrev pub owner_way : Table → ℕ → Way
owner_way t x = record { from = Owner x (kind_at t x); steps = []; to = x }

-- ---- source references

-- the roots, by name
abbrev pub root_ways : Table → List Way
root_ways t = map (root_way t) t.roots

-- the edges of these objects, each object's by the slot: each edge as one step from its object
abbrev pub ways_from : Table → List ℕ → List Way
ways_from t owners = flat_map (λ o. map (way_by_edge t (owner_way t o)) (edges t o)) owners

-- the edges of the owners, by the owner's id and then the slot
abbrev pub owner_ways : Heap → List Way
owner_ways h = ways_from h.table (owner_ids h)

-- ---- canonical paths

abbrev pub way_ends : List Way → List ℕ
way_ends ways = map (λ w. w.to) ways

-- the way that goes on to y by the least slot that holds it
abbrev pub way_on_to : Table → ℕ → Way → Option Way
way_on_to t y w = option_map (way_by_edge t w) (find (λ e. e.1 == y) (edges t w.to))

-- A search for canonical paths: the heap's objects, where a path goes on from none that is shut, and the source references in order.
pub record PathSearch : Type 0 where
  pub table : Table
  pub is_shut : ℕ → Bool
  pub sources : List Way

-- the objects and their edges; a path goes on from none that is shut
abbrev pub search_graph : PathSearch → Graph
search_graph s = open_graph s.table s.is_shut

-- The canonical path to an object n steps beyond the source references: its first source reference; or the canonical
-- path to its predecessor, and one step by the least slot.
unfoldable pub way_at : PathSearch → ℕ → ℕ → Option Way
way_at s zero y = find (λ w. w.to == y) s.sources
way_at s (suc n) y =
    option_and_then (way_on_to s.table y) (option_and_then (way_at s n) (predecessor (search_graph s) (way_ends s.sources) n y))

-- The canonical path to y from source references, where it may go on from no object that is shut.
unfoldable pub canonical_way : Table → (ℕ → Bool) → List Way → ℕ → Option Way
canonical_way t is_shut sources y =
    let s : PathSearch = record { table = t; is_shut = is_shut; sources = sources } in
    option_and_then (λ n. way_at s n y) (distance (search_graph s) (way_ends sources) y)

-- by the roots where they reach y, else by the owners; nothing is shut
unfoldable pub plain_way : Heap → ℕ → Option Way
plain_way h y =
    option_or (canonical_way h.table (λ x. false) (root_ways h.table) y) (canonical_way h.table (λ x. false) (owner_ways h) y)

-- by the roots, through no object that is under owners or an owner
unfoldable pub unowned_way : Heap → ℕ → Option Way
unowned_way h y = canonical_way h.table (is_owned h) (root_ways h.table) y

-- to the object whose slot refers: its plain path; an owner that isn't traced is its own start
abbrev pub holder_way : Heap → ℕ → Way
holder_way h x = option_map_or (λ w. w) (plain_way h x) (owner_way h.table x)

-- by one reference to x: the root alone, or the path to the holder and the step by that slot
abbrev pub reference_way : Heap → ℕ → Reference → Way
reference_way h x (by_root name) = root_way h.table (name, x)
reference_way h x (by_slot holder slot) = way_by_edge h.table (holder_way h holder) (slot, x)

-- ---- what is shown

-- Of a path of more than twice `END_STEPS` steps so many of the first and so many of the last are shown.
unfoldable pub view_of : Way → PathView
view_of w =
    let n = length w.steps in
    record { from = w.from; steps = take END_STEPS w.steps ++ drop (max END_STEPS (n - END_STEPS)) w.steps; left_out = n - 2 * END_STEPS }

abbrev pub shown_path : Option Way → Shown
shown_path w = option_map_or (λ v. Path (view_of v)) w LeftOut

-- ---- what makes a way a path

-- the object that it starts at: the one that the root names, or the owner
abbrev pub start_of : PathFrom → ℕ
start_of (Root name id kind) = id
start_of (Owner id kind) = id

-- These steps lead from the object x to the object y: each by the slot that it names, to the object and type that it names.
abbrev pub LeadsAlong : Table → ℕ → List PathStep → ℕ → Type 0
LeadsAlong t x [] y = x ≡ y
LeadsAlong t x (s ∷ steps) y = (edge_at t x s.slot ≡ Some s.id) × (s.kind ≡ kind_at t s.id) × LeadsAlong t s.id steps y

abbrev pub IsWay : Table → Way → Type 0
IsWay t w = LeadsAlong t (start_of w.from) w.steps w.to
