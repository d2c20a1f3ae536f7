-- What holds while a search by levels is under way.
use Rattle.std.specs.Prelude.{◌≡◌, ◌==◌, ◌≤◌, ℕ, suc, List, [], ◌∷◌, ◌++◌, length, drop, find, Bool, false, not, ◌||◌, ◌&&◌, if◌then◌else◌, IsTrue, Option, None, Some, IsSome, nat_lt, slice_index_or}
use Rattle.std.specs.Option.{option_map_or}
use Rattle.graph_meaning.specs.Heap.{edges}
use Rattle.graph_meaning.specs.Reach.{has_id, within, level}
use Rattle.graph_meaning.specs.Paths.{Way, IsWay}
use Rattle.graph_meaning.specs.Roles.{id_at}
use Rattle.object_table.specs.Placed.{PlacedTable, id_in}
use Rattle.path_cert.specs.declared.start.Start.{Start}
use Rattle.path_cert.specs.declared.arrival.Arrival.{Arrival}
use Rattle.path_cert.specs.Levels.{Search, TableSearch, LevelTable, open_graph_of, ends_of, arrival_in, is_new, source_way, Arrives}

-- How the search arrives at the object of each cell, and the cells with a level in the order in which they got it.
pub record Front : Type 0 where
  pub arrivals : List Arrival
  pub order : List ℕ

-- the level of the object in a cell so far, and 0 where it has none
abbrev pub level_at : Front → ℕ → ℕ
level_at f cell = (arrival_in f.arrivals cell).level

-- Each cell that got a level was put into the order, and holds an object.
pub record FrontGrows (p : PlacedTable) (before after : Front) : Type 0 where
  pub each : length after.arrivals ≡ length before.arrivals
  pub fresh : List ℕ
  pub order : after.order ≡ before.order ++ fresh
  pub stays : (cell : ℕ) → IsTrue (is_new (arrival_in after.arrivals cell)) → IsTrue (is_new (arrival_in before.arrivals cell))
  pub new : (cell : ℕ) → has_id fresh cell ≡ (is_new (arrival_in before.arrivals cell) && not (is_new (arrival_in after.arrivals cell)))
  pub held : (cell : ℕ) → IsTrue (has_id fresh cell) → IsSome (id_in p cell)

-- ---- the first level

-- Source references of one start, in order.
pub record SourceReferences : Type 0 where
  pub start : Start
  pub ways : List Way

-- The path arrives by the first of these source references that leads to the object, where one does.
pub record ComesFirst (p : PlacedTable) (s : SourceReferences) (a : Arrival) (id : ℕ) : Type 0 where
  pub level : a.level ≤ 1
  pub none : a.level ≡ 0 → find (λ w. w.to == id) s.ways ≡ None
  pub some : a.level ≡ 1 → (w : Way) × (find (λ w. w.to == id) s.ways ≡ Some w) × (source_way p s.start a id ≡ Some w) × IsWay p.table w

-- These source references were taken.
pub record HasTaken (p : PlacedTable) (start : Start) (ways : List Way) (f : Front) : Type 0 where
  pub each : length f.arrivals ≡ length p.cells
  pub arrivals : (cell id : ℕ) → id_in p cell ≡ Some id → ComesFirst p (record { start = start; ways = ways }) (arrival_in f.arrivals cell) id
  pub low : (cell : ℕ) → level_at f cell ≤ 1

-- ---- one level after another

-- A round that goes on to a level, where for each cell it is said whether its object is shut.
pub record Round : Type 0 where
  pub placed : PlacedTable
  pub shut : List Bool
  pub level : ℕ

-- the arrival that is kept: of two at one level the one from the object with the lower id, and else the known one
abbrev pub better : PlacedTable → Arrival → Arrival → Arrival
better p known a =
    if is_new known || ((known.level == a.level) && nat_lt (id_at p.cells a.from) (id_at p.cells known.from)) then a else known

-- the arrival by an edge from the object in the cell x
abbrev pub by_edge : Round → ℕ → Arrival → ℕ × ℕ → Arrival
by_edge r x known e = better r.placed known (record { level = r.level; from = x; slot = e.0 })

-- the first of these edges that leads to the object of an id, if one does
abbrev pub first_edge : List (ℕ × ℕ) → ℕ → Option (ℕ × ℕ)
first_edge es id = find (λ e. e.1 == id) es

-- the arrival by an edge from the object in the cell x, if there is one
abbrev pub by_some_edge : Round → ℕ → Arrival → Option (ℕ × ℕ) → Arrival
by_some_edge r x known e = option_map_or (by_edge r x known) e known

-- the arrival at the object of an id after all edges of the object in the cell x
abbrev pub by_object : Round → ℕ → Arrival → ℕ → Arrival
by_object r x known id = by_some_edge r x known (first_edge (edges r.placed.table (id_at r.placed.cells x)) id)

-- after all edges of the objects in these cells that aren't shut
abbrev pub by_objects : Round → List ℕ → Arrival → ℕ → Arrival
by_objects r [] known id = known
by_objects r (x ∷ xs) known id = by_objects r xs (if slice_index_or r.shut x false then known else by_object r x known id) id

-- the arrivals after all edges of the objects in these cells that aren't shut, from those before
abbrev pub AreByObjects : Round → List ℕ → List Arrival → List Arrival → Type 0
AreByObjects r xs before after = (to id : ℕ) → id_in r.placed to ≡ Some id → arrival_in after to ≡ by_objects r xs (arrival_in before to) id

-- what the search says of the levels
abbrev pub levels_by : Search → Front → LevelTable
levels_by s f = record { start = s.start; arrivals = f.arrivals }

-- No level is above this one, and what is in the order are objects.
pub record GoesUpTo (p : PlacedTable) (level : ℕ) (f : Front) : Type 0 where
  pub each : length f.arrivals ≡ length p.cells
  pub held : (cell : ℕ) → IsTrue (has_id f.order cell) → IsSome (id_in p cell)
  pub low : (cell : ℕ) → level_at f cell ≤ level

-- What arrives at this level comes from an object.
pub record IsUnderWay (p : PlacedTable) (level : ℕ) (f : Front) : Type 0 where
  pub up_to : GoesUpTo p level f
  pub from : (cell : ℕ) → level_at f cell ≡ level → IsSome (id_in p (arrival_in f.arrivals cell).from)

-- After so many steps the object of an id has its level and its arrival, if so many steps lead to it.
pub record IsSettled (t : TableSearch) (steps : ℕ) (a : Arrival) (id : ℕ) : Type 0 where
  pub none : a.level ≡ 0 → has_id (within (open_graph_of t.placed t.search) (ends_of t.search) steps) id ≡ false
  pub some : (m : ℕ) → a.level ≡ suc m → (m ≤ steps) × IsTrue (has_id (level (open_graph_of t.placed t.search) (ends_of t.search) m) id)
  pub arrives : Arrives t.placed t.search a id

-- it is said by cell which objects are shut
abbrev pub ShutByCell : PlacedTable → Search → List Bool → Type 0
ShutByCell p s shut = (cell id : ℕ) → id_in p cell ≡ Some id → s.is_shut id ≡ slice_index_or shut cell false

-- All objects that so many steps lead to are settled, and those that no fewer lead to stand in the order from this place on.
pub record IsAtLevel (t : TableSearch) (steps : ℕ) (f : Front) (place : ℕ) : Type 0 where
  pub settled : (cell id : ℕ) → id_in t.placed cell ≡ Some id → IsSettled t steps (arrival_in f.arrivals cell) id
  pub last : (cell id : ℕ) → id_in t.placed cell ≡ Some id → has_id (drop place f.order) cell ≡ (level_at f cell == suc steps)

-- All objects that source references lead to are settled, and stand in the order.
abbrev pub IsAtFirstLevel : TableSearch → Front → Type 0
IsAtFirstLevel t f = IsAtLevel t 0 f 0
