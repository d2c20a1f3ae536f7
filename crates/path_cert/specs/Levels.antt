-- Levels in a table that stands still, and how the canonical path arrives at the object of each cell.
use Rattle.std.specs.Prelude.{◌≡◌, ◌==◌, ℕ, zero, suc, List, length, map, find, Bool, false, Option, None, Some, slice_get, slice_index_or}
use Rattle.std.specs.Option.{option_map}
use Rattle.graph_meaning.specs.Heap.{edges}
use Rattle.graph_meaning.specs.Reach.{Graph, distance, predecessor}
use Rattle.graph_meaning.specs.Assertions.{open_graph}
use Rattle.graph_meaning.specs.Paths.{Way, way_by_edge, root_way, owner_way, root_ways, ways_from, way_ends, canonical_way, IsWay}
use Rattle.graph_meaning.specs.Roles.{RoleTable, id_at}
use Rattle.object_table.specs.Placed.{PlacedTable, id_in}
use Rattle.path_cert.specs.declared.start.Start.{Start}
use Rattle.path_cert.specs.declared.start.Start.TheVariants.{Roots, Owners}
use Rattle.path_cert.specs.declared.arrival.Arrival.{Arrival}
use Rattle.path_cert.specs.declared.arrival.TheConstants.{NOWHERE}
use Rattle.path_cert.specs.Cells.{by_id}

-- ---- what levels are made for

-- A search by levels: where it starts, its source references in order, and which objects are shut, by id.
pub record Search : Type 0 where
  pub start : Start
  pub sources : List Way
  pub is_shut : ℕ → Bool

-- A search in a table.
pub record TableSearch : Type 0 where
  pub placed : PlacedTable
  pub search : Search

-- the roots by name, or the edges of the owners by the owner's id and then the slot
abbrev pub sources_of : PlacedTable → RoleTable → Start → List Way
sources_of p r Roots = root_ways p.table
sources_of p r Owners = ways_from p.table (map (id_at p.cells) r.owners)

-- the search from a start, where for each cell it is said whether its object is shut
abbrev pub search_of : PlacedTable → RoleTable → Start → List Bool → Search
search_of p r start shut = record { start = start; sources = sources_of p r start; is_shut = by_id p (λ cell. slice_index_or shut cell false) }

-- the objects and their edges; a path goes on from none that is shut
abbrev pub open_graph_of : PlacedTable → Search → Graph
open_graph_of p s = open_graph p.table s.is_shut

-- what the source references lead to
abbrev pub ends_of : Search → List ℕ
ends_of s = way_ends s.sources

-- the canonical path to the object in a cell, if there is one
abbrev pub way_in : PlacedTable → Search → ℕ → Option Way
way_in p s cell = canonical_way p.table s.is_shut s.sources (id_at p.cells cell)

-- ---- what levels say

-- Where the levels start, and for each cell how the canonical path arrives at its object.
pub record LevelTable : Type 0 where
  pub start : Start
  pub arrivals : List Arrival

-- how the path arrives at the object in a cell
abbrev pub arrival_in : List Arrival → ℕ → Arrival
arrival_in arrivals cell = slice_index_or arrivals cell NOWHERE

-- no path arrives so far
abbrev pub is_new : Arrival → Bool
is_new a = a.level == 0

-- a level, if it is one
abbrev pub some_level : ℕ → Option ℕ
some_level zero = None
some_level (suc n) = Some (suc n)

-- the level of the object in a cell, from 1, if it has one
abbrev pub level_in : LevelTable → ℕ → Option ℕ
level_in l cell = some_level (arrival_in l.arrivals cell).level

-- the way by a source reference: by a root with its number, or by a slot of an owner in its cell
abbrev pub source_way : PlacedTable → Start → Arrival → ℕ → Option Way
source_way p Roots a id = option_map (root_way p.table) (slice_get p.table.roots a.from)
source_way p Owners a id = option_map (λ o. way_by_edge p.table (owner_way p.table o) (a.slot, id)) (id_in p a.from)

-- the first source reference that leads to the object
abbrev pub first_way : Search → ℕ → Option Way
first_way s id = find (λ w. w.to == id) s.sources

-- The path to the object of an id comes by its first source reference.
pub record ArrivesFirst (p : PlacedTable) (s : Search) (a : Arrival) (id : ℕ) : Type 0 where
  pub way : Way
  pub first : first_way s id ≡ Some way
  pub by : source_way p s.start a id ≡ Some way
  pub leads : IsWay p.table way

-- The path to the object of an id, so many steps and one beyond a source reference, comes by the least slot of its
-- predecessor.
pub record ArrivesNext (t : TableSearch) (a : Arrival) (id steps : ℕ) : Type 0 where
  pub before : ℕ
  pub held : id_in t.placed a.from ≡ Some before
  pub least : predecessor (open_graph_of t.placed t.search) (ends_of t.search) steps id ≡ Some before
  pub edge : find (λ e. e.1 == id) (edges t.placed.table before) ≡ Some (a.slot, id)

-- by its level: nothing is said of an object without one
abbrev pub AtLevel : ℕ → Type 0 → (ℕ → Type 0) → Type 0
AtLevel zero first next = Unit {0}
AtLevel (suc zero) first next = first
AtLevel (suc (suc n)) first next = next n

abbrev pub Arrives : PlacedTable → Search → Arrival → ℕ → Type 0
Arrives p s a id = AtLevel a.level (ArrivesFirst p s a id) (ArrivesNext (record { placed = p; search = s }) a id)

-- The levels of a search in a table. The level of an object is one more than the least number of steps that lead to it
-- from what a source reference leads to.
pub record AreLevelsOf (p : PlacedTable) (s : Search) (l : LevelTable) : Type 0 where
  pub start : l.start ≡ s.start
  pub each : length l.arrivals ≡ length p.cells
  pub levels : (cell id : ℕ) → id_in p cell ≡ Some id → level_in l cell ≡ option_map suc (distance (open_graph_of p s) (ends_of s) id)
  pub arrives : (cell id : ℕ) → id_in p cell ≡ Some id → Arrives p s (arrival_in l.arrivals cell) id

-- the levels are those of some search in this table
abbrev pub AreLevelsIn : PlacedTable → LevelTable → Type 0
AreLevelsIn p l = (s : Search) × AreLevelsOf p s l
