-- The levels by which plain paths go: from the roots and from the owners, with nothing shut.
use Rattle.std.specs.Prelude.{List, length, replicate, Bool, false}
use Rattle.graph_meaning.specs.Heap.{Heap}
use Rattle.graph_meaning.specs.Roles.{RoleTable}
use Rattle.object_table.specs.Placed.{PlacedTable}
use Rattle.assert_registry.specs.Laws.{StandFor}
use Rattle.path_cert.specs.declared.start.Start.TheVariants.{Roots, Owners}
use Rattle.path_cert.specs.Levels.{LevelTable, search_of, AreLevelsOf}

-- The levels from the roots, and those from the owners.
pub record PlainTable : Type 0 where
  pub roots : LevelTable
  pub owners : LevelTable

-- no cell is shut
abbrev pub none_shut : PlacedTable → List Bool
none_shut p = replicate (length p.cells) false

-- These are the levels in a table from its roots and from the owners of its roles.
pub record ArePlainLevels (p : PlacedTable) (r : RoleTable) (l : PlainTable) : Type 0 where
  pub roots : AreLevelsOf p (search_of p r Roots (none_shut p)) l.roots
  pub owners : AreLevelsOf p (search_of p r Owners (none_shut p)) l.owners

-- where these are the levels of the table and the roles of a heap
abbrev pub WhereLevelsOf : PlacedTable → Heap → PlainTable → Type 0 → Type 0
WhereLevelsOf p h l holds = (r : RoleTable) → ArePlainLevels p r l → StandFor p r h → holds
