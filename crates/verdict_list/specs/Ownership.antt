-- Which ownees violate what was asserted of them, by cells.
use Rattle.std.specs.Prelude.{◌≡◌, ◌≢◌, ℕ, List, [], map, filter, Bool, true, false, Option, Some, IfSome, IsSome, IsTrue}
use Rattle.assert_registry.specs.Assertions.{owner_of}
use Rattle.graph_meaning.specs.Assertions.{is_met, is_owned, is_ownee, finds}
use Rattle.graph_meaning.specs.Collecting.{violating_ownees}
use Rattle.graph_meaning.specs.Heap.{Heap}
use Rattle.graph_meaning.specs.Paths.{root_ways}
use Rattle.object_table.specs.Placed.{PlacedTable, id_in}
use Rattle.path_cert.specs.declared.start.Start.TheVariants.{Roots}
use Rattle.path_cert.specs.Levels.{Search, LevelTable, AreLevelsOf}
use Rattle.verdict_list.specs.Cells.{cells_by_id}

-- The cells of ownees, by their ids, and the levels by which their paths go, if they were made.
pub record OwnershipTable : Type 0 where
  pub ownees : List ℕ
  pub levels : Option LevelTable

-- the search for the path to an ownee: from the roots, through no object that is under owners or an owner
abbrev pub unowned_search : Heap → Search
unowned_search h = record { start = Roots; sources = root_ways h.table; is_shut = is_owned h }

-- These are the ownees that are met and that their owner doesn't find, or whose owner is gone. The table is the heap's.
pub record AreViolating (p : PlacedTable) (h : Heap) (c : OwnershipTable) : Type 0 where
  pub table : h.table ≡ p.table
  pub ownees : map (id_in p) c.ownees ≡ map (λ o. Some o.0) (violating_ownees h)
  pub levels : IfSome c.levels (AreLevelsOf p (unowned_search h))
  pub made : c.ownees ≢ [] → IsSome c.levels

-- These are the ownees that may violate, by id: of all cells those that pass a test. It passes ownees alone, and each ownee that
-- is met and that its owner doesn't find.
pub record AreDoubts (p : PlacedTable) (h : Heap) (doubts : List ℕ) : Type 0 where
  pub test : ℕ → Bool
  pub listed : doubts ≡ filter test (cells_by_id p)
  pub ownees : (cell id : ℕ) → id_in p cell ≡ Some id → test cell ≡ true → IsTrue (is_ownee h id)
  pub lost : (cell id owner : ℕ) → id_in p cell ≡ Some id → owner_of h.owners id ≡ Some owner → is_met h id ≡ true → finds h owner id ≡ false → test cell ≡ true
