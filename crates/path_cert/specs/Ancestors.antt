-- The ancestors of objects that long paths lead to.
use Rattle.std.specs.Prelude.{◌≡◌, ℕ, zero, suc, ◌-◌, ◌≤◌, List, Option, None, Some, slice_index_or}
use Rattle.object_table.specs.Placed.{PlacedTable, id_in}
use Rattle.path_cert.specs.declared.start.Start.{Start}
use Rattle.path_cert.specs.declared.arrival.Arrival.{Arrival}
use Rattle.path_cert.specs.declared.ancestors.TheConstants.{ANCESTOR_LEVEL}
use Rattle.path_cert.specs.Levels.{Search, arrival_in, AreLevelsOf}

-- the cell that so many steps back over the path to the object in a cell lead to
abbrev pub back : List Arrival → ℕ → ℕ → ℕ
back arrivals zero cell = cell
back arrivals (suc n) cell = back arrivals n (arrival_in arrivals cell).from

-- The ancestor of the object in a cell, on its canonical path: as many steps back as its level is above that of ancestors.
pub record IsAncestor (arrivals : List Arrival) (cell ancestor : ℕ) : Type 0 where
  pub above : ANCESTOR_LEVEL ≤ (arrival_in arrivals cell).level
  pub is : ancestor ≡ back arrivals ((arrival_in arrivals cell).level - ANCESTOR_LEVEL) cell

-- where the arrivals are those of levels and the cell holds an object, this is the object's ancestor, if it is one
abbrev pub AncestorOf : List Arrival → ℕ → Option ℕ → Type 0
AncestorOf arrivals cell ancestor =
    (p : PlacedTable) (s : Search) (start : Start) (id g : ℕ) → AreLevelsOf p s (record { start = start; arrivals = arrivals }) → id_in p cell ≡ Some id → ancestor ≡ Some g → IsAncestor arrivals cell g

-- for each cell its object's ancestor, or nothing
abbrev pub AreAncestors : List Arrival → List (Option ℕ) → Type 0
AreAncestors arrivals ancestors = (cell : ℕ) → AncestorOf arrivals cell (slice_index_or ancestors cell None)
