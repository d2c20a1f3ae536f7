-- Steps that a walk back over a path goes back over at once.
use Rattle.std.specs.Prelude.{◌≡◌, ℕ, ◌+◌, ◌≤◌, ◌⊎◌, IsSome}
use Rattle.heap_base.specs.declared.limits.TheConstants.{END_STEPS}
use Rattle.object_table.specs.Placed.{PlacedTable, id_in}
use Rattle.path_cert.specs.declared.level_table.Waypoint.{Waypoint}
use Rattle.path_cert.specs.Levels.{Search, LevelTable, AreLevelsOf}
use Rattle.path_cert.specs.Ancestors.{back}

-- So many steps back, none of which is shown of so many in all; or none.
pub record HasSkipped (l : LevelTable) (total : ℕ) (before after : Waypoint) : Type 0 where
  pub skipped : ℕ
  pub cell : after.cell ≡ back l.arrivals skipped before.cell
  pub left : after.left + skipped ≡ before.left
  pub hidden : (skipped ≡ 0) ⊎ ((END_STEPS ≤ after.left) × (before.left + END_STEPS ≤ total))

-- where these are levels, and the cell holds an object
abbrev pub Skips : LevelTable → ℕ → Waypoint → Waypoint → Type 0
Skips l total before after =
    (p : PlacedTable) (s : Search) → AreLevelsOf p s l → IsSome (id_in p before.cell) → HasSkipped l total before after
