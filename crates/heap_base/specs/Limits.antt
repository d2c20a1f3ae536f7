-- The limits of a heap.
use Rattle.std.specs.Prelude.{◌≤◌}
use Rattle.heap_base.specs.declared.limits.Limits.{Limits}
use Rattle.heap_base.specs.declared.limits.TheConstants.{MOST_OBJECTS, MOST_SLOTS, MOST_ROOTS, USUAL_OBJECTS, USUAL_SLOTS, USUAL_ROOTS}

-- A heap with these limits can be represented.
pub record ArePossible (l : Limits) : Type 0 where
  pub objects : l.objects ≤ MOST_OBJECTS
  pub slots : l.slots ≤ MOST_SLOTS
  pub roots : l.roots ≤ MOST_ROOTS

-- the limits of gcaudit
abbrev pub usual_limits : Limits
usual_limits = record { objects = USUAL_OBJECTS; slots = USUAL_SLOTS; roots = USUAL_ROOTS }

-- the largest limits
abbrev pub large_limits : Limits
large_limits = record { objects = MOST_OBJECTS; slots = MOST_SLOTS; roots = MOST_ROOTS }
