-- What holds of whatever has been read.
use Rattle.std.specs.Prelude.{◌<◌, ◌≤◌, length, All, AllPairs}
use Rattle.heap_base.specs.declared.limits.TheConstants.{USUAL_OBJECTS, USUAL_SLOTS, USUAL_ROOTS}
use Rattle.heap_snapshot.specs.declared.stage.Stage.{Stage}
use Rattle.heap_snapshot.specs.declared.stage.Stage.TheVariants.{Empty, Begun, InObject, InRoots, Ended}
use Rattle.heap_snapshot.specs.Table.{Reading, objects_read}
use Rattle.heap_snapshot.specs.Dangling.{object_ids}

-- no slot past its last is filled of an open object
abbrev pub IsWithin : Stage → Type 0
IsWithin Empty = Unit {0}
IsWithin Begun = Unit {0}
IsWithin (InObject o) = length o.filled ≤ o.slots
IsWithin InRoots = Unit {0}
IsWithin Ended = Unit {0}

-- The limits are kept, and the ids rise up to the greatest.
pub record IsBounded (r : Reading) : Type 0 where
  pub filled : IsWithin r.stage
  pub few_objects : length (objects_read r) ≤ USUAL_OBJECTS
  pub few_slots : r.slots ≤ USUAL_SLOTS
  pub few_roots : length r.roots ≤ USUAL_ROOTS
  pub rising : AllPairs (λ x y. x < y) (object_ids (objects_read r))
  pub within : All (λ id. id ≤ r.greatest) (object_ids (objects_read r))
