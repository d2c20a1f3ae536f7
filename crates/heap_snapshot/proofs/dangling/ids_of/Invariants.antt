use Rattle.std.proofs.Common.{◌≡◌, take}
use Rattle.heap_snapshot.specs.Dangling.{object_ids}
use Rattle.heap_snapshot.proofs.dangling.ids_of.Given as goal

abbrev pub invariant-loop-place : goal.invariant-loop-place
invariant-loop-place l = l.ids.items ≡ object_ids (take l.place l.objects)
