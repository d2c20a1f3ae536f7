use Rattle.std.proofs.Common.{◌+◌, ◌++◌, drop, ◌∙◌, arith}
use Rattle.std.specs.List.{flat_map}
use Rattle.heap_snapshot.specs.Text.{lines_of_object}
use Rattle.heap_snapshot.proofs.Danglings.{at_object}
use Rattle.heap_snapshot.proofs.dangling.dangling_in_objects.Goals as goal

pub returns-in-Err-clause-passes : goal.returns-in-Err-clause-passes
returns-in-Err-clause-passes c rest =
    c.loop-place.invariant.found rest ∙ at_object c.args.ids.now c.loop-place.next c.args.objects.now c.loop-place.place c.at.result.now rest c.at.ensures
    ∙ c.in-Err.ensures.passes (flat_map lines_of_object (drop (c.loop-place.place + 1) c.args.objects.now) ++ rest)

pub loop-place-preserved : goal.loop-place-preserved
loop-place-preserved c = record {
  found = λ rest.
      c.loop-place.invariant.found rest ∙ at_object c.args.ids.now c.loop-place.next c.args.objects.now c.loop-place.place c.at.result.now rest c.at.ensures
      ∙ c.in-Ok.ensures.passes (flat_map lines_of_object (drop (c.loop-place.place + 1) c.args.objects.now) ++ rest);
  bound = omega (arith, c.in-Ok.ensures.bound);
}
