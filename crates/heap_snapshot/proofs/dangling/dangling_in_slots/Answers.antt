use Rattle.std.proofs.Common.{◌+◌, ◌++◌, drop, ◌∙◌, arith}
use Rattle.heap_snapshot.specs.Text.{lines_of_slots}
use Rattle.heap_snapshot.proofs.Danglings.{at_slot}
use Rattle.heap_snapshot.proofs.dangling.dangling_in_slots.Goals as goal

pub returns-in-Err-clause-passes : goal.returns-in-Err-clause-passes
returns-in-Err-clause-passes c rest =
    c.loop-place.invariant.found rest ∙ at_slot c.args.ids.now c.loop-place.next c.args.slots.now c.loop-place.place c.at.result.now rest c.at.ensures
    ∙ c.in-Err.ensures.passes c.loop-place.place (lines_of_slots (c.loop-place.place + 1) (drop (c.loop-place.place + 1) c.args.slots.now) ++ rest)

pub loop-place-preserved : goal.loop-place-preserved
loop-place-preserved c = record {
  found = λ rest.
      c.loop-place.invariant.found rest ∙ at_slot c.args.ids.now c.loop-place.next c.args.slots.now c.loop-place.place c.at.result.now rest c.at.ensures
      ∙ c.in-Ok.ensures.passes c.loop-place.place (lines_of_slots (c.loop-place.place + 1) (drop (c.loop-place.place + 1) c.args.slots.now) ++ rest);
  bound = omega (arith, c.in-Ok.ensures.bound);
}
