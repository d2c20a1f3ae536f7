use Rattle.std.proofs.Common.{ℕ, [], refl, arith}
use Rattle.heap_base.specs.Limits.{usual_limits}
use Rattle.object_table.specs.Placed.{nothing_placed}
use Rattle.minor_gc.specs.Generations.{remembered_set}
use Rattle.minor_gc.specs.Nurseries.{NurseryParts, IsNursery}
use Rattle.minor_gc.proofs.nursery.Nursery.make.Goals as goal

nothing : (room : ℕ) → (let n : NurseryParts = record { placed = nothing_placed usual_limits; old_up_to = 0; greatest = 0; marks = []; work = []; counts = []; remembered = []; room = room } in IsNursery n)
unfolding remembered_set
nothing room = record {
  greatest = refl;
  old = omega arith;
  strong = λ k d h. absurd (omega arith);
  stacked = record { full = λ id young cell lower at below. absurd (let e = at in cc); rising = λ cell other id later at there young less. absurd (let e = at in cc) };
  each_mark = refl;
  marks = λ cell. refl;
  idle = refl;
  each_count = refl;
  counts = λ cell. refl;
  remembered = refl;
  room = omega arith;
}

pub invariant_of-result : goal.invariant_of-result
invariant_of-result c = rw (c.in_ok-make.ensures.empty, c.usual.ensures.limits, c.make-2.ensures.marks, c.make-2.ensures.work, c.new.ensures.items, c.new-2.ensures.items) (nothing _)
