use Rattle.std.proofs.Common.{arith}
use Rattle.std.proofs.lemmas.List.{length-take}
use Rattle.object_table.proofs.Lookups.{all_below}
use Rattle.object_table.proofs.ids.Ids.begin.Goals as goal

pub returns-else-place-gt0-clause-below : goal.returns-else-place-gt0-clause-below
returns-else-place-gt0-clause-below c = elim c.else-place-gt0.branch [
  | goal.else-place-gt0-via-then-place-gt0+else-number w ↦ all_below c.args.self.now c.args.number c.args.place w.index.result.now c.requires.rising
      (omega arith) c.requires.in_range (rw c.self.view_is at w.index.ensures) (omega arith)
  | goal.else-place-gt0-via-else-place-gt0 w ↦ λ k d h. absurd (omega (arith, length-take c.args.place c.args.self.now))
]
