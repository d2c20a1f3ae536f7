use Rattle.std.proofs.Common.{length, length-drop, ap, arith}
use Rattle.object_table.proofs.Lookups.{all_above}
use Rattle.object_table.proofs.ids.Ids.end.Goals as goal

pub returns-else-place-len-clause-above : goal.returns-else-place-len-clause-above
returns-else-place-len-clause-above c = elim c.else-place-len.branch [
  | goal.else-place-len-via-then-place-len+else-number w ↦ all_above c.args.self.now c.args.number c.args.place
      w.index.result.now c.requires.rising (rw c.self.view_is at w.index.ensures) (omega arith)
  | goal.else-place-len-via-else-place-len w ↦ λ k d h. absurd (omega (arith, length-drop c.args.place c.args.self.now, ap length c.self.view_is))
]
