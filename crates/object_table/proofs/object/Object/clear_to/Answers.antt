use Rattle.std.proofs.Common.{refl, subst, arith}
use Rattle.object_table.specs.Stored.{IsStored}
use Rattle.object_table.proofs.StoredSlots.{slots_cleared}
use Rattle.object_table.proofs.object.Object.clear_to.Goals as goal
use Rattle.object_table.proofs.object.Object.clear_to.Goals.{in-Few, in-Many}

pub invariant_of-self : goal.invariant_of-self
invariant_of-self c =
    elim c.match-self.branch [
      | in-Few w ↦
          rw w.self-inside-is
          (slots_cleared c.args.marked.now _ _ _ _ _ (subst IsStored w.in-Few.is c.self.invariant) refl w.as_mut_slice.ensures.value w.clear_slots_to.ensures.cleared)
      | in-Many w ↦
          rw w.self-inside-is
          (slots_cleared c.args.marked.now _ _ _ _ _ (subst IsStored w.in-Many.is c.self.invariant) (omega (arith, w.in-Many.slots.ok.0)) w.as_mut_slice-in-Many.ensures.value
          w.clear_slots_to-in-Many.ensures.cleared)
    ]
