use Rattle.std.proofs.Common.{◌≡◌, length, refl, sym, subst, ap, ◌∙◌, arith}
use Rattle.object_table.specs.Residents.{StrongHoldKept}
use Rattle.object_table.specs.Stored.{IsStored, resident_of}
use Rattle.object_table.proofs.StoredSlots.{slots_kept, none_after}
use Rattle.object_table.proofs.object.Object.keep.Goals as goal
use Rattle.object_table.proofs.object.Object.keep.Goals.{in-Few, in-Few+else-has_weak, in-Many, in-Many+else-has_weak-2}

pub returns : goal.returns
returns c =
    elim c.match-self.branch [
      | in-Few w ↦
          let now = sym (ap resident_of w.in-Few.is) ∙ c.self.view_is in
          rw (w.self-inside-is, ← now)
          (slots_kept c.args.kept.now _ (record { id = w.in-Few.id; kind = w.in-Few.kind; slots = w.in-Few.slots.items }) _ _ refl w.as_mut_slice.ensures.value w.keep_slots.ensures)
      | in-Few+else-has_weak w ↦
          let now = sym (ap resident_of w.in-Few.is) ∙ c.self.view_is in
          rw (w.self-inside-is, ← now)
          (none_after c.args.kept.now _ _ (subst IsStored w.in-Few.is c.self.invariant) w.if-has_weak.false (subst (StrongHoldKept c.args.kept.now) (sym now) c.requires))
      | in-Many w ↦
          let now = sym (ap resident_of w.in-Many.is) ∙ c.self.view_is in
          let count : w.in-Many.slots.len ≡ length w.in-Many.slots.items = omega (arith, w.in-Many.slots.ok.0) in
          rw (w.self-inside-is, ← now) (slots_kept c.args.kept.now _
          (record { id = w.in-Many.id; kind = w.in-Many.kind; slots = w.in-Many.slots.items }) _ _ count w.as_mut_slice-in-Many.ensures.value w.keep_slots-in-Many.ensures)
      | in-Many+else-has_weak-2 w ↦
          let now = sym (ap resident_of w.in-Many.is) ∙ c.self.view_is in
          rw (w.self-inside-is, ← now)
          (none_after c.args.kept.now _ _ (subst IsStored w.in-Many.is c.self.invariant) w.if-has_weak-2.false (subst (StrongHoldKept c.args.kept.now) (sym now) c.requires))
    ]
