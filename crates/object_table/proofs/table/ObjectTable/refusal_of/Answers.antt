use Rattle.std.proofs.Common.{sym, ◌∙◌, arith}
use Rattle.graph_meaning.specs.Heap.{Table}
use Rattle.object_table.specs.Parts.{placed_of}
use Rattle.object_table.proofs.Refusals.{alloc_rising, alloc_full, alloc_slots, alloc_kind}
use Rattle.object_table.proofs.Tables.{parts_in}
use Rattle.object_table.proofs.table.ObjectTable.refusal_of.Goals as goal

pub returns-then-number-self : goal.returns-then-number-self
returns-then-number-self c =
    let t : Table = (placed_of (parts_in c.self.inside)).table in
    record { refusal = rw (← c.self.view_is, c.number-then-number-self.ensures.value) (sym (alloc_rising t c.args.id c.args.kind.now c.args.slots (omega arith))) }

pub returns-then-live-self : goal.returns-then-live-self
returns-then-live-self c =
    let t : Table = (placed_of (parts_in c.self.inside)).table in
    let live = rw (← c.self.view_is) at c.live.ensures.count in
    record { refusal = rw (← c.self.view_is) (sym (alloc_full t c.args.id c.args.kind.now c.args.slots (omega arith) (omega (arith, live)))) }

pub returns-then-slots-self : goal.returns-then-slots-self
returns-then-slots-self c =
    let t : Table = (placed_of (parts_in c.self.inside)).table in
    let live = rw (← c.self.view_is) at c.live.ensures.count in
    record { refusal = rw (← c.self.view_is) (sym (alloc_slots t c.args.id c.args.kind.now c.args.slots (omega arith) (omega (arith, live)) (omega (arith, c.self.invariant.counted)))) }

pub returns-else-slots-self : goal.returns-else-slots-self
returns-else-slots-self c =
    let t : Table = (placed_of (parts_in c.self.inside)).table in
    let live = rw (← c.self.view_is) at c.live.ensures.count in
    record {
      refusal =
          c.refusal_by_kind.ensures
          ∙ rw (← c.self.view_is)
          (sym (alloc_kind t c.args.id c.args.kind.now c.args.slots (omega arith) (omega (arith, live))
          (omega (arith, c.self.invariant.counted, c.self.invariant.sound.limits.slots))));
    }
