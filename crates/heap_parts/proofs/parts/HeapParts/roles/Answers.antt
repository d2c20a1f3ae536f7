use Rattle.std.proofs.Common.{refl, subst}
use Rattle.std.specs.Result.{IfOk}
use Rattle.std.proofs.lemmas.Result.{IfOk-weaker}
use Rattle.assert_registry.specs.ByCell.{AreRolesBy}
use Rattle.assert_registry.specs.Laws.{StandFor}
use Rattle.assert_registry.proofs.ByHeap.{roles_stand_for_heap}
use Rattle.heap_parts.specs.Parts.{PlacedHeap, heap_of, placed_in, placed_heap}
use Rattle.heap_parts.proofs.Limits.{named-agree}
use Rattle.heap_parts.proofs.Stepping.{parts_in}
use Rattle.heap_parts.proofs.parts.HeapParts.roles.Goals as goal

pub returns-clause-of_heap : goal.returns-clause-of_heap
returns-clause-of_heap c =
    let s = parts_in c.self.inside in
    subst (λ (h : PlacedHeap). IfOk c.roles.result (λ r. StandFor (placed_in h) r h.heap)) c.self.view_is
    (IfOk-weaker c.roles.result (AreRolesBy s.assertions s.placed) (λ r. StandFor (placed_in (placed_heap s)) r (heap_of s))
    (λ r by. roles_stand_for_heap (heap_of s) s.assertions s.placed r c.self.invariant.heap.refers c.self.invariant.heap.ordered
    (record {
      dead = refl;
      unshared = refl;
      owners = refl;
      limits = named-agree s.placed.table.kinds s.assertions.limits c.cells.ensures.sound.kinds;
    }) refl c.cells.ensures.sound.kinds by) c.roles.ensures.by_assertions)
