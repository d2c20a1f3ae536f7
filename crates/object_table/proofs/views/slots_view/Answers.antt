use Rattle.std.proofs.Common.{sym, ap, ◌∙◌, arith}
use Rattle.std.proofs.lemmas.Option.{get_or_from_slice_get}
use Rattle.graph_meaning.specs.Heap.{edge_of}
use Rattle.object_table.specs.Parts.{slot_of}
use Rattle.object_table.specs.declared.slot.Slot.{Slot}
use Rattle.object_table.proofs.Shown.{item_more}
use Rattle.object_table.proofs.views.slots_view.Goals as goal

pub loop-slot-preserved : goal.loop-slot-preserved
loop-slot-preserved c =
    item_more (λ s. edge_of (slot_of c.args.cells.now.cells s)) c.args.object.now.slots c.loop-slot.slots c.push.new.self c.loop-slot.slot
    c.slot.result c.target.result (omega arith)
    (c.target.ensures
    ∙ ap (λ (s : Slot). edge_of (slot_of c.args.cells.now.cells s)) (sym (get_or_from_slice_get c.args.object.now.slots c.loop-slot.slot c.slot.result c.slot.result c.slot.ensures.found)))
    c.loop-slot.invariant c.in_ok-push.ensures.ok
