use Rattle.std.proofs.Common.{◌≡◌, take, map}
use Rattle.graph_meaning.specs.Heap.{edge_of}
use Rattle.object_table.specs.Parts.{slot_of}
use Rattle.object_table.proofs.views.slots_view.Given as goal

-- the slots before this one are shown
abbrev pub invariant-loop-slot : goal.invariant-loop-slot
invariant-loop-slot l = l.slots ≡ map (λ s. edge_of (slot_of l.cells.cells s)) (take l.slot l.object.slots)
