use Rattle.std.proofs.Common.{[], take}
use Rattle.graph_meaning.specs.Heap.{edges_of}
use Rattle.object_table.specs.Placed.{slots_in}
use Rattle.path_cert.specs.Frontiers.{FrontGrows, IsUnderWay}
use Rattle.path_cert.specs.Fronts.{front_of}
use Rattle.path_cert.proofs.NextLevel.{AreBy}
use Rattle.path_cert.proofs.frontier.Frontier.take_object.Given as goal

abbrev pub invariant-loop-slot : goal.invariant-loop-slot
invariant-loop-slot l = record {
  safe : IsUnderWay l.table l.level (front_of l.self);
  arrivals : AreBy (record { placed = l.table; shut = []; level = l.level }) l.cell (edges_of (take l.slot (slots_in l.table l.cell))) l.fn.self.arrivals l.self.arrivals;
  grows : FrontGrows l.table (front_of l.fn.self) (front_of l.self);
}
