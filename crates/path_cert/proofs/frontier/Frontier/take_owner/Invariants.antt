use Rattle.std.proofs.Common.{◌≡◌, ◌++◌, List, length, take}
use Rattle.graph_meaning.specs.Heap.{edges_of}
use Rattle.graph_meaning.specs.Paths.{Way}
use Rattle.graph_meaning.specs.Roles.{id_at}
use Rattle.object_table.specs.Placed.{slots_in}
use Rattle.path_cert.specs.declared.start.Start.TheVariants.{Owners}
use Rattle.path_cert.specs.Frontiers.{FrontGrows, HasTaken}
use Rattle.path_cert.specs.Fronts.{front_of}
use Rattle.path_cert.proofs.FirstLevel.{ways_by}
use Rattle.path_cert.proofs.frontier.Frontier.take_owner.Given as goal

abbrev pub invariant-loop-slot : goal.invariant-loop-slot
invariant-loop-slot l = record {
  each : length l.self.arrivals ≡ length l.table.cells;
  taken : (ways : List Way) → HasTaken l.table Owners ways (front_of l.fn.self) →
      HasTaken l.table Owners (ways ++ ways_by l.table.table (id_at l.table.cells l.owner) (edges_of (take l.slot (slots_in l.table l.owner)))) (front_of l.self);
  grows : FrontGrows l.table (front_of l.fn.self) (front_of l.self);
}
