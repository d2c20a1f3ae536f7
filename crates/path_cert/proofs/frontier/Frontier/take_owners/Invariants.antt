use Rattle.std.proofs.Common.{map, take}
use Rattle.graph_meaning.specs.Paths.{ways_from}
use Rattle.graph_meaning.specs.Roles.{id_at}
use Rattle.path_cert.specs.declared.start.Start.TheVariants.{Owners}
use Rattle.path_cert.specs.Frontiers.{FrontGrows, HasTaken}
use Rattle.path_cert.specs.Fronts.{front_of}
use Rattle.path_cert.proofs.frontier.Frontier.take_owners.Given as goal

abbrev pub invariant-loop-owner : goal.invariant-loop-owner
invariant-loop-owner l = record {
  taken : HasTaken l.table Owners (ways_from l.table.table (map (id_at l.table.cells) (take l.owner-index l.owners))) (front_of l.self);
  grows : FrontGrows l.table (front_of l.fn.self) (front_of l.self);
}
