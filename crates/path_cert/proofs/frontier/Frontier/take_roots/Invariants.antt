use Rattle.std.proofs.Common.{take, map}
use Rattle.graph_meaning.specs.Paths.{root_way}
use Rattle.path_cert.specs.declared.start.Start.TheVariants.{Roots}
use Rattle.path_cert.specs.Frontiers.{FrontGrows, HasTaken}
use Rattle.path_cert.specs.Fronts.{front_of}
use Rattle.path_cert.proofs.frontier.Frontier.take_roots.Given as goal

abbrev pub invariant-loop-root : goal.invariant-loop-root
invariant-loop-root l = record {
  taken : HasTaken l.table Roots (map (root_way l.table.table) (take l.root l.table.table.roots)) (front_of l.self);
  grows : FrontGrows l.table (front_of l.fn.self) (front_of l.self);
}
