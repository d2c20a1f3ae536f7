use Rattle.std.proofs.Common.{◌-◌, take, drop}
use Rattle.path_cert.specs.Frontiers.{FrontGrows, AreByObjects, IsUnderWay}
use Rattle.path_cert.specs.Fronts.{front_of}
use Rattle.path_cert.proofs.frontier.Frontier.take_level.Given as goal

abbrev pub invariant-loop-place : goal.invariant-loop-place
invariant-loop-place l = record {
  safe : IsUnderWay l.table l.level (front_of l.self);
  arrivals : AreByObjects (record { placed = l.table; shut = l.shut; level = l.level }) (take (l.place - l.from) (drop l.from l.fn.self.order.items)) l.fn.self.arrivals l.self.arrivals;
  grows : FrontGrows l.table (front_of l.fn.self) (front_of l.self);
}
