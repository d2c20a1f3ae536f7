use Rattle.std.proofs.Common.{◌+◌, ◌-◌, ◌≤◌, ◌<◌, length}
use Rattle.path_cert.specs.Levels.{Search}
use Rattle.path_cert.specs.Frontiers.{GoesUpTo, IsAtFirstLevel, IsAtLevel, ShutByCell}
use Rattle.path_cert.specs.Fronts.{front_of}
use Rattle.path_cert.proofs.frontier.Frontier.take_levels.Given as goal

abbrev pub invariant-loop-from : goal.invariant-loop-from
invariant-loop-from l = record {
  early : 0 < l.level;
  low : l.level ≤ l.from + 1;
  within : l.from ≤ length l.self.order.items;
  safe : GoesUpTo l.table l.level (front_of l.self);
  levels : (s : Search) → ShutByCell l.table s l.shut → IsAtFirstLevel (record { placed = l.table; search = s }) (front_of l.fn.self) →
      IsAtLevel (record { placed = l.table; search = s }) (l.level - 1) (front_of l.self) l.from;
}

abbrev pub decreases-loop-from : goal.decreases-loop-from
decreases-loop-from l = length l.self.arrivals - l.from
