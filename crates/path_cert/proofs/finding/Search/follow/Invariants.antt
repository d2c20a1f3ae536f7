use Rattle.std.proofs.Common.{◌≡◌, ◌≤◌, length, map, take}
use Rattle.graph_meaning.specs.Heap.{edges_of}
use Rattle.object_table.specs.Placed.{slots_in}
use Rattle.path_cert.specs.Quests.{Reaches, remaining}
use Rattle.path_cert.specs.Searches.{sought_in}
use Rattle.path_cert.proofs.finding.Search.follow.Given as goal

abbrev pub invariant-loop-slot : goal.invariant-loop-slot
invariant-loop-slot l = record {
  each : length l.self.met_in.items ≡ length l.fn.self.met_in.items;
  reaches : Reaches (record { placed = l.table; roles = l.roles }) (map (λ e. e.1) (edges_of (take l.slot (slots_in l.table l.cell)))) (sought_in l.fn.self) (sought_in l.self);
  fewer : remaining (length l.table.cells) (sought_in l.self) ≤ remaining (length l.table.cells) (sought_in l.fn.self);
}
