use Rattle.std.proofs.Common.{◌≡◌, ◌≤◌, ℕ, List, Option, length, get_or}
use Rattle.graph_meaning.specs.Heap.{Heap}
use Rattle.graph_meaning.specs.Roles.{no_roles}
use Rattle.object_paths.specs.References.{KeptAreTraced}
use Rattle.verdict_list.proofs.Counting.{AreCounted}
use Rattle.plain_collection.proofs.instances.count_instances.Given as goal

-- where the first objects past a limit are is no matter here
abbrev pub invariant-loop-number : goal.invariant-loop-number
invariant-loop-number l = record {
  counts : length l.counts.items ≡ length l.table.table.kinds;
  few : (kind : ℕ) → get_or l.counts.items kind 0 ≤ l.number;
  counted : (h : Heap) → KeptAreTraced l.table h l.kept →
      (places : List (Option ℕ)) × (length places ≡ length l.table.table.kinds) × AreCounted l.table (no_roles 0 0) h l.counts.items places l.number;
}
