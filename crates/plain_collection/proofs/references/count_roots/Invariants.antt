use Rattle.std.proofs.Common.{[], take, ◌≡◌, length}
use Rattle.object_paths.proofs.Listing.{by_roots}
use Rattle.plain_collection.specs.Counting.{AtMost, CountsLists}
use Rattle.plain_collection.proofs.references.count_roots.Given as goal

abbrev pub invariant-loop-root : goal.invariant-loop-root
invariant-loop-root l = record {
  counts : CountsLists l.table (λ id. []) l.fn.counts.items → CountsLists l.table (by_roots (take l.root l.table.table.roots)) l.counts.items;
  each : length l.counts.items ≡ length l.fn.counts.items;
  few : AtMost l.root l.counts.items;
}
