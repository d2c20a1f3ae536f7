use Rattle.std.proofs.Common.{◌≡◌, length, ℕ, ◌+◌, ◌*◌, ◌^◌, List, Bool}
use Rattle.graph_meaning.specs.Assertions.{Reference}
use Rattle.object_paths.specs.Prefixes.{ScannedByCell}
use Rattle.object_paths.proofs.Listing.{with_scanned}
use Rattle.plain_collection.specs.Counting.{AtMost, CountsLists}
use Rattle.plain_collection.proofs.references.count_objects.Given as goal

abbrev pub invariant-loop-number : goal.invariant-loop-number
invariant-loop-number l = record {
  counts : (is_scanned : ℕ → Bool) → ScannedByCell l.table l.roles l.kept is_scanned → (before : ℕ → List Reference) →
      CountsLists l.table before l.fn.counts.items → CountsLists l.table (with_scanned l.table.table before is_scanned l.number) l.counts.items;
  each : length l.counts.items ≡ length l.fn.counts.items;
  few : AtMost (2 ^ 32 + 2 ^ 32 * l.number) l.counts.items;
}
