use Rattle.std.proofs.Common.{◌≡◌, ℕ, length, Bool, List}
use Rattle.graph_meaning.specs.Assertions.{Reference}
use Rattle.object_paths.specs.Findings.{finding_in}
use Rattle.object_paths.specs.Prefixes.{FindsFirst, ScannedByCell}
use Rattle.object_paths.proofs.Listing.{with_scanned}
use Rattle.object_paths.proofs.search.Search.take_objects.Given as goal

abbrev pub invariant-loop-number : goal.invariant-loop-number
invariant-loop-number l = record {
  count : length l.self.found.items ≡ length l.fn.self.found.items;
  finds : (is_scanned : ℕ → Bool) → ScannedByCell l.table l.roles l.kept is_scanned → (asked : List ℕ) (before : ℕ → List Reference) →
      FindsFirst l.table asked before (finding_in l.fn.self) → FindsFirst l.table asked (with_scanned l.table.table before is_scanned l.number) (finding_in l.self);
}
