use Rattle.std.proofs.Common.{◌≡◌, ℕ, length, List, [], take}
use Rattle.object_paths.specs.Findings.{finding_in}
use Rattle.object_paths.specs.Prefixes.{FindsFirst}
use Rattle.object_paths.proofs.Listing.{by_roots}
use Rattle.object_paths.proofs.search.Search.take_roots.Given as goal

abbrev pub invariant-loop-root : goal.invariant-loop-root
invariant-loop-root l = record {
  count : length l.self.found.items ≡ length l.fn.self.found.items;
  finds : (asked : List ℕ) → FindsFirst l.table asked (λ id. []) (finding_in l.fn.self) → FindsFirst l.table asked (by_roots (take l.root l.table.table.roots)) (finding_in l.self);
}
