use Rattle.std.proofs.Common.{◌≡◌, ℕ, length, List, take}
use Rattle.graph_meaning.specs.Assertions.{Reference}
use Rattle.graph_meaning.specs.Roles.{id_at}
use Rattle.object_table.specs.Placed.{slots_in}
use Rattle.object_paths.specs.Findings.{finding_in}
use Rattle.object_paths.specs.Prefixes.{FindsFirst}
use Rattle.object_paths.proofs.Listing.{with_slots}
use Rattle.object_paths.proofs.search.Search.take_slots.Given as goal

abbrev pub invariant-loop-slot : goal.invariant-loop-slot
invariant-loop-slot l = record {
  count : length l.self.found.items ≡ length l.fn.self.found.items;
  finds : (asked : List ℕ) (before : ℕ → List Reference) → FindsFirst l.table asked before (finding_in l.fn.self) →
      FindsFirst l.table asked (with_slots before (id_at l.table.cells l.holder) (take l.slot (slots_in l.table l.holder))) (finding_in l.self);
}
