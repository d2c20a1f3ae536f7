use Rattle.std.proofs.Common.{◌≡◌, ℕ, length, IsTrue}
use Rattle.std.specs.Prelude.{IsSome}
use Rattle.graph_meaning.specs.Reach.{has_id}
use Rattle.object_table.specs.Placed.{id_in}
use Rattle.path_cert.specs.Quests.{KeepsSearching, remaining}
use Rattle.path_cert.specs.Searches.{sought_in}
use Rattle.path_cert.proofs.finding.Search.seek.Given as goal

abbrev pub invariant-loop-self : goal.invariant-loop-self
invariant-loop-self l = record {
  each : length l.self.met_in.items ≡ length l.fn.self.met_in.items;
  held : (x : ℕ) → IsTrue (has_id l.self.work.items x) → IsSome (id_in l.table x);
  searching : (owner : ℕ) → KeepsSearching (record { placed = l.table; roles = l.roles; owner = owner }) (sought_in l.fn.self) (sought_in l.self);
}

abbrev pub decreases-loop-self : goal.decreases-loop-self
decreases-loop-self l = remaining (length l.table.cells) (sought_in l.self)
