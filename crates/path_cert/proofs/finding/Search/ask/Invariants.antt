use Rattle.std.proofs.Common.{◌≡◌, ℕ, length, map, take, IsTrue}
use Rattle.std.specs.Prelude.{IsSome, vec_capacity, ◌≤◌}
use Rattle.graph_meaning.specs.Reach.{has_id}
use Rattle.object_table.specs.Placed.{id_in}
use Rattle.path_cert.specs.Finds.{finds_in}
use Rattle.path_cert.specs.Quests.{IsFollowed, IsSearching}
use Rattle.path_cert.specs.Searches.{sought_in}
use Rattle.path_cert.proofs.finding.Search.ask.Given as goal

-- of the ownees so far
abbrev pub invariant-loop-ownee : goal.invariant-loop-ownee
invariant-loop-ownee l = record {
  each : length l.self.met_in.items ≡ length l.fn.self.met_in.items;
  room : length l.ownees ≤ vec_capacity l.found;
  held : (x : ℕ) → IsTrue (has_id l.self.work.items x) → IsSome (id_in l.table x);
  followed : IsFollowed l.table (sought_in l.self) l.owner;
  searching : IsSearching (record { placed = l.table; roles = l.roles; owner = l.owner }) (sought_in l.self);
  found : l.found.items ≡ map (finds_in l.table l.roles l.owner) (take l.ownee-index l.ownees);
}
