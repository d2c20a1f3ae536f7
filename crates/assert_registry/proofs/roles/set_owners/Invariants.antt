use Rattle.std.proofs.Common.{◌≡◌, ℕ}
use Rattle.std.specs.Option.{IfSome}
use Rattle.std.specs.Map.{keys_of}
use Rattle.graph_meaning.specs.Laws.{AllLive}
use Rattle.assert_registry.specs.Assertions.{owner_of}
use Rattle.assert_registry.specs.ByCell.{HaveCells, IsRoleBy}
use Rattle.assert_registry.proofs.Marking.{HasRoleSoFar}
use Rattle.std.specs.List.{All}
use Rattle.std.proofs.Common.{Some}
use Rattle.assert_registry.proofs.roles.set_owners.Given as goal

abbrev pub invariant-loop-ownee : goal.invariant-loop-ownee
invariant-loop-ownee l = record {
  cells : HaveCells l.table l.roles;
  live : AllLive l.table.table (keys_of l.ownee-iterator);
  owned : All (λ o. owner_of l.owners.entries o.0 ≡ Some o.1) l.ownee-iterator;
  set : (cell : ℕ) → HasRoleSoFar l.table l.owners.entries l.ownee-iterator l.roles.ownees cell;
  last : IfSome l.last (λ k. IsRoleBy l.table (Some k.owner) k.role);
  rest : l.roles ≡ record l.fn.roles { ownees = l.roles.ownees };
}
