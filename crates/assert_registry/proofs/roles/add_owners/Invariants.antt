use Rattle.std.proofs.Common.{◌≡◌, ◌<◌, ◌++◌, ℕ, true, Some, map, drop}
use Rattle.std.specs.List.Sorted.{IsStrictlySortedBy}
use Rattle.std.specs.Ordering.{nat_cmp}
use Rattle.graph_meaning.specs.Reach.{has_id}
use Rattle.object_table.specs.Placed.{id_in}
use Rattle.assert_registry.specs.ByCell.{HaveCells}
use Rattle.assert_registry.proofs.roles.add_owners.Given as goal

abbrev pub invariant-loop-id : goal.invariant-loop-id
invariant-loop-id l = record {
  cells : HaveCells l.table l.roles;
  sorted : IsStrictlySortedBy nat_cmp (drop l.id-index l.owners);
  below : (owner x y : ℕ) → has_id l.roles.owners owner ≡ true → id_in l.table owner ≡ Some x → has_id (drop l.id-index l.owners) y ≡ true → x < y;
  added : map (id_in l.table) l.roles.owners ++ map Some (drop l.id-index l.owners) ≡ map Some l.owners;
  rest : l.roles ≡ record l.fn.roles { owners = l.roles.owners };
}
