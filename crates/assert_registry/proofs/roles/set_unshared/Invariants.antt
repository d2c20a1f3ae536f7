use Rattle.std.proofs.Common.{◌≡◌, ◌||◌, ℕ, false, get_or, drop}
use Rattle.assert_registry.specs.ByCell.{HaveCells, holds_one_of}
use Rattle.assert_registry.proofs.roles.set_unshared.Given as goal

abbrev pub invariant-loop-id : goal.invariant-loop-id
invariant-loop-id l = record {
  rest : l.roles ≡ record l.fn.roles { unshared = l.roles.unshared };
  set : (cell : ℕ) → (get_or l.roles.unshared cell false || holds_one_of l.table (drop l.id-index l.unshared) cell) ≡ (get_or l.fn.roles.unshared cell false || holds_one_of l.table l.unshared cell);
  cells : HaveCells l.table l.roles;
}
