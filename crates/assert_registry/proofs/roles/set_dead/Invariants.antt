use Rattle.std.proofs.Common.{◌≡◌, ◌||◌, ℕ, false, get_or, drop}
use Rattle.assert_registry.specs.ByCell.{HaveCells, holds_one_of}
use Rattle.assert_registry.proofs.roles.set_dead.Given as goal

abbrev pub invariant-loop-id : goal.invariant-loop-id
invariant-loop-id l = record {
  cells : HaveCells l.table l.roles;
  set : (cell : ℕ) → (get_or l.roles.dead cell false || holds_one_of l.table (drop l.id-index l.dead) cell) ≡ (get_or l.fn.roles.dead cell false || holds_one_of l.table l.dead cell);
  rest : l.roles ≡ record l.fn.roles { dead = l.roles.dead };
}
