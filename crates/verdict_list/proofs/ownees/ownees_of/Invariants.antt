use Rattle.std.proofs.Common.{◌≡◌, take, filter}
use Rattle.graph_meaning.specs.Roles.{owner_in, has_owner}
use Rattle.verdict_list.specs.Cells.{cells_by_id}
use Rattle.verdict_list.proofs.ownees.ownees_of.Given as goal

-- of the objects so far
abbrev pub invariant-loop-number : goal.invariant-loop-number
invariant-loop-number l = l.ownees.items ≡ filter (λ cell. has_owner (owner_in l.roles cell)) (take l.number (cells_by_id l.table))
