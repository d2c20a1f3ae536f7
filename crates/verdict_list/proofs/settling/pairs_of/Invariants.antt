use Rattle.std.proofs.Common.{◌≡◌, ◌&&◌, ℕ, take}
use Rattle.std.specs.List.{All}
use Rattle.graph_meaning.specs.Reach.{has_id}
use Rattle.verdict_list.specs.Cells.{is_kept}
use Rattle.verdict_list.specs.Settling.{IsOfObjects, is_found_in}
use Rattle.verdict_list.proofs.settling.pairs_of.Given as goal

-- of the ownees so far
abbrev pub invariant-loop-ownee : goal.invariant-loop-ownee
invariant-loop-ownee l = record {
  objects : All (IsOfObjects l.asked.table.now) l.pairs.items;
  found : (x : ℕ) → is_found_in l.asked.table.now l.asked.roles.now l.pairs.items x ≡ (has_id (take l.ownee-index l.asked.ownees.now) x && is_kept l.asked.table.now l.asked.roles.now x);
}
