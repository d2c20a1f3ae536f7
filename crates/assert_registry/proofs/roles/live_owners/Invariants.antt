use Rattle.std.proofs.Common.{◌≡◌, fold}
use Rattle.std.specs.BTreeSet.{insert_key}
use Rattle.std.specs.Map.{values_of}
use Rattle.std.specs.Ordering.{nat_cmp}
use Rattle.assert_registry.specs.IdSet.{set_of}
use Rattle.assert_registry.proofs.roles.live_owners.Given as goal

-- with the owners that are left
abbrev pub invariant-loop-owner : goal.invariant-loop-owner
invariant-loop-owner l =
    fold (insert_key nat_cmp) l.ids l.owner-iterator ≡ set_of (values_of l.owners.entries)
