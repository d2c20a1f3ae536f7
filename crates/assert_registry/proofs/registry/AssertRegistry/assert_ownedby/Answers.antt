use Rattle.std.proofs.Common.{◌≢◌, rules}
use Rattle.assert_registry.proofs.Owners.{others-insert_entry}
use Rattle.assert_registry.proofs.registry.AssertRegistry.assert_ownedby.Goals as goal

pub invariant_of-self-2 : goal.invariant_of-self-2
invariant_of-self-2 c =
    let (consistent, room) = c.self.invariant in
    let other : c.args.owner ≢ c.args.ownee = search rules in (
      record {
        dead = consistent.dead;
        unshared = consistent.unshared;
        owners = c.in-Ok.ensures.ordered;
        others = rw c.in-Ok.ensures.entries (others-insert_entry c.self.inside.owners.entries c.args.ownee c.args.owner other consistent.others);
      },
      room,
    )
