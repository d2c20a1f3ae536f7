use Rattle.std.proofs.Common.{map, subst, arith}
use Rattle.graph_meaning.specs.Collecting.{violating_ownees, ownedby_verdict}
use Rattle.verdict_list.specs.Counts.{counted_in}
use Rattle.verdict_list.specs.Listed.{GoesOn, owned_pair}
use Rattle.verdict_list.proofs.OwnedPairs.{ownees-are}
use Rattle.verdict_list.proofs.WholeLists.{map_pairs}
use Rattle.verdict_list.proofs.WithOwnees.{whole, ownees-few}
use Rattle.verdict_list.proofs.listing.all_verdicts.Goals as goal

pub first_verdicts-requires-clause-counts : goal.first_verdicts-requires-clause-counts
first_verdicts-requires-clause-counts g c = let (h, are, violating) = c.requires.counts in (h, are)

pub push_ownees-requires-clause-room : goal.push_ownees-requires-clause-room
push_ownees-requires-clause-room g c =
    let (h, are, violating) = c.requires.counts in
    let sound = c.cells-cells.ensures.sound in
    let ownees = ownees-few c.args.counted.now.table.now c.args.counted.now.roles.now h c.args.check.now sound are.stand violating in
    omega (arith, ownees, sound.limits.objects, sound.limits.possible.objects, c.in_ok-list.ensures.few)

pub push_ownees-requires-clause-check : goal.push_ownees-requires-clause-check
push_ownees-requires-clause-check g c = let (h, are, violating) = c.requires.counts in (h, record { stand = are.stand; violating = violating })

pub returns : goal.returns
returns g c = record {
  verdicts = λ h are violating.
      let p = c.args.counted.now.table.now in
      let n = c.args.paths in
      let ownees : GoesOn n c.in_ok-list.list (map (ownedby_verdict h) (violating_ownees h)) c.push_ownees.new.list =
      subst (λ vs. GoesOn n c.in_ok-list.list vs c.push_ownees.new.list)
      (map_pairs (ownedby_verdict h) (owned_pair p h) c.args.check.now.ownees (violating_ownees h)
      (ownees-are p c.args.counted.now.roles.now h c.args.check.now are.stand violating))
      (c.in_ok-push_ownees.ensures.verdicts h (record { stand = are.stand; violating = violating })) in
      whole n c.in_ok-list.list c.push_ownees.new.list (counted_in p (g.T.HeapCounts.counts c.args.counted.now.counts.now)) h (c.in_ok-list.ensures.verdicts h are) ownees;
}
