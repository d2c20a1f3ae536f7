use Rattle.std.proofs.Common.{map, take, sym, subst}
use Rattle.graph_meaning.specs.Paths.{ways_from}
use Rattle.graph_meaning.specs.Roles.{id_at}
use Rattle.path_cert.specs.declared.start.Start.TheVariants.{Owners}
use Rattle.path_cert.specs.Frontiers.{HasTaken}
use Rattle.path_cert.specs.Fronts.{front_of}
use Rattle.path_cert.proofs.FirstLevel.{ways_from-more}
use Rattle.path_cert.proofs.Growing.{Grows-trans}
use Rattle.path_cert.proofs.frontier.Frontier.take_owners.Goals as goal

pub loop-owner-preserved : goal.loop-owner-preserved
loop-owner-preserved c =
    let p = c.args.table.now in
    let t = c.args.table.now.table in
    let was = c.loop-owner.invariant in
    let done = ways_from t (map (id_at p.cells) (take c.loop-owner.owner-index c.args.owners.now)) in
    let more = ways_from-more t p.cells c.args.owners.now c.loop-owner.owner-index c.loop-owner-test.true in
    record {
      taken = subst (λ ws. HasTaken p Owners ws (front_of c.take_owner.new.self)) (sym more) (c.take_owner.ensures.taken done was.taken);
      grows = Grows-trans p (front_of c.args.self.now) (front_of c.loop-owner.self) (front_of c.take_owner.new.self) was.grows c.take_owner.ensures.grows;
    }
