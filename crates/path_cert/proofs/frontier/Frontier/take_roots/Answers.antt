use Rattle.std.proofs.Common.{◌<◌, length, map, take, sym, ap, refl, subst, arith}
use Rattle.std.specs.Prelude.{IsSome}
use Rattle.std.specs.Option.{option_map}
use Rattle.graph_meaning.specs.Paths.{root_way}
use Rattle.path_cert.specs.declared.start.Start.TheVariants.{Roots}
use Rattle.path_cert.specs.declared.arrival.Arrival.{Arrival}
use Rattle.path_cert.specs.Frontiers.{HasTaken}
use Rattle.path_cert.specs.Fronts.{front_of}
use Rattle.path_cert.proofs.FirstLevel.{next_first, first-within, first-taken, grows-first, the_root, root-there, root-held, roots-more}
use Rattle.path_cert.proofs.Growing.{Grows-trans}
use Rattle.path_cert.proofs.HeldObjects.{held-within}
use Rattle.path_cert.proofs.frontier.Frontier.take_roots.Goals as goal

pub arrive_first-requires-clause-cell : goal.arrive_first-requires-clause-cell
arrive_first-requires-clause-cell c =
    let p = c.args.table.now in
    let root = c.loop-root.root in
    let within : c.loop-root.root < length c.args.table.now.table.roots = omega arith in
    let held = root-held p root c.root_cell.result within c.root_cell.ensures.cell in
    let below = held-within p c.root_cell.result (the_root p root c.root_cell.result within c.root_cell.ensures.cell).1 held in
    subst (λ n. c.root_cell.result < n) (sym c.loop-root.invariant.taken.each) below

pub loop-root-preserved : goal.loop-root-preserved
loop-root-preserved c =
    let p = c.args.table.now in
    let t = c.args.table.now.table in
    let root = c.loop-root.root in
    let cell = c.root_cell.result in
    let f = front_of c.loop-root.self in
    let was = c.loop-root.invariant in
    let within : c.loop-root.root < length c.args.table.now.table.roots = omega arith in
    let names = c.root_cell.ensures.cell in
    let w = root_way t (the_root p root cell within names) in
    let a : Arrival = record { level = 1; from = c.loop-root.root; slot = 0 } in
    let ways = map (root_way t) (take root t.roots) in
    let held = root-held p root cell within names in
    let by = ap (option_map (root_way t)) (root-there p root cell within names) in
    let taken = first-taken p c.requires.placed Roots ways f was.taken cell w a held refl by refl in
    let below = first-within p c.requires.placed Roots ways f was.taken cell w a held refl by refl in
    let grows = grows-first p f cell a below (subst IsSome (sym held) refl) refl in
    rw (c.arrive_first.ensures.arrivals, c.arrive_first.ensures.order) (record {
      taken = subst (λ ws. HasTaken p Roots ws (next_first p c.requires.placed Roots ways f was.taken cell w a held refl by refl)) (sym (roots-more p root cell within names)) taken;
      grows = Grows-trans p (front_of c.args.self.now) f (next_first p c.requires.placed Roots ways f was.taken cell w a held refl by refl) was.grows grows;
    })
