use Rattle.std.proofs.Common.{◌-◌, ◌<◌, ◌∷◌, ◌++◌, [], length, take, drop, sym, ap, subst, ◌∙◌, arith}
use Rattle.std.proofs.lemmas.List.{take_all, length-drop}
use Rattle.graph_meaning.specs.Roles.{id_at}
use Rattle.path_cert.specs.Frontiers.{Round, AreByObjects}
use Rattle.path_cert.specs.Fronts.{front_of}
use Rattle.path_cert.proofs.Growing.{Grows-trans}
use Rattle.path_cert.proofs.HeldObjects.{held-id, held-within}
use Rattle.path_cert.proofs.NextLevel.{by_objects-shut, by_objects-open, take-drop-more, order-at, order-held, order-within}
use Rattle.path_cert.proofs.frontier.Frontier.take_level.Goals as goal
use Rattle.path_cert.proofs.frontier.Frontier.take_level.Goals.{then-not-shut-cell, else-not-shut-cell}

pub bounds-shut-cell : goal.bounds-shut-cell
bounds-shut-cell c =
    let p = c.args.table.now in
    let g = front_of c.loop-place.self in
    let cell = c.index-cell.result.now in
    let longer = order-within p (front_of c.args.self.now) g c.loop-place.invariant.grows in
    let inside : c.loop-place.place < length c.loop-place.self.order.items = omega arith in
    let held = held-id p cell (order-held p c.args.level g c.loop-place.place cell c.loop-place.invariant.safe inside c.index-cell.ensures) in
    let within = held-within p cell (id_at p.cells cell) held in
    subst (λ n. c.index-cell.result.now < n) (sym c.requires.shut) within

pub loop-place-preserved : goal.loop-place-preserved
loop-place-preserved c =
    let p = c.args.table.now in
    let r : Round = record { placed = c.args.table.now; shut = c.args.shut.now; level = c.args.level } in
    let f = front_of c.args.self.now in
    let g = front_of c.loop-place.self in
    let was = c.loop-place.invariant in
    let cell = c.index-cell.result.now in
    let below : c.loop-place.place < length c.args.self.now.order.items = omega arith in
    let read = order-at p f g was.grows c.loop-place.place cell below c.index-cell.ensures in
    let xs = take (c.loop-place.place - c.args.from) (drop c.args.from c.args.self.now.order.items) in
    let more = take-drop-more c.args.self.now.order.items c.args.from c.loop-place.place c.loop-place.auto.place below ∙ ap (λ x. xs ++ x ∷ []) (sym read) in
    elim c.if-not-shut-cell.branch [
      | then-not-shut-cell w ↦
          rw w.self-is (record {
            safe = w.take_object.ensures.safe;
            arrivals =
                subst (λ ys. AreByObjects r ys f.arrivals w.take_object.new.self.arrivals) (sym more)
                (by_objects-open r xs cell f.arrivals g.arrivals was.arrivals w.take_object.new.self.arrivals w.if-not-shut-cell.true
                w.take_object.ensures.arrivals);
            grows = Grows-trans p f g (front_of w.take_object.new.self) was.grows w.take_object.ensures.grows;
          })
      | else-not-shut-cell w ↦
          rw w.self-is (record {
            safe = was.safe;
            arrivals = subst (λ ys. AreByObjects r ys f.arrivals g.arrivals) (sym more) (by_objects-shut r xs cell f.arrivals g.arrivals was.arrivals w.if-not-shut-cell.false);
            grows = was.grows;
          })
    ]

pub returns-clause-arrivals : goal.returns-clause-arrivals
returns-clause-arrivals c =
    let r : Round = record { placed = c.args.table.now; shut = c.args.shut.now; level = c.args.level } in
    let f = front_of c.args.self.now in
    let rest = length-drop c.args.from c.args.self.now.order.items in
    let all = take_all (c.loop-place.place - c.args.from) (drop c.args.from c.args.self.now.order.items) (omega arith) in
    subst (λ ys. AreByObjects r ys f.arrivals c.loop-place.self.arrivals) all c.loop-place.invariant.arrivals

pub take_object-requires-clause-cell : goal.take_object-requires-clause-cell
take_object-requires-clause-cell c =
    let p = c.args.table.now in
    let g = front_of c.loop-place.self in
    let longer = order-within p (front_of c.args.self.now) g c.loop-place.invariant.grows in
    let inside : c.loop-place.place < length c.loop-place.self.order.items = omega arith in
    order-held p c.args.level g c.loop-place.place c.index-cell.result.now c.loop-place.invariant.safe inside c.index-cell.ensures
