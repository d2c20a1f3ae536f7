use Rattle.std.proofs.Common.{◌<◌, ◌++◌, length, take, sym, ap, refl, subst, arith, ◌∙◌, append-nil, None}
use Rattle.std.specs.Prelude.{IsSome}
use Rattle.std.specs.Option.{option_map}
use Rattle.graph_meaning.specs.Heap.{edges_of, edge_of}
use Rattle.graph_meaning.specs.Paths.{way_by_edge, owner_way}
use Rattle.graph_meaning.specs.Roles.{id_at}
use Rattle.graph_meaning.proofs.Ways.{IsWay-way_by_edge}
use Rattle.object_table.specs.Placed.{slots_in, slot_in}
use Rattle.path_cert.specs.declared.start.Start.TheVariants.{Owners}
use Rattle.path_cert.specs.declared.arrival.Arrival.{Arrival}
use Rattle.path_cert.specs.Frontiers.{HasTaken}
use Rattle.path_cert.specs.Fronts.{front_of}
use Rattle.graph_meaning.proofs.EdgesOfSlots.{edges-edge, edges-none, edges-all}
use Rattle.object_table.proofs.ObjectsByCell.{edge_at-cell, edges-cell, no-edge, edge-within, edge-in_a_cell, edge-target}
use Rattle.path_cert.proofs.FirstLevel.{next_first, first-taken, grows-first, ways_by, ways_by-more, ways_by-all}
use Rattle.path_cert.proofs.Growing.{Grows-refl, Grows-trans}
use Rattle.path_cert.proofs.HeldObjects.{held-id, held-within}
use Rattle.path_cert.proofs.frontier.Frontier.take_owner.Goals as goal
use Rattle.path_cert.proofs.frontier.Frontier.take_owner.Goals.{in-Some, in_default}

pub arrive_first-requires-clause-cell : goal.arrive_first-requires-clause-cell
arrive_first-requires-clause-cell c =
    let p = c.args.table.now in
    let slot_within : c.loop-slot.slot < length c.edges_at-edges.result = omega (arith, c.len-slot-end.ensures.count, c.loop-slot-test.true) in
    let held = edge-target p c.args.owner c.edges_at-edges.result c.edges_at-edges.ensures.edges c.loop-slot.slot slot_within c.in-Some.target c.in-Some.ensures in
    let within = held-within p c.in-Some.target held.0 held.1 in
    subst (λ n. c.in-Some.target < n) (sym c.loop-slot.invariant.each) within

pub loop-slot-init : goal.loop-slot-init
loop-slot-init c = record {
  each = c.requires.each;
  taken = λ ways begun. subst (λ ws. HasTaken c.args.table.now Owners ws (front_of c.args.self.now)) (sym (append-nil ways)) begun;
  grows = Grows-refl c.args.table.now (front_of c.args.self.now);
}

pub loop-slot-preserved : goal.loop-slot-preserved
loop-slot-preserved c =
    let p = c.args.table.now in
    let t = c.args.table.now.table in
    let slot = c.loop-slot.slot in
    let slots = slots_in c.args.table.now c.args.owner in
    let o = id_at c.args.table.now.cells c.args.owner in
    let o_held = held-id p c.args.owner c.requires.owner in
    let edges = c.edges_at-edges.result in
    let are = c.edges_at-edges.ensures.edges in
    let within : c.loop-slot.slot < length edges = omega (arith, c.len-slot-end.ensures.count, c.loop-slot-test.true) in
    let slot_within = edge-within p c.args.owner edges are slot within in
    let f = front_of c.loop-slot.self in
    let was = c.loop-slot.invariant in
    let a : Arrival = record { level = 1; from = c.args.owner; slot = c.loop-slot.slot } in
    elim c.match-at.branch [
      | in-Some w ↦
          let held = edge-target p c.args.owner edges are slot within w.in-Some.target w.in-Some.ensures in
          let below = subst (λ n. w.in-Some.target < n) (sym was.each) (held-within p w.in-Some.target held.0 held.1) in
          let way = way_by_edge t (owner_way t o) (slot, held.0) in
          let by = ap (option_map (λ x. way_by_edge t (owner_way t x) (slot, held.0))) o_held in
          let leads = IsWay-way_by_edge t (owner_way t o) (slot, held.0) refl (edge_at-cell p c.args.owner o slot o_held ∙ held.2) in
          let grows = grows-first p f w.in-Some.target a below (subst IsSome (sym held.1) refl) refl in
          let more = edges-edge slots slot held.0 slot_within held.2 in
          rw (w.self-is, w.arrive_first.ensures.arrivals, w.arrive_first.ensures.order) (record {
            each = grows.each ∙ was.each;
            taken = λ ways begun.
                let before = was.taken ways begun in
                let ws = ways ++ ways_by t o (edges_of (take slot slots)) in
                let now = first-taken p c.requires.placed Owners ws f before w.in-Some.target way a held.1 refl by leads in
                subst (λ vs. HasTaken p Owners vs (next_first p c.requires.placed Owners ws f before w.in-Some.target way a held.1 refl by leads))
                (ways_by-more t o ways (edges_of (take slot slots)) (slot, held.0) ∙ ap (λ es. ways ++ ways_by t o es) (sym more)) now;
            grows = Grows-trans p (front_of c.args.self.now) f _ was.grows grows;
          })
      | in_default w ↦
          let none = no-edge (edge_of (slot_in p c.args.owner slot)) (sym (edge-in_a_cell p c.args.owner edges are slot within None (c.at.ensures ∙ w.in_default.is))) in
          rw w.self-is (record {
            each = was.each;
            taken = λ ways begun.
                subst (λ es. HasTaken p Owners (ways ++ ways_by t o es) f) (sym (edges-none slots slot slot_within none)) (was.taken ways begun);
            grows = was.grows;
          })
    ]

pub returns-clause-taken : goal.returns-clause-taken
returns-clause-taken c ways begun =
    let p = c.args.table.now in
    let t = c.args.table.now.table in
    let slots = slots_in c.args.table.now c.args.owner in
    let o = id_at c.args.table.now.cells c.args.owner in
    let all =
    edges-all slots c.loop-slot.slot (omega (arith, c.edges_at-edges.ensures.edges.count, c.len-slot-end.ensures.count, c.loop-slot-test.false, c.loop-slot.auto.slot-end))
    ∙ sym (edges-cell p c.args.owner o (held-id p c.args.owner c.requires.owner)) in
    subst (λ vs. HasTaken p Owners vs (front_of c.loop-slot.self)) (ap (λ es. ways ++ ways_by t o es) all ∙ ways_by-all t o ways) (c.loop-slot.invariant.taken ways begun)
