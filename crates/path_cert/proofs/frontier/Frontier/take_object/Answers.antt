use Rattle.std.proofs.Common.{◌<◌, [], length, take, sym, ap, subst, ◌∙◌, arith, None}
use Rattle.graph_meaning.specs.Heap.{edges_of, edge_of}
use Rattle.graph_meaning.specs.Roles.{id_at}
use Rattle.object_table.specs.Placed.{slots_in, slot_in}
use Rattle.path_cert.specs.Frontiers.{Round, by_some_edge, first_edge}
use Rattle.path_cert.specs.Levels.{arrival_in}
use Rattle.path_cert.specs.Fronts.{front_of}
use Rattle.graph_meaning.proofs.EdgesOfSlots.{edges-edge, edges-none, edges-all}
use Rattle.object_table.proofs.ObjectsByCell.{edges-cell, no-edge, edge-within, edge-in_a_cell, edge-target}
use Rattle.path_cert.proofs.Growing.{Grows-trans}
use Rattle.path_cert.proofs.HeldObjects.{held-id, held-within}
use Rattle.path_cert.proofs.NextLevel.{AreBy, next, next-grows, next-under_way, next-by}
use Rattle.path_cert.proofs.frontier.Frontier.take_object.Goals as goal
use Rattle.path_cert.proofs.frontier.Frontier.take_object.Goals.{in-Some, in_default}

pub arrive-requires-clause-cell : goal.arrive-requires-clause-cell
arrive-requires-clause-cell c =
    let p = c.args.table.now in
    let slot_within : c.loop-slot.slot < length c.edges_at-edges.result = omega (arith, c.len-slot-end.ensures.count, c.loop-slot-test.true) in
    let held = edge-target p c.args.cell c.edges_at-edges.result c.edges_at-edges.ensures.edges c.loop-slot.slot slot_within c.in-Some.target c.in-Some.ensures in
    let within : c.in-Some.target < length p.cells = held-within p c.in-Some.target held.0 held.1 in
    subst (λ n. c.in-Some.target < n) (sym c.loop-slot.invariant.safe.up_to.each) within

pub loop-slot-preserved : goal.loop-slot-preserved
loop-slot-preserved c =
    let p = c.args.table.now in
    let r : Round = record { placed = c.args.table.now; shut = []; level = c.args.level } in
    let x = c.args.cell in
    let slot = c.loop-slot.slot in
    let slots = slots_in c.args.table.now c.args.cell in
    let positive : 0 < c.args.level = omega arith in
    let edges = c.edges_at-edges.result in
    let are = c.edges_at-edges.ensures.edges in
    let within : c.loop-slot.slot < length edges = omega (arith, c.len-slot-end.ensures.count, c.loop-slot-test.true) in
    let slot_within = edge-within p c.args.cell edges are slot within in
    let f = front_of c.loop-slot.self in
    let f_old = front_of c.args.self.now in
    let before = f_old.arrivals in
    let was = c.loop-slot.invariant in
    elim c.match-at.branch [
      | in-Some w ↦
          let held = edge-target p c.args.cell edges are slot within w.in-Some.target w.in-Some.ensures in
          let within = subst (λ n. w.in-Some.target < n) (sym was.safe.up_to.each) (held-within p w.in-Some.target held.0 held.1) in
          let grows = next-grows r c.requires.placed x positive c.requires.cell f w.in-Some.target held.0 slot held.1 was.safe within in
          let safe = next-under_way r c.requires.placed x positive c.requires.cell f w.in-Some.target held.0 slot held.1 was.safe within in
          let by = next-by r c.requires.placed x positive c.requires.cell f w.in-Some.target held.0 slot held.1 was.safe within (edges_of (take slot slots)) before was.arrivals in
          let after = next r c.requires.placed x positive c.requires.cell f w.in-Some.target held.0 slot held.1 was.safe in
          rw (w.self-is, w.arrive.ensures.arrivals, w.arrive.ensures.order) (record {
            safe = safe;
            arrivals = subst (λ es. AreBy r x es before after.arrivals) (sym (edges-edge slots slot held.0 slot_within held.2)) by;
            grows = Grows-trans p (front_of c.args.self.now) f after was.grows grows;
          })
      | in_default w ↦
          let none = no-edge (edge_of (slot_in p x slot)) (sym (edge-in_a_cell p x edges are slot within None (c.at.ensures ∙ w.in_default.is))) in
          rw w.self-is (record {
            safe = was.safe;
            arrivals = subst (λ es. AreBy r x es before f.arrivals) (sym (edges-none slots slot slot_within none)) was.arrivals;
            grows = was.grows;
          })
    ]

pub returns-clause-arrivals : goal.returns-clause-arrivals
returns-clause-arrivals c to id at_to =
    let p = c.args.table.now in
    let slots = slots_in c.args.table.now c.args.cell in
    let r : Round = record { placed = c.args.table.now; shut = []; level = c.args.level } in
    let known = arrival_in c.args.self.now.arrivals to in
    let all =
    edges-all slots c.loop-slot.slot (omega (arith, c.edges_at-edges.ensures.edges.count, c.len-slot-end.ensures.count, c.loop-slot-test.false, c.loop-slot.auto.slot-end))
    ∙ sym (edges-cell p c.args.cell (id_at p.cells c.args.cell) (held-id p c.args.cell c.requires.cell)) in
    c.loop-slot.invariant.arrivals to id at_to ∙ ap (λ es. by_some_edge r c.args.cell known (first_edge es id)) all
