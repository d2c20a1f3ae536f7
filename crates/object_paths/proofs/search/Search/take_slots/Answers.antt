use Rattle.std.proofs.Common.{◌<◌, ◌+◌, ◌++◌, [], length, take, sym, refl, ◌∙◌, arith, append-nil, None}
use Rattle.graph_meaning.specs.Heap.{edge_of}
use Rattle.graph_meaning.specs.Roles.{id_at}
use Rattle.object_table.specs.Placed.{slots_in, slot_in}
use Rattle.object_table.proofs.ObjectsByCell.{no-edge, edge-within, edge-in_a_cell, edge-target}
use Rattle.object_paths.specs.Findings.{finding_in}
use Rattle.object_paths.proofs.Listing.{with_slots, finds-same, slot-more, slot-none, slots-all}
use Rattle.object_paths.proofs.search.Search.take_slots.Goals as goal
use Rattle.object_paths.proofs.search.Search.take_slots.Goals.{in-Some, in_default}

pub loop-slot-init : goal.loop-slot-init
loop-slot-init c = record {
  count = refl;
  finds = λ asked before begun.
      finds-same c.args.table.now asked before (λ id. before id ++ []) (finding_in c.args.self.now) (λ id. sym (append-nil (before id))) begun;
}

pub loop-slot-preserved : goal.loop-slot-preserved
loop-slot-preserved c =
    let p = c.args.table.now in
    let slot = c.loop-slot.slot in
    let slots = slots_in c.args.table.now c.args.holder in
    let holder = id_at c.args.table.now.cells c.args.holder in
    let edges = c.edges_at-edges.result in
    let are = c.edges_at-edges.ensures.edges in
    let edge_within : c.loop-slot.slot < length edges = omega (arith, c.len-slot-end.ensures.count, c.loop-slot-test.true) in
    let within = edge-within p c.args.holder edges are slot edge_within in
    let was = c.loop-slot.invariant in
    elim c.match-at.branch [
      | in-Some w ↦
          let held = edge-target p c.args.holder edges are slot edge_within w.in-Some.target w.in-Some.ensures in
          rw w.self-is (record {
            count = w.put.ensures.count ∙ was.count;
            finds = λ asked before begun.
                finds-same p asked _ (with_slots before holder (take (slot + 1) slots)) (finding_in w.put.new.self)
                (λ x. sym (slot-more before holder slots slot within held.0 held.2 x))
                (w.put.ensures.finds p held.0 c.requires.placed held.1 (within, held.2) asked (with_slots before holder (take slot slots)) (was.finds asked before begun));
          })
      | in_default w ↦
          let none = no-edge (edge_of (slot_in p c.args.holder slot)) (sym (edge-in_a_cell p c.args.holder edges are slot edge_within None (c.at.ensures ∙ w.in_default.is))) in
          rw w.self-is (record {
            count = was.count;
            finds = λ asked before begun.
                finds-same p asked _ _ (finding_in c.loop-slot.self) (slot-none before holder slots slot within none) (was.finds asked before begun);
          })
    ]

pub returns-clause-finds : goal.returns-clause-finds
returns-clause-finds c asked before begun =
    finds-same c.args.table.now asked _ _ (finding_in c.loop-slot.self)
    (slots-all before c.args.table.now c.args.holder c.loop-slot.slot c.requires.holder
    (omega (arith, c.edges_at-edges.ensures.edges.count, c.len-slot-end.ensures.count, c.loop-slot-test.false, c.loop-slot.auto.slot-end)))
    (c.loop-slot.invariant.finds asked before begun)
