use Rattle.std.proofs.Common.{◌<◌, ◌+◌, ◌^◌, ◌++◌, [], length, take, sym, ap, subst, refl, ◌∙◌, arith, append-nil, None}
use Rattle.std.proofs.lemmas.List.{length-set}
use Rattle.graph_meaning.specs.Assertions.{by_slot}
use Rattle.graph_meaning.specs.Heap.{edge_of}
use Rattle.graph_meaning.specs.Roles.{id_at}
use Rattle.object_table.specs.Placed.{slots_in, slot_in}
use Rattle.object_table.proofs.ObjectsByCell.{held-within, no-edge, edge-within, edge-in_a_cell, edge-target}
use Rattle.object_paths.proofs.Listing.{with_slots, slot-more, slot-none, slots-all}
use Rattle.plain_collection.specs.Counting.{AtMost, CountsLists}
use Rattle.verdict_list.proofs.Counting.{few_more}
use Rattle.plain_collection.proofs.Counts.{counts-same, counted-more, most-weaker}
use Rattle.plain_collection.proofs.references.count_slots.Goals as goal
use Rattle.plain_collection.proofs.references.count_slots.Goals.{in-Some, in_default}

pub loop-slot-init : goal.loop-slot-init
loop-slot-init c = record {
  counts = λ before begun. counts-same c.args.table.now before (λ id. before id ++ []) c.args.counts.now.items (λ id. sym (append-nil (before id))) begun;
  each = refl;
  few = λ most begun. most-weaker c.args.counts.now.items most (most + 0) (omega arith) begun;
}

pub count_one-requires-clause-cell : goal.count_one-requires-clause-cell
count_one-requires-clause-cell c =
    let p = c.args.table.now in
    let edge_within : c.loop-slot.slot < length c.edges_at-edges.result = omega (arith, c.len-slot-end.ensures.count, c.loop-slot-test.true) in
    let held = edge-target p c.args.holder c.edges_at-edges.result c.edges_at-edges.ensures.edges c.loop-slot.slot edge_within c.in-Some.target c.in-Some.ensures in
    omega (arith, held-within p c.in-Some.target held.0 held.1, c.loop-slot.invariant.each, c.requires.each)

pub count_one-requires-clause-few : goal.count_one-requires-clause-few
count_one-requires-clause-few c =
    let few = c.loop-slot.invariant.few (2 ^ 63) c.requires.few c.in-Some.target in
    omega (arith, few)

pub loop-slot-preserved : goal.loop-slot-preserved
loop-slot-preserved c =
    let was = c.loop-slot.invariant in
    let counts = c.loop-slot.counts.items in
    let p = c.args.table.now in
    let slot = c.loop-slot.slot in
    let slots = slots_in c.args.table.now c.args.holder in
    let holder = id_at c.args.table.now.cells c.args.holder in
    let edges = c.edges_at-edges.result in
    let are = c.edges_at-edges.ensures.edges in
    let edge_within : c.loop-slot.slot < length edges = omega (arith, c.len-slot-end.ensures.count, c.loop-slot-test.true) in
    let within = edge-within p c.args.holder edges are slot edge_within in
    elim c.match-at.branch [
      | in-Some w ↦
          let held = edge-target p c.args.holder edges are slot edge_within w.in-Some.target w.in-Some.ensures in
          let inside : w.in-Some.target < length c.loop-slot.counts.items = omega (arith, held-within p w.in-Some.target held.0 held.1, was.each, c.requires.each) in
          rw w.counts-is (record {
            counts = λ before begun.
                subst (CountsLists p (with_slots before holder (take (slot + 1) slots))) (sym w.count_one.ensures)
                (counted-more p (with_slots before holder (take slot slots)) (with_slots before holder (take (slot + 1) slots)) counts w.in-Some.target held.0
                (by_slot holder slot) c.requires.placed held.1 inside (slot-more before holder slots slot within held.0 held.2) (was.counts before begun));
            each = ap length w.count_one.ensures ∙ length-set counts w.in-Some.target _ ∙ was.each;
            few = λ most begun.
                subst (AtMost (most + (slot + 1))) (sym w.count_one.ensures)
                (most-weaker _ (most + slot + 1) (most + (slot + 1)) (omega arith) (few_more counts w.in-Some.target (most + slot) inside (was.few most begun)));
          })
      | in_default w ↦
          let none = no-edge (edge_of (slot_in p c.args.holder slot)) (sym (edge-in_a_cell p c.args.holder edges are slot edge_within None (c.at.ensures ∙ w.in_default.is))) in
          rw w.counts-is (record {
            counts = λ before begun. counts-same p _ _ counts (slot-none before holder slots slot within none) (was.counts before begun);
            each = was.each;
            few = λ most begun. most-weaker counts (most + slot) (most + (slot + 1)) (omega arith) (was.few most begun);
          })
    ]

pub returns-clause-counts : goal.returns-clause-counts
returns-clause-counts c before begun =
    counts-same c.args.table.now _ _ c.loop-slot.counts.items
    (slots-all before c.args.table.now c.args.holder c.loop-slot.slot c.requires.holder
    (omega (arith, c.edges_at-edges.ensures.edges.count, c.len-slot-end.ensures.count, c.loop-slot-test.false, c.loop-slot.auto.slot-end)))
    (c.loop-slot.invariant.counts before begun)

pub returns-clause-few : goal.returns-clause-few
returns-clause-few c most begun =
    most-weaker c.loop-slot.counts.items (most + c.loop-slot.slot) (most + 2 ^ 32) (omega arith) (c.loop-slot.invariant.few most begun)
