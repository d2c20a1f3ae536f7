use Rattle.std.proofs.Common.{◌≡◌, ℕ, ◌<◌, ◌∷◌, [], length, map, drop, Some, ap, sym, subst, refl, ◌∙◌, arith}
use Rattle.std.specs.List.{filter, slice_get}
use Rattle.std.proofs.lemmas.List.{length-append}
use Rattle.graph_meaning.specs.Heap.{Heap, Table, ids}
use Rattle.graph_meaning.specs.Laws.{IdsRise}
use Rattle.object_table.specs.Placed.{id_in}
use Rattle.path_cert.proofs.HeldObjects.{held-within}
use Rattle.verdict_list.specs.Counts.{CountsHeap}
use Rattle.verdict_list.specs.Violating.{is_violated_by, is_violated_in, violators}
use Rattle.verdict_list.proofs.ByIds.{violating-is, violated-agrees, gather_one, pass_one, gathered, nth_id, all_taken, once_held, violating-rise}
use Rattle.verdict_list.proofs.violating.violators.Given as given
use Rattle.verdict_list.proofs.violating.violators.Goals as goal
use Rattle.verdict_list.proofs.violating.violators.Goals.{After-nth_cell-cell, then-is_violated+in_ok-push, else-is_violated}

pub loop-number-init : goal.loop-number-init
loop-number-init g c = rw c.new-cells.ensures.items (record {
  gathered = λ h are.
      ap (map Some)
      (sym (violating-is c.args.assertion h are.stand.refers are.stand.ordered (subst IdsRise (sym are.stand.table) c.cells-all.ensures.sound.ids)
      ∙ ap (λ (t : Table). filter (is_violated_by c.args.assertion h) (ids t)) are.stand.table));
  few = omega arith;
})

module _ (g : given.Over) (c : After-nth_cell-cell g) where
  -- the object in the cell is the one with this number, by id
  nth : (id : ℕ) × (id_in c.args.counted.now.table.now c.nth_cell-cell.result ≡ Some id) × (slice_get (ids c.args.counted.now.table.now.table) c.loop-number.number ≡ Some id)
  nth =
      nth_id c.args.counted.now.table.now c.loop-number.number c.nth_cell-cell.result (length c.args.counted.now.table.now.table.objects) c.nth_cell-cell.ensures.cell
      (omega (arith, c.loop-number-test.true, c.many_asked-number-end.ensures.few)) refl

  within : c.nth_cell-cell.result < length c.args.counted.now.table.now.cells
  within = held-within c.args.counted.now.table.now c.nth_cell-cell.result nth.0 nth.1

  -- what the roles and the counts say of the cell, the heap says of its object
  says : (h : Heap) → CountsHeap c.args.counted.now.table.now c.args.counted.now.roles.now (g.T.HeapCounts.counts c.args.counted.now.counts.now) h →
      is_violated_by c.args.assertion h nth.0 ≡ is_violated_in c.args.assertion c.args.counted.now.roles.now (g.T.HeapCounts.counts c.args.counted.now.counts.now) c.nth_cell-cell.result
  says h are =
      sym (violated-agrees c.args.counted.now.table.now c.args.counted.now.roles.now (g.T.HeapCounts.counts c.args.counted.now.counts.now) h
      are.stand are.counts c.args.assertion c.nth_cell-cell.result nth.0 nth.1)

pub is_violated-requires-clause-roles : goal.is_violated-requires-clause-roles
is_violated-requires-clause-roles g c =
    omega (arith, within g (goal.at.is_violated-requires-clause-roles g c).After-nth_cell-cell, c.requires.roles.many_cells)

pub is_violated-requires-clause-kept : goal.is_violated-requires-clause-kept
is_violated-requires-clause-kept g c =
    omega (arith, within g (goal.at.is_violated-requires-clause-kept g c).After-nth_cell-cell, c.requires.counts.1.counts.each)

pub is_violated-requires-clause-words : goal.is_violated-requires-clause-words
is_violated-requires-clause-words g c =
    omega (arith, within g (goal.at.is_violated-requires-clause-words g c).After-nth_cell-cell, c.requires.counts.1.counts.cells)

pub loop-number-preserved : goal.loop-number-preserved
loop-number-preserved g c =
    let (id, held, at) = nth g (goal.at.loop-number-preserved g c).After-nth_cell-cell in
    elim c.if-is_violated.branch [
      | then-is_violated+in_ok-push w ↦ rw (w.cells-is, w.in_ok-push.ensures.items) (record {
        gathered = λ h are.
            let passes = says g (goal.at.loop-number-preserved g c).After-nth_cell-cell h are ∙ sym c.is_violated.ensures ∙ w.if-is_violated.true in
            gather_one (id_in c.args.counted.now.table.now) (is_violated_by c.args.assertion h) (map Some (violators c.args.assertion h))
            (ids c.args.counted.now.table.now.table) c.loop-number.cells.items c.loop-number.number c.nth_cell-cell.result id at held passes
            (c.loop-number.invariant.gathered h are);
        few = omega (arith, c.loop-number.invariant.few, length-append c.loop-number.cells.items (c.nth_cell-cell.result ∷ []));
      })
      | else-is_violated w ↦ rw w.cells-is (record {
        gathered = λ h are.
            let fails = says g (goal.at.loop-number-preserved g c).After-nth_cell-cell h are ∙ sym c.is_violated.ensures ∙ w.if-is_violated.false in
            pass_one (id_in c.args.counted.now.table.now) (is_violated_by c.args.assertion h) (map Some (violators c.args.assertion h))
            (ids c.args.counted.now.table.now.table) c.loop-number.cells.items c.loop-number.number id at fails (c.loop-number.invariant.gathered h are);
        few = omega (arith, c.loop-number.invariant.few);
      })
    ]

pub returns-clause-violators : goal.returns-clause-violators
returns-clause-violators g c h are =
    let t = c.args.counted.now.table.now.table in
    let last : c.many_asked-number-end.result ≡ c.loop-number.number = omega (arith, c.loop-number-test.false, c.loop-number.auto.number-end) in
    gathered (id_in c.args.counted.now.table.now) (is_violated_by c.args.assertion h) (map Some (violators c.args.assertion h)) (ids t) c.loop-number.cells.items c.loop-number.number
    (subst (λ (n : ℕ). filter (is_violated_by c.args.assertion h) (drop n (ids t)) ≡ []) last (c.many_asked-number-end.ensures.others h are)) (c.loop-number.invariant.gathered h are)

pub returns-clause-few : goal.returns-clause-few
returns-clause-few g c = omega (arith, c.loop-number.invariant.few, c.loop-number.auto.number-end, c.many_asked-number-end.ensures.few, c.cells-all.ensures.sound.limits.objects, c.cells-all.ensures.sound.limits.possible.objects)

pub returns-clause-taken : goal.returns-clause-taken
returns-clause-taken g c =
    let (h, are) = c.requires.counts in
    all_taken (id_in c.args.counted.now.table.now) c.loop-number.cells.items (violators c.args.assertion h) (returns-clause-violators g c h are)

pub returns-clause-once : goal.returns-clause-once
returns-clause-once g c =
    let (h, are) = c.requires.counts in
    once_held (id_in c.args.counted.now.table.now) c.loop-number.cells.items (violators c.args.assertion h) (returns-clause-violators g c h are)
    (violating-rise c.args.assertion h are.stand.refers are.stand.ordered (subst IdsRise (sym are.stand.table) c.cells-all.ensures.sound.ids))
