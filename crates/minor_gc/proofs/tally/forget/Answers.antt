use Rattle.std.proofs.Common.{◌≡◌, ◌+◌, ◌<◌, ◌∷◌, set, get_or, drop, sym, ap, subst, ◌∙◌, true, Some, ⊎_elim, eqb-true, arith}
use Rattle.std.specs.Option.{is_some}
use Rattle.std.proofs.lemmas.Bool.{false≢true, or_cases, cases_eq}
use Rattle.std.proofs.lemmas.List.{drop_more, get_or_read, get_or-set_same, get_or-set_other, length-set}
use Rattle.graph_meaning.specs.Heap.{is_live}
use Rattle.graph_meaning.specs.Reach.{has_id}
use Rattle.object_table.specs.Placed.{id_in}
use Rattle.object_table.proofs.ObjectsByCell.{held-within}
use Rattle.minor_gc.proofs.tally.forget.Goals as goal
use Rattle.minor_gc.proofs.tally.forget.Goals.{in-Some, in_default}

pub loop-id-preserved : goal.loop-id-preserved
loop-id-preserved c =
    let p = c.args.table.now in
    let ids = c.args.remembered.now in
    let i = c.loop-id.id-index in
    let item = c.id-item.result in
    let next : drop c.loop-id.id-index c.args.remembered.now ≡ c.id-item.result ∷ drop (c.loop-id.id-index + 1) c.args.remembered.now =
    drop_more ids i item (omega arith) ∙ ap (λ x. x ∷ drop (i + 1) ids) (sym c.id-item.is) in
    elim c.match-cell_of.branch [
      | in-Some w ↦
          let at : id_in p w.in-Some.cell ≡ Some item = w.in-Some.ensures.cell in
          let within = held-within p w.in-Some.cell item at in
          rw w.counts-is (record {
            each = length-set c.loop-id.counts.items w.in-Some.cell 0 ∙ c.loop-id.invariant.each;
            others = λ cell some. ⊎_elim
                (λ (same : cell ≡ w.in-Some.cell).
                let none = get_or-set_same c.loop-id.counts.items w.in-Some.cell 0 0 (omega (arith, within, c.requires.each, c.loop-id.invariant.each)) in
                absurd (omega (arith, none, subst (λ k. 0 < get_or (set c.loop-id.counts.items w.in-Some.cell 0) k 0) same some)))
                (λ apart.
                let before = c.loop-id.invariant.others cell (subst (λ n. 0 < n) (get_or-set_other c.loop-id.counts.items w.in-Some.cell cell 0 0 apart) some) in (
                  before.0,
                  before.1,
                  ⊎_elim
                      (λ here. absurd (apart (c.requires.placed.once cell w.in-Some.cell item (before.1 ∙ ap Some (sym (eqb-true item before.0 here))) at)))
                      (λ rest. rest)
                      (or_cases _ _ (sym (ap (λ l. has_id l before.0) next) ∙ before.2)),
                ))
                (cases_eq cell w.in-Some.cell);
          })
      | in_default w ↦
          let live : is_live p.table item ≡ true = ap (is_live p.table) (get_or_read ids i item (omega arith) c.id-item.is item) ∙ c.requires.live i item (omega arith) in
          absurd (false≢true (sym (ap is_some w.in_default.is) ∙ c.cell_of.ensures.live ∙ live))
    ]
