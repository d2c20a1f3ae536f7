use Rattle.std.proofs.Common.{ap, fold, filter, sym, ◌∙◌}
use Rattle.std.specs.BTreeSet.{insert_key}
use Rattle.std.specs.Ordering.{nat_cmp}
use Rattle.graph_meaning.specs.Heap.{is_live}
use Rattle.assert_registry.proofs.IdSet.{live_owners-set_of}
use Rattle.assert_registry.proofs.roles.live_owners.Goals as goal

pub loop-owner-preserved : goal.loop-owner-preserved
loop-owner-preserved c =
    ap (λ ids. fold (insert_key nat_cmp) ids c.next.new.self) c.in_ok-insert.ensures.done
    ∙ ap (fold (insert_key nat_cmp) c.loop-owner.ids) (sym c.in-Some.ensures.steps)
    ∙ c.loop-owner.invariant

pub returns : goal.returns
returns c =
    let t = c.args.table.now.table in
    c.into_sorted_vec.ensures ∙ c.retain_live.ensures.live
    ∙ ap (filter (is_live t)) (ap (fold (insert_key nat_cmp) c.loop-owner.ids) (sym c.in-None.ensures.steps.0) ∙ c.loop-owner.invariant)
    ∙ live_owners-set_of t c.args.owners.now.entries c.requires
