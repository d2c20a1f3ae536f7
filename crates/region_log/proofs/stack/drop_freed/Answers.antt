use Rattle.std.proofs.Common.{filter, take, map, ap, ◌∙◌, arith}
use Rattle.std.proofs.lemmas.List.{with_items_is}
use Rattle.graph_meaning.specs.Heap.{is_live}
use Rattle.region_log.specs.Regions.{start_kept}
use Rattle.region_log.proofs.stack.drop_freed.Goals as goal

pub returns-clause-ids : goal.returns-clause-ids
returns-clause-ids c =
    let v = c.args.ids.now in
    let cut = with_items_is v c.keep_live-end.new.ids (omega (arith, c.keep_live-end.auto.ids, c.deref_mut.ensures.len)) in
    c.truncate.ensures.items
    ∙ (ap (take c.keep_live-end.result) cut
    ∙ (c.keep_live-end.ensures.ids ∙ ap (filter (is_live c.args.table.now.table)) c.deref_mut.ensures.value))

pub returns-clause-starts : goal.returns-clause-starts
returns-clause-starts c =
    with_items_is c.args.starts.now c.keep_live-end.new.starts (omega (arith, c.keep_live-end.auto.starts, c.deref_mut-2.ensures.len))
    ∙ (c.keep_live-end.ensures.starts
    ∙ (λ i. map (start_kept (is_live c.args.table.now.table) (c.deref_mut.ensures.value i)) (c.deref_mut-2.ensures.value i)))
