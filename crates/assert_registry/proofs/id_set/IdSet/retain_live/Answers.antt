use Rattle.std.proofs.Common.{ap, ◌∙◌, rules, filter}
use Rattle.std.proofs.lemmas.Fn.{filter_same}
use Rattle.graph_meaning.specs.Heap.{is_live}
use Rattle.assert_registry.specs.IdSet.{set_of}
use Rattle.assert_registry.proofs.IdSet.{set_of-filter, sorted-set_of}
use Rattle.assert_registry.proofs.id_set.IdSet.retain_live.Goals as goal

pub returns-clause-live : goal.returns-clause-live
returns-clause-live c =
    let t = c.args.table.now.table in
    let ids = c.self.inside.ids.items in
    ap set_of (filter_same _ (is_live t) _ (λ x b f' s. search rules) ids c.retain.new.self.items c.retain.ensures.filtered)
    ∙ set_of-filter (is_live t) ids
    ∙ ap (filter (is_live t)) c.self.view_is

pub returns-clause-rising : goal.returns-clause-rising
returns-clause-rising c = sorted-set_of c.retain.new.self.items
