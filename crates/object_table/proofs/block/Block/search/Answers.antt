use Rattle.std.proofs.Common.{rules, ◌∙◌, ap}
use Rattle.std.proofs.lemmas.Fn.{always_returns_same}
use Rattle.graph_meaning.specs.Heap.{name_cmp}
use Rattle.object_table.proofs.Named.{searched}
use Rattle.object_table.proofs.block.Block.search.Goals as goal

-- the closure compares an entry's name with this one, and the slice is the block's entries
pub returns-clause-found : goal.returns-clause-found
returns-clause-found c =
    let compared = c.binary_search_by.ensures.position (λ r. name_cmp r.0 c.as_str-text.result.now) (always_returns_same _ _ _ (λ a r f' called. (search rules, search rules))) in
    (searched c.args.self.now.entries c.deref.result.now c.args.name.now c.as_str-text.result.now c.binary_search_by.result
    (c.deref.ensures.value ∙ ap (λ r. r.entries) c.self.view_is) c.as_str-text.ensures.text c.requires compared).0

pub returns-clause-gap : goal.returns-clause-gap
returns-clause-gap c =
    let compared = c.binary_search_by.ensures.position (λ r. name_cmp r.0 c.as_str-text.result.now) (always_returns_same _ _ _ (λ a r f' called. (search rules, search rules))) in
    (searched c.args.self.now.entries c.deref.result.now c.args.name.now c.as_str-text.result.now c.binary_search_by.result
    (c.deref.ensures.value ∙ ap (λ r. r.entries) c.self.view_is) c.as_str-text.ensures.text c.requires compared).1
