use Rattle.std.proofs.Common.{ap, ◌∙◌}
use Rattle.graph_meaning.specs.Heap.{Table, targets}
use Rattle.tests_support.proofs.Edgeless.{no-targets, no-roots}
use Rattle.tests_support.proofs.apart.add.Goals as goal

pub returns : goal.returns
returns c =
    let t = c.args.table.now.table in
    let is = c.in_ok-alloc_object.ensures.added in
    record {
      roots = λ none. ap (λ (u : Table). u.roots) is ∙ no-roots t _ _ _ none;
      edges = λ none x. ap (λ (u : Table). targets u x) is ∙ no-targets t _ _ _ none x;
    }
