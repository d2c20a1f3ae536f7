use Rattle.std.proofs.Common.{◌++◌, ◌∷◌, [], ◌∙◌, map}
use Rattle.heap_snapshot.specs.declared.line.Line.TheVariants.{End}
use Rattle.heap_snapshot.specs.Text.{line_of_root}
use Rattle.heap_snapshot.proofs.Danglings.{in_view, finds_in_roots}
use Rattle.heap_snapshot.proofs.dangling.dangling_in_view.Goals as goal

pub returns-in-Ok : goal.returns-in-Ok
returns-in-Ok c = finds_in_roots c.args.ids.now c.args.view.now c.in-Ok.line c.dangling_in_roots.result c.in-Ok.ensures.passes c.dangling_in_roots.ensures

pub returns-in-Err : goal.returns-in-Err
returns-in-Err c = in_view c.args.ids.now c.args.view.now ∙ c.in-Err.ensures.passes (map line_of_root c.args.view.now.roots ++ End ∷ [])
