use Rattle.std.proofs.Common.{rules, refl, not}
use Rattle.std.proofs.lemmas.Fn.{filter_same}
use Rattle.object_table.specs.Located.{is_marked_id}
use Rattle.object_table.proofs.block.Block.clear_to.Goals as goal

pub returns : goal.returns
returns c = rw (← c.self.view_is, filter_same _ (λ r. not (is_marked_id c.args.ids.now c.args.marked.now r.1)) _ (λ x b f' called. search rules) _ _ c.retain.ensures.filtered) refl
