use Rattle.std.proofs.Common.{rules}
use Rattle.std.proofs.lemmas.Fn.{filter_same}
use Rattle.object_table.specs.Residents.{is_flagged}
use Rattle.object_table.proofs.ids.Ids.keep.Goals as goal

pub returns : goal.returns
returns c = rw (← c.self.view_is) (filter_same _ (λ e. is_flagged c.args.kept.now e.1) _ (λ x b f' called. search rules) _ _ c.retain.ensures.filtered)
