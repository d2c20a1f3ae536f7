use Rattle.std.proofs.Common.{rules, length}
use Rattle.std.specs.Prelude.{nat_lt}
use Rattle.std.proofs.lemmas.Fn.{filter_same}
use Rattle.object_table.proofs.Laid.{all_entries-some, none_empty-some}
use Rattle.object_table.proofs.blocks.drop_empty.Goals as goal

pub returns-clause-some : goal.returns-clause-some
returns-clause-some c = rw (filter_same _ (λ r. nat_lt 0 (length r.entries)) _ (λ x b f' called. search rules) _ _ c.retain.ensures.filtered) (none_empty-some c.args.blocks.now.items)

pub returns-clause-same : goal.returns-clause-same
returns-clause-same c = rw (filter_same _ (λ r. nat_lt 0 (length r.entries)) _ (λ x b f' called. search rules) _ _ c.retain.ensures.filtered) (all_entries-some c.args.blocks.now.items)
