use Rattle.std.proofs.Common.{◌∙◌}
use Rattle.std.proofs.lemmas.List.Filters.{dedup_is}
use Rattle.assert_registry.proofs.IdSet.{sorted_once}
use Rattle.assert_registry.proofs.id_set.sort_unique.Goals as goal

pub returns : goal.returns
returns c =
    dedup_is _ _ _ c.dedup.ensures.filtered ∙ sorted_once _ _ c.sort_unstable.ensures.permutation c.sort_unstable.ensures.sorted
