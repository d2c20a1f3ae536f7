use Rattle.std.proofs.Common.{◌++◌, ◌∷◌, [], length, ap, ◌∙◌, sym, subst, arith}
use Rattle.std.proofs.lemmas.List.{length_push}
use Rattle.region_log.specs.Regions.{AreStarts}
use Rattle.region_log.proofs.Stacks.{AreStarts-open}
use Rattle.region_log.proofs.stack.RegionStack.open.Goals as goal

pub invariant_of-self-2 : goal.invariant_of-self-2
invariant_of-self-2 c =
    let v = c.self.inside in
    let starts = c.in_ok-push.ensures.items ∙ ap (λ n. v.starts.items ++ n ∷ []) (c.len.ensures ∙ v.ids.ok.0) in
    let unasserted = c.push_reserved.ensures.items ∙ (λ i. c.in_ok-reserve.ensures.items i ++ (c.len-2.ensures ∙ v.unasserted.ok.0) i ∷ []) in (
      subst (AreStarts v.ids.items) (sym starts) (AreStarts-open v.ids.items v.starts.items c.self.invariant.0),
      λ is here. cc,
      subst (AreStarts v.unasserted.items) (sym unasserted) (AreStarts-open v.unasserted.items v.unasserted_starts.items c.self.invariant.2),
      λ is here. cc,
      omega (arith, ap length starts, ap length unasserted, length_push v.starts.items (length v.ids.items), length_push v.unasserted_starts.items (length v.unasserted.items), c.self.invariant.4),
    )
