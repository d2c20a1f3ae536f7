use Rattle.std.proofs.Common.{◌≡◌, List, ℕ, length, map, filter, ap, sym, ◌∙◌, subst, arith, Bool}
use Rattle.std.proofs.lemmas.List.{length-map}
use Rattle.graph_meaning.specs.Heap.{is_live}
use Rattle.region_log.specs.Regions.{ThreadRegions, AreStarts, start_kept, regions_from}
use Rattle.region_log.proofs.Stacks.{AreStarts-keep, regions-keep}
use Rattle.region_log.proofs.stack.RegionStack.keep.Goals as goal

-- places of ids that were dropped, and of those that stay
kept_starts : (passes : ℕ → Bool) (ids starts kept moved : List ℕ) → kept ≡ filter passes ids → moved ≡ map (start_kept passes ids) starts → AreStarts ids starts → AreStarts kept moved
kept_starts passes ids starts kept moved kept_are moved_are are =
    subst (AreStarts kept) (sym moved_are)
    (subst (λ (xs : List ℕ). AreStarts xs (map (start_kept passes ids) starts)) (sym kept_are) (AreStarts-keep passes ids starts are))

kept_long : (passes : ℕ → Bool) (ids starts moved : List ℕ) → moved ≡ map (start_kept passes ids) starts → length moved ≡ length starts
kept_long passes ids starts moved moved_are = ap length moved_are ∙ length-map starts (start_kept passes ids)

pub invariant_of-self : goal.invariant_of-self
invariant_of-self c =
    let v = c.self.inside in
    let live = is_live c.args.table.now.table in
    let left = c.drop_freed.ensures in
    let left_unasserted = c.drop_freed-2.ensures in
    let long = kept_long live v.ids.items v.starts.items c.drop_freed.new.starts.items left.starts in
    let long_unasserted = kept_long live v.unasserted.items v.unasserted_starts.items c.drop_freed-2.new.starts.items left_unasserted.starts in (
      kept_starts live v.ids.items v.starts.items c.drop_freed.new.ids.items c.drop_freed.new.starts.items left.ids left.starts c.self.invariant.0,
      λ reserved here. let room = c.self.invariant.1 reserved (omega (arith, here, long)) in omega (arith, left.room, room),
      kept_starts live v.unasserted.items v.unasserted_starts.items c.drop_freed-2.new.ids.items c.drop_freed-2.new.starts.items left_unasserted.ids left_unasserted.starts c.self.invariant.2,
      λ reserved here. let room = c.self.invariant.3 reserved (omega (arith, here, long_unasserted)) in omega (arith, left_unasserted.room, room),
      omega (arith, long, long_unasserted, c.self.invariant.4),
    )

pub returns : goal.returns
returns c =
    let v = c.self.inside in
    let live = is_live c.args.table.now.table in
    let seen = c.self.view_is in
    let regions =
    (λ i. regions_from (c.drop_freed.ensures.ids i) (c.drop_freed.ensures.starts i)) ∙ (regions-keep live v.ids.items v.starts.items ∙ ap (λ (t : ThreadRegions). map (filter live) t.regions) seen) in
    let unasserted =
    (λ i. regions_from (c.drop_freed-2.ensures.ids i) (c.drop_freed-2.ensures.starts i))
    ∙ (regions-keep live v.unasserted.items v.unasserted_starts.items ∙ ap (λ (t : ThreadRegions). map (filter live) t.unasserted) seen) in
    λ i. record { regions = regions i; unasserted = unasserted i; reserved = (ap (λ (t : ThreadRegions). t.reserved) seen) i }
