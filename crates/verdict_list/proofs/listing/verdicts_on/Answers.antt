use Rattle.std.proofs.Common.{false, get_or, length, map, ap, subst, ◌∙◌, arith}
use Rattle.graph_meaning.specs.Collecting.{violating_dead, violating_kinds, violating_unshared, dead_verdict, instances_verdict, unshared_verdict}
use Rattle.object_table.specs.Placed.{id_in}
use Rattle.verdict_list.specs.Counts.{counted_in}
use Rattle.verdict_list.specs.Kinds.{named_count}
use Rattle.verdict_list.specs.Listed.{GoesOn, ShowsPaths}
use Rattle.verdict_list.proofs.WholeLists.{first_three, map_held, map_pairs}
use Rattle.verdict_list.proofs.listing.verdicts_on.Goals as goal

pub references_of-requires-clause-kept : goal.references_of-requires-clause-kept
references_of-requires-clause-kept g c = ap length c.kept.ensures ∙ c.requires.counts.1.counts.each

pub push_unshared-requires-clause-references : goal.push_unshared-requires-clause-references
push_unshared-requires-clause-references g c =
    let (h, are) = c.requires.counts in (
      h,
      rw (c.deref.ensures.value)
          (c.in_ok-references.ensures.first h (record { stand = are.stand; keeps = λ x id held. ap (λ ks. get_or ks x false) c.kept.ensures ∙ are.counts.kept x id held })),
    )

pub returns-clause-verdicts : goal.returns-clause-verdicts
returns-clause-verdicts g c h are found =
    let stand = are.stand in
    let p = c.args.counted.now.table.now in
    let v = c.args.found in
    let n = c.args.paths in
    let count = counted_in p (g.T.HeapCounts.counts c.args.counted.now.counts.now) in
    let shows : ShowsPaths _ h = record { roles = c.args.counted.now.roles.now; stand = stand; made = c.in_ok-levels.ensures.levels } in
    let dead : GoesOn n c.in_ok-list.list (map (dead_verdict h) (violating_dead h)) c.push_dead.new.list =
    subst (λ vs. GoesOn n c.in_ok-list.list vs c.push_dead.new.list)
    (map_held (id_in p) (dead_verdict h) v.dead.now (violating_dead h) found.dead) (c.in_ok-push_dead.ensures.verdicts h shows) in
    let instances : GoesOn n c.push_dead.new.list (map (instances_verdict h) (violating_kinds h)) c.push_instances.new.list =
    subst (λ vs. GoesOn n c.push_dead.new.list vs c.push_instances.new.list)
    (map_pairs (instances_verdict h) (named_count p) v.kinds.now (violating_kinds h) found.kinds)
    (c.in_ok-push_instances.ensures.verdicts h shows (record {
      says = found.tell.says;
      first = λ less. found.tell.first (omega (arith, less, c.in_ok-push_dead.ensures.length, ap length c.in_ok-list.ensures));
    })) in
    let unshared : GoesOn n c.push_instances.new.list (map (unshared_verdict count h) (violating_unshared h)) c.push_unshared.new.list =
    subst (λ vs. GoesOn n c.push_instances.new.list vs c.push_unshared.new.list)
    (map_held (id_in p) (unshared_verdict count h) v.unshared.now (violating_unshared h) found.unshared)
    (c.in_ok-push_unshared.ensures.verdicts h c.args.counted.now.roles.now stand c.in_ok-levels.ensures.levels
    (rw (c.deref.ensures.value)
    (c.in_ok-references.ensures.first h (record { stand = stand; keeps = λ x id held. ap (λ ks. get_or ks x false) c.kept.ensures ∙ are.counts.kept x id held })))) in
    first_three n c.in_ok-list.list c.push_dead.new.list c.push_instances.new.list c.push_unshared.new.list count h c.in_ok-list.ensures dead instances unshared

pub returns-clause-few : goal.returns-clause-few
returns-clause-few g c =
    omega (
      arith,
      c.in_ok-push_unshared.ensures.length,
      c.in_ok-push_instances.ensures.length,
      c.in_ok-push_dead.ensures.length,
      ap length c.in_ok-list.ensures,
      c.requires.found.few,
    )
