use Rattle.std.proofs.Common.{false, get_or, length, ap, ◌∙◌, arith}
use Rattle.object_paths.specs.References.{KeptAreTraced}
use Rattle.verdict_list.proofs.WholeLists.{kinds-are, all_say, first_at_limit}
use Rattle.verdict_list.proofs.instances.counted_kinds.Goals as goal

pub past_limits-requires-clause-kept : goal.past_limits-requires-clause-kept
past_limits-requires-clause-kept g c = ap length c.kept.ensures ∙ c.requires.counts.1.counts.each

pub returns-clause-kinds : goal.returns-clause-kinds
returns-clause-kinds g c h are =
    let p = c.args.counted.now.table.now in
    let t = g.T.HeapCounts.counts c.args.counted.now.counts.now in
    let each = rw (c.deref-2.ensures.value) at c.in_ok-counts.ensures.each in
    kinds-are p c.args.counted.now.roles.now t c.in_ok-places.places.items h c.in_ok-counts.counts.items c.in_ok-kinds.kinds.items each
    (c.in_ok-counts.ensures.kinds ∙ c.deref.ensures.value) (c.in_ok-kinds.ensures.over h are)

pub returns-clause-tell : goal.returns-clause-tell
returns-clause-tell g c h are =
    let p = c.args.counted.now.table.now in
    let t = g.T.HeapCounts.counts c.args.counted.now.counts.now in
    let r = c.args.counted.now.roles.now in
    let places = c.in_ok-places.places.items in
    let counts = c.in_ok-counts.counts.items in
    let kinds = c.in_ok-kinds.kinds.items in
    let keeps : KeptAreTraced p h c.kept.result.now = λ x id held. ap (λ ks. get_or ks x false) c.kept.ensures ∙ are.counts.kept x id held in
    let each = rw (c.deref-2.ensures.value) at c.in_ok-counts.ensures.each in
    let same = c.in_ok-counts.ensures.kinds ∙ c.deref.ensures.value in
    record {
      says = all_say p r t places h are.counts counts each c.in_ok-counts.ensures.seen;
      first = λ asked k d within.
          first_at_limit p r t places h are.counts counts each c.in_ok-counts.ensures.seen kinds same c.in_ok-kinds.ensures.each
          (c.in_ok-places.ensures.past (c.shows_some.ensures asked (omega (arith, within, c.len.ensures, c.in_ok-counts.ensures.many, ap length c.deref.ensures.value))) h
          (record { stand = are.stand; keeps = keeps })) k d within;
    }
