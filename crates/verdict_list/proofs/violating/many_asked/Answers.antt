use Rattle.std.proofs.Common.{sym, ◌∙◌}
use Rattle.verdict_list.proofs.ByIds.{none_violated}
use Rattle.verdict_list.proofs.violating.many_asked.Goals as goal

pub returns-else-is_made-clause-others : goal.returns-else-is_made-clause-others
returns-else-is_made-clause-others g c h are =
    none_violated c.args.counted.now.table.now c.args.counted.now.roles.now (g.T.HeapCounts.counts c.args.counted.now.counts.now) h c.cells-all.ensures.placed are.stand are.counts
    c.args.assertion (sym c.is_made.ensures ∙ c.if-is_made.false)
