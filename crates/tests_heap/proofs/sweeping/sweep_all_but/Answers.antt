use Rattle.tests_support.proofs.Edgeless.{leads_to_kept}
use Rattle.tests_heap.proofs.sweeping.sweep_all_but.Goals as goal

pub sweep-requires-clause-closed : goal.sweep-requires-clause-closed
sweep-requires-clause-closed c = leads_to_kept c.args.table.now.table _ c.requires.roots c.requires.edges
