use Rattle.heap_marking.proofs.PhaseTotals.{phases_trace}
use Rattle.heap_marking.proofs.laws.what_the_phases_gain_traces_the_graph.Goals as goal

pub returns : goal.returns
returns c = phases_trace
