use Rattle.heap_snapshot.proofs.Making.{root_answers}
use Rattle.heap_snapshot.proofs.MadeHeaps.{made_after, made_root, is_named}
use Rattle.graph_meaning.specs.Step.{with_root}
use Rattle.heap_snapshot.proofs.from_trace.set_root.Goals as goal

pub returns-clause-step : goal.returns-clause-step
returns-clause-step c =
    root_answers c.args.table.now.table c.set_root.new.self.table c.args.name.now c.args.to c.set_root.result c.set_root.ensures.refused c.set_root.ensures.set

pub returns-clause-made : goal.returns-clause-made
returns-clause-made c made =
    made_after c.set_root.result c.args.table.now c.set_root.new.self (with_root c.args.table.now.table c.args.name.now c.args.to) c.set_root.ensures.set
    c.set_root.ensures.err made
    (made_root c.args.table.now.table c.args.name.now c.args.to
    (is_named c.as_str.result.now c.args.name.now c.as_str.utf8 c.as_str.ensures.text c.as_str.ensures.legal) made)
