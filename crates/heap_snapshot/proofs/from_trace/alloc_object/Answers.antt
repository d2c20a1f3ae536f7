use Rattle.std.proofs.Common.{arith}
use Rattle.heap_snapshot.proofs.Making.{alloc_answers}
use Rattle.heap_snapshot.proofs.MadeHeaps.{made_after, made_object, is_named}
use Rattle.graph_meaning.specs.Step.{with_object}
use Rattle.heap_snapshot.proofs.from_trace.alloc_object.Goals as goal

pub returns-clause-step : goal.returns-clause-step
returns-clause-step c thread =
    alloc_answers c.args.table.now.table c.alloc_object.new.self.table c.args.id c.args.kind.now c.args.slots thread c.alloc_object.result c.alloc_object.ensures.refused c.alloc_object.ensures.added

pub returns-clause-made : goal.returns-clause-made
returns-clause-made c made =
    made_after c.alloc_object.result c.args.table.now c.alloc_object.new.self (with_object c.args.table.now.table c.args.id c.args.kind.now c.args.slots)
    c.alloc_object.ensures.added c.alloc_object.ensures.err made
    (made_object c.args.table.now.table c.args.id c.args.kind.now c.args.slots (c.number.ensures.positive, omega (arith, c.number.ensures.value))
    (is_named c.as_str.result.now c.args.kind.now c.as_str.utf8 c.as_str.ensures.text c.as_str.ensures.legal) made)
