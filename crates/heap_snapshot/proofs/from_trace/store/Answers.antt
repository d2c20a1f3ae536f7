use Rattle.std.proofs.Common.{sym, subst}
use Rattle.heap_snapshot.specs.Made.{IsMade}
use Rattle.heap_snapshot.proofs.Making.{store_answers, store_refuses}
use Rattle.heap_snapshot.proofs.MadeHeaps.{made_store}
use Rattle.graph_meaning.specs.Step.{slot_holding}
use Rattle.heap_snapshot.proofs.from_trace.store.Goals as goal

pub returns-in-Ok-clause-step : goal.returns-in-Ok-clause-step
returns-in-Ok-clause-step c = store_answers c.args.table.now.table c.store.new.self.table c.args.at c.args.slot c.args.to (sym c.in-Ok.ensures.refused) c.in-Ok.ensures.stored

pub returns-in-Err-clause-step : goal.returns-in-Err-clause-step
returns-in-Err-clause-step c = store_refuses c.args.table.now.table c.args.at c.args.slot c.args.to c.in-Err.refusal (sym c.in-Err.ensures.refused)

pub returns-in-Ok-clause-made : goal.returns-in-Ok-clause-made
returns-in-Ok-clause-made c made =
    subst IsMade (sym c.in-Ok.ensures.stored) (made_store c.args.table.now.table c.args.at c.args.slot (slot_holding c.args.to) made)
