use Rattle.std.proofs.Common.{sym, subst}
use Rattle.graph_meaning.specs.declared.event.Event.{Event}
use Rattle.graph_meaning.specs.declared.event.Event.TheVariants.{Alloc}
use Rattle.graph_meaning.specs.Step.{step}
use Rattle.trace_run.specs.Program.{TakesEvent}
use Rattle.heap_snapshot.specs.FromTrace.{bare_heap, takes}
use Rattle.heap_snapshot.proofs.from_trace.take_event.Goals as goal

pub returns-in-Alloc : goal.returns-in-Alloc
returns-in-Alloc c =
    rw (← c.making.view_is)
    (subst (λ (e : Event). TakesEvent (takes (bare_heap c.making.inside.table.table) e) c.nothing_due.result (bare_heap c.alloc_object.new.table.table)) (sym c.in-Alloc.is)
    (c.nothing_due.ensures (step (bare_heap c.making.inside.table.table) (Alloc c.in-Alloc.id c.in-Alloc.kind c.in-Alloc.slots c.in-Alloc.thread))
    (bare_heap c.alloc_object.new.table.table) (c.alloc_object.ensures.step c.in-Alloc.thread)))
