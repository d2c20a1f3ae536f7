-- A snapshot of the heap that a trace makes, as a program over the trace.
use Rattle.std.specs.Prelude.{◌≡◌, [], false, Result, Ok, Err, ⊤}
use Rattle.heap_base.specs.Limits.{usual_limits}
use Rattle.graph_meaning.specs.declared.event.Event.{Event}
use Rattle.graph_meaning.specs.declared.event.Event.TheVariants.{Alloc, Store, SetWeak, Root, AssertDead, StartRegion, AssertAllDead, AssertInstances, AssertUnshared, AssertOwnedBy, Collect}
use Rattle.graph_meaning.specs.declared.refusal.Refusal.{Refusal}
use Rattle.graph_meaning.specs.declared.refusal.Refusal.TheVariants.{UnknownOp}
use Rattle.graph_meaning.specs.declared.refusal.Stop.{Stop}
use Rattle.graph_meaning.specs.declared.refusal.Stop.TheVariants.{Refused, OutOfMemory}
use Rattle.graph_meaning.specs.Heap.{Heap, Table, empty_heap}
use Rattle.graph_meaning.specs.Step.{step}
use Rattle.graph_meaning.specs.Views.{heap_view}
use Rattle.heap_snapshot.specs.Text.{snapshot_text}
use Rattle.trace_run.specs.Program.{Effect, goes_on, refuses, ProgramMeaning}

-- an operation makes no text due
abbrev pub effect_of_step : Result Heap Refusal → Effect Heap
effect_of_step (Ok h) = goes_on [] h
effect_of_step (Err r) = refuses r

-- An allocation, a store and a root are steps. Every other operation is refused, whatever its fields name.
abbrev pub takes : Heap → Event → Effect Heap
takes h (Alloc id kind slots thread) = effect_of_step (step h (Alloc id kind slots thread))
takes h (Store at slot to) = effect_of_step (step h (Store at slot to))
takes h (Root name to) = effect_of_step (step h (Root name to))
takes h (SetWeak at slot weak) = refuses UnknownOp
takes h (AssertDead id) = refuses UnknownOp
takes h (StartRegion thread) = refuses UnknownOp
takes h (AssertAllDead thread) = refuses UnknownOp
takes h (AssertInstances kind limit) = refuses UnknownOp
takes h (AssertUnshared id) = refuses UnknownOp
takes h (AssertOwnedBy owner ownee) = refuses UnknownOp
takes h Collect = refuses UnknownOp

-- the text of the heap is the last text
abbrev pub snapshot_meaning : ProgramMeaning Heap
snapshot_meaning = record { takes = takes; ends = λ h. record { text = snapshot_text (heap_view h.table); violated = false } }

-- no region is open and nothing is asserted
abbrev pub bare_heap : Table → Heap
bare_heap t = record (empty_heap usual_limits) { table = t }

-- the answer to a step is what it leads to, unless memory ran out
abbrev pub Answers : Result Heap Refusal → Result ⊤ Stop → Heap → Type 0
Answers found (Ok done) after = found ≡ Ok after
Answers found (Err (Refused r)) after = found ≡ Err r
Answers found (Err OutOfMemory) after = ⊤
