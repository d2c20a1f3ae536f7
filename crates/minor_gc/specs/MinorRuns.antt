-- Minor collections as a program over a trace.
use Rattle.std.specs.Prelude.{ℕ, ◌+◌, ◌==◌, ◌%◌, List, [], ◌++◌, Bool, false, if◌then◌else◌, codes, decimal, Option, None, Some}
use Rattle.heap_base.specs.Limits.{usual_limits}
use Rattle.graph_meaning.specs.declared.event.Event.{Event}
use Rattle.graph_meaning.specs.declared.event.Event.TheVariants.{Alloc, Store, Root, Collect}
use Rattle.graph_meaning.specs.declared.refusal.Refusal.{Refusal}
use Rattle.graph_meaning.specs.declared.refusal.Refusal.TheVariants.{UnknownOp}
use Rattle.graph_meaning.specs.Heap.{Table, empty_table}
use Rattle.graph_meaning.specs.Step.{alloc_refusal, store_refusal, root_refusal, with_object, with_changed_slot, slot_holding, with_root}
use Rattle.trace_run.specs.Program.{Effect, goes_on, refuses, ProgramMeaning}
use Rattle.minor_gc.specs.declared.minor.Minor.{Minor}
use Rattle.minor_gc.specs.Generations.{Generations, minor_collection, full_collection, after_minor, after_full}

-- The heap, and how many collections were made.
pub record MinorState : Type 0 where
  pub heap : Generations
  pub collections : ℕ

-- at the beginning of a trace
abbrev pub first_minor_state : MinorState
first_minor_state = record { heap = record { table = empty_table usual_limits; old_up_to = 0 }; collections = 0 }

abbrev pub minor_usage : List ℕ
minor_usage = codes "usage: gcminor\n"

-- ---- texts

unfoldable pub minor_text : ℕ → Minor → List ℕ
minor_text number m =
    codes "minor " ++ decimal number ++ codes " live " ++ decimal m.live ++ codes " freed " ++ decimal m.freed ++ codes " remembered " ++ decimal m.remembered ++ codes "\n"

unfoldable pub full_text : ℕ → Minor → List ℕ
full_text number m = codes "full " ++ decimal number ++ codes " live " ++ decimal m.live ++ codes " freed " ++ decimal m.freed ++ codes "\n"

unfoldable pub minor_end_text : ℕ → List ℕ
minor_end_text collections = codes "end gcs " ++ decimal collections ++ codes "\n"

-- ---- the program

-- every fourth collection is full, the others are minor
abbrev pub is_full : ℕ → Bool
is_full number = (number % 4) == 0

-- the collection with this number: its line is due
unfoldable pub collects : ℕ → Generations → Effect MinorState
collects number g =
    if is_full number
    then goes_on (full_text number (full_collection g)) (record { heap = after_full g; collections = number })
    else goes_on (minor_text number (minor_collection g)) (record { heap = after_minor g; collections = number })

-- the state with this table, unless there is a refusal
abbrev pub with_table : Option Refusal → MinorState → Table → Effect MinorState
with_table None s t = goes_on [] (record s { heap = record s.heap { table = t } })
with_table (Some r) s t = refuses r

-- what is neither an operation on objects and roots nor a collection is refused
abbrev pub minor_takes : MinorState → Event → Effect MinorState
minor_takes s (Alloc id kind slots thread) = with_table (alloc_refusal s.heap.table id kind slots) s (with_object s.heap.table id kind slots)
minor_takes s (Store at slot to) = with_table (store_refusal s.heap.table at slot to) s (with_changed_slot s.heap.table at slot (slot_holding to))
minor_takes s (Root name to) = with_table (root_refusal s.heap.table name to) s (with_root s.heap.table name to)
minor_takes s Collect = collects (s.collections + 1) s.heap
minor_takes s event = refuses UnknownOp

abbrev pub minor_meaning : ProgramMeaning MinorState
minor_meaning = record { takes = minor_takes; ends = λ s. record { text = minor_end_text s.collections; violated = false } }
