-- What a program makes of a trace: what each event leads to, and how the report on the whole trace ends.
use Rattle.std.specs.Prelude.{◌≡◌, ℕ, ◌+◌, ◌<◌, ◌≤◌, List, [], ◌∷◌, ◌++◌, Bool, true, false, if◌then◌else◌, Option, None, Some, Result, Ok, Err, ⊤}
use Rattle.std.specs.Borrow.{Bor, MutBor}
use Rattle.heap_base.specs.declared.limits.TheConstants.{LONGEST_TRACE}
use Rattle.heap_base.specs.declared.status.Status.{Status}
use Rattle.heap_base.specs.declared.status.Status.TheVariants.{Clean, Violated, TraceFault}
use Rattle.graph_meaning.specs.declared.event.Event.{Event}
use Rattle.graph_meaning.specs.declared.refusal.Refusal.{Refusal}
use Rattle.graph_meaning.specs.declared.refusal.Stop.{Stop}
use Rattle.graph_meaning.specs.declared.refusal.Stop.TheVariants.{Refused, OutOfMemory}
use Rattle.trace_reader.specs.Meaning.{Item, blank, event, refused}
use Rattle.report.specs.Text.{collection_text, fault_text}
use Rattle.trace_run.specs.declared.taken.Due.{Due}
use Rattle.trace_run.specs.declared.taken.Due.TheVariants.{Text, Lines}
use Rattle.trace_run.specs.declared.taken.LastText.{LastText}
use Rattle.trace_run.specs.declared.taken.Taken.{Taken}
use Rattle.trace_run.specs.declared.taken.Taken.TheVariants.{GoesOn, Halts}

-- ---- what a program means

-- The last text of a report, and whether the report has a violation.
pub record Last : Type 0 where
  pub text : List ℕ
  pub violated : Bool

-- What an event leads to: a text is due and the run goes on from a state; the event is refused; or a text is due, and
-- the run halts behind it.
pub data Effect (State : Type 0) : Type 0 where
  goes_on : List ℕ → State → Effect State
  refuses : Refusal → Effect State
  halts : List ℕ → Last → Effect State

-- What a program means.
-- takes: what an event leads to in a state
-- ends: the last text where the trace ends in a state
pub record ProgramMeaning (State : Type 0) : Type 0 where
  pub takes : State → Event → Effect State
  pub ends : State → Last

-- a line with no operation changes nothing, and one that is no event is refused
abbrev pub takes_item : {State : Type 0} → ProgramMeaning State → State → Item → Effect State
takes_item p s blank = goes_on [] s
takes_item p s (event e) = p.takes s e
takes_item p s (refused r) = refuses r

-- ---- its answers

abbrev pub IsLast : Last → LastText → Type 0
IsLast last found = (found.text.items ≡ last.text) × (found.violated ≡ last.violated)

-- the bytes of a text that is due
abbrev pub due_text : Due → List ℕ
due_text (Text text) = text.items
due_text (Lines c) = collection_text c

-- the bytes of a text that is due, and none where no text is
abbrev pub text_if_due : Option Due → List ℕ
text_if_due None = []
text_if_due (Some due) = due_text due

-- the answer to an event is its effect, unless the program is out of memory
abbrev pub TakesEvent : {State : Type 0} → Effect State → Result Taken Stop → State → Type 0
TakesEvent effect (Ok (GoesOn due)) after = effect ≡ goes_on (text_if_due due) after
TakesEvent effect (Ok (Halts due found)) after = (last : Last) × (effect ≡ halts (due_text due) last) × IsLast last found
TakesEvent effect (Err (Refused r)) after = effect ≡ refuses r
TakesEvent effect (Err OutOfMemory) after = ⊤

-- ---- what takes its events, by what each call asks and by what it does

-- an event may be taken while fewer were counted than a trace has bytes
abbrev pub MayTake : {P T : Type 0} → (P → ℕ) → (T → MutBor P → Bor Event → Type 0) → Type 0
MayTake {P} {T} events pre = (t : T) (p : MutBor P) (e : Bor Event) → events p.now < LONGEST_TRACE → pre t p e

-- each event is taken as the program means it
abbrev pub TakesEvents : {State P T : Type 0} → ProgramMeaning State → (P → State) → (T → MutBor P → Bor Event → Result Taken Stop → MutBor P → T → Type 0) → Type 0
TakesEvents {State} {P} {T} m state step =
    (t : T) (p : MutBor P) (e : Bor Event) (taken : Result Taken Stop) (p' : MutBor P) (t' : T) → step t p e taken p' t' → TakesEvent (m.takes (state p.now) e.now) taken (state p'.now)

-- and is counted once at most
abbrev pub CountsEvents : {P T : Type 0} → (P → ℕ) → (T → MutBor P → Bor Event → Result Taken Stop → MutBor P → T → Type 0) → Type 0
CountsEvents {P} {T} events step =
    (t : T) (p : MutBor P) (e : Bor Event) (taken : Result Taken Stop) (p' : MutBor P) (t' : T) → step t p e taken p' t' → events p'.now ≤ events p.now + 1

-- ---- its run

-- How a run ends: at the end of the trace; at the line of this number, from 1, which is refused for this reason; or
-- where it halts.
pub data Ending : Type 0 where
  end_of_trace : Last → Ending
  refused_line : ℕ → Refusal → Ending
  halted : Last → Ending

-- The texts that the items made due, and how the run ended.
pub record RunResult : Type 0 where
  pub texts : List ℕ
  pub ending : Ending

-- the run that ends so at once
abbrev pub ends_so : Ending → RunResult
ends_so ending = record { texts = []; ending = ending }

-- the run with this text before its own
abbrev pub behind : List ℕ → RunResult → RunResult
behind text ran = record { texts = text ++ ran.texts; ending = ran.ending }

-- the run that goes on from an effect, or ends with it at this line
abbrev pub by_effect : {State : Type 0} → ℕ → Effect State → (State → RunResult) → RunResult
by_effect line (goes_on text s) on = behind text (on s)
by_effect line (refuses r) on = ends_so (refused_line line r)
by_effect line (halts text last) on = behind text (ends_so (halted last))

-- The run of these items from a state, where so many lines stand before them.
unfoldable pub run : {State : Type 0} → ProgramMeaning State → State → ℕ → List Item → RunResult
run p s lines [] = ends_so (end_of_trace (p.ends s))
run p s lines (item ∷ items) = by_effect (lines + 1) (takes_item p s item) (λ next. run p next (lines + 1) items)

-- ---- its report

abbrev pub last_text : Ending → List ℕ
last_text (end_of_trace last) = last.text
last_text (refused_line line r) = fault_text line r
last_text (halted last) = last.text

abbrev pub status_by : Bool → Status
status_by violated = if violated then Violated else Clean

abbrev pub last_status : Ending → Status
last_status (end_of_trace last) = status_by last.violated
last_status (refused_line line r) = TraceFault
last_status (halted last) = status_by last.violated

abbrev pub is_halted : Ending → Bool
is_halted (end_of_trace last) = false
is_halted (refused_line line r) = false
is_halted (halted last) = true

abbrev pub is_at_end : Ending → Bool
is_at_end (end_of_trace last) = true
is_at_end (refused_line line r) = false
is_at_end (halted last) = false

-- What there is to report on a trace: the whole text; the part of it without its last text; the status; and whether the
-- run halts, and whether it comes to the end of the trace. A program may have a definition of its own for it.
pub record Report : Type 0 where
  pub text : List ℕ
  pub part : List ℕ
  pub status : Status
  pub is_halted : Bool
  pub is_at_end : Bool

abbrev pub report_on : RunResult → Report
report_on ran = record {
  text = ran.texts ++ last_text ran.ending;
  part = ran.texts;
  status = last_status ran.ending;
  is_halted = is_halted ran.ending;
  is_at_end = is_at_end ran.ending;
}

-- the report of a program that begins a trace in this state
abbrev pub report_by : {State : Type 0} → ProgramMeaning State → State → List Item → Report
report_by p s items = report_on (run p s 0 items)
