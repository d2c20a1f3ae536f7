-- A run that is under way: what was read, cut and written so far.
use Rattle.std.specs.Prelude.{◌≡◌, ℕ, ◌≤◌, List, [], ◌∷◌, ◌++◌, length, false, IsTrue, None, IfSome, Result, Ok, Err}
use Rattle.std.specs.List.{concat, AllByRecursion}
use Rattle.std.specs.Io.KnownBytes.{Appends, Consumes, IsAtEnd}
use Rattle.heap_base.specs.declared.limits.TheConstants.{LONGEST_TRACE}
use Rattle.heap_base.specs.declared.status.Status.{Status}
use Rattle.trace_reader.specs.Cuts.{HasNoNewline}
use Rattle.trace_reader.specs.Meaning.{Item}
use Rattle.trace_reader.specs.Items.{pieces, items_from}
use Rattle.trace_reader.specs.Cutter.{CutterState}
use Rattle.trace_run.specs.Program.{ProgramMeaning, behind, report_by, run}
use Rattle.trace_run.specs.Outcome.{EndsAs, Outside, trace_report}

-- These items lead from a state to another and make this text due: whatever follows them goes on from there.
pub record RunsTo {State : Type 0} (p : ProgramMeaning State) (s : State) (items : List Item) (text : List ℕ) (s' : State) (n : ℕ) : Type 0 where
  pub on : (more : List Item) → run p s 0 (items ++ more) ≡ behind text (run p s' n more)

-- a line and its newline
abbrev pub IsWholeLine : List ℕ → Type 0
IsWholeLine piece = (line : List ℕ) × HasNoNewline line × (piece ≡ line ++ 10 ∷ [])

-- the items of these pieces
abbrev pub items_so_far : ℕ → List (List ℕ) → List Item
items_so_far limit done = items_from limit 0 done

-- These bytes were taken since the start, these pieces of them were run, and this text was due and was written.
pub record Progress {State : Type 0} (p : ProgramMeaning State) (limit : ℕ) (first : State) (start now : Outside) (c : CutterState) (s : State)
    (n : ℕ) (taken : List ℕ) (done : List (List ℕ)) (text : List ℕ) : Type 0 where
  pub consumed : Consumes start.source.bytes now.source.bytes taken
  pub split : taken ≡ concat done ++ c.pending
  pub cut : (more : List ℕ) → (IsTrue c.at_end → more ≡ []) → pieces (taken ++ more) ≡ done ++ pieces (c.pending ++ more)
  pub whole : c.at_end ≡ false → AllByRecursion IsWholeLine done
  pub ran : RunsTo p first (items_so_far limit done) text s n
  pub given : c.given ≡ length (concat done)
  pub within : c.given ≤ limit
  pub lines : n ≡ c.lines
  pub few_lines : n ≤ c.given
  pub written : Appends start.sink.bytes now.sink.bytes text
  pub same_limit : c.limit ≡ limit
  pub stopped : c.stopped ≡ None
  pub end_read : IsTrue c.at_end → IfSome start.source.bytes (λ bytes. IsAtEnd now.source.bytes)
  pub reads : start.source.faults ≤ now.source.faults
  pub writes : start.sink.faults ≤ now.sink.faults

pub record InProgress {State : Type 0} (p : ProgramMeaning State) (limit : ℕ) (first : State) (start now : Outside) (c : CutterState) (s : State) (n : ℕ) : Type 0 where
  pub taken : List ℕ
  pub done : List (List ℕ)
  pub text : List ℕ
  pub so_far : Progress p limit first start now c s n taken done text

-- A cutter that has given so many lines, and may give more.
pub record HasGiven (c : CutterState) (n : ℕ) : Type 0 where
  pub lines : n ≡ c.lines
  pub few_lines : c.lines ≤ c.given
  pub within : c.given ≤ c.limit
  pub limit : c.limit ≤ LONGEST_TRACE
  pub going : c.stopped ≡ None

-- The run is under way behind so many lines, or it has ended with this status.
abbrev pub StandsAs : {State : Type 0} → ProgramMeaning State → ℕ → State → Outside → Outside → CutterState → State → Result ℕ Status → Type 0
StandsAs p limit first start now c s (Ok n) = InProgress p limit first start now c s n
StandsAs p limit first start now c s (Err status) = EndsAs (trace_report limit (report_by p first)) start now status
