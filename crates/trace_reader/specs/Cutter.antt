-- What a cutter of lines has done so far, and what its next step is.
use Rattle.std.specs.Prelude.{◌≡◌, ℕ, ◌+◌, ◌-◌, ◌<◌, ◌≤◌, ◌⊎◌, List, [], ◌∷◌, ◌++◌, length, Bool, false, IsTrue, Option, None, Some, MatchOption, Result, Ok, Err, ⊤}
use Rattle.std.specs.Io.KnownBytes.{Consumes, IsAtEnd}
use Rattle.streams.specs.Causes.{Rose}
use Rattle.streams.specs.Streams.{Stream}
use Rattle.heap_base.specs.declared.limits.TheConstants.{LONGEST_LINE}
use Rattle.graph_meaning.specs.declared.event.Event.{Event}
use Rattle.graph_meaning.specs.declared.refusal.Stop.{Stop}
use Rattle.graph_meaning.specs.declared.refusal.Stop.TheVariants.{Refused, OutOfMemory}
use Rattle.trace_reader.specs.declared.error.CutError.{CutError}
use Rattle.trace_reader.specs.declared.error.CutError.TheVariants.{ReadFault, LineTooLong, TraceTooLong}
use Rattle.trace_reader.specs.Cuts.{HasNoNewline, IsLineFront, HasTooLongLine, EndsPastLimit}
use Rattle.trace_reader.specs.Meaning.{Item, blank, event, refused}

-- The limit of the trace in bytes; the bytes that were taken from the source and belong to no line that was given;
-- whether the source's end was read; how many bytes the lines that were given have, their newlines counted; how many
-- lines were given; the last of them, without its newline; and the refusal that the cutter stands at, if it met one.
pub record CutterState : Type 0 where
  pub limit : ℕ
  pub pending : List ℕ
  pub at_end : Bool
  pub given : ℕ
  pub lines : ℕ
  pub line : List ℕ
  pub stopped : Option CutError

abbrev pub fresh_cutter : ℕ → CutterState
fresh_cutter limit =
    record { limit = limit; pending = []; at_end = false; given = 0; lines = 0; line = []; stopped = None }

-- A cutter and what can be seen of its source, at a moment.
pub record CutterWithSource : Type 0 where
  pub cutter : CutterState
  pub source : Stream

abbrev pub with_source : CutterState → Stream → CutterWithSource
with_source cutter source = record { cutter = cutter; source = source }

-- how many bytes the trace may have behind the lines that were given
abbrev pub room : CutterState → ℕ
room c = c.limit - c.given

-- The piece is the next of the bytes, of which the cutter keeps the rest: its line and a newline, or, at the end of the source, its line, which
-- is not empty.
pub record IsNextPiece (new : CutterState) (piece bytes : List ℕ) : Type 0 where
  pub split : bytes ≡ piece ++ new.pending
  pub one_line : HasNoNewline new.line
  pub ended : (piece ≡ new.line ++ 10 ∷ []) ⊎ ((piece ≡ new.line) × (0 < length new.line) × (new.pending ≡ []) × IsTrue new.at_end)

-- A line is given: the next piece, which is neither too long nor past the trace's limit.
pub record GivesLine (old new : CutterState) (bytes : List ℕ) (n : ℕ) : Type 0 where
  pub piece : List ℕ
  pub next : IsNextPiece new piece bytes
  pub number : n ≡ old.lines + 1
  pub lines : new.lines ≡ old.lines + 1
  pub given : new.given ≡ old.given + length piece
  pub short : length new.line ≤ LONGEST_LINE
  pub within : new.given ≤ old.limit
  pub stopped : new.stopped ≡ None

-- No line is given, and the bytes stay in the cutter. The lines that were given are within the trace's limit.
pub record GivesNone (old new : CutterState) (bytes : List ℕ) : Type 0 where
  pub pending : new.pending ≡ bytes
  pub given : new.given ≡ old.given
  pub lines : new.lines ≡ old.lines
  pub within : new.given ≤ new.limit

-- The source's end was read, and no line is left.
pub record HasNoLineLeft (new : CutterState) : Type 0 where
  pub nothing_left : new.pending ≡ []
  pub at_end : IsTrue new.at_end
  pub stopped : new.stopped ≡ None

-- A read failed while the cutter held no whole line; a later call goes on with the bytes that it holds.
pub record WaitsForMore (new : CutterState) : Type 0 where
  pub front : IsLineFront new.pending (room new)
  pub not_at_end : new.at_end ≡ false
  pub stopped : new.stopped ≡ None

-- The line is too long; the cutter stays there.
pub record IsLineTooLong (new : CutterState) : Type 0 where
  pub too_long : HasTooLongLine new.pending (room new)
  pub stopped : new.stopped ≡ Some LineTooLong

-- The line goes on past the last byte that the trace may have; the cutter stays there.
pub record IsTraceTooLong (new : CutterState) : Type 0 where
  pub past_limit : EndsPastLimit new.pending (room new)
  pub stopped : new.stopped ≡ Some TraceTooLong

-- What a cutter that stood at no refusal answers over these bytes: those that it held, and those that it took.
abbrev pub Cuts : CutterWithSource → CutterWithSource → List ℕ → Result (Option ℕ) CutError → Type 0
Cuts old new bytes (Ok (Some number)) = GivesLine old.cutter new.cutter bytes number
Cuts old new bytes (Ok None) = GivesNone old.cutter new.cutter bytes × HasNoLineLeft new.cutter
Cuts old new bytes (Err ReadFault) = GivesNone old.cutter new.cutter bytes × WaitsForMore new.cutter × Rose old.source.faults new.source.faults
Cuts old new bytes (Err LineTooLong) = GivesNone old.cutter new.cutter bytes × IsLineTooLong new.cutter
Cuts old new bytes (Err TraceTooLong) = GivesNone old.cutter new.cutter bytes × IsTraceTooLong new.cutter

-- A cutter that may ask its source: it holds no newline, did not read the source's end and stands at no refusal.
pub record MayRead (old : CutterState) : Type 0 where
  pub one_line : HasNoNewline old.pending
  pub not_at_end : old.at_end ≡ false
  pub stopped : old.stopped ≡ None

-- One step of the cutter: it takes bytes from its source, none once the source's end was read or a refusal was met,
-- and cuts.
pub record StepsOn (old new : CutterWithSource) (result : Result (Option ℕ) CutError) (took : List ℕ) : Type 0 where
  pub consumes : Consumes old.source.bytes new.source.bytes took
  pub cuts : MatchOption old.cutter.stopped (Cuts old new (old.cutter.pending ++ took) result) (λ e. (result ≡ Err e) × (new.cutter ≡ old.cutter) × (took ≡ []))
  pub at_end : IsTrue new.cutter.at_end → IsTrue old.cutter.at_end ⊎ IsAtEnd new.source.bytes
  pub stays_at_end : IsTrue old.cutter.at_end → IsTrue new.cutter.at_end × (took ≡ [])
  pub limit : new.cutter.limit ≡ old.cutter.limit
  pub reads : MayRead old.cutter ⊎ (new.source ≡ old.source)
  pub later : old.source.faults ≤ new.source.faults

-- the answer to a line is what the line is, unless memory ran out
abbrev pub TellsItem : Result (Option Event) Stop → Item → Type 0
TellsItem (Ok None) item = item ≡ blank
TellsItem (Ok (Some e)) item = item ≡ event e
TellsItem (Err (Refused r)) item = item ≡ refused r
TellsItem (Err OutOfMemory) item = ⊤
