-- Lines that were read before their turn.
use Rattle.std.specs.Prelude.{◌≡◌, ℕ, ◌+◌, List, [], take, drop, Some, Ok}
use Rattle.streams.specs.Streams.{Stream}
use Rattle.trace_reader.specs.declared.line_ahead.LineAhead.{LineAhead}
use Rattle.trace_reader.specs.Cuts.{IsFirstNewline}
use Rattle.trace_reader.specs.Cutter.{CutterState, StepsOn, TellsItem, with_source}
use Rattle.trace_reader.specs.Meaning.{item_of_line}

-- The bytes begin with the line and its newline, and it was read as what it is.
pub record IsReadAt (bytes : List ℕ) (line : LineAhead) : Type 0 where
  pub first : IsFirstNewline bytes line.bytes
  pub told : TellsItem line.told (item_of_line (take line.bytes bytes))

-- The line stands in the text, and was read as what it is.
abbrev pub IsReadOf : List ℕ → LineAhead → Type 0
IsReadOf text line = IsReadAt (drop line.from text) line

-- A text of a trace, and lines of it that were read.
pub record TextAhead : Type 0 where
  pub text : List ℕ
  pub lines : List LineAhead

abbrev pub nothing_ahead : TextAhead
nothing_ahead = record { text = []; lines = [] }

-- The line of so many bytes is given, as a step that asks no source gives it.
pub record GivesKnown (old new : CutterState) (bytes number : ℕ) : Type 0 where
  pub steps : (source : Stream) → StepsOn (with_source old source) (with_source new source) (Ok (Some number)) []
  pub line : new.line ≡ take bytes old.pending
  pub pending : new.pending ≡ drop (bytes + 1) old.pending
