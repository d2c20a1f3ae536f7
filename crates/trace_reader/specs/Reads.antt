-- What a cutter does to its source while it reads on until the bytes that it holds have a cut.
use Rattle.std.specs.Prelude.{◌≡◌, ℕ, ◌≤◌, ◌⊎◌, List, [], ◌++◌, length, take, drop, Bool, false, IsTrue, Result, MatchResult}
use Rattle.std.specs.Io.KnownBytes.{Consumes, IsAtEnd}
use Rattle.streams.specs.Causes.{Rose}
use Rattle.streams.specs.Streams.{Stream}
use Rattle.streams.specs.declared.failed.Failed.{Failed}
use Rattle.trace_reader.specs.declared.cut.Cut.{Cut}
use Rattle.trace_reader.specs.Cuts.{HasNoNewline, IsCut, IsLineFront}

-- The bytes that are held, whether the source's end was read, and what can be seen of the source.
pub record ReadState : Type 0 where
  pub held : List ℕ
  pub at_end : Bool
  pub source : Stream

abbrev pub read_state : List ℕ → Bool → Stream → ReadState
read_state held at_end source = record { held = held; at_end = at_end; source = source }

-- Bytes were taken from the source and are held behind those that were, none once the end was read. The source is
-- asked only where no newline is held.
pub record ReadsOn (old new : ReadState) (took : List ℕ) : Type 0 where
  pub held : new.held ≡ old.held ++ took
  pub consumes : Consumes old.source.bytes new.source.bytes took
  pub at_end : IsTrue new.at_end → IsTrue old.at_end ⊎ IsAtEnd new.source.bytes
  pub stays_at_end : IsTrue old.at_end → IsTrue new.at_end × (took ≡ [])
  pub asks : (HasNoNewline old.held × (old.at_end ≡ false)) ⊎ (new.source ≡ old.source)
  pub later : old.source.faults ≤ new.source.faults

-- The bytes that are held have a cut, or a read failed before they had one.
abbrev pub Settles : ReadState → ReadState → ℕ → Result Cut Failed → Type 0
Settles old new allowed result =
    MatchResult result (IsCut new.held new.at_end allowed) (λ _. IsLineFront new.held allowed × (new.at_end ≡ false) × Rose old.source.faults new.source.faults)

-- The bytes that a cutter holds are the piece that was given last, which begins with its line, and behind it those of which no line was given;
-- in the first of these, as far as they were searched, no newline stands.
pub record HoldsPiece (held : List ℕ) (piece_length line_length searched : ℕ) : Type 0 where
  pub piece_held : piece_length ≤ length held
  pub line_in_piece : line_length ≤ piece_length
  pub searched_held : searched ≤ length (drop piece_length held)
  pub no_newline : HasNoNewline (take searched (drop piece_length held))
