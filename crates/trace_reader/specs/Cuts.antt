-- Where the bytes that a cutter holds are to be cut, if the trace may have `allowed` bytes more than those before them.
use Rattle.std.specs.Prelude.{◌≡◌, ◌≢◌, ℕ, ◌+◌, ◌<◌, ◌≤◌, List, [], length, take, slice_index, All, Bool, false, IsTrue, Option, None, Some}
use Rattle.heap_base.specs.declared.limits.TheConstants.{LONGEST_LINE}
use Rattle.trace_reader.specs.declared.cut.Cut.{Cut}
use Rattle.trace_reader.specs.declared.cut.Cut.TheVariants.{Line, LastLine, End, LineTooLong, TraceTooLong}

-- no newline stands in these bytes
abbrev pub HasNoNewline : List ℕ → Type 0
HasNoNewline bytes = All (λ b. b ≢ 10) bytes

-- The first newline of the bytes stands behind n others.
pub record IsFirstNewline (bytes : List ℕ) (n : ℕ) : Type 0 where
  pub there : n < length bytes
  pub one_line : HasNoNewline (take n bytes)
  pub newline : slice_index bytes n ≡ 10

-- A line of n bytes and its newline, within its own limit and the trace's.
pub record IsLine (held : List ℕ) (allowed n : ℕ) : Type 0 where
  pub newline : IsFirstNewline held n
  pub short : n ≤ LONGEST_LINE
  pub within : n < allowed

-- The bytes are the front of one line, within its own limit and the trace's.
pub record IsLineFront (held : List ℕ) (allowed : ℕ) : Type 0 where
  pub one_line : HasNoNewline held
  pub short : length held ≤ LONGEST_LINE
  pub within : length held ≤ allowed

-- More bytes than a line may have are there without a newline, and the trace may have as many as a line may.
pub record HasTooLongLine (held : List ℕ) (allowed : ℕ) : Type 0 where
  pub there : LONGEST_LINE < length held
  pub one_line : HasNoNewline (take (LONGEST_LINE + 1) held)
  pub within : LONGEST_LINE ≤ allowed

-- One byte more than the trace may have is there, its line is not whole before it, and is not too long by it.
pub record EndsPastLimit (held : List ℕ) (allowed : ℕ) : Type 0 where
  pub there : allowed < length held
  pub one_line : HasNoNewline (take allowed held)
  pub not_too_long : HasTooLongLine held allowed → ⊥

-- the cut of the bytes that are held
abbrev pub IsCut : List ℕ → Bool → ℕ → Cut → Type 0
IsCut held at_end allowed (Line n) = IsLine held allowed n
IsCut held at_end allowed LastLine = IsLineFront held allowed × (0 < length held) × IsTrue at_end
IsCut held at_end allowed End = (held ≡ []) × IsTrue at_end
IsCut held at_end allowed LineTooLong = HasTooLongLine held allowed
IsCut held at_end allowed TraceTooLong = EndsPastLimit held allowed

-- The cut, or none where only more bytes decide.
abbrev pub IsCutOf : List ℕ → Bool → ℕ → Option Cut → Type 0
IsCutOf held at_end allowed None = IsLineFront held allowed × (at_end ≡ false)
IsCutOf held at_end allowed (Some cut) = IsCut held at_end allowed cut
