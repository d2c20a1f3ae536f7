-- A text that is written piece by piece.
use Rattle.std.specs.Prelude.{◌≡◌, ℕ, List, ◌++◌, Option}
use Rattle.std.specs.Io.KnownBytes.{Appends}

-- the text is what a sink was given since the start, and then the piece that is still to be written
abbrev pub IsWritten : Option (List ℕ) → Option (List ℕ) → List ℕ → List ℕ → Type 0
IsWritten start held piece text = (front : List ℕ) × Appends start held front × (front ++ piece ≡ text)
