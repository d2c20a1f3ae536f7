-- What a sink holds after some of the bytes that it was to be given.
use Rattle.std.specs.Prelude.{ℕ, ◌≤◌, List, length, take, Option}
use Rattle.std.specs.Io.KnownBytes.{Appends}

-- a beginning of the bytes was appended, where the sink tells what it holds
abbrev pub AppendsPart : Option (List ℕ) → Option (List ℕ) → List ℕ → Type 0
AppendsPart old new bytes = (n : ℕ) × (n ≤ length bytes) × Appends old new (take n bytes)
