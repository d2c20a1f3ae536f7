-- Bytes that are ASCII, and those that are not.
use Rattle.std.specs.Prelude.{ℕ, ◌≤◌, ◌<◌, ◌+◌, List, Bool, nat_le, slice_index}

-- a byte that is none of ASCII
abbrev pub is_wide : ℕ → Bool
is_wide b = nat_le 128 b

-- the sixteen bytes from a place on are ASCII
abbrev pub IsAsciiFrom : ℕ → List ℕ → Type 0
IsAsciiFrom at bytes = (i : ℕ) → at ≤ i → i < at + 16 → slice_index bytes i < 128
