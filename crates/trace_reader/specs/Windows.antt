-- What a read adds to the bytes that are held.
use Rattle.std.specs.Prelude.{◌≡◌, ℕ, List, ◌++◌, length, Option, Result, MatchResult}
use Rattle.std.specs.Io.KnownBytes.{Consumes, Keeps, IsAtEnd}

-- The bytes that are held, and those that the source has left, where it tells them.
pub record HeldAndLeft : Type 0 where
  pub held : List ℕ
  pub left : Option (List ℕ)

abbrev pub held_and_left : List ℕ → Option (List ℕ) → HeldAndLeft
held_and_left held left = record { held = held; left = left }

-- n bytes of the source were added behind those that were held.
pub record Adds (old new : HeldAndLeft) (n : ℕ) (took : List ℕ) : Type 0 where
  pub held : new.held ≡ old.held ++ took
  pub count : length took ≡ n
  pub consumes : Consumes old.left new.left took
  pub at_end : n ≡ 0 → IsAtEnd new.left

-- A read added the bytes that it took, none only at the end, and a read that failed changed nothing.
abbrev pub ReadsInto : {E : Type 0} → HeldAndLeft → HeldAndLeft → Result ℕ E → Type 0
ReadsInto old new result =
    MatchResult result (λ n. (took : List ℕ) × Adds old new n took) (λ _. (new.held ≡ old.held) × Keeps old.left new.left)
