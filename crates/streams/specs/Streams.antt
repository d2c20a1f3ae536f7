-- What can be seen of a source or a sink at a moment.
use Rattle.std.specs.Prelude.{ℕ, List, Option}

-- the bytes, those that are left or those that are held, where they are told, and the count of faults
pub record Stream : Type 0 where
  pub bytes : Option (List ℕ)
  pub faults : ℕ

-- what can be seen of a source or a sink, from the two meanings that its trait gives it
abbrev pub stream_of : {X : Type 0} → (X → Option (List ℕ)) → (X → ℕ) → X → Stream
stream_of bytes faults x = record { bytes = bytes x; faults = faults x }
