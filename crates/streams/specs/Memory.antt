-- What contracts see of a source and of a sink in memory.
use Rattle.std.specs.Prelude.{ℕ, List}

-- the bytes that are left, how many one read gives at most, the numbers of the reads that fail, and how many
-- reads there were and how many of them failed
pub record MemoryReads : Type 0 where
  pub left : List ℕ
  pub piece : ℕ
  pub fails : List ℕ
  pub calls : ℕ
  pub faults : ℕ

-- the bytes that are held, how many may be held, how many one write takes at most, the numbers of the writes
-- that fail, and how many writes there were and how many of them failed
pub record MemoryWrites : Type 0 where
  pub held : List ℕ
  pub room : ℕ
  pub piece : ℕ
  pub fails : List ℕ
  pub calls : ℕ
  pub faults : ℕ
