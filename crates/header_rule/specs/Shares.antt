-- The rights of each pass.
use Rattle.std.specs.Prelude.{ℕ, zero, suc, ◌-◌}

-- of w passes, the first has 17 - w rights and each other has one, which is 16 in all
abbrev pub share : ℕ → ℕ → ℕ
share workers zero = 17 - workers
share workers (suc number) = 1
