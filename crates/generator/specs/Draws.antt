-- The numbers that a generated trace is made of.
use Rattle.std.specs.Prelude.{ℕ, zero, suc, ◌+◌, ◌*◌, ◌/◌, ◌%◌, ◌^◌}

-- the state after a draw
abbrev pub next_state : ℕ → ℕ
next_state x = (x * 1103515245 + 12345) % 2 ^ 31

-- the state after so many draws, where this one is the first
abbrev pub state_after : ℕ → ℕ → ℕ
state_after zero first = first
state_after (suc draws) first = next_state (state_after draws first)

-- what the draw that led to this state gives: 0 to 32,767
abbrev pub draw_of : ℕ → ℕ
draw_of x = x / 65536
