-- Which texts are names of types and roots.
use Rattle.std.specs.Prelude.{ℕ, ◌==◌, List, length, Bool, not, ◌&&◌, nat_le}
use Rattle.std.specs.List.{list_all}
use Rattle.heap_base.specs.declared.limits.TheConstants.{LONGEST_NAME}

-- a byte that is no control character of ASCII
abbrev pub is_name_byte : ℕ → Bool
is_name_byte b = nat_le 32 b && not (b == 127)

abbrev pub is_name : List ℕ → Bool
is_name bytes = nat_le 1 (length bytes) && nat_le (length bytes) LONGEST_NAME && list_all is_name_byte bytes
