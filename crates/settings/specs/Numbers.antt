-- Numbers as the words may write them.
use Rattle.std.specs.Prelude.{ℕ, List, length, Bool, ◌&&◌, nat_le, if◌then◌else◌, Option, None, Some}
use Rattle.std.specs.Char.{is_ascii_digit}
use Rattle.std.specs.List.{list_all}
use Rattle.std.specs.Str.Parse.{digits_value}
use Rattle.settings.specs.declared.numbers.TheConstants.{MOST_DIGITS}

-- a number is written in 1 to 10 digits; leading zeros are taken
abbrev pub is_number : List ℕ → Bool
is_number text = nat_le 1 (length text) && nat_le (length text) MOST_DIGITS && list_all is_ascii_digit text

-- the number that the text says, where it is one from `least` to `most`
unfoldable pub number_by : ℕ → ℕ → List ℕ → Option ℕ
number_by least most text =
    let number = digits_value 10 text in
    if is_number text && nat_le least number && nat_le number most then Some number else None
