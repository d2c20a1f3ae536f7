use Rattle.std.proofs.Common.{◌≡◌, ◌-◌, ◌≤◌, length, take}
use Rattle.std.specs.Str.Parse.{AllDigits, digits_value}
use Rattle.trace_reader.proofs.plain.number_of_few_digits.Given as goal

-- the value of the digits that were passed
abbrev pub invariant-digits : goal.invariant-digits
invariant-digits l = (l.at ≤ length l.bytes) × AllDigits 10 (take l.at l.bytes) × (l.value ≡ digits_value 10 (take l.at l.bytes))

abbrev pub decreases-digits : goal.decreases-digits
decreases-digits l = length l.bytes - l.at
