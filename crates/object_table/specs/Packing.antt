-- A slot in one number.
use Rattle.std.specs.Prelude.{◌==◌, ℕ, ◌+◌, ◌-◌, ◌*◌, ◌/◌, ◌%◌, ◌^◌, ◌<◌, if◌then◌else◌, Option, None, Some, IfSome}
use Rattle.std.proofs.Common.{◌≡◌, zero, suc, eqb, refl, arith}
use Rattle.std.proofs.Math.Dec.{eqb-suc-zero}
use Rattle.heap_base.specs.Counting.{bit}
use Rattle.object_table.specs.declared.slot.Slot.{Slot}

-- what a slot holds by the half of its number
abbrev pub held_by_half : ℕ → Option ℕ
held_by_half half = if half == 0 then None else Some (half - 1)

-- the half of the number of a slot that holds this
abbrev pub half_of : Option ℕ → ℕ
half_of None = 0
half_of (Some cell) = cell + 1

-- the slot of a number: its half is one more than the cell that it holds, and 0 where it is empty; it is odd where it is weak
abbrev pub slot_of_word : ℕ → Slot
slot_of_word word = record { held = held_by_half (word / 2); weak = word % 2 == 1 }

-- the number of a slot
abbrev pub word_of_slot : Slot → ℕ
word_of_slot slot = half_of slot.held * 2 + bit slot.weak

-- The number of the slot is less than 2^32.
abbrev pub CanBePacked : Slot → Type 0
CanBePacked slot = IfSome slot.held (λ cell. cell < 2 ^ 31 - 1)

-- ---- a number gives back the slot that it was made of

half_of-held : (half : ℕ) → half_of (held_by_half half) ≡ half
half_of-held zero = refl
half_of-held (suc n) = grind (arith, eqb-suc-zero n)

bit-odd : (n : ℕ) → n < 2 → bit (eqb n 1) ≡ n
bit-odd zero small = refl
bit-odd (suc zero) small = refl
bit-odd (suc (suc n)) small = omega (arith, small)

pub packed-unpacked : (word : ℕ) → word_of_slot (slot_of_word word) ≡ word
packed-unpacked word =
    let half = half_of-held (word / 2) in
    let low = bit-odd (word % 2) (omega arith) in
    omega (arith, half, low)
