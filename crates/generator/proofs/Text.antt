-- How the text of a trace is made of its objects' lines.
use Rattle.std.proofs.Common.{◌≡◌, ◌+◌, ◌-◌, ◌<◌, ◌++◌, ℕ, suc, arith, add-one, append_assoc, refl}
use Rattle.std.specs.List.{flat_map, range_with_len}
use Rattle.generator.specs.Draws.{draw_of, next_state, state_after}
use Rattle.generator.specs.Text.{last_lines, lines_by, object_lines, text_after}

state_next : (made number : ℕ) → state_after (made + 1) number ≡ next_state (state_after made number)
state_next made number = rw (add-one made) refl

-- the lines of the next object, and what comes after them
pub text_next : (number size made : ℕ) → made < size
    → text_after number size made ≡ lines_by size (made + 1) (draw_of (next_state (state_after made number))) ++ text_after number size (made + 1)
text_next number size made low =
    let one : size - made ≡ suc (size - (made + 1)) = omega arith in
    rw (one, ← state_next made number) (append_assoc (object_lines number size (made + 1)) (flat_map (object_lines number size) (range_with_len (made + 1 + 1) (size - (made + 1)))) last_lines)
