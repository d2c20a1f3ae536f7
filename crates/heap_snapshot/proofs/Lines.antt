-- What a line says, from what reading its bytes as text gave.
use Rattle.std.proofs.Common.{◌≡◌, ℕ, cond, None, List, ap, refl}
use Rattle.std.specs.Str.{IsUtf8, is_utf8}
use Rattle.std.proofs.lemmas.Bool.{cond_both}
use Rattle.std.proofs.lemmas.Str.{IsUtf8-from_is_utf8, is_utf8-from_IsUtf8}
use Rattle.heap_snapshot.specs.Lines.{line_in, text_in}

pub line_of_text : (line : List ℕ) → IsUtf8 line → line_in line ≡ text_in line
line_of_text line is = ap (λ b. cond b (text_in line) None) (is_utf8-from_IsUtf8 line is)

pub line_of_no_text : (line : List ℕ) → (IsUtf8 line → ⊥) → line_in line ≡ None
line_of_no_text line wrong = cond_both (is_utf8 line) (text_in line) None (λ o. o ≡ None) (λ yes. absurd (wrong (IsUtf8-from_is_utf8 line yes))) (λ unset. refl)
