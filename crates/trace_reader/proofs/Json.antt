-- The value of a line, from what reading its bytes as text gave.
use Rattle.std.proofs.Common.{◌≡◌, ℕ, cond, None, List, ap, refl}
use Rattle.std.specs.Str.{IsUtf8, is_utf8}
use Rattle.std.proofs.lemmas.Bool.{cond_both}
use Rattle.std.proofs.lemmas.Str.{IsUtf8-from_is_utf8, is_utf8-from_IsUtf8}
use Rattle.serde_json.specs.Read.{read}
use Rattle.trace_reader.specs.Meaning.{json_of}

pub json_of_text : (line : List ℕ) → IsUtf8 line → json_of line ≡ read line
json_of_text line is = ap (λ b. cond b (read line) None) (is_utf8-from_IsUtf8 line is)

pub json_of_no_text : (line : List ℕ) → (IsUtf8 line → ⊥) → json_of line ≡ None
json_of_no_text line wrong = cond_both (is_utf8 line) (read line) None (λ o. o ≡ None) (λ yes. absurd (wrong (IsUtf8-from_is_utf8 line yes))) (λ unset. refl)
