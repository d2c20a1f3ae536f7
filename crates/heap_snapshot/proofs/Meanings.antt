-- What the bytes of a text lead to, line by line.
use Rattle.std.proofs.Common.{◌≡◌, ◌≢◌, ℕ, ◌+◌, ◌<◌, eqb, true, false, List, [], ◌∷◌, ◌++◌, length, take, drop, Option, None, Some, sym, refl, ap, ◌∙◌, arith}
use Rattle.std.proofs.lemmas.Bool.{cond-true, cond-false, or_right, ne_eqb}
use Rattle.std.proofs.lemmas.List.Elements.{All-head, All-tail}
use Rattle.trace_reader.specs.Cuts.{HasNoNewline, IsFirstNewline}
use Rattle.trace_reader.specs.Items.{pieces}
use Rattle.trace_reader.proofs.Pieces.{pieces-nil, pieces-line, pieces-last, line_of-line}
use Rattle.trace_reader.proofs.Steps.{line_split}
use Rattle.trace_run.specs.Lines.{is_whole}
use Rattle.heap_snapshot.specs.declared.refusal.SnapWhy.TheVariants.{BadLine, Unended}
use Rattle.heap_snapshot.specs.Lines.{line_in}
use Rattle.heap_snapshot.specs.Table.{Reading, is_ended, take_said}
use Rattle.heap_snapshot.specs.Reading.{refusal_at, view_read, unless_dangling, at_end, after_line, meaning_from, meaning_of}
use Rattle.heap_snapshot.specs.Dangling.{first_dangling}

pub whole_line : (line : List ℕ) → is_whole (line ++ 10 ∷ []) ≡ true
whole_line [] = refl
whole_line (b ∷ line) = or_right (eqb b 10) _ (whole_line line)

not_whole : (bytes : List ℕ) → HasNoNewline bytes → is_whole bytes ≡ false
not_whole [] none = refl
not_whole (b ∷ bytes) none =
    rw (ne_eqb b 10 (All-head (λ b. b ≢ 10) b bytes none)) (not_whole bytes (All-tail (λ b. b ≢ 10) b bytes none))

-- a whole line is taken, or refused
pub meaning-line : (lines : ℕ) (r : Reading) (rest : List ℕ) (n : ℕ) → IsFirstNewline rest n
    → meaning_from lines r (pieces rest) ≡ after_line (lines + 1) (take_said r (line_in (take n rest))) (λ next. meaning_from (lines + 1) next (pieces (drop (n + 1) rest)))
unfolding meaning_from
meaning-line lines r rest n is =
    let line : List ℕ = take n rest in
    let later : List (List ℕ) = pieces (drop (n + 1) rest) in
    let split : pieces rest ≡ (line ++ 10 ∷ []) ∷ later = ap pieces (line_split rest n is) ∙ pieces-line line (drop (n + 1) rest) is.one_line in
    ap (meaning_from lines r) split
    ∙ cond-true (is_whole (line ++ 10 ∷ [])) _ _ (whole_line line)
    ∙ ap (λ l. after_line (lines + 1) (take_said r (line_in l)) (λ next. meaning_from (lines + 1) next later)) (line_of-line line is.one_line)

-- no whole line is left
pub meaning-end : (lines : ℕ) (r : Reading) (rest : List ℕ) → length rest ≡ 0 → meaning_from lines r (pieces rest) ≡ at_end lines r
unfolding meaning_from
meaning-end lines r [] none = ap (meaning_from lines r) pieces-nil
meaning-end lines r (b ∷ rest) none = absurd (omega arith)

-- bytes without a newline are left
pub meaning-rest : (lines : ℕ) (r : Reading) (rest : List ℕ) → HasNoNewline rest → 0 < length rest → meaning_from lines r (pieces rest) ≡ refusal_at (lines + 1) Unended
unfolding meaning_from
meaning-rest lines r rest none there =
    ap (meaning_from lines r) (pieces-last rest none there) ∙ cond-false (is_whole rest) _ _ (not_whole rest none)

-- ---- the same, where these bytes are what is left of others

module _ (bytes : List ℕ) (lines : ℕ) (r : Reading) (rest : List ℕ) (left : meaning_from lines r (pieces rest) ≡ meaning_of bytes) where
  pub line_breaks : (n : ℕ) → IsFirstNewline rest n → None ≡ take_said r (line_in (take n rest)) → meaning_of bytes ≡ refusal_at (lines + 1) BadLine
  line_breaks n is none =
      sym left ∙ meaning-line lines r rest n is
      ∙ ap (λ (o : Option Reading). after_line (lines + 1) o (λ next. meaning_from (lines + 1) next (pieces (drop (n + 1) rest)))) (sym none)

  pub line_taken : (n : ℕ) (next : Reading) → IsFirstNewline rest n → Some next ≡ take_said r (line_in (take n rest)) → meaning_from (lines + 1) next (pieces (drop (n + 1) rest)) ≡ meaning_of bytes
  line_taken n next is taken =
      sym
      (sym left ∙ meaning-line lines r rest n is
      ∙ ap (λ (o : Option Reading). after_line (lines + 1) o (λ next. meaning_from (lines + 1) next (pieces (drop (n + 1) rest)))) (sym taken))

  pub bytes_left : HasNoNewline rest → 0 < length rest → meaning_of bytes ≡ refusal_at (lines + 1) Unended
  bytes_left none there = sym left ∙ meaning-rest lines r rest none there

  pub not_ended : length rest ≡ 0 → is_ended r.stage ≡ false → meaning_of bytes ≡ refusal_at (lines + 1) Unended
  not_ended none not_so = sym left ∙ meaning-end lines r rest none ∙ cond-false (is_ended r.stage) _ _ not_so

  pub is_whole_text : length rest ≡ 0 → is_ended r.stage ≡ true →
      meaning_of bytes ≡ unless_dangling (view_read r) (first_dangling (view_read r))
  is_whole_text none is_so = sym left ∙ meaning-end lines r rest none ∙ cond-true (is_ended r.stage) _ _ is_so
