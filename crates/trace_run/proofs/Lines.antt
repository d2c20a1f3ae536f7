-- The whole lines of bytes of which some were cut into lines.
use Rattle.std.proofs.Common.{◌≡◌, ◌≢◌, ℕ, List, [], ◌∷◌, ◌++◌, Bool, true, false, ◌||◌, ◌==◌, refl, sym, ◌∙◌, ap, arith}
use Rattle.std.specs.List.{concat, AllByRecursion}
use Rattle.std.specs.Prelude.{filter}
use Rattle.std.proofs.lemmas.List.{append-nil}
use Rattle.std.proofs.lemmas.Bool.{ne_eqb}
use Rattle.std.proofs.lemmas.List.Elements.{All-head, All-tail}
use Rattle.trace_reader.specs.Cuts.{HasNoNewline}
use Rattle.trace_reader.specs.Items.{pieces}
use Rattle.trace_reader.proofs.Pieces.{pieces-nil, pieces-line, pieces-last}
use Rattle.trace_run.specs.Lines.{is_whole, whole_lines}
use Rattle.trace_run.specs.Progress.{IsWholeLine}

is_whole-line : (xs ys : List ℕ) → is_whole (xs ++ 10 ∷ ys) ≡ true
is_whole-line [] ys = refl
is_whole-line (x ∷ xs) ys = ap (λ t. (x == 10) || t) (is_whole-line xs ys) ∙ or_true (x == 10)
  where
    or_true : (b : Bool) → (b || true) ≡ true
    or_true true = refl
    or_true false = refl

is_whole-front : (xs : List ℕ) → HasNoNewline xs → is_whole xs ≡ false
is_whole-front [] none = refl
is_whole-front (x ∷ xs) none =
    rw (ne_eqb x 10 (All-head (λ b. b ≢ 10) x xs none), is_whole-front xs (All-tail (λ b. b ≢ 10) x xs none)) refl

filter-whole : (done ps : List (List ℕ)) → AllByRecursion IsWholeLine done → filter is_whole (done ++ ps) ≡ done ++ filter is_whole ps
filter-whole [] ps all = refl
filter-whole (p ∷ done) ps all =
    rw (ap is_whole all.0.2 ∙ is_whole-line all.0.0 []) (ap (λ qs. p ∷ qs) (filter-whole done ps all.1))

filter-front : (front : List ℕ) → HasNoNewline front → filter is_whole (pieces front) ≡ []
filter-front [] none = ap (filter is_whole) pieces-nil
filter-front (b ∷ front) none =
    ap (filter is_whole) (pieces-last (b ∷ front) none (omega arith)) ∙ (rw (is_whole-front (b ∷ front) none) refl)

-- the pieces of whole lines are these lines
pub pieces-whole_lines : (done : List (List ℕ)) → AllByRecursion IsWholeLine done → pieces (concat done) ≡ done
pieces-whole_lines [] all = pieces-nil
pieces-whole_lines (p ∷ done) all =
    ap (λ q. pieces (q ++ concat done)) all.0.2 ∙ pieces-line all.0.0 (concat done) all.0.1
    ∙ ap (λ q. q ∷ pieces (concat done)) (sym all.0.2) ∙ ap (λ ps. p ∷ ps) (pieces-whole_lines done all.1)

-- the whole lines of bytes that were cut into these lines, where the front of one line is left
pub whole_lines-cut : (bytes front : List ℕ) (done : List (List ℕ)) → pieces bytes ≡ done ++ pieces front → AllByRecursion IsWholeLine done → HasNoNewline front → whole_lines bytes ≡ concat done
unfolding whole_lines
whole_lines-cut bytes front done cut all none =
    ap concat (ap (filter is_whole) cut ∙ filter-whole done (pieces front) all ∙ ap (λ ps. done ++ ps) (filter-front front none) ∙ append-nil done)
