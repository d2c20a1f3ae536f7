-- Lists joined and cut.
use Rattle.std.proofs.Common.{◌≡◌, ◌∙◌, ◌+◌, ◌≤◌, ◌++◌, List, ℕ, length, take, drop, ap, arith, append_assoc, refl}
use Rattle.std.proofs.lemmas.List.{drop-append-le, drop-drop, drop_all, length-take-le, take-append-le, take_all}
use Rattle.std.proofs.Math.Seq.{take-add}

-- two appended one after another, and then a rest
pub append_two : (t a b rest : List ℕ) → t ++ a ++ b ++ rest ≡ t ++ (a ++ (b ++ rest))
append_two t a b rest = simp append_assoc refl

-- the parts of a line with two numbers, appended one after another
pub append_line : (t a m b n end : List ℕ) → t ++ a ++ m ++ (b ++ (n ++ end)) ≡ t ++ (a ++ m ++ b ++ n ++ end)
append_line t a m b n end = simp append_assoc refl

-- the parts of a line with three numbers
pub append_long_line : (t a l b m c n end : List ℕ) → t ++ a ++ l ++ b ++ m ++ (c ++ (n ++ end)) ≡ t ++ (a ++ l ++ b ++ m ++ c ++ n ++ end)
append_long_line t a l b m c n end = simp append_assoc refl

-- Where the first f of xs stand before what was there, and n more go behind them, the first f + n of xs stand there.
pub moved_on : (xs was now part : List ℕ) (f n : ℕ) → f + n ≤ length xs → now ≡ take f xs ++ drop f was
    → part ≡ take n (drop f xs) ++ drop n (drop f was) → take f now ++ part ≡ take (f + n) xs ++ drop (f + n) was
moved_on xs was now part f n low is moved =
    let front : take f now ≡ take f xs = rw is (take-append-le f (take f xs) (drop f was) (omega (arith, length-take-le f xs)) ∙ take_all f (take f xs) (omega (arith, length-take-le f xs))) in
    rw (front, moved, take-add f n xs, ← drop-drop n f was, append_assoc (take f xs) (take n (drop f xs)) (drop n (drop f was))) refl

-- what stands behind the first f of xs is what was there
pub stays_behind : (xs was now : List ℕ) (f : ℕ) → f ≤ length xs → now ≡ take f xs ++ drop f was → drop f now ≡ drop f was
stays_behind xs was now f low is =
    let len : length (take f xs) ≡ f = length-take-le f xs low in
    rw is (drop-append-le f (take f xs) (drop f was) (omega arith) ∙ ap (λ l. l ++ drop f was) (drop_all f (take f xs) (omega arith)))
