-- The parts of a header word, and the bits and lists of marks.
use Rattle.std.proofs.Common.{◌≡◌, ℕ, ◌+◌, ◌*◌, ◌/◌, ◌%◌, ◌^◌, ◌<◌, ◌≤◌, ◌||◌, ◌&&◌, eqb, Bool, true, false, cond, List, [], ◌∷◌, filter, sym, refl, ap, ◌∙◌, arith}
use Rattle.std.specs.Prelude.{bit_or}
use Rattle.std.proofs.lemmas.Nat.{or_block}
use Rattle.std.specs.Int.Bits.{or_zero_r}
use Rattle.heap_base.specs.Counting.{bit, total}
use Rattle.heap_base.proofs.Counting.{bit-le, total-map, total-filter}
use Rattle.header_rule.specs.declared.mark.Mark.{Mark}
use Rattle.header_rule.specs.declared.mark.Mark.TheVariants.{Found, Disputed, MetByRoots}
use Rattle.header_rule.specs.Layout.{count_of, has_bit, bits_of, marks_passing}
use Rattle.header_rule.specs.Views.{is_mark, times_marked}

-- three bits, the lowest first
abbrev three : Bool → Bool → Bool → ℕ
three a b c = (bit c * 2 + bit b) * 2 + bit a

-- the marks as a number of three bits
abbrev marks_number : (Mark → Bool) → ℕ
marks_number p = three (p Found) (p Disputed) (p MetByRoots)

bits_of-number : (p : Mark → Bool) → bits_of p ≡ marks_number p * 2 ^ 56
bits_of-number p = omega arith

pub bits_of-le : (p : Mark → Bool) → bits_of p ≤ 7 * 2 ^ 56
bits_of-le p = let a = bit-le (p Found) in let b = bit-le (p Disputed) in let c = bit-le (p MetByRoots) in omega arith

pub count_of-word : (p : Mark → Bool) (n : ℕ) → n < 2 ^ 56 → count_of (bits_of p + n) ≡ n
count_of-word p n small = let e = bits_of-number p in omega arith

low_bit : (k : ℕ) (b : Bool) → eqb ((k * 2 + bit b) % 2) 1 ≡ b
low_bit k true = let e : (k * 2 + 1) % 2 ≡ 1 = omega arith in ap (λ n. eqb n 1) e
low_bit k false = let e : (k * 2 + 0) % 2 ≡ 0 = omega arith in ap (λ n. eqb n 1) e

pub has_bit-word : (p : Mark → Bool) (n : ℕ) → n < 2 ^ 56 → (m : Mark) → has_bit (bits_of p + n) m ≡ p m
has_bit-word p n small Found =
    let a = bit-le (p Found) in
    let b = bit-le (p Disputed) in
    let c = bit-le (p MetByRoots) in
    let e : (bits_of p + n) / 2 ^ 56 ≡ (bit (p MetByRoots) * 2 + bit (p Disputed)) * 2 + bit (p Found) = omega arith in
    ap (λ k. eqb (k % 2) 1) e ∙ low_bit (bit (p MetByRoots) * 2 + bit (p Disputed)) (p Found)
has_bit-word p n small Disputed =
    let a = bit-le (p Found) in
    let b = bit-le (p Disputed) in
    let c = bit-le (p MetByRoots) in
    let e : (bits_of p + n) / 2 ^ 57 ≡ bit (p MetByRoots) * 2 + bit (p Disputed) = omega arith in
    ap (λ k. eqb (k % 2) 1) e ∙ low_bit (bit (p MetByRoots)) (p Disputed)
has_bit-word p n small MetByRoots =
    let a = bit-le (p Found) in
    let b = bit-le (p Disputed) in
    let c = bit-le (p MetByRoots) in
    let e : (bits_of p + n) / 2 ^ 58 ≡ 0 * 2 + bit (p MetByRoots) = omega arith in
    ap (λ k. eqb (k % 2) 1) e ∙ low_bit 0 (p MetByRoots)

-- a number that is made of marks alone has the bits of these marks
pub has_bit-bits_of : (p : Mark → Bool) (m : Mark) → has_bit (bits_of p) m ≡ p m
has_bit-bits_of p m = let e : bits_of p ≡ bits_of p + 0 = omega arith in ap (λ n. has_bit n m) e ∙ has_bit-word p 0 (omega arith) m

pub bits_of-same : (p q : Mark → Bool) → ((m : Mark) → p m ≡ q m) → bits_of p ≡ bits_of q
bits_of-same p q e = λ i. bits_of (λ m. e m i)

pub marks_passing-same : (p q : Mark → Bool) (x : ℕ) → ((m : Mark) → p m ≡ q m) → marks_passing p x ≡ marks_passing q x
marks_passing-same p q x e = λ i. marks_passing (λ m. e m i) x

-- ---- marks set

or-bit : (a b : Bool) → bit_or (bit a) (bit b) ≡ bit (a || b)
or-bit true true = refl
or-bit true false = refl
or-bit false true = refl
or-bit false false = refl

bit-lt : (b : Bool) → bit b < 2 ^ 1
bit-lt b = let l = bit-le b in omega arith

or-three : (a b c p q r : Bool) → bit_or (three a b c) (three p q r) ≡ three (a || p) (b || q) (c || r)
or-three a b c p q r =
    let high : bit_or (bit c * 2 + bit b) (bit r * 2 + bit q) ≡ bit (c || r) * 2 + bit (b || q) =
    or_block 1 (bit c) (bit r) (bit b) (bit q) (bit-lt b) (bit-lt q) ∙ (λ i. or-bit c r i * 2 + or-bit b q i) in
    or_block 1 (bit c * 2 + bit b) (bit r * 2 + bit q) (bit a) (bit p) (bit-lt a) (bit-lt p) ∙ (λ i. high i * 2 + or-bit a p i)

-- the word after marks are set
pub or-bits_of : (p q : Mark → Bool) (n : ℕ) → n < 2 ^ 56 → bit_or (bits_of p + n) (bits_of q) ≡ bits_of (λ m. p m || q m) + n
or-bits_of p q n small =
    let both : Mark → Bool = λ m. p m || q m in
    let right : bits_of q ≡ marks_number q * 2 ^ 56 + 0 = omega arith in
    (λ i. bit_or (bits_of-number p i + n) (right i))
    ∙ or_block 56 (marks_number p) (marks_number q) n 0 small (omega arith)
    ∙ (λ i. or-three (p Found) (p Disputed) (p MetByRoots) (q Found) (q Disputed) (q MetByRoots) i * 2 ^ 56 + or_zero_r n i)
    ∙ ap (λ k. k + n) (sym (bits_of-number both))

pub cond_zero : (b : Bool) → ◌≡◌ {A = ℕ} (cond b 0 0) 0
cond_zero true = refl
cond_zero false = refl

-- how often a mark of a cell stands among the marks of one meet
pub times_marked-passing : (p : Mark → Bool) (x : ℕ) (m : Mark) (y : ℕ) → times_marked m y (marks_passing p x) ≡ cond (p m) (bit (eqb x y)) 0
times_marked-passing p x m y =
    total-map (λ (q : ℕ × Mark). bit (is_mark m q.1 && eqb q.0 y)) (λ n. (x, n)) (filter p every)
    ∙ total-filter (λ n. bit (is_mark m n && eqb x y)) p every
    ∙ one m
  where
    every : List Mark
    every = Found ∷ Disputed ∷ MetByRoots ∷ []

    one : (m : Mark) → total (λ n. cond (p n) (bit (is_mark m n && eqb x y)) 0) (Found ∷ Disputed ∷ MetByRoots ∷ []) ≡ cond (p m) (bit (eqb x y)) 0
    one Found = let b = cond_zero (p Disputed) in let c = cond_zero (p MetByRoots) in omega arith
    one Disputed = let b = cond_zero (p Found) in let c = cond_zero (p MetByRoots) in omega arith
    one MetByRoots = let b = cond_zero (p Found) in let c = cond_zero (p Disputed) in omega arith
