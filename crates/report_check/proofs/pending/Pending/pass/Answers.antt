use Rattle.std.proofs.Common.{◌≡◌, ℕ, zero, suc, ◌+◌, ◌-◌, ◌≤◌, List, [], ◌∷◌, length, take, drop, refl, sym, ap, subst, ◌∙◌, arith}
use Rattle.std.proofs.lemmas.List.{drop-take}
use Rattle.report_check.proofs.pending.Pending.pass.Goals as goal

take-short : (xs : List ℕ) (n : ℕ) → length (take n xs) ≤ n
take-short xs zero = omega arith
take-short [] (suc n) = omega arith
take-short (x ∷ xs) (suc n) = let rest = take-short xs n in omega (arith, rest)

drop-nil : (n : ℕ) → drop {A = ℕ} n [] ≡ []
drop-nil zero = refl
drop-nil (suc n) = refl

drop-twice : (xs : List ℕ) (n m : ℕ) → drop n (drop m xs) ≡ drop (m + n) xs
drop-twice xs n zero =
    let same : n ≡ zero + n = omega arith in
    ap (λ (k : ℕ). drop k xs) same
drop-twice [] n (suc m) = drop-nil n ∙ sym (drop-nil (suc m + n))
drop-twice (x ∷ xs) n (suc m) =
    let same : suc (m + n) ≡ suc m + n = omega arith in
    drop-twice xs n m ∙ ap (λ (k : ℕ). drop k (x ∷ xs)) same

pass-range : (xs : List ℕ) (start end n : ℕ) → n ≤ length (take (end - start) (drop start xs)) →
    take (end - (start + n)) (drop (start + n) xs) ≡ drop n (take (end - start) (drop start xs))
pass-range xs start end n few =
    let short = take-short (drop start xs) (end - start) in
    ap (take (end - (start + n))) (sym (drop-twice xs n start)) ∙ sym (drop-take n (end - (start + n)) (drop start xs))
    ∙ ap (λ k. drop n (take k (drop start xs))) (omega (arith, few, short))

pub returns : goal.returns
returns c =
    pass-range c.self.inside.buffer.items c.self.inside.start c.self.inside.end c.args.count
    (subst (λ (xs : List ℕ). c.args.count ≤ length xs) (sym c.self.view_is) c.requires)
    ∙ ap (drop c.args.count) c.self.view_is
