-- Sums over lists, how often something stands in a list, and lists that hold the same, each as often.
use Rattle.std.specs.Prelude.{◌≡◌, ℕ, zero, suc, ◌+◌, ◌==◌, ◌≤◌, Bool, true, false, List, [], ◌∷◌}

-- 1 of true, 0 of false
abbrev pub bit : Bool → ℕ
bit true = 1
bit false = 0

abbrev pub is_positive : ℕ → Bool
is_positive zero = false
is_positive (suc n) = true

-- f of each element, added up
abbrev pub total : {X : Type 0} → (X → ℕ) → List X → ℕ
total f [] = 0
total f (x ∷ xs) = f x + total f xs

-- how often x stands in the list
abbrev pub times : ℕ → List ℕ → ℕ
times x xs = total (λ y. bit (y == x)) xs

-- nothing stands twice in the list
abbrev pub IsOnce : List ℕ → Type 0
IsOnce xs = (x : ℕ) → times x xs ≤ 1

-- The two lists hold the same, each as often: whatever is added up over their elements, the sums are equal.
abbrev pub AsOften : {X : Type 0} → List X → List X → Type 0
AsOften {X} xs ys = (f : X → ℕ) → total f xs ≡ total f ys
