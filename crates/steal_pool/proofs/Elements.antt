-- Facts of each element of a list.
use Rattle.std.proofs.Common.{List, [], ◌∷◌, ◌++◌}
use Rattle.std.specs.List.{AllByRecursion}

pub all-front : {X : Type 0} (P : X → Type 0) (xs ys : List X) → AllByRecursion P (xs ++ ys) → AllByRecursion P xs × AllByRecursion P ys
all-front P [] ys a = (tt, a)
all-front P (x ∷ xs) ys a = let r = all-front P xs ys a.1 in ((a.0, r.0), r.1)

pub all-snoc : {X : Type 0} (P : X → Type 0) (xs : List X) (y : X) → AllByRecursion P xs → P y → AllByRecursion P (xs ++ y ∷ [])
all-snoc P [] y a p = (p, tt)
all-snoc P (x ∷ xs) y a p = (a.0, all-snoc P xs y a.1 p)
