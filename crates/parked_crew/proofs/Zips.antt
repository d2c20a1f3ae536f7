-- Lists whose elements correspond, place by place.
use Rattle.std.proofs.Common.{◌≡◌, List, [], ◌∷◌, ◌++◌, length, refl, arith}
use Rattle.std.specs.List.{AllZip}

pub zip_more : {X Y : Type 0} (R : X → Y → Type 0) (xs : List X) (ys : List Y) (x : X) (y : Y) → AllZip R xs ys → R x y → AllZip R (xs ++ x ∷ []) (ys ++ y ∷ [])
zip_more R [] [] x y a r = (r, tt)
zip_more R [] (z ∷ zs) x y a r = absurd a
zip_more R (z ∷ zs) [] x y a r = absurd a
zip_more R (z ∷ zs) (w ∷ ws) x y a r = (a.0, zip_more R zs ws x y a.1 r)

pub nothing_left : {X : Type 0} (l : List X) → length l ≡ 0 → l ≡ []
nothing_left [] h = refl
nothing_left (x ∷ xs) h = absurd (omega arith)
