-- Lists whose elements correspond.
use Rattle.std.proofs.Common.{List, [], ◌∷◌, ◌++◌, length, refl, ap, arith}
use Rattle.steal_pool.specs.Lists.{Each}

-- one more of each
pub each_more : {X W Y : Type 0} (R : X → W → Y → Type 0) (xs : List X) (ws : List W) (ys : List Y) (x : X) (w : W) (y : Y) → Each R xs ws ys →
    R x w y → Each R (xs ++ x ∷ []) (ws ++ w ∷ []) (ys ++ y ∷ [])
each_more R [] [] [] x w y e r = (r, (refl, refl))
each_more R [] [] (z ∷ ys) x w y e r = absurd (let n = ap length e.1 in omega arith)
each_more R [] (z ∷ ws) ys x w y e r = absurd (let n = ap length e.0 in omega arith)
each_more R (z ∷ xs) [] ys x w y e r = absurd e
each_more R (z ∷ xs) (v ∷ ws) [] x w y e r = absurd e
each_more R (z ∷ xs) (v ∷ ws) (u ∷ ys) x w y e r = (e.0, each_more R xs ws ys x w y e.1 r)
