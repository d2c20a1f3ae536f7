-- Lists that go together.
use Rattle.std.specs.Prelude.{◌≡◌, List, [], ◌∷◌}

-- R of each, and of what came with it, and of what became of it
module _ {X W Y : Type 0} (R : X → W → Y → Type 0) where
  abbrev pub Each : List X → List W → List Y → Type 0
  Each [] ws ys = (ws ≡ []) × (ys ≡ [])
  Each (x ∷ xs) [] ys = ⊥
  Each (x ∷ xs) (w ∷ ws) [] = ⊥
  Each (x ∷ xs) (w ∷ ws) (y ∷ ys) = R x w y × Each xs ws ys

-- R of each two at one place
abbrev pub Pairs : {X Y : Type 0} → (X → Y → Type 0) → List X → List Y → Type 0
Pairs R [] ys = ys ≡ []
Pairs R (x ∷ xs) [] = ⊥
Pairs R (x ∷ xs) (y ∷ ys) = R x y × Pairs R xs ys
