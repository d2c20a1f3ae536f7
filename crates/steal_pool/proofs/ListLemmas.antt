-- Lists that go together.
use Rattle.std.proofs.Common.{◌≡◌, ℕ, ◌<◌, List, [], ◌∷◌, ◌++◌, length, map, take, sym, refl, ap, ◌∙◌, subst, arith, append_assoc}
use Rattle.steal_pool.specs.declared.task.Task.{Task}
use Rattle.steal_pool.specs.Jobs.{JobAfter, Does}
use Rattle.steal_pool.specs.Lists.{Each}

pub take_front : {X : Type 0} (n : ℕ) (xs ys : List X) → length xs ≡ n → take n (xs ++ ys) ≡ xs
take_front n xs ys e = subst (λ k. take k (xs ++ ys) ≡ xs) e (front xs ys)
  where
    front : {X : Type 0} (xs ys : List X) → take (length xs) (xs ++ ys) ≡ xs
    front [] ys = refl
    front (x ∷ xs) ys = λ i. x ∷ front xs ys i

module _ {J : Type 0} (works : J → Task → JobAfter J → Type 0) where
  abbrev after : J → List Task → JobAfter J
  after k p = record { job = k; put = p }

  pub does_append : (j k l : J) (ts us p q : List Task) → Does works j ts (after k p) → Does works k us (after l q) → Does works j (ts ++ us) (after l (p ++ q))
  does_append j k l [] us p q d e = subst (λ (z : J × List Task). Does works z.0 us (after l (z.1 ++ q))) (λ i. (d.0 i, sym d.1 i)) e
  does_append j k l (t ∷ ts) us p q d e = (d.0, d.1, d.2 ++ q, d.3, does_append d.0 k l ts us d.2 q d.4 e, ap (λ r. r ++ q) d.5 ∙ append_assoc d.1 d.2 q)

pub each_length : {X W Y : Type 0} (R : X → W → Y → Type 0) (xs : List X) (ws : List W) (ys : List Y) → Each R xs ws ys
    → length ys ≡ length xs
each_length R [] ws ys e = ap length e.1
each_length R (x ∷ xs) [] ys e = absurd e
each_length R (x ∷ xs) (w ∷ ws) [] e = absurd e
each_length R (x ∷ xs) (w ∷ ws) (y ∷ ys) e = let r = each_length R xs ws ys e.1 in omega arith

-- what R leaves of each is left of all
module _ {X W K : Type 0} (R : X → W → X → Type 0) (f : X → K) (same : (x : X) (w : W) (y : X) → R x w y → f y ≡ f x) where
  pub each_same : (xs : List X) (ws : List W) (ys : List X) → Each R xs ws ys → map f ys ≡ map f xs
  each_same [] ws ys e = ap (map f) e.1
  each_same (x ∷ xs) [] ys e = absurd e
  each_same (x ∷ xs) (w ∷ ws) [] e = absurd e
  each_same (x ∷ xs) (w ∷ ws) (y ∷ ys) e = λ i. same x w y e.0 i ∷ each_same xs ws ys e.1 i

-- what three relations one after another make of each, they make of all
module _ {X U V W : Type 0} (A : X → U → X → Type 0) (B : X → V → X → Type 0) (C : X → W → X → Type 0) (D : X → X → Type 0) where
  pub each_thrice : (ps : List X) (us : List U) (qs : List X) (vs : List V) (rs : List X) (ws : List W) (ss : List X)
      → (0 < length ps → (p : X) (u : U) (q : X) (v : V) (r : X) (w : W) (s : X) → A p u q → B q v r → C r w s → D p s)
      → Each A ps us qs → Each B qs vs rs → Each C rs ws ss → Each (λ p _ s. D p s) ps ps ss
  each_thrice [] us qs vs rs ws ss all a b c =
      let m = ap length a.1 in
      let n = each_length B qs vs rs b in
      let o = each_length C rs ws ss c in
      (refl, no_more ss (omega arith))
    where
      no_more : (xs : List X) → length xs ≡ 0 → xs ≡ []
      no_more [] e = refl
      no_more (x ∷ xs) e = absurd (omega arith)
  each_thrice (p ∷ ps) [] qs vs rs ws ss all a b c = absurd a
  each_thrice (p ∷ ps) (u ∷ us) [] vs rs ws ss all a b c = absurd a
  each_thrice (p ∷ ps) (u ∷ us) (q ∷ qs) [] rs ws ss all a b c = absurd b
  each_thrice (p ∷ ps) (u ∷ us) (q ∷ qs) (v ∷ vs) [] ws ss all a b c = absurd b
  each_thrice (p ∷ ps) (u ∷ us) (q ∷ qs) (v ∷ vs) (r ∷ rs) [] ss all a b c = absurd c
  each_thrice (p ∷ ps) (u ∷ us) (q ∷ qs) (v ∷ vs) (r ∷ rs) (w ∷ ws) [] all a b c = absurd c
  each_thrice (p ∷ ps) (u ∷ us) (q ∷ qs) (v ∷ vs) (r ∷ rs) (w ∷ ws) (s ∷ ss) all a b c =
      let one = all (omega arith) in
      (one p u q v r w s a.0 b.0 c.0, each_thrice ps us qs vs rs ws ss (λ _. one) a.1 b.1 c.1)
