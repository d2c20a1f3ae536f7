-- A list with an element for each thread, of which the last ones may be missing.
use Rattle.std.proofs.Common.{◌≡◌, ◌<◌, ◌≤◌, ◌-◌, ℕ, zero, suc, List, [], ◌∷◌, ◌++◌, length, map, replicate, get_or, set, refl, sym, ap, ◌∙◌, arith, All, append_assoc, length-append}
use Rattle.std.proofs.lemmas.List.{length-set, length-map, length-replicate, map-append, set-append_left}
use Rattle.std.proofs.lemmas.List.Elements.{All-replicate, All-append}
use Rattle.heap_base.specs.declared.limits.TheConstants.{MOST_THREADS}
use Rattle.region_log.specs.Regions.{for_each_thread}

pub map-replicate : {X Y : Type 0} (f : X → Y) (n : ℕ) (x : X) → map f (replicate n x) ≡ replicate n (f x)
map-replicate f zero x = refl
map-replicate f (suc n) x = λ i. f x ∷ map-replicate f n x i

get_or-padded : {X : Type 0} (xs : List X) (n i : ℕ) (x : X) → get_or (xs ++ replicate n x) i x ≡ get_or xs i x
get_or-padded [] zero i x = refl
get_or-padded [] (suc n) zero x = refl
get_or-padded [] (suc n) (suc i) x = get_or-padded [] n i x
get_or-padded (y ∷ xs) n zero x = refl
get_or-padded (y ∷ xs) n (suc i) x = get_or-padded xs n i x

module _ {X : Type 0} (x : X) where
  pub get_or-for_each_thread : (xs : List X) (i : ℕ) → get_or (for_each_thread x xs) i x ≡ get_or xs i x
  get_or-for_each_thread xs i = get_or-padded xs (MOST_THREADS - length xs) i x

  pub set-for_each_thread : (xs : List X) (i : ℕ) (y : X) → i < length xs → set (for_each_thread x xs) i y ≡ for_each_thread x (set xs i y)
  set-for_each_thread xs i y here =
      set-append_left xs (replicate (MOST_THREADS - length xs) x) i y here ∙ ap (λ n. set xs i y ++ replicate (MOST_THREADS - n) x) (sym (length-set xs i y))

  -- one of the missing ones put there
  pub for_each_thread-push : (xs : List X) → length xs < MOST_THREADS → for_each_thread x (xs ++ x ∷ []) ≡ for_each_thread x xs
  for_each_thread-push xs few =
      let fewer : suc (MOST_THREADS - length (xs ++ x ∷ [])) ≡ MOST_THREADS - length xs = omega (arith, length-append xs (x ∷ [])) in
      append_assoc xs (x ∷ []) (replicate (MOST_THREADS - length (xs ++ x ∷ [])) x) ∙ ap (λ n. xs ++ replicate n x) fewer

  pub length-for_each_thread : (xs : List X) → length xs ≤ MOST_THREADS → length (for_each_thread x xs) ≡ MOST_THREADS
  length-for_each_thread xs few =
      let e = length-append xs (replicate (MOST_THREADS - length xs) x) in
      let r = length-replicate (MOST_THREADS - length xs) x in
      omega arith

  pub map-for_each_thread : {Y : Type 0} (f : X → Y) (xs : List X) → map f (for_each_thread x xs) ≡ for_each_thread (f x) (map f xs)
  map-for_each_thread f xs =
      map-append f xs (replicate (MOST_THREADS - length xs) x)
      ∙ (ap (λ ys. map f xs ++ ys) (map-replicate f (MOST_THREADS - length xs) x)
      ∙ ap (λ n. map f xs ++ replicate (MOST_THREADS - n) (f x)) (sym (length-map xs f)))

  pub All-for_each_thread : (P : X → Type 0) (xs : List X) → P x → All P xs → All P (for_each_thread x xs)
  All-for_each_thread P xs p all = All-append P xs _ all (All-replicate P (MOST_THREADS - length xs) x p)
