-- Entries in the order of their keys: what an edit at the place of a key, or at the gap for it, does.
use Rattle.std.proofs.Common.{◌≡◌, ℕ, zero, suc, ◌<◌, ◌≤◌, List, [], ◌∷◌, length, take, drop, set, get_or, Some, None, Ordering, Less, Equal, Greater, refl, ◌∙◌, ap, arith}
use Rattle.std.specs.List.{All, AllPairs, HoldsAt, insert, remove}
use Rattle.std.specs.List.Sorted.{IsPartitionPoint}
use Rattle.std.specs.Ordering.{ordering_reverse}
use Rattle.std.specs.Cmp.{IsTotalOrder}
use Rattle.std.specs.Map.{lookup, remove_entry}
use Rattle.std.specs.BTreeMap.{insert_entry, is_at}
use Rattle.std.proofs.lemmas.List.Elements.{All-append, All-cons, All-take, All-drop}
use Rattle.std.proofs.lemmas.List.Kept.{AllPairs-cons}

-- all of the first i, one more, and all of the rest
pub All-insert : {X : Type 0} (P : X → Type 0) (xs : List X) (i : ℕ) (y : X) → All P xs → P y → All P (insert xs i y)
All-insert P xs i y all one = All-append P (take i xs) (y ∷ drop i xs) (All-take P i xs all) (All-cons P y (drop i xs) one (All-drop P i xs all))

module _ {K X : Type 0} {R : K → K → Ordering} (o : IsTotalOrder R) where
  abbrev pub RisesBy : List (K × X) → Type 0
  RisesBy es = AllPairs (λ a b. R a.0 b.0 ≡ Less) es

  -- the keys before place i are below k, and those from it on are above
  abbrev pub IsGap : K → List (K × X) → ℕ → Type 0
  IsGap k es i = IsPartitionPoint (λ e. R k e.0 ≡ Greater) (λ e. R k e.0 ≡ Less) es i

  gap_tail : (k : K) (e : K × X) (es : List (K × X)) (i : ℕ) → IsGap k (e ∷ es) (suc i) → IsGap k es i
  gap_tail k e es i gap = (λ j d l h. gap.0 (suc j) d (omega arith) (omega arith), λ j d l h. gap.1 (suc j) d (omega arith) (omega arith))

  rises_tail : (e : K × X) (es : List (K × X)) → RisesBy (e ∷ es) → RisesBy es
  rises_tail e es rises i j d h l = rises (suc i) (suc j) d (omega arith) (omega arith)

  -- the first key is below one that a later entry has
  above_first : (k : K) (e : K × X) (es : List (K × X)) (i : ℕ) → RisesBy (e ∷ es) → i < length es → HoldsAt (λ f. R k f.0 ≡ Equal) es i → R k e.0 ≡ Greater
  above_first k e es i rises h equal =
      let below : R e.0 (get_or es i e).0 ≡ Less = rises 0 (suc i) e (omega arith) (omega arith) in
      o.congr k (get_or es i e).0 e.0 (equal e) ∙ o.antisymm (get_or es i e).0 e.0 ∙ ap ordering_reverse below

  pub insert_at_gap : (k : K) (v : X) (es : List (K × X)) (i : ℕ) → i ≤ length es → IsGap k es i → insert_entry R es k v ≡ insert es i (k, v)
  insert_at_gap k v [] zero h gap = refl
  insert_at_gap k v [] (suc i) h gap = absurd (omega arith)
  insert_at_gap k v (e ∷ es) zero h gap = rw (gap.1 0 e (omega arith) (omega arith))
  insert_at_gap k v (e ∷ es) (suc i) h gap = rw (gap.0 0 e (omega arith) (omega arith)) (ap (λ l. e ∷ l) (insert_at_gap k v es i (omega arith) (gap_tail k e es i gap)))

  pub insert_at_place : (k : K) (v : X) (es : List (K × X)) (i : ℕ) (d : K × X) → RisesBy es → i < length es →
      HoldsAt (λ e. R k e.0 ≡ Equal) es i → insert_entry R es k v ≡ set es i ((get_or es i d).0, v)
  insert_at_place k v [] i d rises h equal = absurd (omega arith)
  insert_at_place k v (e ∷ es) zero d rises h equal = rw (equal e)
  insert_at_place k v (e ∷ es) (suc i) d rises h equal = rw (above_first k e es i rises (omega arith) equal) (ap (λ l. e ∷ l) (insert_at_place k v es i d (rises_tail e es rises) (omega arith) equal))

  pub remove_at_gap : (k : K) (es : List (K × X)) (i : ℕ) → i ≤ length es → IsGap k es i → remove_entry (is_at (R k)) es ≡ es
  remove_at_gap k [] i h gap = refl
  remove_at_gap k (e ∷ es) zero h gap =
      rw (gap.1 0 e (omega arith) (omega arith)) (ap (λ l. e ∷ l) (remove_at_gap k es zero (omega arith) (λ j d l b. absurd (omega arith), λ j d l b. gap.1 (suc j) d (omega arith) (omega arith))))
  remove_at_gap k (e ∷ es) (suc i) h gap = rw (gap.0 0 e (omega arith) (omega arith)) (ap (λ l. e ∷ l) (remove_at_gap k es i (omega arith) (gap_tail k e es i gap)))

  pub remove_at_place : (k : K) (es : List (K × X)) (i : ℕ) → RisesBy es → i < length es → HoldsAt (λ e. R k e.0 ≡ Equal) es i → remove_entry (is_at (R k)) es ≡ remove es i
  remove_at_place k [] i rises h equal = absurd (omega arith)
  remove_at_place k (e ∷ es) zero rises h equal = rw (equal e)
  remove_at_place k (e ∷ es) (suc i) rises h equal = rw (above_first k e es i rises (omega arith) equal) (ap (λ l. e ∷ l) (remove_at_place k es i (rises_tail e es rises) (omega arith) equal))

  pub lookup-gap : (k : K) (es : List (K × X)) (i : ℕ) → i ≤ length es → IsGap k es i → lookup (is_at (R k)) es ≡ None
  lookup-gap k [] i h gap = refl
  lookup-gap k (e ∷ es) zero h gap =
      rw (gap.1 0 e (omega arith) (omega arith)) (lookup-gap k es zero (omega arith) (λ j d l b. absurd (omega arith), λ j d l b. gap.1 (suc j) d (omega arith) (omega arith)))
  lookup-gap k (e ∷ es) (suc i) h gap = rw (gap.0 0 e (omega arith) (omega arith)) (lookup-gap k es i (omega arith) (gap_tail k e es i gap))

  pub lookup-place : (k : K) (es : List (K × X)) (i : ℕ) (d : K × X) → RisesBy es → i < length es → HoldsAt (λ e. R k e.0 ≡ Equal) es i → lookup (is_at (R k)) es ≡ Some (get_or es i d).1
  lookup-place k [] i d rises h equal = absurd (omega arith)
  lookup-place k (e ∷ es) zero d rises h equal = rw (equal e)
  lookup-place k (e ∷ es) (suc i) d rises h equal = rw (above_first k e es i rises (omega arith) equal) (lookup-place k es i d (rises_tail e es rises) (omega arith) equal)

  pub rises-insert : (k : K) (v : X) (es : List (K × X)) (i : ℕ) → RisesBy es → i ≤ length es → IsGap k es i → RisesBy (insert es i (k, v))
  rises-insert k v [] zero rises h gap = λ i j d l b. absurd (omega arith)
  rises-insert k v [] (suc i) rises h gap = absurd (omega arith)
  rises-insert k v (e ∷ es) zero rises h gap = AllPairs-cons (λ a b. R a.0 b.0 ≡ Less) (k, v) (e ∷ es) (λ j d b. gap.1 j d (omega arith) b) rises
  rises-insert k v (e ∷ es) (suc i) rises h gap =
      let below : R e.0 k ≡ Less = o.antisymm e.0 k ∙ ap ordering_reverse (gap.0 0 e (omega arith) (omega arith)) in
      AllPairs-cons (λ a b. R a.0 b.0 ≡ Less) e (insert es i (k, v))
      (All-insert (λ b. R e.0 b.0 ≡ Less) es i (k, v) (λ j d b. rises 0 (suc j) d (omega arith) (omega arith)) below)
      (rises-insert k v es i (rises_tail e es rises) (omega arith) (gap_tail k e es i gap))
