-- A list of verdicts of which so many of the first carry their paths, one verdict after another.
use Rattle.std.proofs.Common.{◌≡◌, ℕ, zero, suc, ◌+◌, ◌-◌, ◌<◌, Option, None, Some, Bool, true, false, nat_lt, List, [], ◌∷◌, ◌++◌, length, ◌≤◌}
use Rattle.std.proofs.Common.{get_or, map, drop, sym, ap, refl, subst, ◌∙◌, arith}
use Rattle.std.specs.Prelude.{min}
use Rattle.std.specs.List.{slice_get}
use Rattle.std.specs.Option.{IfSome, is_some}
use Rattle.std.proofs.lemmas.List.{append_assoc, append-nil, drop_all, length-map, take_all}
use Rattle.std.proofs.lemmas.Bool.{ltb-true, ltb-false, lt-ltb, le-ltb}
use Rattle.std.proofs.lemmas.Option.{slice_get-get_or}
use Rattle.graph_meaning.specs.declared.collection.Verdict.{Verdict}
use Rattle.graph_meaning.specs.Collecting.{without_paths, first_with_paths}
use Rattle.graph_meaning.specs.Heap.{Heap}
use Rattle.graph_meaning.specs.Roles.{id_at}
use Rattle.object_table.specs.Placed.{PlacedTable}
use Rattle.object_paths.specs.declared.cell_reference.FirstReferences.{FirstReferences}
use Rattle.object_paths.specs.References.{AreFirstReferences, AreFirstOf}
use Rattle.verdict_list.specs.Listed.{verdict_if, GoesOn}
use Rattle.verdict_list.proofs.ByIds.{drop_next}

without_more : (vs : List Verdict) (v : Verdict) → map without_paths (vs ++ v ∷ []) ≡ map without_paths vs ++ without_paths v ∷ []
without_more [] v = refl
without_more (u ∷ vs) v = ap (λ us. without_paths u ∷ us) (without_more vs v)

past_zero : (n : ℕ) → nat_lt n zero ≡ false
past_zero n = le-ltb n zero (omega arith)

less_both : (a b : ℕ) → nat_lt (suc a) (suc b) ≡ nat_lt a b
less_both a b = go (nat_lt a b) refl
  where
    go : (c : Bool) → nat_lt a b ≡ c → nat_lt (suc a) (suc b) ≡ c
    go true is = lt-ltb (suc a) (suc b) (omega (arith, ltb-true a b is))
    go false is = le-ltb (suc a) (suc b) (omega (arith, ltb-false a b is))

-- one verdict more
pub first_more : (n : ℕ) (vs : List Verdict) (v : Verdict) → first_with_paths n (vs ++ v ∷ []) ≡ first_with_paths n vs ++ verdict_if (nat_lt (length vs) n) v ∷ []
unfolding first_with_paths
first_more zero [] v = refl
first_more zero (u ∷ vs) v = rw (past_zero (suc (length vs))) (ap (λ us. without_paths u ∷ us) (without_more vs v))
first_more (suc n) [] v =
    rw (lt-ltb 0 (suc n) (omega arith))
    (ap (λ us. v ∷ us ++ map without_paths (drop n [])) (take_all n [] (omega arith)) ∙ ap (λ us. v ∷ map without_paths us) (drop_all n [] (omega arith)))
first_more (suc n) (u ∷ vs) v = rw (less_both (length vs) n) (ap (λ us. u ∷ us) (first_more n vs v))

pub length-first : (n : ℕ) (vs : List Verdict) → length (first_with_paths n vs) ≡ length vs
unfolding first_with_paths
length-first zero vs = length-map vs without_paths
length-first (suc n) [] = refl
length-first (suc n) (v ∷ vs) = ap suc (length-first n vs)

-- what stands at a place of the front of a list stands there in the list
pub slice_get-front : {X : Type 0} (xs ys : List X) (n : ℕ) (x : X) → slice_get xs n ≡ Some x → slice_get (xs ++ ys) n ≡ Some x
slice_get-front [] ys n x here = absurd (cc)
slice_get-front (y ∷ xs) ys zero x here = here
slice_get-front (y ∷ xs) ys (suc n) x here = slice_get-front xs ys n x here

-- ---- a list that goes on with a verdict on each of these

module _ {X : Type 0} (paths : ℕ) (verdict : X → Verdict) where
  -- The list went on from the old one with the verdicts on all of these but the rest.
  abbrev pub HasGoneOn : List Verdict → List Verdict → List X → List X → Type 0
  HasGoneOn old list rest all =
      (before : List Verdict) → old ≡ first_with_paths paths before → (sofar : List Verdict) × (list ≡ first_with_paths paths sofar) × (sofar ++ map verdict rest ≡ before ++ map verdict all)

  pub begins : (old : List Verdict) (all : List X) → HasGoneOn old old all all
  begins old all before same = (before, same, refl)

  pub goes_by_one : (old list : List Verdict) (x : X) (rest all : List X) (v : Verdict) →
      v ≡ verdict_if (nat_lt (length list) paths) (verdict x) → HasGoneOn old list (x ∷ rest) all → HasGoneOn old (list ++ v ∷ []) rest all
  goes_by_one old list x rest all v is gone before same =
      let (sofar, listed, on) = gone before same in
      let number : length list ≡ length sofar = ap length listed ∙ length-first paths sofar in
      let shown : v ≡ verdict_if (nat_lt (length sofar) paths) (verdict x) = is ∙ ap (λ n. verdict_if (nat_lt n paths) (verdict x)) number in (
        sofar ++ verdict x ∷ [],
        ap (λ us. us ++ v ∷ []) listed ∙ ap (λ u. first_with_paths paths sofar ++ u ∷ []) shown ∙ sym (first_more paths sofar (verdict x)),
        append_assoc sofar (verdict x ∷ []) (map verdict rest) ∙ on,
      )

  pub ends : (old list : List Verdict) (all : List X) → HasGoneOn old list [] all → GoesOn paths old (map verdict all) list
  ends old list all gone before same =
      let (sofar, listed, on) = gone before same in
      listed ∙ ap (first_with_paths paths) (sym (append-nil sofar) ∙ on)

  pub goes_by_nth : (old list : List Verdict) (all : List X) (n : ℕ) (d : X) (v : Verdict) → n < length all →
      v ≡ verdict_if (nat_lt (length list) paths) (verdict (get_or all n d)) → HasGoneOn old list (drop n all) all →
      HasGoneOn old (list ++ v ∷ []) (drop (n + 1) all) all
  goes_by_nth old list all n d v within is gone =
      goes_by_one old list (get_or all n d) (drop (n + 1) all) all v is
      (subst (λ rest. HasGoneOn old list rest all) (drop_next all n (get_or all n d) (slice_get-get_or all n d within)) gone)

  -- the same where a number is that of the verdicts in the list
  pub goes_by_count : (old list : List Verdict) (all : List X) (n : ℕ) (d : X) (v : Verdict) (many : ℕ) → n < length all → many ≡ length list →
      v ≡ verdict_if (nat_lt many paths) (verdict (get_or all n d)) → HasGoneOn old list (drop n all) all →
      HasGoneOn old (list ++ v ∷ []) (drop (n + 1) all) all
  goes_by_count old list all n d v many within number is = goes_by_nth old list all n d v within (is ∙ ap (λ m. verdict_if (nat_lt m paths) (verdict (get_or all n d))) number)

  pub ends_at : (old list : List Verdict) (all : List X) (n : ℕ) → length all ≤ n → HasGoneOn old list (drop n all) all → GoesOn paths old (map verdict all) list
  ends_at old list all n past gone = ends old list all (subst (λ rest. HasGoneOn old list rest all) (drop_all n all past) gone)

-- one part after another
pub goes_on_twice : (paths : ℕ) (old middle new vs ws : List Verdict) → GoesOn paths old vs middle → GoesOn paths middle ws new → GoesOn paths old (vs ++ ws) new
goes_on_twice paths old middle new vs ws first second before same = second (before ++ vs) (first before same) ∙ ap (first_with_paths paths) (assoc before)
  where
    assoc : (us : List Verdict) → (us ++ vs) ++ ws ≡ us ++ (vs ++ ws)
    assoc [] = refl
    assoc (u ∷ us) = ap (λ xs. u ∷ xs) (assoc us)

-- ---- the first references to objects

-- so many of the objects show their paths as fewer are listed before them than show theirs
pub shown_here : (place cells shown paths old list : ℕ) → place < cells → shown ≡ min cells (paths - old) → list ≡ old + place → nat_lt place shown ≡ nat_lt list paths
shown_here place cells shown paths old list within many number = go (nat_lt list paths) refl
  where
    go : (b : Bool) → nat_lt list paths ≡ b → nat_lt place shown ≡ b
    go true is = lt-ltb place shown (omega (arith, ltb-true list paths is, many, within, number))
    go false is = le-ltb place shown (omega (arith, ltb-false list paths is, many, within, number))

pub is_some-slice_get : {X : Type 0} (xs : List X) (n : ℕ) → is_some (slice_get xs n) ≡ nat_lt n (length xs)
is_some-slice_get [] n = sym (past_zero n)
is_some-slice_get (x ∷ xs) zero = sym (lt-ltb 0 (suc (length xs)) (omega arith))
is_some-slice_get (x ∷ xs) (suc n) = is_some-slice_get xs n ∙ sym (less_both n (length xs))

-- the first references to the object in the n-th of these cells, if they are known
pub first_at : (p : PlacedTable) (h : Heap) (cells : List ℕ) (references : List FirstReferences) (n : ℕ) (o : Option FirstReferences) →
    AreFirstOf p h cells references → n < length cells → o ≡ slice_get references n → IfSome o (AreFirstReferences p h (id_at p.cells (get_or cells n 0)))
first_at p h cells references n None first within is = tt
first_at p h cells references n (Some f) first within is = first n (get_or cells n 0) f (slice_get-get_or cells n 0 within) (sym is)

pub refers_at : (p : PlacedTable) (cells : List ℕ) (references : List FirstReferences) (n : ℕ) (o : Option FirstReferences) →
    (h : Heap) × AreFirstOf p h cells references → n < length cells → o ≡ slice_get references n →
    IfSome o (λ f. (h : Heap) × (id : ℕ) × AreFirstReferences p h id f)
refers_at p cells references n None first within is = tt
refers_at p cells references n (Some f) first within is = (first.0, id_at p.cells (get_or cells n 0), first.1 n (get_or cells n 0) f (slice_get-get_or cells n 0 within) (sym is))
