-- How many references all objects have together.
use Rattle.std.proofs.Common.{◌≡◌, ℕ, zero, suc, ◌+◌, ◌<◌, ◌≤◌, Bool, true, false, ◌||◌, cond, ⊎_elim, List, [], ◌∷◌, length, filter, map, get_or}
use Rattle.std.proofs.Common.{sym, ap, refl, subst, arith, ◌==◌, All, AllPairs, eqb-true, eq-eqb, length-append, Option, None, Some}
use Rattle.std.specs.Prelude.{sum_by}
use Rattle.std.specs.List.{flat_map, filter_map, cons_option, enumerate_from}
use Rattle.std.specs.Option.{option_map_or}
use Rattle.std.proofs.lemmas.Bool.{cases_Bool, false≢true}
use Rattle.std.proofs.lemmas.List.{length-map, get_or-map}
use Rattle.std.proofs.lemmas.List.Elements.{All-nil, All-cons, All-head, All-tail, All-weaker}
use Rattle.std.proofs.lemmas.List.Sums.{sum_by-cons, sum_by-le, sum_by-le-sum_by}
use Rattle.std.proofs.lemmas.List.Concat.{length-flat_map}
use Rattle.std.proofs.lemmas.List.FromFn.{length-enumerate_from}
use Rattle.graph_meaning.specs.Heap.{Slot, Object, Table, Heap, object_at, ids, slot_count, numbered_edge, edges_of, edges}
use Rattle.graph_meaning.specs.Assertions.{by_root, by_slot, is_owner, is_traced, scanned_ids, roots_to, slots_to, references, reference_count}
use Rattle.graph_meaning.specs.Laws.{IdsRise, RefsAreBounded}

-- ---- sums

sum_by_agree : {X : Type 0} (f g : X → ℕ) → ((x : X) → f x ≡ g x) → (xs : List X) → sum_by f xs ≡ sum_by g xs
sum_by_agree f g agree [] = refl
sum_by_agree f g agree (x ∷ xs) =
    let e = sum_by-cons f x xs in
    let d = sum_by-cons g x xs in
    let here = agree x in
    let rest = sum_by_agree f g agree xs in
    omega arith

sum_by-plus : {X : Type 0} (f g : X → ℕ) (xs : List X) → sum_by (λ x. f x + g x) xs ≡ sum_by f xs + sum_by g xs
sum_by-plus f g [] = refl
sum_by-plus f g (x ∷ xs) =
    let e = sum_by-cons (λ z. f z + g z) x xs in
    let d = sum_by-cons f x xs in
    let c = sum_by-cons g x xs in
    let rest = sum_by-plus f g xs in
    omega arith

sum_by-none : {X : Type 0} (f : X → ℕ) (xs : List X) → All (λ x. f x ≡ 0) xs → sum_by f xs ≡ 0
sum_by-none f [] all = refl
sum_by-none f (x ∷ xs) all =
    let e = sum_by-cons f x xs in
    let here = All-head (λ z. f z ≡ 0) x xs all in
    let rest = sum_by-none f xs (All-tail (λ z. f z ≡ 0) x xs all) in
    omega arith

-- a sum of sums, in either order
sum_by-swap : {X Y : Type 0} (f : X → Y → ℕ) (xs : List X) (ys : List Y) → sum_by (λ x. sum_by (f x) ys) xs ≡ sum_by (λ y. sum_by (λ x. f x y) xs) ys
sum_by-swap f xs [] = sum_by-none (λ x. 0) xs (λ k d within. refl)
sum_by-swap f xs (y ∷ ys) =
    let here = sum_by_agree (λ x. sum_by (f x) (y ∷ ys)) (λ x. f x y + sum_by (f x) ys) (λ x. sum_by-cons (f x) y ys) xs in
    let parts = sum_by-plus (λ x. f x y) (λ x. sum_by (f x) ys) xs in
    let rest = sum_by-swap f xs ys in
    let e = sum_by-cons (λ z. sum_by (λ x. f x z) xs) y ys in
    omega arith

-- ---- how often elements of a list are one of the others

one_if : Bool → ℕ
one_if true = 1
one_if false = 0

-- rising numbers are equal to a number once at most
equal_once : (a : ℕ) (xs : List ℕ) → AllPairs (λ x y. x < y) xs → sum_by (λ x. one_if (a == x)) xs ≤ 1
unfolding one_if
equal_once a [] rising = omega arith
equal_once a (x ∷ xs) rising =
    let above : All (λ y. x < y) xs = λ k d within. rising zero (suc k) d (omega arith) (omega arith) in
    let rest = equal_once a xs (λ i j d less within. rising (suc i) (suc j) d (omega arith) (omega arith)) in
    let e = sum_by-cons (λ z. one_if (a == z)) x xs in
    ⊎_elim
    (λ here.
    let same : a ≡ x = eqb-true a x here in
    let one : one_if (a == x) ≡ 1 = ap one_if here in
    let none = sum_by-none (λ z. one_if (a == z)) xs (All-weaker (λ y. x < y) (λ y. one_if (a == y) ≡ 0) (λ y less. apart y (subst (λ z. z < y) (sym same) less)) xs above) in
    omega arith)
    (λ fails. let none : one_if (a == x) ≡ 0 = ap one_if fails in omega arith)
    (cases_Bool (a == x))
  where
    apart : (y : ℕ) → a < y → one_if (a == y) ≡ 0
    apart y less = ⊎_elim (λ same. let e : a ≡ y = eqb-true a y same in absurd (omega arith)) (λ fails. ap one_if fails) (cases_Bool (a == y))

length-filter_sum : {X : Type 0} (p : X → Bool) (xs : List X) → length (filter p xs) ≡ sum_by (λ x. one_if (p x)) xs
unfolding one_if
length-filter_sum p [] = refl
length-filter_sum {X} p (x ∷ xs) =
    let e = sum_by-cons (λ z. one_if (p z)) x xs in
    let rest = length-filter_sum p xs in
    let here = go (p x) in
    omega arith
  where
    go : (b : Bool) → length (cond b (x ∷ filter p xs) (filter p xs)) ≡ one_if b + length (filter p xs)
    go true = omega arith
    go false = omega arith

-- rising numbers have all together no more of the elements than there are
matches_le : {X : Type 0} (f : X → ℕ) (ys : List X) (xs : List ℕ) → AllPairs (λ x y. x < y) xs → sum_by (λ x. length (filter (λ y. f y == x) ys)) xs ≤ length ys
matches_le f ys xs rising =
    let e = sum_by_agree (λ x. length (filter (λ y. f y == x) ys)) (λ x. sum_by (λ y. one_if (f y == x)) ys) (λ x. length-filter_sum (λ y. f y == x) ys) xs in
    let swapped = sum_by-swap (λ x y. one_if (f y == x)) xs ys in
    let few = sum_by-le (λ y. sum_by (λ x. one_if (f y == x)) xs) 1 ys (λ k d within. equal_once (f (get_or ys k d)) xs rising) in
    omega arith

sum_by-filter_le : {X : Type 0} (f : X → ℕ) (p : X → Bool) (xs : List X) → sum_by f (filter p xs) ≤ sum_by f xs
sum_by-filter_le f p [] = omega arith
sum_by-filter_le {X} f p (x ∷ xs) = go (p x) (sum_by-filter_le f p xs)
  where
    go : (b : Bool) → sum_by f (filter p xs) ≤ sum_by f xs → sum_by f (cond b (x ∷ filter p xs) (filter p xs)) ≤ sum_by f (x ∷ xs)
    go true rest = let e = sum_by-cons f x xs in let d = sum_by-cons f x (filter p xs) in omega arith
    go false rest = let e = sum_by-cons f x xs in omega arith

sum_by_le_all : {X : Type 0} (f g : X → ℕ) (xs : List X) → All (λ x. f x ≤ g x) xs → sum_by f xs ≤ sum_by g xs
sum_by_le_all f g [] all = omega arith
sum_by_le_all f g (x ∷ xs) all =
    let e = sum_by-cons f x xs in
    let d = sum_by-cons g x xs in
    let here = All-head (λ z. f z ≤ g z) x xs all in
    let rest = sum_by_le_all f g xs (All-tail (λ z. f z ≤ g z) x xs all) in
    omega arith

sum_by-map : {X Y : Type 0} (f : Y → ℕ) (h : X → Y) (xs : List X) → sum_by f (map h xs) ≡ sum_by (λ x. f (h x)) xs
sum_by-map f h [] = refl
sum_by-map f h (x ∷ xs) =
    let e = sum_by-cons f (h x) (map h xs) in
    let d = sum_by-cons (λ z. f (h z)) x xs in
    let rest = sum_by-map f h xs in
    omega arith

-- ---- slots

length-filter_map_le : {X Y : Type 0} (f : X → Option Y) (xs : List X) → length (filter_map f xs) ≤ length xs
length-filter_map_le f [] = omega arith
length-filter_map_le {X} {Y} f (x ∷ xs) = go (f x) (length-filter_map_le f xs)
  where
    go : (o : Option Y) → length (filter_map f xs) ≤ length xs → length (cons_option o (filter_map f xs)) ≤ length (x ∷ xs)
    go None rest = omega arith
    go (Some y) rest = omega arith

edges_of_le : (slots : List Slot) → length (edges_of slots) ≤ length slots
edges_of_le slots =
    let few = length-filter_map_le numbered_edge (enumerate_from 0 slots) in
    let e = length-enumerate_from 0 slots in
    omega arith

-- where ids rise, each object is the one with its id
pub All-at_id : (objects : List Object) → AllPairs (λ x y. x < y) (map (λ o. o.id) objects) → All (λ o. object_at objects o.id ≡ Some o) objects
All-at_id [] rising = All-nil (λ (o : Object). object_at [] o.id ≡ Some o)
All-at_id (o ∷ objects) rising =
    let ids_above : All (λ y. o.id < y) (map (λ u. u.id) objects) = λ k d within. rising zero (suc k) d (omega arith) (omega arith) in
    let above : All (λ u. o.id < u.id) objects = All-from_map objects ids_above in
    let rest = All-at_id objects (λ i j d less within. rising (suc i) (suc j) d (omega arith) (omega arith)) in
    All-cons (λ u. object_at (o ∷ objects) u.id ≡ Some u) o objects (first (o.id == o.id) (eq-eqb o.id o.id refl))
    (λ k d within. later (get_or objects k d) (above k d within) (rest k d within))
  where
    All-from_map : (us : List Object) → All (λ y. o.id < y) (map (λ u. u.id) us) → All (λ u. o.id < u.id) us
    All-from_map us all k d within =
        subst (λ y. o.id < y) (get_or-map (λ (u : Object). u.id) us k d 0 within) (all k 0 (rw length-map within))

    first : (b : Bool) → b ≡ true → cond b (Some o) (object_at objects o.id) ≡ Some o
    first true e = refl
    first false e = absurd (false≢true e)

    later : (u : Object) → o.id < u.id → object_at objects u.id ≡ Some u → object_at (o ∷ objects) u.id ≡ Some u
    later u less at = go (o.id == u.id) (λ same. let e : o.id ≡ u.id = eqb-true o.id u.id same in omega arith) at
      where
        go : (b : Bool) → (b ≡ true → ⊥) → object_at objects u.id ≡ Some u → cond b (Some o) (object_at objects u.id) ≡ Some u
        go true apart at = absurd (apart refl)
        go false apart at = at

-- all objects have together no more edges than slots
edges_le : (t : Table) → IdsRise t → sum_by (λ s. length (edges t s)) (ids t) ≤ slot_count t
edges_le t rise =
    let e = sum_by-map (λ s. length (edges t s)) (λ (o : Object). o.id) t.objects in
    let few = sum_by_le_all (λ (o : Object). length (edges t o.id)) (λ o. length o.slots) t.objects
    (All-weaker (λ o. object_at t.objects o.id ≡ Some o) (λ o. length (edges t o.id) ≤ length o.slots) (λ o at. at_object o at) t.objects (All-at_id t.objects rise.rising)) in
    omega arith
  where
    at_object : (o : Object) → object_at t.objects o.id ≡ Some o → length (edges t o.id) ≤ length o.slots
    at_object o at =
        let e = ap (λ (u : Option Object). length (option_map_or (λ x. edges_of x.slots) u [])) at in
        let few = edges_of_le o.slots in
        omega arith

-- ---- references

refs_are : (h : Heap) (x : ℕ) → reference_count h x ≡ length (filter (λ r. r.1 == x) h.table.roots) + sum_by (λ s. length (filter (λ e. e.1 == x) (edges h.table s))) (scanned_ids h)
unfolding references
refs_are h x =
    let t = h.table in
    let both = length-append (roots_to t x) (flat_map (slots_to t x) (scanned_ids h)) in
    let named = length-map (filter (λ r. r.1 == x) t.roots) (λ r. by_root r.0) in
    let held = length-flat_map (slots_to t x) (scanned_ids h) in
    let slots =
    sum_by_agree (λ s. length (slots_to t x s)) (λ s. length (filter (λ e. e.1 == x) (edges t s))) (λ s. length-map (filter (λ e. e.1 == x) (edges t s)) (λ e. by_slot s e.0)) (scanned_ids h) in
    omega arith

-- as many as there are roots and slots
pub refs_le : (h : Heap) → IdsRise h.table → sum_by (reference_count h) (ids h.table) ≤ length h.table.roots + slot_count h.table
refs_le h rise =
    let t = h.table in
    let named = λ (x : ℕ). length (filter (λ r. r.1 == x) t.roots) in
    let held = λ (x s : ℕ). length (filter (λ e. e.1 == x) (edges t s)) in
    let e = sum_by_agree (reference_count h) (λ x. named x + sum_by (held x) (scanned_ids h)) (refs_are h) (ids t) in
    let parts = sum_by-plus named (λ x. sum_by (held x) (scanned_ids h)) (ids t) in
    let roots = matches_le (λ (r : List ℕ × ℕ). r.1) t.roots (ids t) rise.rising in
    let swapped = sum_by-swap held (ids t) (scanned_ids h) in
    let each = sum_by-le-sum_by (λ s. sum_by (λ x. held x s) (ids t)) (λ s. length (edges t s)) (scanned_ids h) (λ s. matches_le (λ (e : ℕ × ℕ). e.1) (edges t s) (ids t) rise.rising) in
    let fewer = sum_by-filter_le (λ s. length (edges t s)) (λ s. is_traced h s || is_owner h s) (ids t) in
    let all = edges_le t rise in
    omega arith

pub refs_are_bounded : RefsAreBounded
refs_are_bounded h rise limits = let few = refs_le h rise in omega arith
