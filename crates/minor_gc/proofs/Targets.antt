-- What the edges of an object lead to, slot by slot.
use Rattle.std.proofs.Common.{◌≡◌, ◌==◌, ℕ, zero, suc, ◌+◌, ◌<◌, List, [], ◌∷◌, length, map, get_or, Bool, true, false, ◌||◌, cond, IsTrue, Option, None, Some, IfSome}
use Rattle.std.proofs.Common.{refl, sym, ◌∙◌, ap, subst, eqb-true, eq-eqb, ⊎_elim, arith}
use Rattle.std.specs.List.{All, filter_map, enumerate_from, cons_option, list_any, count_by}
use Rattle.std.specs.Option.{option_map, option_map_or}
use Rattle.std.specs.Prelude.{nat_lt}
use Rattle.std.proofs.lemmas.Bool.{false≢true, lt-ltb, or_left, or_right, or_cases}
use Rattle.std.proofs.lemmas.List.Sums.{sum_by-cons}
use Rattle.graph_meaning.specs.Heap.{Slot, Object, Table, object_at, is_live, edge_of, numbered_edge, edges_of, targets}
use Rattle.graph_meaning.specs.Laws.{HoldsLive}
use Rattle.graph_meaning.specs.Reach.{has_id}
use Rattle.graph_meaning.proofs.Distances.{find_All}
use Rattle.minor_gc.specs.Nurseries.{NoneWeak}

-- the slot isn't weak
abbrev pub IsStrong : Slot → Type 0
IsStrong s = s.weak ≡ false

-- no slot of the object is weak
abbrev pub AllStrong : Object → Type 0
AllStrong o = All IsStrong o.slots

-- whether the edge of a slot leads to what passes a test
abbrev pub leads_to : (ℕ → Bool) → Slot → Bool
leads_to p s = option_map_or p (edge_of s) false

abbrev pub ends_from : ℕ → List Slot → List ℕ
ends_from n slots = map (λ e. e.1) (filter_map numbered_edge (enumerate_from n slots))

-- the ends with that of one slot more, which leads here
abbrev with_end : ℕ → Option ℕ → List Slot → List ℕ
with_end n end slots = map (λ e. e.1) (cons_option (option_map (λ z. (n, z)) end) (filter_map numbered_edge (enumerate_from (n + 1) slots)))

-- what holds of whatever the slots hold holds of what an edge leads to
pub edge_in : (P : ℕ → Type 0) (n : ℕ) (slots : List Slot) (y : ℕ) → All (λ s. IfSome s.held P) slots → IsTrue (has_id (ends_from n slots) y) → P y
edge_in P n [] y all has = absurd (false≢true has)
edge_in P n (s ∷ slots) y all has = go s.weak s.held (all 0 s (omega arith)) has (edge_in P (n + 1) slots y (λ k d h. all (suc k) d (omega arith)))
  where
    go : (weak : Bool) (held : Option ℕ) → IfSome held P → IsTrue (has_id (with_end n (edge_of (record { held = held; weak = weak })) slots) y) →
        (IsTrue (has_id (ends_from (n + 1) slots) y) → P y) → P y
    go true held holds has rest = rest has
    go false None holds has rest = rest has
    go false (Some z) holds has rest = ⊎_elim (λ here. subst P (eqb-true z y here) holds) rest (or_cases _ _ has)

-- what a slot that isn't weak holds is the end of an edge
pub slot_end : (n : ℕ) (slots : List Slot) (k y : ℕ) (d : Slot) → All IsStrong slots → k < length slots → (get_or slots k d).held ≡ Some y → IsTrue (has_id (ends_from n slots) y)
slot_end n [] k y d strong h at = absurd (omega arith)
slot_end n (s ∷ slots) zero y d strong h at = go s.weak s.held (strong 0 s (omega arith)) at
  where
    go : (weak : Bool) (held : Option ℕ) → weak ≡ false → held ≡ Some y → IsTrue (has_id (with_end n (edge_of (record { held = held; weak = weak })) slots) y)
    go true held is at = absurd (false≢true (sym is))
    go false None is at = absurd cc
    go false (Some z) is at = let same : z ≡ y = cc in or_left _ _ (eq-eqb z y same)
slot_end n (s ∷ slots) (suc k) y d strong h at = go (edge_of s) (slot_end (n + 1) slots k y d (λ j e l. strong (suc j) e (omega arith)) (omega arith) at)
  where
    go : (o : Option ℕ) → IsTrue (has_id (ends_from (n + 1) slots) y) → IsTrue (has_id (with_end n o slots) y)
    go None rest = rest
    go (Some z) rest = or_right _ _ rest

-- how many ends pass a test, slot by slot
pub count_ends : (p : ℕ → Bool) (n : ℕ) (slots : List Slot) → count_by p (ends_from n slots) ≡ count_by (leads_to p) slots
count_ends p n [] = refl
count_ends p n (s ∷ slots) =
    go (edge_of s) (count_ends p (n + 1) slots) ∙ sym (sum_by-cons (λ (x : Slot). cond (leads_to p x) 1 0) s slots)
  where
    go : (o : Option ℕ) → count_by p (ends_from (n + 1) slots) ≡ count_by (leads_to p) slots → count_by p (with_end n o slots) ≡ cond (option_map_or p o false) 1 0 + count_by (leads_to p) slots
    go None rest = rest ∙ omega arith
    go (Some z) rest = sum_by-cons (λ (x : ℕ). cond (p x) 1 0) z (ends_from (n + 1) slots) ∙ ap (λ m. cond (p z) 1 0 + m) rest

-- ---- in a table

-- the ends of the edges of an object
abbrev pub ends_at : Option Object → List ℕ
ends_at o = map (λ e. e.1) (option_map_or (λ (u : Object). edges_of u.slots) o [])

pub targets_in : (P : ℕ → Type 0) (t : Table) (x y : ℕ) → ((o : Object) → object_at t.objects x ≡ Some o → All (λ s. IfSome s.held P) o.slots) → IsTrue (has_id (targets t x) y) → P y
targets_in P t x y all has = go (object_at t.objects x) refl has
  where
    go : (o : Option Object) → object_at t.objects x ≡ o → IsTrue (has_id (ends_at o) y) → P y
    go None at has = absurd (false≢true has)
    go (Some o) at has = edge_in P 0 o.slots y (all o at) has

-- an edge leads to a live object
pub target_live : (t : Table) → All (λ o. All (HoldsLive t) o.slots) t.objects → (x y : ℕ) → IsTrue (has_id (targets t x) y) → IsTrue (is_live t y)
target_live t live x y has = targets_in (λ z. IsTrue (is_live t z)) t x y (λ o at. find_All (λ u. u.id == x) (λ u. All (HoldsLive t) u.slots) t.objects o live at) has

-- what none of the numbers passes
pub none_pass : (p : ℕ → Bool) (xs : List ℕ) → ((x : ℕ) → IsTrue (has_id xs x) → p x ≡ false) → (list_any p xs ≡ false) × (count_by p xs ≡ 0)
none_pass p [] none = (refl, refl)
none_pass p (x ∷ xs) none =
    let here : p x ≡ false = none x (or_left _ _ (eq-eqb x x refl)) in
    let rest = none_pass p xs (λ y has. none y (or_right _ _ has)) in
    (ap (λ b. b || list_any p xs) here ∙ rest.0, sum_by-cons (λ (y : ℕ). cond (p y) 1 0) x xs ∙ ap (λ b. cond b 1 0 + count_by p xs) here ∙ omega (arith, rest.1))

-- some number passes a test exactly where more than none do
pub any_count : (p : ℕ → Bool) (xs : List ℕ) → list_any p xs ≡ nat_lt 0 (count_by p xs)
any_count p [] = refl
any_count p (x ∷ xs) = go (p x) refl (any_count p xs)
  where
    more : (m : ℕ) → nat_lt 0 (1 + m) ≡ true
    more m = lt-ltb 0 (1 + m) (omega arith)

    go : (b : Bool) → p x ≡ b → list_any p xs ≡ nat_lt 0 (count_by p xs) → (p x || list_any p xs) ≡ nat_lt 0 (count_by p (x ∷ xs))
    go true e rest = ap (λ b. b || list_any p xs) e ∙ sym (ap (nat_lt 0) (sum_by-cons (λ (y : ℕ). cond (p y) 1 0) x xs ∙ ap (λ b. cond b 1 0 + count_by p xs) e) ∙ more (count_by p xs))
    go false e rest = ap (λ b. b || list_any p xs) e ∙ rest ∙ sym (ap (nat_lt 0) (sum_by-cons (λ (y : ℕ). cond (p y) 1 0) x xs ∙ ap (λ b. cond b 1 0 + count_by p xs) e ∙ omega arith))

-- the slots of an object of a table without weak slots are strong
pub object_strong : (t : Table) (x : ℕ) (o : Object) → NoneWeak t → object_at t.objects x ≡ Some o → AllStrong o
object_strong t x o strong at = find_All (λ u. u.id == x) AllStrong t.objects o strong at
