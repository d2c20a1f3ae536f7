-- The edges of an object, slot by slot.
use Rattle.std.proofs.Common.{◌≡◌, ℕ, ◌+◌, ◌<◌, ◌≤◌, List, [], ◌∷◌, ◌++◌, length, take, take_all, get_or, map, ap, refl, ◌∙◌, arith, append-nil}
use Rattle.std.proofs.Common.{length-take, eq-eqb, All, IsTrue, IfSome, Option, None, Some}
use Rattle.std.specs.List.{filter_map, enumerate_from, cons_option}
use Rattle.std.specs.Option.{option_map}
use Rattle.std.proofs.lemmas.Bool.{or_left, or_right}
use Rattle.std.proofs.lemmas.List.{take_more}
use Rattle.std.proofs.lemmas.List.Elements.{filter_map-append, All-nil, All-cons, All-weaker}
use Rattle.graph_meaning.specs.Reach.{has_id}
use Rattle.graph_meaning.specs.Heap.{Slot, empty_slot, edge_of, edges_of, numbered_edge}

enumerate-append : (n : ℕ) (slots : List Slot) (s : Slot) → enumerate_from n (slots ++ s ∷ []) ≡ enumerate_from n slots ++ (n + length slots, s) ∷ []
enumerate-append n [] s = let same : n ≡ n + 0 = omega arith in ap (λ k. (k, s) ∷ []) same
enumerate-append n (x ∷ slots) s =
    let same : (n + 1) + length slots ≡ n + length (x ∷ slots) = omega arith in
    ap (λ xs. (n, x) ∷ xs) (enumerate-append (n + 1) slots s ∙ ap (λ k. enumerate_from (n + 1) slots ++ (k, s) ∷ []) same)

-- one slot more
edges-more : (slots : List Slot) (i : ℕ) → i < length slots → edges_of (take (i + 1) slots) ≡ edges_of (take i slots) ++ cons_option (option_map (λ y. (i, y)) (edge_of (get_or slots i empty_slot))) []
edges-more slots i within =
    let many : 0 + length (take i slots) ≡ i = omega (arith, length-take i slots) in
    ap edges_of (take_more slots i empty_slot within)
    ∙ ap (filter_map numbered_edge) (enumerate-append 0 (take i slots) (get_or slots i empty_slot))
    ∙ filter_map-append numbered_edge (enumerate_from 0 (take i slots)) ((0 + length (take i slots), get_or slots i empty_slot) ∷ [])
    ∙ ap (λ k. edges_of (take i slots) ++ cons_option (numbered_edge (k, get_or slots i empty_slot)) []) many

-- a slot that is an edge
pub edges-edge : (slots : List Slot) (i y : ℕ) → i < length slots → edge_of (get_or slots i empty_slot) ≡ Some y → edges_of (take (i + 1) slots) ≡ edges_of (take i slots) ++ (i, y) ∷ []
edges-edge slots i y within edge =
    edges-more slots i within ∙ ap (λ o. edges_of (take i slots) ++ cons_option (option_map (λ z. (i, z)) o) []) edge

-- a slot that is none
pub edges-none : (slots : List Slot) (i : ℕ) → i < length slots → edge_of (get_or slots i empty_slot) ≡ None → edges_of (take (i + 1) slots) ≡ edges_of (take i slots)
edges-none slots i within none =
    edges-more slots i within
    ∙ ap (λ o. edges_of (take i slots) ++ cons_option (option_map (λ z. (i, z)) o) []) none
    ∙ append-nil (edges_of (take i slots))

-- all slots
pub edges-all : (slots : List Slot) (i : ℕ) → length slots ≤ i → edges_of (take i slots) ≡ edges_of slots
edges-all slots i most = ap edges_of (take_all i slots most)

-- what the edge by a slot leads to is among the targets
abbrev pub LeadsInto : List (ℕ × ℕ) → Slot → Type 0
LeadsInto es s = IfSome (edge_of s) (λ y. IsTrue (has_id (map (λ e. e.1) es) y))

pub edges_lead : (n : ℕ) (slots : List Slot) → All (LeadsInto (filter_map numbered_edge (enumerate_from n slots))) slots
edges_lead n [] = All-nil _
edges_lead n (s ∷ slots) =
    let all = filter_map numbered_edge (enumerate_from n (s ∷ slots)) in
    All-cons (LeadsInto all) s slots (here (edge_of s)) (All-weaker (LeadsInto rest) (LeadsInto all) (λ u. later (edge_of s) (edge_of u)) slots (edges_lead (n + 1) slots))
  where
    rest : List (ℕ × ℕ)
    rest = filter_map numbered_edge (enumerate_from (n + 1) slots)

    here : (o : Option ℕ) → IfSome o (λ y. IsTrue (has_id (map (λ e. e.1) (cons_option (option_map (λ y. (n, y)) o) rest)) y))
    here None = tt
    here (Some y) = or_left _ _ (eq-eqb y y refl)

    later : (o u : Option ℕ) → IfSome u (λ y. IsTrue (has_id (map (λ e. e.1) rest) y)) → IfSome u (λ y. IsTrue (has_id (map (λ e. e.1) (cons_option (option_map (λ y. (n, y)) o) rest)) y))
    later o None held = tt
    later None (Some y) held = held
    later (Some z) (Some y) held = or_right _ _ held
