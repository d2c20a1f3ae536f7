-- Canonical paths: where there is one, and that it is a path.
use Rattle.std.proofs.Common.{◌≡◌, ℕ, zero, suc, ◌+◌, ◌-◌, ◌≤◌, Bool, true, false, not, ◌&&◌, ◌||◌, cond, ⊎_elim, List, [], ◌∷◌, ◌++◌, length, map}
use Rattle.std.proofs.Common.{get_or, sym, ap, refl, subst, ◌∙◌, arith, IsTrue, ◌==◌, All, eqb-true, Option, None, Some}
use Rattle.std.specs.Prelude.{find}
use Rattle.std.specs.List.{list_any, flat_map, filter_map, cons_option, enumerate_from}
use Rattle.std.specs.Option.{is_some, option_map, option_map_or, option_or, option_and_then}
use Rattle.std.proofs.lemmas.Bool.{or_cases, and_parts, and_from, false≢true, false_from_ne_true}
use Rattle.std.proofs.lemmas.List.Elements.{All-nil, All-cons, All-weaker, All-map, All-append, Contains-get_or}
use Rattle.std.proofs.lemmas.Option.{option_and_then_some}
use Rattle.std.proofs.lemmas.List.{map-append}
use Rattle.graph_meaning.specs.declared.paths.PathStep.{PathStep}
use Rattle.graph_meaning.specs.Heap.{Slot, Object, Table, Heap, empty_slot, object_at, kind_at, edge_of, numbered_edge, edges_of, edges, edge_at, targets}
use Rattle.graph_meaning.specs.Reach.{Graph, has_id, within, reached_nodes, level, distance, predecessor}
use Rattle.graph_meaning.specs.Assertions.{is_owned, open_graph, object_graph, root_ids, owner_ids, owner_targets, under_owners}
use Rattle.graph_meaning.specs.Paths.{Way, PathSearch, way_by_edge, way_on_to, way_ends, root_way, owner_way, root_ways, owner_ways, search_graph, way_at, canonical_way, plain_way, unowned_way}
use Rattle.graph_meaning.specs.Paths.{start_of, LeadsAlong, IsWay}
use Rattle.graph_meaning.specs.Laws.{CanonicalExists, CanonicalIsWay, SourcesAreWays, TracedHasPath, MetHasPath}
use Rattle.graph_meaning.proofs.Membership.{has_id-Contains, has_id-filter, has_id-from_list_any, list_any-map, list_any-from_has_id, is_some-find}
use Rattle.graph_meaning.proofs.Distances.{find_All, find-range_first, within-along, distance_within, is_some-distance}
use Rattle.graph_meaning.proofs.Tracing.{traced_is_reached, met_has_level}

-- what is found passes, and is an element
find_passes : {X : Type 0} (p : X → Bool) (xs : List X) (x : X) → find p xs ≡ Some x → p x ≡ true
find_passes p [] x found = absurd (cc)
find_passes {X} p (z ∷ xs) x found = go (p z) refl (find_passes p xs x) found
  where
    go : (b : Bool) → p z ≡ b → (find p xs ≡ Some x → p x ≡ true) → cond b (Some z) (find p xs) ≡ Some x → p x ≡ true
    go true here later found = let e : z ≡ x = cc in ap p (sym e) ∙ here
    go false here later found = later found

find_has_id : (p : ℕ → Bool) (xs : List ℕ) (x : ℕ) → find p xs ≡ Some x → has_id xs x ≡ true
find_has_id p xs x found = find_All p (λ y. has_id xs y ≡ true) xs x (λ k d within. All-elements xs k d within) found
  where
    All-elements : (ys : List ℕ) → All (λ y. has_id ys y ≡ true) ys
    All-elements ys k d within = (has_id-Contains ys (get_or ys k d)).1 (Contains-get_or ys k d within)

some_of : {X : Type 0} (o : Option X) → is_some o ≡ true → (x : X) × (o ≡ Some x)
some_of None at = absurd (false≢true at)
some_of (Some x) at = (x, refl)

and_then_at : {A B : Type 0} (f : A → Option B) (o : Option A) (x : A) → o ≡ Some x → option_and_then f o ≡ f x
and_then_at f o x same = ap (option_and_then f) same

some_and_then : {A B : Type 0} (f : A → Option B) (o : Option A) (x : A) → o ≡ Some x → is_some (f x) ≡ true → is_some (option_and_then f o) ≡ true
some_and_then f o x same some = ap is_some (and_then_at f o x same) ∙ some

some_map : {A B : Type 0} (f : A → B) (o : Option A) (x : A) → o ≡ Some x → is_some (option_map f o) ≡ true
some_map f o x same = ap (λ u. is_some (option_map f u)) same

-- ---- levels

module _ (g : Graph) (sources : List ℕ) where
  level-within : (n y : ℕ) → IsTrue (has_id (level g sources n) y) → IsTrue (has_id (within g sources n) y)
  unfolding level
  level-within zero y at = at
  level-within (suc n) y at =
      (and_parts _ _ (sym (has_id-filter (λ z. not (has_id (within g sources n) z)) (within g sources (suc n)) y) ∙ at)).1

  -- the least round that has it is its level
  distance-level : (n y : ℕ) → distance g sources y ≡ Some n → IsTrue (has_id (level g sources n) y)
  unfolding level distance
  distance-level zero y found = distance_within g sources y zero found
  distance-level (suc n) y found =
      has_id-filter (λ z. not (has_id (within g sources n) z)) (within g sources (suc n)) y
      ∙ and_from _ _
      (ap not
      (false_from_ne_true _
      (λ at. let early : suc n ≤ n = find-range_first (λ k. has_id (within g sources k) y) 0 (suc (length g.nodes)) (suc n) found n (omega arith) at in
      absurd (omega arith)))) (distance_within g sources y (suc n) found)

  -- an edge leads to what is of a level beyond the first from a passable node of the level before
  level-last : (n y : ℕ) → IsTrue (has_id (level g sources (suc n)) y) → IsTrue (list_any (λ x. g.passable x && has_id (g.targets x) y) (level g sources n))
  unfolding level within
  level-last n y at =
      let both = and_parts _ _ (sym (has_id-filter (λ z. not (has_id (within g sources n) z)) (within g sources (suc n)) y) ∙ at) in
      let before = within g sources n in
      let grown = and_parts _ _ (sym (has_id-filter (λ z. has_id before z || list_any (λ x. g.passable x && has_id (g.targets x) z) before) g.nodes y) ∙ both.1) in
      ⊎_elim
      (λ old. absurd (false≢true (sym (ap not old) ∙ both.0)))
      (λ beyond.
      let step = has_id-from_list_any (λ x. g.passable x && has_id (g.targets x) y) before beyond in
      list_any-from_has_id (λ x. g.passable x && has_id (g.targets x) y) (level g sources n) step.0 (same_level n step.0 step.1 (and_parts _ _ step.2) grown.1 both.0) step.2)
      (or_cases _ _ grown.0)
    where
      same_level : (m x : ℕ) → IsTrue (has_id (within g sources m) x) → IsTrue (g.passable x) × IsTrue (has_id (g.targets x) y) →
          IsTrue (has_id g.nodes y) → IsTrue (not (has_id (within g sources m) y)) → IsTrue (has_id (level g sources m) x)
      same_level zero x at edge node new = at
      same_level (suc m) x at edge node new =
          has_id-filter (λ z. not (has_id (within g sources m) z)) (within g sources (suc m)) x
          ∙ and_from _ _ (ap not (false_from_ne_true _ (λ early. false≢true (sym (ap not (within-along g sources m x y early edge.0 (edge.1, node))) ∙ new)))) at

-- ---- where there is a canonical path

module _ (s : PathSearch) where
  abbrev g : Graph
  g = search_graph s

  on_to-to : (y : ℕ) (v w : Way) → way_on_to s.table y v ≡ Some w → w.to ≡ y
  on_to-to y v w found = go (find (λ e. e.1 == y) (edges s.table v.to)) refl found
    where
      go : (o : Option (ℕ × ℕ)) → find (λ e. e.1 == y) (edges s.table v.to) ≡ o → option_map (way_by_edge s.table v) o ≡ Some w → w.to ≡ y
      go None last found = absurd (cc)
      go (Some e) last found =
          let same : way_by_edge s.table v e ≡ w = cc in
          ap (λ (u : Way). u.to) (sym same) ∙ eqb-true e.1 y (find_passes (λ d. d.1 == y) (edges s.table v.to) e last)

  pub way_at-to : (n y : ℕ) (w : Way) → way_at s n y ≡ Some w → w.to ≡ y
  unfolding way_at
  way_at-to zero y w found = eqb-true w.to y (find_passes (λ u. u.to == y) s.sources w found)
  way_at-to (suc n) y w found =
      option_and_then_some (way_on_to s.table y) (option_and_then (way_at s n) (predecessor g (way_ends s.sources) n y)) w found (λ v before last. on_to-to y v w last)

  way_at-exists : (n y : ℕ) → IsTrue (has_id (level g (way_ends s.sources) n) y) → IsTrue (is_some (way_at s n y))
  unfolding way_at predecessor level within
  way_at-exists zero y at =
      is_some-find (λ w. w.to == y) s.sources ∙ sym (list_any-map (λ x. x == y) (λ (w : Way). w.to) s.sources) ∙ (and_parts _ _ (sym (has_id-filter (has_id (way_ends s.sources)) g.nodes y) ∙ at)).0
  way_at-exists (suc n) y at =
      let p = λ (x : ℕ). g.passable x && has_id (g.targets x) y in
      let least = some_of (find p (level g (way_ends s.sources) n)) (is_some-find p (level g (way_ends s.sources) n) ∙ level-last g (way_ends s.sources) n y at) in
      let before = some_of (way_at s n least.0) (way_at-exists n least.0 (find_has_id p (level g (way_ends s.sources) n) least.0 least.1)) in
      let to_least = way_at-to n least.0 before.0 before.1 in
      let held : IsTrue (has_id (targets s.table before.0.to) y) =
      subst (λ x. IsTrue (has_id (targets s.table x) y)) (sym to_least) (and_parts _ _ (find_passes p (level g (way_ends s.sources) n) least.0 least.1)).1 in
      let edge =
      some_of (find (λ e. e.1 == y) (edges s.table before.0.to)) (is_some-find (λ e. e.1 == y) (edges s.table before.0.to)
      ∙ sym (list_any-map (λ x. x == y) (λ (e : ℕ × ℕ). e.1) (edges s.table before.0.to)) ∙ held) in
      some_and_then (way_on_to s.table y) (option_and_then (way_at s n) (find p (level g (way_ends s.sources) n))) before.0
      (and_then_at (way_at s n) (find p (level g (way_ends s.sources) n)) least.0 least.1 ∙ before.1)
      (some_map (way_by_edge s.table before.0) (find (λ e. e.1 == y) (edges s.table before.0.to)) edge.0 edge.1)

way_at-some : (s : PathSearch) (y : ℕ) (o : Option ℕ) → distance (search_graph s) (way_ends s.sources) y ≡ o → is_some (option_and_then (λ n. way_at s n y) o) ≡ is_some o
way_at-some s y None far = refl
way_at-some s y (Some n) far = way_at-exists s n y (distance-level (search_graph s) (way_ends s.sources) n y far)

pub canonical_exists : CanonicalExists
unfolding canonical_way
canonical_exists t is_shut sources y =
    let s : PathSearch = record { table = t; is_shut = is_shut; sources = sources } in
    way_at-some s y (distance (search_graph s) (way_ends sources) y) refl ∙ is_some-distance (search_graph s) (way_ends sources) y

-- ---- a canonical path is a path

-- the slot with this number, of slots from n on, is the edge
abbrev IsNumbered : ℕ → List Slot → ℕ × ℕ → Type 0
IsNumbered n slots e = (n ≤ e.0) × (edge_of (get_or slots (e.0 - n) empty_slot) ≡ Some e.1)

numbered-later : (n : ℕ) (s : Slot) (slots : List Slot) (e : ℕ × ℕ) → IsNumbered (n + 1) slots e → IsNumbered n (s ∷ slots) e
numbered-later n s slots e at =
    let above = at.0 in
    let next : e.0 - n ≡ suc (e.0 - (n + 1)) = omega arith in
    (omega arith, ap (λ k. edge_of (get_or (s ∷ slots) k empty_slot)) next ∙ at.1)

numbered : (n : ℕ) (slots : List Slot) → All (IsNumbered n slots) (filter_map numbered_edge (enumerate_from n slots))
numbered n [] = All-nil (IsNumbered n [])
numbered n (s ∷ slots) =
    go (edge_of s) refl (All-weaker (IsNumbered (n + 1) slots) (IsNumbered n (s ∷ slots)) (numbered-later n s slots) (filter_map numbered_edge (enumerate_from (n + 1) slots)) (numbered (n + 1) slots))
  where
    go : (o : Option ℕ) → edge_of s ≡ o → All (IsNumbered n (s ∷ slots)) (filter_map numbered_edge (enumerate_from (n + 1) slots)) →
        All (IsNumbered n (s ∷ slots)) (cons_option (option_map (λ y. (n, y)) o) (filter_map numbered_edge (enumerate_from (n + 1) slots)))
    go None here rest = rest
    go (Some y) here rest =
        let first : n - n ≡ 0 = omega arith in
        All-cons (IsNumbered n (s ∷ slots)) (n, y) (filter_map numbered_edge (enumerate_from (n + 1) slots)) (omega arith, ap (λ k. edge_of (get_or (s ∷ slots) k empty_slot)) first ∙ here) rest

-- an edge of an object is the edge by the slot of its number
pub edges-at : (t : Table) (x : ℕ) → All (λ e. edge_at t x e.0 ≡ Some e.1) (edges t x)
edges-at t x = go (object_at t.objects x)
  where
    go : (o : Option Object) → All (λ e. option_map_or (λ u. edge_of (get_or u.slots e.0 empty_slot)) o None ≡ Some e.1) (option_map_or (λ u. edges_of u.slots) o [])
    go None = All-nil _
    go (Some o) =
        All-weaker (IsNumbered 0 o.slots) (λ e. edge_of (get_or o.slots e.0 empty_slot) ≡ Some e.1)
        (λ e at. let same : e.0 - 0 ≡ e.0 = omega arith in ap (λ k. edge_of (get_or o.slots k empty_slot)) (sym same) ∙ at.1) (edges_of o.slots)
        (numbered 0 o.slots)

LeadsAlong-snoc : (t : Table) (x : ℕ) (steps : List PathStep) (y : ℕ) (e : ℕ × ℕ) → LeadsAlong t x steps y → edge_at t y e.0 ≡ Some e.1 →
    LeadsAlong t x (steps ++ record { slot = e.0; id = e.1; kind = kind_at t e.1 } ∷ []) e.1
LeadsAlong-snoc t x [] y e leads edge = (subst (λ z. edge_at t z e.0 ≡ Some e.1) (sym leads) edge, refl, refl)
LeadsAlong-snoc t x (s ∷ steps) y e leads edge = (leads.0, leads.1, LeadsAlong-snoc t s.id steps y e leads.2 edge)

-- a way that goes on by an edge is a way
pub IsWay-way_by_edge : (t : Table) (w : Way) (e : ℕ × ℕ) → IsWay t w → edge_at t w.to e.0 ≡ Some e.1 → IsWay t (way_by_edge t w e)
IsWay-way_by_edge t w e way edge = LeadsAlong-snoc t (start_of w.from) w.steps w.to e way edge

module _ (s : PathSearch) (ways : All (IsWay s.table) s.sources) where
  on_to-way : (y : ℕ) (v w : Way) → IsWay s.table v → way_on_to s.table y v ≡ Some w → IsWay s.table w
  on_to-way y v w way found = go (find (λ e. e.1 == y) (edges s.table v.to)) refl found
    where
      go : (o : Option (ℕ × ℕ)) → find (λ e. e.1 == y) (edges s.table v.to) ≡ o → option_map (way_by_edge s.table v) o ≡ Some w → IsWay s.table w
      go None last found = absurd (cc)
      go (Some e) last found =
          let same : way_by_edge s.table v e ≡ w = cc in
          subst (IsWay s.table) same (IsWay-way_by_edge s.table v e way (find_All (λ d. d.1 == y) (λ d. edge_at s.table v.to d.0 ≡ Some d.1) (edges s.table v.to) e (edges-at s.table v.to) last))

  way_at-way : (n y : ℕ) (w : Way) → way_at s n y ≡ Some w → IsWay s.table w
  unfolding way_at
  way_at-way zero y w found = find_All (λ u. u.to == y) (IsWay s.table) s.sources w ways found
  way_at-way (suc n) y w found =
      let g = search_graph s in
      option_and_then_some (way_on_to s.table y) (option_and_then (way_at s n) (predecessor g (way_ends s.sources) n y)) w found
      (λ v before last.
      option_and_then_some (way_at s n) (predecessor g (way_ends s.sources) n y) v before (λ x least at. on_to-way y v w (way_at-way n x v at) last))

pub canonical_is_way : CanonicalIsWay
unfolding canonical_way
canonical_is_way t is_shut sources y w ways found =
    let s : PathSearch = record { table = t; is_shut = is_shut; sources = sources } in
    option_and_then_some (λ n. way_at s n y) (distance (search_graph s) (way_ends sources) y) w found
    (λ n far at. (way_at-way s ways n y w at, way_at-to s n y w at))

-- ---- source references

All-flat_map : {X Y : Type 0} (P : Y → Type 0) (f : X → List Y) → ((x : X) → All P (f x)) → (xs : List X) → All P (flat_map f xs)
All-flat_map P f each [] = All-nil P
All-flat_map P f each (x ∷ xs) = All-append P (f x) (flat_map f xs) (each x) (All-flat_map P f each xs)

pub sources_are_ways : SourcesAreWays
sources_are_ways h =
    let t = h.table in (
      All-map (λ w. IsWay t w × (length w.steps ≡ 0)) (root_way t) t.roots (λ k d within. (refl, refl)),
      All-flat_map (λ w. IsWay t w × (length w.steps ≡ 1)) (λ o. map (way_by_edge t (owner_way t o)) (edges t o))
          (λ o. All-map (λ w. IsWay t w × (length w.steps ≡ 1)) (way_by_edge t (owner_way t o)) (edges t o)
          (All-weaker (λ e. edge_at t o e.0 ≡ Some e.1)
          (λ e. IsWay t (way_by_edge t (owner_way t o) e) × (length (way_by_edge t (owner_way t o) e).steps ≡ 1))
          (λ e edge. (IsWay-way_by_edge t (owner_way t o) e refl edge, refl)) (edges t o) (edges-at t o)))
          (owner_ids h),
    )

map_after : {X Y Z : Type 0} (f : Y → Z) (g : X → Y) (xs : List X) → map f (map g xs) ≡ map (λ x. f (g x)) xs
map_after f g [] = refl
map_after f g (x ∷ xs) = ap (λ ys. f (g x) ∷ ys) (map_after f g xs)

map-flat_map : {X Y Z : Type 0} (f : Y → Z) (g : X → List Y) (xs : List X) → map f (flat_map g xs) ≡ flat_map (λ x. map f (g x)) xs
map-flat_map f g [] = refl
map-flat_map f g (x ∷ xs) = map-append f (g x) (flat_map g xs) ∙ ap (λ ys. map f (g x) ++ ys) (map-flat_map f g xs)

flat_map_agree : {X Y : Type 0} (f g : X → List Y) → ((x : X) → f x ≡ g x) → (xs : List X) → flat_map f xs ≡ flat_map g xs
flat_map_agree f g agree [] = refl
flat_map_agree f g agree (x ∷ xs) = ap (λ ys. ys ++ flat_map f xs) (agree x) ∙ ap (λ ys. g x ++ ys) (flat_map_agree f g agree xs)

pub ends-root_ways : (t : Table) → way_ends (root_ways t) ≡ root_ids t
ends-root_ways t = map_after (λ (w : Way). w.to) (root_way t) t.roots

pub ends-owner_ways : (h : Heap) → way_ends (owner_ways h) ≡ owner_targets h
ends-owner_ways h =
    let t = h.table in
    map-flat_map (λ (w : Way). w.to) (λ o. map (way_by_edge t (owner_way t o)) (edges t o)) (owner_ids h)
    ∙ flat_map_agree _ _ (λ o. map_after (λ (w : Way). w.to) (way_by_edge t (owner_way t o)) (edges t o)) (owner_ids h)

-- ---- each verdict has its path

is_some-option_or : {X : Type 0} (a b : Option X) → is_some (option_or a b) ≡ (is_some a || is_some b)
is_some-option_or None b = refl
is_some-option_or (Some x) b = refl

or_swap : (a b : Bool) → (a || b) ≡ (b || a)
or_swap true true = refl
or_swap true false = refl
or_swap false true = refl
or_swap false false = refl

pub traced_has_path : TracedHasPath
unfolding plain_way under_owners
traced_has_path h x =
    let t = h.table in
    let nothing = λ (y : ℕ). false in
    let roots = canonical_exists t nothing (root_ways t) x ∙ ap (λ ys. has_id (reached_nodes (object_graph t) ys) x) (ends-root_ways t) in
    let owners = canonical_exists t nothing (owner_ways h) x ∙ ap (λ ys. has_id (reached_nodes (object_graph t) ys) x) (ends-owner_ways h) in
    is_some-option_or (canonical_way t nothing (root_ways t) x) (canonical_way t nothing (owner_ways h) x)
    ∙ ap (λ b. b || is_some (canonical_way t nothing (owner_ways h) x)) roots
    ∙ ap (λ b. has_id (reached_nodes (object_graph t) (root_ids t)) x || b) owners
    ∙ or_swap (has_id (reached_nodes (object_graph t) (root_ids t)) x) (has_id (under_owners h) x)
    ∙ sym (traced_is_reached h x)

pub met_has_path : MetHasPath
unfolding unowned_way
met_has_path h e live =
    let t = h.table in
    canonical_exists t (is_owned h) (root_ways t) e
    ∙ ap (λ ys. has_id (reached_nodes (open_graph t (is_owned h)) ys) e) (ends-root_ways t)
    ∙ sym (is_some-distance (open_graph t (is_owned h)) (root_ids t) e)
    ∙ sym (met_has_level h e live)
