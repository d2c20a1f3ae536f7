-- Where a search for an id among the rising ids ends, and what it finds after a change.
use Rattle.std.proofs.Common.{◌≡◌, ℕ, zero, suc, ◌+◌, ◌-◌, ◌<◌, ◌≤◌, ◌≢◌, List, [], ◌∷◌, length, take, drop, length-drop, get_or, Bool, true, false}
use Rattle.std.proofs.Common.{cond, Option, Some, None, refl, sym, ◌∙◌, ap, subst, arith}
use Rattle.std.specs.List.{All, HoldsAt}
use Rattle.std.specs.List.Sorted.{IsNonDecreasingBy, IsPartitionPoint}
use Rattle.std.specs.Ordering.{nat_cmp, ordering_index}
use Rattle.std.specs.declared.cmp.Ordering.TheVariants.{Less, Equal, Greater}
use Rattle.std.specs.Map.{lookup}
use Rattle.std.specs.BTreeMap.{is_at}
use Rattle.std.proofs.lemmas.Cmp.{ranked}
use Rattle.std.proofs.lemmas.Bool.Decides.{nat_tests}
use Rattle.std.proofs.lemmas.List.{get_or_default, get_or-take, get_or-drop, length-take}
use Rattle.std.proofs.lemmas.Option.{same_Some}
use Rattle.object_table.specs.Located.{RisesById}

-- the cell of an id
abbrev pub found : List (ℕ × ℕ) → ℕ → Option ℕ
found ids id = lookup (is_at (nat_cmp id)) ids

rises_tail : (e : ℕ × ℕ) (ids : List (ℕ × ℕ)) → RisesById (e ∷ ids) → RisesById ids
rises_tail e ids rises i j d h l = rises (suc i) (suc j) d (omega arith) (omega arith)

pub found-here : (ids : List (ℕ × ℕ)) (id i : ℕ) (d : ℕ × ℕ) → RisesById ids → i < length ids → (get_or ids i d).0 ≡ id → found ids id ≡ Some (get_or ids i d).1
found-here [] id i d rises h is = absurd (omega arith)
found-here (e ∷ ids) id zero d rises h is = grind (arith, nat_tests)
found-here (e ∷ ids) id (suc i) d rises h is =
    let later : e.0 < (get_or ids i d).0 = rises 0 (suc i) d (omega arith) h in
    let rest : found ids id ≡ Some (get_or ids i d).1 = found-here ids id i d (rises_tail e ids rises) (omega arith) is in
    grind (arith, nat_tests)

-- an entry that stands at a place of the list is what a search for its id finds
pub found-seen : (ids xs : List (ℕ × ℕ)) (id i : ℕ) (x : ℕ × ℕ) → xs ≡ ids → RisesById ids → i < length xs → x ≡ get_or xs i x → x.0 ≡ id → found ids id ≡ Some x.1
found-seen ids xs id i x same rises h at is =
    let there : x ≡ get_or ids i x = at ∙ ap (λ l. get_or l i x) same in
    found-here ids id i x rises (subst (λ l. i < length l) same h) (ap (λ (e : ℕ × ℕ). e.0) (sym there) ∙ is) ∙ ap (λ e. Some e.1) (sym there)

pub found-none : (ids : List (ℕ × ℕ)) (id : ℕ) → All (λ e. e.0 ≢ id) ids → found ids id ≡ None
found-none [] id none = refl
found-none (e ∷ ids) id none =
    let apart : e.0 ≢ id = none 0 e (omega arith) in
    let rest : found ids id ≡ None = found-none ids id (λ k d h. none (suc k) d (omega arith)) in
    grind (arith, nat_tests)

-- ---- a part of the list in which an id stands where it stands at all

pub all_below : (ids : List (ℕ × ℕ)) (id place : ℕ) (x : ℕ × ℕ) → RisesById ids → 0 < place → place ≤ length ids → x ≡ get_or ids (place - 1) x → x.0 < id → All (λ e. e.0 < id) (take place ids)
all_below ids id place x rises some h at below k d within =
    let early : k < place = omega (arith, length-take place ids) in
    let here : get_or (take place ids) k d ≡ get_or ids k x = get_or-take place ids k d early ∙ get_or_default ids k d x (omega arith) in
    let last : (get_or ids (place - 1) x).0 < id = subst (λ (e : ℕ × ℕ). e.0 < id) at below in
    grind (arith, here, last, rises k (place - 1) x, λ (same : k ≡ place - 1). ap (λ j. (get_or ids j x).0) same)

pub all_above : (ids : List (ℕ × ℕ)) (id place : ℕ) (x : ℕ × ℕ) → RisesById ids → x ≡ get_or ids place x → id < x.0 → All (λ e. id < e.0) (drop place ids)
all_above ids id place x rises at above k d within =
    let inside : place + k < length ids = omega (arith, length-drop place ids) in
    let here : get_or (drop place ids) k d ≡ get_or ids (place + k) x = get_or-drop place ids k d ∙ get_or_default ids (place + k) d x inside in
    let first : id < (get_or ids place x).0 = subst (λ (e : ℕ × ℕ). id < e.0) at above in
    grind (arith, here, first, rises place (place + k) x, λ (same : place ≡ place + k). ap (λ j. (get_or ids j x).0) same)

found-after : (ids : List (ℕ × ℕ)) (id begin : ℕ) → All (λ e. e.0 < id) (take begin ids) → found (drop begin ids) id ≡ found ids id
found-after [] id zero below = refl
found-after [] id (suc begin) below = refl
found-after (e ∷ ids) id zero below = refl
found-after (e ∷ ids) id (suc begin) below =
    let first : e.0 < id = below 0 e (omega arith) in
    let rest : found (drop begin ids) id ≡ found ids id = found-after ids id begin (λ k d h. below (suc k) d (omega arith)) in
    grind (arith, nat_tests)

found-before : (ids : List (ℕ × ℕ)) (id end : ℕ) → All (λ e. id < e.0) (drop end ids) → found (take end ids) id ≡ found ids id
found-before [] id zero above = refl
found-before [] id (suc end) above = refl
found-before (e ∷ ids) id zero above = sym (found-none (e ∷ ids) id (λ k d h same. let later = above k d h in omega arith))
found-before (e ∷ ids) id (suc end) above = ap (cond (is_at (nat_cmp id) e.0) (Some e.1)) (found-before ids id end above)

-- Where the ids before it are below and those behind it above, the part tells what the list does.
pub found_within : (ids : List (ℕ × ℕ)) (id begin end : ℕ) → begin ≤ end → All (λ e. e.0 < id) (take begin ids) →
    All (λ e. id < e.0) (drop end ids) → found (take (end - begin) (drop begin ids)) id ≡ found ids id
found_within ids id begin end order below above =
    found-before (drop begin ids) id (end - begin) behind ∙ found-after ids id begin below
  where
    behind : All (λ e. id < e.0) (drop (end - begin) (drop begin ids))
    behind k d h =
        let long : k < length (drop end ids) = omega (arith, length-drop (end - begin) (drop begin ids), length-drop begin ids, length-drop end ids) in
        let there : begin + ((end - begin) + k) ≡ end + k = omega arith in
        let same : get_or (drop (end - begin) (drop begin ids)) k d ≡ get_or (drop end ids) k d =
        get_or-drop (end - begin) (drop begin ids) k d ∙ get_or-drop begin ids ((end - begin) + k) d ∙ ap (λ j. get_or ids j d) there ∙ sym (get_or-drop end ids k d) in
        subst (λ (e : ℕ × ℕ). id < e.0) (sym same) (above k d long)

-- what is found stands in the list
pub found-somewhere : (ids : List (ℕ × ℕ)) (id cell : ℕ) → found ids id ≡ Some cell → (i : ℕ) × (i < length ids) × ((d : ℕ × ℕ) → get_or ids i d ≡ (id, cell))
found-somewhere [] id cell is = absurd cc
found-somewhere (e ∷ ids) id cell is = go (is_at (nat_cmp id) e.0) refl is (found-somewhere ids id cell)
  where
    go : (b : Bool) → is_at (nat_cmp id) e.0 ≡ b → cond b (Some e.1) (found ids id) ≡ Some cell →
        (found ids id ≡ Some cell → (i : ℕ) × (i < length ids) × ((d : ℕ × ℕ) → get_or ids i d ≡ (id, cell))) →
        (i : ℕ) × (i < length (e ∷ ids)) × ((d : ℕ × ℕ) → get_or (e ∷ ids) i d ≡ (id, cell))
    go true here is rest =
        let same : e.0 ≡ id = grind (arith, nat_tests) in
        let at : e.1 ≡ cell = same_Some e.1 cell is in
        (0, omega arith, λ d. ap (λ n. (n, e.1)) same ∙ ap (λ n. (id, n)) at)
    go false apart is rest = let there = rest is in (suc there.0, omega (arith, there.1), there.2)

-- ---- a binary search

-- the comparisons with an id rise along the ids, as a binary search asks
comparisons_rise : (ids : List (ℕ × ℕ)) → RisesById ids → (id : ℕ) → IsNonDecreasingBy (λ e. ordering_index (nat_cmp e.0 id)) ids
comparisons_rise ids rising id i j d le in_range =
    let rise : (get_or ids i d).0 ≤ (get_or ids j d).0 = grind (arith, rising i j d, λ (same : i ≡ j). ap (λ k. (get_or ids k d).0) same) in
    grind (arith, nat_tests)

pub searched_some : (ids xs : List (ℕ × ℕ)) (id key i : ℕ) (x : ℕ × ℕ) → xs ≡ ids → key ≡ id → RisesById ids → i < length ids →
    HoldsAt (λ e. nat_cmp e.0 key ≡ Equal) xs i → x ≡ get_or ids i x → found ids id ≡ Some x.1
searched_some ids xs id key i x same is rises h equal at =
    let here : (get_or ids i x).0 ≡ id = ranked _ _ _ (sym (rw (same, is) at (equal x))) in
    found-here ids id i x rises h here ∙ ap (λ e. Some e.1) (sym at)

pub searched_none : (ids xs : List (ℕ × ℕ)) (id key i : ℕ) → xs ≡ ids → key ≡ id → RisesById ids →
    (IsNonDecreasingBy (λ e. ordering_index (nat_cmp e.0 key)) xs → IsPartitionPoint (λ e. nat_cmp e.0 key ≡ Less) (λ e. nat_cmp e.0 key ≡ Greater) xs i) →
    found ids id ≡ None
searched_none ids xs id key i same is rises parted =
    let there = (rw (same, is) at parted) (comparisons_rise ids rises id) in
    found-none ids id (λ k d h at. grind (arith, nat_tests, there.0 k d, there.1 k d))
