-- A rising list of ids, into which one is put or out of which one is taken.
use Rattle.std.proofs.Common.{◌≡◌, ◌≢◌, ◌==◌, ℕ, zero, suc, ◌<◌, ◌≤◌, List, [], ◌∷◌, length, filter, get_or, Bool, true, false, ◌||◌, ◌&&◌, Ok, Err, cond, IsTrue}
use Rattle.std.proofs.Common.{refl, sym, ◌∙◌, ap, subst, eqb-true, ne_eqb, ⊎_elim, arith}
use Rattle.std.specs.List.{All, AllPairs, insert, remove}
use Rattle.std.specs.List.Sorted.{IsBinarySearchResult}
use Rattle.std.specs.Ordering.{nat_cmp}
use Rattle.std.proofs.lemmas.List.Sorted.{searched}
use Rattle.graph_meaning.proofs.Membership.{has_id-filter}
use Rattle.std.proofs.lemmas.Bool.{false≢true, cases_lt, cases_eq, or_cases}
use Rattle.std.proofs.lemmas.List.Elements.{All-filter, filter_passes}
use Rattle.std.proofs.lemmas.List.Kept.{AllPairs-filter}
use Rattle.graph_meaning.specs.Reach.{has_id}
use Rattle.minor_gc.proofs.Keeping.{all_has}

-- ids that rise
abbrev pub Rises : List ℕ → Type 0
Rises ids = AllPairs (λ x y. x < y) ids

pub rises-tail : (y : ℕ) (ids : List ℕ) → Rises (y ∷ ids) → Rises ids
rises-tail y ids rise i j d less h = rise (suc i) (suc j) d (omega arith) (omega arith)

pub rises-head : (y : ℕ) (ids : List ℕ) → Rises (y ∷ ids) → All (λ x. y < x) ids
rises-head y ids rise k d h = rise 0 (suc k) d (omega arith) (omega arith)

pub rises-filter : (p : ℕ → Bool) (ids : List ℕ) → Rises ids → Rises (filter p ids)
rises-filter p ids rise = AllPairs-filter (λ x y. x < y) p ids rise

pub non_decreasing : (ids : List ℕ) → Rises ids → (i j : ℕ) → i ≤ j → j < length ids → get_or ids i 0 ≤ get_or ids j 0
non_decreasing ids rise i j le h = ⊎_elim
    (λ (same : i ≡ j). subst (λ k. get_or ids i 0 ≤ get_or ids k 0) same (omega arith))
    (λ apart. let less = rise i j 0 (omega arith) h in omega arith)
    (cases_eq i j)

-- a number that stands at no place of the list
pub none_has : (ids : List ℕ) (id : ℕ) → ((k : ℕ) → k < length ids → get_or ids k 0 ≢ id) → has_id ids id ≡ false
none_has [] id none = refl
none_has (x ∷ ids) id none =
    ap (λ b. b || has_id ids id) (ne_eqb x id (none 0 (omega arith))) ∙ none_has ids id (λ k h. none (suc k) (omega arith))

-- what a test says of the head of a list
pub filter-in : (p : ℕ → Bool) (x : ℕ) (xs : List ℕ) → p x ≡ true → filter p (x ∷ xs) ≡ x ∷ filter p xs
filter-in p x xs e = ap (λ b. cond b (x ∷ filter p xs) (filter p xs)) e

pub filter-out : (p : ℕ → Bool) (x : ℕ) (xs : List ℕ) → p x ≡ false → filter p (x ∷ xs) ≡ filter p xs
filter-out p x xs e = ap (λ b. cond b (x ∷ filter p xs) (filter p xs)) e

module _ (id : ℕ) (was is : ℕ → Bool) (same : (x : ℕ) → (x == id) ≡ false → was x ≡ is x) where
  -- behind the id both tests agree
  same_above : (ids : List ℕ) → All (λ x. id < x) ids → filter was ids ≡ filter is ids
  same_above [] above = refl
  same_above (x ∷ ids) above =
      let low = above 0 x (omega arith) in
      let agree : was x ≡ is x = same x (ne_eqb x id (λ e. omega arith)) in
      ap (λ b. cond b (x ∷ filter was ids) (filter was ids)) agree
      ∙ ap (λ l. cond (is x) (x ∷ l) l) (same_above ids (λ k d h. above (suc k) d (omega arith)))

  -- where the id is in a list that rises and isn't its head, the head is below it
  head_below : (x : ℕ) (ids : List ℕ) → Rises (x ∷ ids) → IsTrue (has_id (x ∷ ids) id) → x ≢ id → (x < id) × IsTrue (has_id ids id)
  head_below x ids rise has apart =
      let rest : has_id ids id ≡ true = ⊎_elim (λ e. absurd (apart (eqb-true x id e))) (λ r. r) (or_cases _ _ has) in
      (all_has (λ y. x < y) ids (rises-head x ids rise) id rest, rest)

  -- An edit of the list at a place makes what passes the first test into what passes the second, where it does so at the
  -- id and leaves what is below it.
  module _ (edit : List ℕ → ℕ → List ℕ) (At : List ℕ → ℕ → Type 0)
      (below : (x place : ℕ) (xs ys : List ℕ) → x < id → At (x ∷ xs) place → ((j : ℕ) → At xs j → edit xs j ≡ ys) → edit (x ∷ xs) place ≡ x ∷ ys)
      (here : (ids : List ℕ) (place : ℕ) → All (λ x. id < x) ids → At (filter was (id ∷ ids)) place → edit (filter was (id ∷ ids)) place ≡ filter is (id ∷ ids)) where
    edit_is : (ids : List ℕ) (place : ℕ) → Rises ids → IsTrue (has_id ids id) → At (filter was ids) place → edit (filter was ids) place ≡ filter is ids
    edit_is [] place rise has at = absurd (false≢true has)
    edit_is (x ∷ ids) place rise has at =
        ⊎_elim at_head (λ apart. behind apart (λ j. edit_is ids j (rises-tail x ids rise) (head_below x ids rise has apart).1)) (cases_eq x id)
      where
        at_head : x ≡ id → edit (filter was (x ∷ ids)) place ≡ filter is (x ∷ ids)
        at_head e =
            let above : All (λ y. id < y) ids = subst (λ z. All (λ y. z < y) ids) e (rises-head x ids rise) in
            let place_of = λ (z : ℕ). At (filter was (z ∷ ids)) place in
            subst (λ z. edit (filter was (z ∷ ids)) place ≡ filter is (z ∷ ids)) (sym e) (here ids place above (subst place_of e at))

        behind : x ≢ id → ((j : ℕ) → At (filter was ids) j → edit (filter was ids) j ≡ filter is ids) → edit (filter was (x ∷ ids)) place ≡ filter is (x ∷ ids)
        behind apart more = go (was x) refl
          where
            agree : was x ≡ is x
            agree = same x (ne_eqb x id apart)

            go : (b : Bool) → was x ≡ b → edit (filter was (x ∷ ids)) place ≡ filter is (x ∷ ids)
            go true e =
                let first = filter-in was x ids e in
                let low = (head_below x ids rise has apart).0 in
                ap (λ l. edit l place) first
                ∙ below x place (filter was ids) (filter is ids) low (subst (λ l. At l place) first at) more
                ∙ sym (filter-in is x ids (sym agree ∙ e))
            go false e =
                let first = filter-out was x ids e in
                ap (λ l. edit l place) first ∙ more place (subst (λ l. At l place) first at) ∙ sym (filter-out is x ids (sym agree ∙ e))

  -- ---- the id is put in

  -- the place of the id in a list that rises
  abbrev IsPlace : List ℕ → ℕ → Type 0
  IsPlace xs place = (place ≤ length xs) × ((k : ℕ) → k < place → get_or xs k 0 < id) × ((k : ℕ) → place ≤ k → k < length xs → id < get_or xs k 0)

  put_below : (x place : ℕ) (xs ys : List ℕ) → x < id → IsPlace (x ∷ xs) place → ((j : ℕ) → IsPlace xs j → insert xs j id ≡ ys) → insert (x ∷ xs) place id ≡ x ∷ ys
  put_below x zero xs ys low at more = let high = at.2 0 (omega arith) (omega arith) in absurd (omega arith)
  put_below x (suc j) xs ys low at more =
      ap (λ l. x ∷ l) (more j (omega arith, λ k h. at.1 (suc k) (omega arith), λ k le h. at.2 (suc k) (omega arith) (omega arith)))

  put_at : (ids : List ℕ) (place : ℕ) → All (λ x. id < x) ids → IsPlace ids place → insert ids place id ≡ id ∷ ids
  put_at ids zero above at = refl
  put_at ids (suc place) above at =
      let high = above 0 0 (omega arith) in
      let low = at.1 0 (omega arith) in
      absurd (omega arith)

  put_here : was id ≡ false → is id ≡ true → (ids : List ℕ) (place : ℕ) → All (λ x. id < x) ids → IsPlace (filter was (id ∷ ids)) place → insert (filter was (id ∷ ids)) place id ≡ filter is (id ∷ ids)
  put_here fails passes ids place above at =
      let first = filter-out was id ids fails in
      ap (λ l. insert l place id) first
      ∙ put_at (filter was ids) place (All-filter was (λ y. id < y) ids above) (subst (λ l. IsPlace l place) first at)
      ∙ ap (λ l. id ∷ l) (same_above ids above)
      ∙ sym (filter-in is id ids passes)

  -- ---- it is taken out

  abbrev StandsAt : List ℕ → ℕ → Type 0
  StandsAt xs place = (place < length xs) × (get_or xs place 0 ≡ id)

  take_below : (x place : ℕ) (xs ys : List ℕ) → x < id → StandsAt (x ∷ xs) place → ((j : ℕ) → StandsAt xs j → remove xs j ≡ ys) → remove (x ∷ xs) place ≡ x ∷ ys
  take_below x zero xs ys low at more = let its = at.1 in absurd (omega arith)
  take_below x (suc j) xs ys low at more = ap (λ l. x ∷ l) (more j (omega arith, at.1))

  take_at : (ids : List ℕ) (place : ℕ) → All (λ x. id < x) ids → StandsAt (id ∷ ids) place → remove (id ∷ ids) place ≡ ids
  take_at ids zero above at = refl
  take_at ids (suc place) above at =
      let high = above place 0 (omega arith) in
      let its = at.1 in
      absurd (omega arith)

  take_here : was id ≡ true → is id ≡ false → (ids : List ℕ) (place : ℕ) → All (λ x. id < x) ids → StandsAt (filter was (id ∷ ids)) place → remove (filter was (id ∷ ids)) place ≡ filter is (id ∷ ids)
  take_here passes fails ids place above at =
      let first = filter-in was id ids passes in
      ap (λ l. remove l place) first
      ∙ take_at (filter was ids) place (All-filter was (λ y. id < y) ids above) (subst (λ l. StandsAt l place) first at)
      ∙ same_above ids above
      ∙ sym (filter-out is id ids fails)

  -- ---- by what a binary search found

  module _ (ids : List ℕ) (rise : Rises ids) (has : IsTrue (has_id ids id)) (xs : List ℕ) (list : xs ≡ filter was ids) (place : ℕ) where
    up : (i j : ℕ) → i ≤ j → j < length xs → get_or xs i 0 ≤ get_or xs j 0
    up = subst (λ l. (i j : ℕ) → i ≤ j → j < length l → get_or l i 0 ≤ get_or l j 0) (sym list) (non_decreasing (filter was ids) (rises-filter was ids rise))

    pub put_searched : was id ≡ false → is id ≡ true → IsBinarySearchResult (λ y. nat_cmp y id) xs (Err place) → insert xs place id ≡ filter is ids
    put_searched fails passes search =
        let at : IsPlace xs place = searched xs id (Err place) search up in
        ap (λ l. insert l place id) list ∙ edit_is (λ l j. insert l j id) IsPlace put_below (put_here fails passes) ids place rise has (subst (λ l. IsPlace l place) list at)

    -- what fails the test isn't found
    pub not_found : was id ≡ false → IsBinarySearchResult (λ y. nat_cmp y id) xs (Ok place) → ⊥
    not_found fails search =
        let at : StandsAt xs place = searched xs id (Ok place) search up in
        let passed : was (get_or xs place 0) ≡ true = subst (λ l. place < length l → was (get_or l place 0) ≡ true) (sym list) (filter_passes was ids place 0) at.0 in
        false≢true (sym fails ∙ ap was (sym at.1) ∙ passed)

    pub take_searched : was id ≡ true → is id ≡ false → IsBinarySearchResult (λ y. nat_cmp y id) xs (Ok place) → remove xs place ≡ filter is ids
    take_searched passes fails search =
        let at : StandsAt xs place = searched xs id (Ok place) search up in
        ap (λ l. remove l place) list ∙ edit_is remove StandsAt take_below (take_here passes fails) ids place rise has (subst (λ l. StandsAt l place) list at)

    -- what passes it is found
    pub is_found : was id ≡ true → IsBinarySearchResult (λ y. nat_cmp y id) xs (Err place) → ⊥
    is_found passes search =
        let at : IsPlace xs place = searched xs id (Err place) search up in
        let apart : (k : ℕ) → k < length xs → get_or xs k 0 ≢ id = λ k h. ⊎_elim
        (λ before. let low = at.1 k before in λ e. omega arith)
        (λ after. let high = at.2 k after h in λ e. omega arith)
        (cases_lt k place) in
        false≢true (sym (none_has xs id apart) ∙ ap (λ l. has_id l id) list ∙ has_id-filter was ids id ∙ ap (λ b. b && has_id ids id) passes ∙ has)
