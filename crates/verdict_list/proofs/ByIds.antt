-- What violates an assertion, by cells and by ids.
use Rattle.std.proofs.Common.{◌≡◌, ℕ, zero, suc, ◌+◌, ◌<◌, ◌≤◌, Bool, true, false, ◌&&◌, List, [], ◌∷◌, ◌++◌, length, map, get_or, take, drop, ◌||◌}
use Rattle.std.proofs.Common.{eqb-true, eq-eqb, Option, Some, IsTrue, sym, ap, refl, subst, ◌∙◌, arith}
use Rattle.std.specs.Prelude.{nat_le, ◌==◌, Result, Ok, Err, IfOk}
use Rattle.std.specs.List.{All, filter, slice_get}
use Rattle.std.specs.Option.{IsSome, is_some, option_map_or}
use Rattle.std.proofs.Math.Seq.{drop-cons}
use Rattle.std.proofs.lemmas.Bool.{false≢true, false_from_ne_true}
use Rattle.std.proofs.lemmas.Bool.Decides.{nat_tests}
use Rattle.std.proofs.lemmas.List.{append-nil, length-map}
use Rattle.std.proofs.lemmas.List.Folds.{list_any_at}
use Rattle.std.proofs.lemmas.List.Kept.{AllPairs-filter}
use Rattle.std.proofs.lemmas.List.Elements.{All-contains}
use Rattle.std.proofs.lemmas.Option.{slice_get_within, get_or_from_slice_get, slice_get-get_or}
use Rattle.heap_base.specs.Counting.{IsOnce, times, bit}
use Rattle.graph_meaning.specs.Assertions.{is_traced, traced_ids, reference_count}
use Rattle.graph_meaning.specs.Collecting.{violating_dead, violating_unshared}
use Rattle.graph_meaning.specs.Heap.{Heap, Table, ids, is_live}
use Rattle.graph_meaning.specs.Laws.{RefersToLive, IsOrdered, IdsRise, AllLive}
use Rattle.graph_meaning.specs.Owners.{is_any_set}
use Rattle.graph_meaning.specs.Reach.{has_id}
use Rattle.graph_meaning.specs.Roles.{RoleTable}
use Rattle.graph_meaning.proofs.HeapLemmas.{has_id-ids}
use Rattle.graph_meaning.proofs.Membership.{has_id-filter, has_id-Contains}
use Rattle.object_table.specs.Placed.{PlacedTable, IsPlaced, id_in}
use Rattle.assert_registry.specs.Laws.{StandFor}
use Rattle.assert_registry.proofs.Rising.{Rise, Rise-sorted, Rise-head, Rise-tail, same_rising}
use Rattle.verdict_list.specs.Counts.{CountTable}
use Rattle.verdict_list.specs.Counts.{AreCountsOf}
use Rattle.verdict_list.specs.declared.violating.Assertion.{Assertion}
use Rattle.verdict_list.specs.declared.violating.Assertion.TheVariants.{Dead, Unshared}
use Rattle.verdict_list.specs.Violating.{flags_of, is_violated_in, is_violated_by, violators}

-- ---- in a heap

-- what stands among these is live
live_of : (t : Table) (xs : List ℕ) (y : ℕ) → AllLive t xs → has_id xs y ≡ true → has_id (ids t) y ≡ true
live_of t xs y live at = has_id-ids t y ∙ All-contains (λ x. IsTrue (is_live t x)) xs y live ((has_id-Contains xs y).0 at)

-- the objects of a heap that violate an assertion, by id
pub violating-is : (a : Assertion) (h : Heap) → RefersToLive h → IsOrdered h → IdsRise h.table → violators a h ≡ filter (is_violated_by a h) (ids h.table)
unfolding traced_ids violating_dead violating_unshared
violating-is Dead h refers ordered rise =
    same_rising (filter (has_id (traced_ids h)) h.dead) (filter (is_violated_by Dead h) (ids h.table))
    (AllPairs-filter (λ x y. x < y) (has_id (traced_ids h)) h.dead (Rise-sorted h.dead ordered.dead))
    (AllPairs-filter (λ x y. x < y) (is_violated_by Dead h) (ids h.table) rise.rising)
    (λ y. has_id-filter (has_id (traced_ids h)) h.dead y
    ∙ ap (λ b. b && has_id h.dead y) (has_id-filter (is_traced h) (ids h.table) y)
    ∙ turned (is_traced h y) (has_id (ids h.table) y) (has_id h.dead y)
    ∙ sym (has_id-filter (is_violated_by Dead h) (ids h.table) y))
  where
    turned : (a b c : Bool) → ((a && b) && c) ≡ ((c && a) && b)
    turned true true true = refl
    turned true true false = refl
    turned true false true = refl
    turned true false false = refl
    turned false b true = refl
    turned false b false = refl
violating-is Unshared h refers ordered rise =
    same_rising (filter (λ id. nat_le 2 (reference_count h id)) h.unshared) (filter (is_violated_by Unshared h) (ids h.table))
    (AllPairs-filter (λ x y. x < y) (λ id. nat_le 2 (reference_count h id)) h.unshared (Rise-sorted h.unshared ordered.unshared))
    (AllPairs-filter (λ x y. x < y) (is_violated_by Unshared h) (ids h.table) rise.rising)
    (λ y. has_id-filter (λ id. nat_le 2 (reference_count h id)) h.unshared y
    ∙ turned (nat_le 2 (reference_count h y)) (has_id h.unshared y) (has_id (ids h.table) y) (live_of h.table h.unshared y refers.unshared)
    ∙ sym (has_id-filter (is_violated_by Unshared h) (ids h.table) y))
  where
    turned : (a b c : Bool) → (b ≡ true → c ≡ true) → (a && b) ≡ ((b && a) && c)
    turned true true c live = sym (live refl)
    turned true false c live = refl
    turned false true c live = refl
    turned false false c live = refl

-- by the cell and by the id it is the same
pub violated-agrees : (p : PlacedTable) (r : RoleTable) (t : CountTable) (h : Heap) → StandFor p r h → AreCountsOf p h t →
    (a : Assertion) (cell id : ℕ) → id_in p cell ≡ Some id → is_violated_in a r t cell ≡ is_violated_by a h id
violated-agrees p r t h stand trace Dead cell id held =
    ap (λ b. b && get_or t.kept cell false) (stand.dead cell ∙ ap (λ o. option_map_or (has_id h.dead) o false) held) ∙ ap (λ b. has_id h.dead id && b) (trace.kept cell id held)
violated-agrees p r t h stand trace Unshared cell id held =
    ap (λ b. b && nat_le 2 (t.references cell)) (stand.unshared cell ∙ ap (λ o. option_map_or (has_id h.unshared) o false) held) ∙ ap (λ b. has_id h.unshared id && b) (trace.many cell id held)

unset : (flags : List Bool) (cell : ℕ) → is_any_set flags ≡ false → get_or flags cell false ≡ false
unset [] zero none = refl
unset [] (suc cell) none = refl
unset (true ∷ flags) cell none = cc
unset (false ∷ flags) zero none = refl
unset (false ∷ flags) (suc cell) none = unset flags cell none

all_fail : {X : Type 0} (test : X → Bool) (xs : List X) → All (λ x. test x ≡ false) xs → filter test xs ≡ []
all_fail test [] fails = refl
all_fail test (x ∷ xs) fails = let first : test x ≡ false = fails zero x (omega arith) in rw first (all_fail test xs (λ k d within. fails (suc k) d (omega (arith, within))))

-- where the assertion was made of no object, none violates it
pub none_violated : (p : PlacedTable) (r : RoleTable) (t : CountTable) (h : Heap) → IsPlaced p → StandFor p r h → AreCountsOf p h t →
    (a : Assertion) → is_any_set (flags_of a r) ≡ false → filter (is_violated_by a h) (ids p.table) ≡ []
none_violated p r t h placed stand counts a none = all_fail (is_violated_by a h) (ids p.table) fails
  where
    unasked : (b : Assertion) (cell : ℕ) → is_any_set (flags_of b r) ≡ false → is_violated_in b r t cell ≡ false
    unasked Dead cell none = ap (λ b. b && get_or t.kept cell false) (unset r.dead cell none)
    unasked Unshared cell none = ap (λ b. b && nat_le 2 (t.references cell)) (unset r.unshared cell none)

    fails : All (λ id. is_violated_by a h id ≡ false) (ids p.table)
    fails k d within =
        let id = get_or (ids p.table) k d in
        let live : is_live p.table id ≡ true = sym (has_id-ids p.table id) ∙ list_any_at (λ x. x == id) (ids p.table) k d within (eq-eqb id id refl) in
        let (cell, held) = placed.somewhere id live in
        sym (violated-agrees p r t h stand counts a cell id held) ∙ unasked a cell none

-- ---- cells that were gathered by id

pub drop_next : {X : Type 0} (xs : List X) (n : ℕ) (x : X) → slice_get xs n ≡ Some x → drop n xs ≡ x ∷ drop (n + 1) xs
drop_next xs n x at =
    let next : suc n ≡ n + 1 = omega arith in
    drop-cons xs n x (slice_get_within xs n x at) ∙ ap (λ y. y ∷ drop (suc n) xs) (get_or_from_slice_get xs n x x at) ∙ ap (λ m. x ∷ drop m xs) next

module _ (f : ℕ → Option ℕ) (test : ℕ → Bool) (all : List (Option ℕ)) where
  -- the cells hold those of the objects before the n-th that pass, and with those of the others they hold them all
  abbrev pub AreGathered : List ℕ → List ℕ → ℕ → Type 0
  AreGathered ids cells n = map f cells ++ map Some (filter test (drop n ids)) ≡ all

  pub gather_one : (ids cells : List ℕ) (n cell id : ℕ) → slice_get ids n ≡ Some id → f cell ≡ Some id → test id ≡ true → AreGathered ids cells n → AreGathered ids (cells ++ cell ∷ []) (n + 1)
  gather_one ids cells n cell id at held passes so_far = go cells (filter test (drop (n + 1) ids)) ∙ ap (λ xs. map f cells ++ map Some xs) (sym kept) ∙ so_far
    where
      kept : filter test (drop n ids) ≡ id ∷ filter test (drop (n + 1) ids)
      kept = ap (filter test) (drop_next ids n id at) ∙ rw passes refl

      go : (cs rest : List ℕ) → map f (cs ++ cell ∷ []) ++ map Some rest ≡ map f cs ++ map Some (id ∷ rest)
      go [] rest = ap (λ o. o ∷ map Some rest) held
      go (c ∷ cs) rest = ap (λ xs. f c ∷ xs) (go cs rest)

  pub pass_one : (ids cells : List ℕ) (n id : ℕ) → slice_get ids n ≡ Some id → test id ≡ false → AreGathered ids cells n → AreGathered ids cells (n + 1)
  pass_one ids cells n id at fails so_far = ap (λ xs. map f cells ++ map Some xs) (sym kept) ∙ so_far
    where
      kept : filter test (drop n ids) ≡ filter test (drop (n + 1) ids)
      kept = ap (filter test) (drop_next ids n id at) ∙ rw fails refl

  pub gathered : (ids cells : List ℕ) (n : ℕ) → filter test (drop n ids) ≡ [] → AreGathered ids cells n → map f cells ≡ all
  gathered ids cells n none so_far =
      sym (append-nil (map f cells)) ∙ ap (λ xs. map f cells ++ map Some xs) (sym none) ∙ so_far

-- ---- cells that hold these objects

module _ (f : ℕ → Option ℕ) where
  -- each holds an object
  pub all_held : (cells ids : List ℕ) → map f cells ≡ map Some ids → (n cell : ℕ) → slice_get cells n ≡ Some cell → (id : ℕ) × (slice_get ids n ≡ Some id) × (f cell ≡ Some id)
  all_held [] ids same n cell at = cc
  all_held (c ∷ cells) [] same n cell at = cc
  all_held (c ∷ cells) (x ∷ ids) same zero cell at =
      let e : c ≡ cell = cc in
      let first : f c ≡ Some x = cc in
      (x, refl, ap f (sym e) ∙ first)
  all_held (c ∷ cells) (x ∷ ids) same (suc n) cell at =
      let others : map f cells ≡ map Some ids = cc in
      all_held cells ids others n cell at

-- the object with a number, by id
pub nth_id : (p : PlacedTable) (n cell live : ℕ) → id_in p cell ≡ slice_get (ids p.table) n → n < live → live ≡ length p.table.objects →
    (id : ℕ) × (id_in p cell ≡ Some id) × (slice_get (ids p.table) n ≡ Some id)
nth_id p n cell live same below many =
    let within : n < length (ids p.table) = omega (arith, below, many, length-map p.table.objects (λ o. o.id)) in
    let at = slice_get-get_or (ids p.table) n 0 within in
    (get_or (ids p.table) n 0, same ∙ at, at)

-- ---- cells that hold these objects, one for each

module _ (f : ℕ → Option ℕ) where
  pub all_taken : (cells ids : List ℕ) → map f cells ≡ map Some ids → All (λ cell. IsSome (f cell)) cells
  all_taken cells ids same k d within =
      let (id, at, held) = all_held f cells ids same k (get_or cells k d) (slice_get-get_or cells k d within) in
      ap is_some held

  -- a cell is not among those of other objects
  absent : (cells ids : List ℕ) (y x : ℕ) → map f cells ≡ map Some ids → f y ≡ Some x → has_id ids x ≡ false → times y cells ≡ 0
  absent [] ids y x same held none = refl
  absent (c ∷ cells) [] y x same held none = cc
  absent (c ∷ cells) (id ∷ ids) y x same held none =
      go (c == y) refl (id == x) refl (λ differ. absent cells ids y x (let others : map f cells ≡ map Some ids = cc in others) held (sym (ap (λ e. e || has_id ids x) differ) ∙ none))
    where
      go : (b : Bool) → (c == y) ≡ b → (d : Bool) → (id == x) ≡ d → ((id == x) ≡ false → times y cells ≡ 0) → bit b + times y cells ≡ 0
      go b is true equal rest = absurd (false≢true (sym none ∙ ap (λ e. e || has_id ids x) equal))
      go true is false differ rest =
          let first : f c ≡ Some id = cc in
          let e : Some id ≡ Some x = sym first ∙ ap f (eqb-true c y is) ∙ held in
          let e' : id ≡ x = cc in
          absurd (false≢true (sym differ ∙ subst (λ z. (id == z) ≡ true) e' (grind (arith, nat_tests))))
      go false is false differ rest = let none_times = rest differ in omega (arith, none_times)

  pub once_held : (cells ids : List ℕ) → map f cells ≡ map Some ids → Rise ids → IsOnce cells
  once_held [] ids same rise y = omega arith
  once_held (c ∷ cells) [] same rise y = cc
  once_held (c ∷ cells) (x ∷ ids) same rise y = go (c == y) refl (once_held cells ids (let others : map f cells ≡ map Some ids = cc in others) (Rise-tail x ids rise) y)
    where
      first : f c ≡ Some x
      first = cc

      others : map f cells ≡ map Some ids
      others = cc

      none : has_id ids x ≡ false
      none = false_from_ne_true _ (λ at. let above : x < x = Rise-head x ids rise x at in omega arith)

      go : (b : Bool) → (c == y) ≡ b → times y cells ≤ 1 → bit b + times y cells ≤ 1
      go true is rest =
          let zero_times : times y cells ≡ 0 = absent cells ids y x others (ap f (sym (eqb-true c y is)) ∙ first) none in
          omega (arith, zero_times)
      go false is rest = omega (arith, rest)

-- the violating objects stand by id
pub violating-rise : (a : Assertion) (h : Heap) → RefersToLive h → IsOrdered h → IdsRise h.table → Rise (violators a h)
violating-rise a h refers ordered rise = subst Rise (sym (violating-is a h refers ordered rise)) (AllPairs-filter (λ x y. x < y) (is_violated_by a h) (ids h.table) rise.rising)

-- ---- the first of some cells

pub take_get : {X : Type 0} (m : ℕ) (xs : List X) (n : ℕ) → n < length (take m xs) → slice_get (take m xs) n ≡ slice_get xs n
take_get zero xs n within = absurd (omega (arith, within))
take_get (suc m) [] n within = absurd (omega (arith, within))
take_get (suc m) (x ∷ xs) zero within = refl
take_get (suc m) (x ∷ xs) (suc n) within = take_get m xs n (omega (arith, within))

times_take : (y m : ℕ) (xs : List ℕ) → times y (take m xs) ≤ times y xs
times_take y zero xs = omega arith
times_take y (suc m) [] = omega arith
times_take y (suc m) (x ∷ xs) = let rest = times_take y m xs in omega (arith, rest)

pub once_taken : (m : ℕ) (xs : List ℕ) → IsOnce xs → IsOnce (take m xs)
once_taken m xs once y = let all = once y in let front = times_take y m xs in omega (arith, all, front)

-- what follows from two facts of a result's value
pub IfOk-both : {T E : Type 0} (r : Result T E) (P Q R : T → Type 0) → ((x : T) → P x → Q x → R x) → IfOk r P → IfOk r Q → IfOk r R
IfOk-both (Ok x) P Q R f p q = f x p q
IfOk-both (Err e) P Q R f p q = tt
