-- The traced objects of a type, counted by id.
use Rattle.std.proofs.Common.{◌≡◌, ◌≢◌, ℕ, zero, suc, ◌+◌, ◌<◌, ◌≤◌, ⊎_elim, Bool, true, false, List, [], ◌∷◌, ◌++◌, length, map, get_or, set, take}
use Rattle.std.proofs.Common.{drop, cond, replicate, Option, None, Some, sym, ap, refl, subst, ◌∙◌, arith, eqb-true}
use Rattle.std.specs.Prelude.{◌==◌}
use Rattle.std.specs.List.{filter, slice_get, position, IsDistinct}
use Rattle.std.specs.Option.{IsSome, IfSome, option_and_then, option_map_or}
use Rattle.std.specs.Str.{bytes_eq}
use Rattle.std.proofs.Math.Seq.{take-suc}
use Rattle.std.proofs.lemmas.Bool.{false≢true, cases_eq, false_from_ne_true}
use Rattle.std.proofs.lemmas.Bool.Decides.{nat_tests}
use Rattle.std.proofs.lemmas.List.{get_or-set_same, get_or-set_other, length-map, length-append, append-nil, drop_all, take_all}
use Rattle.std.proofs.lemmas.List.Elements.{filter-append}
use Rattle.std.proofs.lemmas.Option.{slice_get-get_or, slice_get_within, get_or_from_slice_get}
use Rattle.std.proofs.lemmas.Slice.Eq.{bytes_eq-Decides}
use Rattle.graph_meaning.specs.Assertions.{is_traced, traced_ids}
use Rattle.graph_meaning.specs.Collecting.{instances}
use Rattle.graph_meaning.specs.Heap.{Heap, Table, ids, kind_at}
use Rattle.graph_meaning.specs.Roles.{RoleTable}
use Rattle.graph_meaning.proofs.Membership.{length-filter_le}
use Rattle.object_table.specs.Placed.{PlacedTable, id_in}
use Rattle.object_table.proofs.Positions.{position_distinct}
use Rattle.assert_registry.proofs.Marking.{get_or-replicate_same}
use Rattle.verdict_list.specs.declared.instances.KindCount.{KindCount}
use Rattle.verdict_list.specs.Kinds.{name_of, limit_in, first_after, ArePastLimits}
use Rattle.verdict_list.proofs.ByIds.{drop_next}

pub named_at : (p : PlacedTable) (kind : ℕ) → kind < length p.table.kinds → slice_get p.table.kinds kind ≡ Some (name_of p kind)
named_at p kind within = slice_get-get_or p.table.kinds kind [] within

-- there are no more traced objects of a type than objects
pub instances-few : (h : Heap) (name : List ℕ) → length (instances h name) ≤ length h.table.objects
unfolding instances traced_ids
instances-few h name =
    let first = length-filter_le (λ id. bytes_eq (kind_at h.table id) name) (filter (is_traced h) (ids h.table)) in
    let second = length-filter_le (is_traced h) (ids h.table) in
    omega (arith, first, second, length-map h.table.objects (λ o. o.id))

-- ---- counts of types, one after another

pub kinds_more : (counts : List KindCount) (kinds : List ℕ) (n : ℕ) (c : KindCount) → slice_get kinds n ≡ Some c.kind →
    map (λ x. x.kind) counts ++ drop n kinds ≡ kinds → map (λ x. x.kind) (counts ++ c ∷ []) ++ drop (n + 1) kinds ≡ kinds
kinds_more counts kinds n c at so_far = go counts ∙ ap (λ rest. map (λ (x : KindCount). x.kind) counts ++ rest) (sym (drop_next kinds n c.kind at)) ∙ so_far
  where
    go : (cs : List KindCount) → map (λ x. x.kind) (cs ++ c ∷ []) ++ drop (n + 1) kinds ≡ map (λ x. x.kind) cs ++ c.kind ∷ drop (n + 1) kinds
    go [] = refl
    go (x ∷ cs) = ap (λ xs. x.kind ∷ xs) (go cs)

pub kinds_all : (counts : List KindCount) (kinds : List ℕ) (n : ℕ) → length kinds ≤ n → map (λ x. x.kind) counts ++ drop n kinds ≡ kinds → map (λ x. x.kind) counts ≡ kinds
kinds_all counts kinds n past so_far =
    let known : List ℕ = map (λ (x : KindCount). x.kind) counts in
    sym (append-nil known) ∙ ap (λ rest. known ++ rest) (sym (drop_all n kinds past)) ∙ so_far

-- ---- the traced objects of a type among the first ones by id

module _ (p : PlacedTable) (h : Heap) where
  abbrev pub seen : List ℕ → ℕ → List ℕ
  seen name n = filter (λ id. bytes_eq (kind_at p.table id) name) (filter (is_traced h) (take n (ids p.table)))

  take_next : (n id : ℕ) → slice_get (ids p.table) n ≡ Some id → take (n + 1) (ids p.table) ≡ take n (ids p.table) ++ id ∷ []
  take_next n id at =
      let next : n + 1 ≡ suc n = omega arith in
      ap (λ m. take m (ids p.table)) next ∙ take-suc (ids p.table) n id (slice_get_within (ids p.table) n id at)
      ∙ ap (λ x. take n (ids p.table) ++ x ∷ []) (get_or_from_slice_get (ids p.table) n id id at)

  traced_next : (n id : ℕ) → slice_get (ids p.table) n ≡ Some id → filter (is_traced h) (take (n + 1) (ids p.table)) ≡ filter (is_traced h) (take n (ids p.table)) ++ filter (is_traced h) (id ∷ [])
  traced_next n id at = ap (filter (is_traced h)) (take_next n id at) ∙ filter-append (is_traced h) (take n (ids p.table)) (id ∷ [])

  -- an object that is not traced
  pub seen-untraced : (name : List ℕ) (n id : ℕ) → slice_get (ids p.table) n ≡ Some id → is_traced h id ≡ false → seen name (n + 1) ≡ seen name n
  seen-untraced name n id at untraced =
      let same : filter (is_traced h) (take (n + 1) (ids p.table)) ≡ filter (is_traced h) (take n (ids p.table)) = traced_next n id at ∙ rw untraced (append-nil _) in
      ap (filter (λ x. bytes_eq (kind_at p.table x) name)) same

  seen-traced : (name : List ℕ) (n id : ℕ) → slice_get (ids p.table) n ≡ Some id → is_traced h id ≡ true → seen name (n + 1) ≡ seen name n ++ filter (λ x. bytes_eq (kind_at p.table x) name) (id ∷ [])
  seen-traced name n id at traced =
      let more : filter (is_traced h) (take (n + 1) (ids p.table)) ≡ filter (is_traced h) (take n (ids p.table)) ++ id ∷ [] = traced_next n id at ∙ rw traced refl in
      ap (filter (λ x. bytes_eq (kind_at p.table x) name)) more ∙ filter-append (λ x. bytes_eq (kind_at p.table x) name) (filter (is_traced h) (take n (ids p.table))) (id ∷ [])

  -- a traced object of the type, and one of another
  pub seen-same : (name : List ℕ) (n id : ℕ) → slice_get (ids p.table) n ≡ Some id → is_traced h id ≡ true → bytes_eq (kind_at p.table id) name ≡ true → seen name (n + 1) ≡ seen name n ++ id ∷ []
  seen-same name n id at traced same = seen-traced name n id at traced ∙ rw same refl

  pub seen-other : (name : List ℕ) (n id : ℕ) → slice_get (ids p.table) n ≡ Some id → is_traced h id ≡ true → bytes_eq (kind_at p.table id) name ≡ false → seen name (n + 1) ≡ seen name n
  seen-other name n id at traced other = seen-traced name n id at traced ∙ rw other (append-nil _)

equal : (a b : ℕ) → a ≡ b → (a == b) ≡ true
equal a b e = subst (λ x. (a == x) ≡ true) e (grind (arith, nat_tests))

-- ---- the counts of types and their first objects past the limits, by the first objects by id

slice_get-last : (xs : List ℕ) (x : ℕ) → slice_get (xs ++ x ∷ []) (length xs) ≡ Some x
slice_get-last [] x = refl
slice_get-last (y ∷ xs) x = slice_get-last xs x

slice_get-before : (xs : List ℕ) (x n : ℕ) → n ≢ length xs → slice_get (xs ++ x ∷ []) n ≡ slice_get xs n
slice_get-before [] x zero ne = absurd (ne refl)
slice_get-before [] x (suc n) ne = refl
slice_get-before (y ∷ xs) x zero ne = refl
slice_get-before (y ∷ xs) x (suc n) ne = slice_get-before xs x n (λ e. ne (ap suc e))

-- Among the first n objects by id so many of each type are traced, and each type with a limit has its first one past it here.
pub record AreCounted (p : PlacedTable) (r : RoleTable) (h : Heap) (counts : List ℕ) (places : List (Option ℕ)) (n : ℕ) : Type 0 where
  pub count : (kind : ℕ) → kind < length p.table.kinds → get_or counts kind 0 ≡ length (seen p h (name_of p kind) n)
  pub first : (kind limit : ℕ) → kind < length p.table.kinds → limit_in r kind ≡ Some limit → option_and_then (id_in p) (get_or places kind None) ≡ slice_get (seen p h (name_of p kind) n) limit

-- the next object is not traced
pub counted_past : (p : PlacedTable) (r : RoleTable) (h : Heap) (counts : List ℕ) (places : List (Option ℕ)) (n id : ℕ) →
    slice_get (ids p.table) n ≡ Some id → is_traced h id ≡ false → AreCounted p r h counts places n → AreCounted p r h counts places (n + 1)
counted_past p r h counts places n id at untraced counted = record {
  count = λ kind within. counted.count kind within ∙ ap length (sym (seen-untraced p h (name_of p kind) n id at untraced));
  first = λ kind limit within limited. counted.first kind limit within limited ∙ ap (λ xs. slice_get xs limit) (sym (seen-untraced p h (name_of p kind) n id at untraced));
}

-- the next object is traced, and its type has this number
module _ (p : PlacedTable) (r : RoleTable) (h : Heap) (distinct : IsDistinct bytes_eq p.table.kinds) (counts : List ℕ) (places : List (Option ℕ))
    (n id cell number : ℕ) (at : slice_get (ids p.table) n ≡ Some id) (traced : is_traced h id ≡ true) (held : id_in p cell ≡ Some id)
    (seen_kind : number < length p.table.kinds) (named : kind_at p.table id ≡ name_of p number) where
  of_type : bytes_eq (kind_at p.table id) (name_of p number) ≡ true
  of_type = (bytes_eq-Decides (kind_at p.table id) (name_of p number)).1 named

  other_type : (kind : ℕ) → kind < length p.table.kinds → kind ≢ number → bytes_eq (kind_at p.table id) (name_of p kind) ≡ false
  other_type kind within ne = false_from_ne_true _ (λ same.
      let its : name_of p number ≡ name_of p kind = sym named ∙ (bytes_eq-Decides (kind_at p.table id) (name_of p kind)).0 same in
      let e : Some kind ≡ Some number =
      sym (position_distinct p.table.kinds kind distinct within) ∙ ap (λ name. position (bytes_eq name) p.table.kinds) (sym its) ∙ position_distinct p.table.kinds number distinct seen_kind in
      let e' : kind ≡ number = cc in
      ne e')

  module _ (many_counts : length counts ≡ length p.table.kinds) (many_places : length places ≡ length p.table.kinds) (counted : AreCounted p r h counts places n) where
    abbrev before : List ℕ
    before = seen p h (name_of p number) n

    after : seen p h (name_of p number) (n + 1) ≡ before ++ id ∷ []
    after = seen-same p h (name_of p number) n id at traced of_type

    others : (kind : ℕ) → kind < length p.table.kinds → kind ≢ number → seen p h (name_of p kind) (n + 1) ≡ seen p h (name_of p kind) n
    others kind within ne = seen-other p h (name_of p kind) n id at traced (other_type kind within ne)

    count_here : get_or (set counts number (get_or counts number 0 + 1)) number 0 ≡ length (seen p h (name_of p number) (n + 1))
    count_here =
        get_or-set_same counts number (get_or counts number 0 + 1) 0 (omega (arith, seen_kind, many_counts))
        ∙ omega (arith, counted.count number seen_kind, ap length after, length-append before (id ∷ []))

    first_here : (limit : ℕ) → limit_in r number ≡ Some limit →
        option_and_then (id_in p) (get_or (set places number (first_after (limit_in r number) (get_or counts number 0) (get_or places number None) cell)) number None)
        ≡ slice_get (seen p h (name_of p number) (n + 1)) limit
    first_here limit limited =
        ap (option_and_then (id_in p))
        (get_or-set_same places number _ None (omega (arith, seen_kind, many_places))
        ∙ ap (λ l. first_after l (get_or counts number 0) (get_or places number None) cell) limited)
        ∙ go (limit == get_or counts number 0) refl ∙ ap (λ xs. slice_get xs limit) (sym after)
      where
        go : (b : Bool) → (limit == get_or counts number 0) ≡ b → option_and_then (id_in p) (cond b (Some cell) (get_or places number None)) ≡ slice_get (before ++ id ∷ []) limit
        go true is =
            let e : limit ≡ length before = eqb-true limit (get_or counts number 0) is ∙ counted.count number seen_kind in
            held ∙ sym (ap (slice_get (before ++ id ∷ [])) e ∙ slice_get-last before id)
        go false is =
            let ne : limit ≢ length before = λ e. false≢true (sym is ∙ equal limit (get_or counts number 0) (e ∙ sym (counted.count number seen_kind))) in
            counted.first number limit seen_kind limited ∙ sym (slice_get-before before id limit ne)

    pub counted_more :
        AreCounted p r h (set counts number (get_or counts number 0 + 1)) (set places number (first_after (limit_in r number) (get_or counts number 0) (get_or places number None) cell)) (n + 1)
    counted_more = record {
      count = λ kind within. ⊎_elim
          (λ e. subst (λ k. get_or (set counts number (get_or counts number 0 + 1)) k 0 ≡ length (seen p h (name_of p k) (n + 1))) (sym e) count_here)
          (λ ne. get_or-set_other counts number kind _ 0 ne ∙ counted.count kind within ∙ ap length (sym (others kind within ne)))
          (cases_eq kind number);
      first = λ kind limit within limited. ⊎_elim
          (λ e. subst
          (λ k. option_and_then (id_in p) (get_or (set places number (first_after (limit_in r number) (get_or counts number 0) (get_or places number None) cell)) k None)
          ≡ slice_get (seen p h (name_of p k) (n + 1)) limit) (sym e) (first_here limit (ap (limit_in r) (sym e) ∙ limited)))
          (λ ne. ap (option_and_then (id_in p)) (get_or-set_other places number kind _ None ne) ∙ counted.first kind limit within limited ∙ ap (λ xs. slice_get xs limit) (sym (others kind within ne)))
          (cases_eq kind number);
    }

-- nothing is counted at first
pub counted_none : (p : PlacedTable) (r : RoleTable) (h : Heap) (counts : List ℕ) (places : List (Option ℕ)) →
    ((kind : ℕ) → get_or counts kind 0 ≡ 0) → ((kind : ℕ) → get_or places kind None ≡ None) → AreCounted p r h counts places 0
counted_none p r h counts places zeros nones = record {
  count = λ kind within. zeros kind;
  first = λ kind limit within limited. ap (option_and_then (id_in p)) (nones kind);
}

-- all objects are counted
pub counted_all : (p : PlacedTable) (r : RoleTable) (h : Heap) (counts : List ℕ) (places : List (Option ℕ)) (n : ℕ) → h.table ≡ p.table →
    length p.table.objects ≤ n → AreCounted p r h counts places n → ArePastLimits p r h places
unfolding instances traced_ids
counted_all p r h counts places n same past counted kind limit within limited =
    counted.first kind limit within limited
    ∙ ap (λ xs. slice_get (filter (λ id. bytes_eq (kind_at p.table id) (name_of p kind)) (filter (is_traced h) xs)) limit)
    (take_all n (ids p.table) (omega (arith, past, length-map p.table.objects (λ o. o.id))))
    ∙ ap (λ (t : Table). slice_get (filter (λ id. bytes_eq (kind_at t id) (name_of p kind)) (filter (is_traced h) (ids t))) limit) (sym same)

-- what holds of the places of all types holds of them when one is set
pub held_more : (p : PlacedTable) (places : List (Option ℕ)) (limit : Option ℕ) (count cell number : ℕ) → number < length places →
    IsSome (id_in p cell) → ((kind : ℕ) → IfSome (get_or places kind None) (λ c. IsSome (id_in p c))) → (kind : ℕ) →
    IfSome (get_or (set places number (first_after limit count (get_or places number None) cell)) kind None) (λ c. IsSome (id_in p c))
held_more p places limit count cell number within taken held kind = ⊎_elim same other (cases_eq kind number)
  where
    chosen : (b : Bool) → IfSome (cond b (Some cell) (get_or places number None)) (λ c. IsSome (id_in p c))
    chosen true = taken
    chosen false = held number

    same : kind ≡ number → IfSome (get_or (set places number (first_after limit count (get_or places number None) cell)) kind None) (λ c. IsSome (id_in p c))
    same e =
        subst (λ o. IfSome o (λ c. IsSome (id_in p c)))
        (sym (ap (λ k. get_or (set places number (first_after limit count (get_or places number None) cell)) k None) e
        ∙ get_or-set_same places number _ None within)) (chosen (option_map_or (λ l. l == count) limit false))

    other : kind ≢ number → IfSome (get_or (set places number (first_after limit count (get_or places number None) cell)) kind None) (λ c. IsSome (id_in p c))
    other ne = subst (λ o. IfSome o (λ c. IsSome (id_in p c))) (sym (get_or-set_other places number kind _ None ne)) (held kind)

-- no count passes the number of objects
pub few_more : (counts : List ℕ) (number n : ℕ) → number < length counts → ((kind : ℕ) → get_or counts kind 0 ≤ n) → (kind : ℕ) → get_or (set counts number (get_or counts number 0 + 1)) kind 0 ≤ n + 1
few_more counts number n within few kind = ⊎_elim same other (cases_eq kind number)
  where
    same : kind ≡ number → get_or (set counts number (get_or counts number 0 + 1)) kind 0 ≤ n + 1
    same e =
        let is = ap (λ k. get_or (set counts number (get_or counts number 0 + 1)) k 0) e ∙ get_or-set_same counts number (get_or counts number 0 + 1) 0 within in
        omega (arith, is, few number)

    other : kind ≢ number → get_or (set counts number (get_or counts number 0 + 1)) kind 0 ≤ n + 1
    other ne = let is = get_or-set_other counts number kind (get_or counts number 0 + 1) 0 ne in omega (arith, is, few kind)

pub no_count : (n kind : ℕ) → get_or (replicate n zero) kind zero ≤ zero
no_count n kind = let none : get_or (replicate n zero) kind zero ≡ zero = get_or-replicate_same n kind zero in omega (arith, none)
