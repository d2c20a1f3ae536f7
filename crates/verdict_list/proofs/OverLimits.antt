-- The types over their limit, by their names and by their numbers.
use Rattle.std.proofs.Common.{◌≡◌, ◌≢◌, ℕ, zero, suc, ◌+◌, ◌<◌, ◌≤◌, ⊎_elim, Bool, true, false, ◌&&◌, cond, nat_lt, List, [], ◌∷◌, length, map}
use Rattle.std.proofs.Common.{get_or, Option, None, Some, IsTrue, Ordering, Less, Equal, Greater, String, sym, ap, refl, subst, ◌∙◌, arith}
use Rattle.std.specs.Prelude.{unwrap_or, ◌==◌, slice_index}
use Rattle.std.specs.List.{All, AllByRecursion, filter, find, slice_get, position, IsDistinct}
use Rattle.std.specs.List.Sorted.{IsStrictlySortedBy}
use Rattle.std.specs.BTreeMap.{BTreeMap, get_by_text, is_at}
use Rattle.std.specs.Cmp.{Equal-is}
use Rattle.std.specs.Cmp.Lexicographic.{slice_cmp}
use Rattle.std.specs.Map.{lookup, keys_of, values_of}
use Rattle.std.specs.Option.{is_some, option_map, option_map_or, option_and_then}
use Rattle.std.specs.Ordering.{nat_cmp, is_eq, ordering_reverse}
use Rattle.std.specs.Str.{bytes_eq}
use Rattle.std.specs.String.{string_bytes, string_cmp}
use Rattle.std.proofs.lemmas.Bool.{false≢true, cases_eq, ltb-true, ltb-false, lt-ltb, le-ltb, false_from_ne_true}
use Rattle.std.proofs.lemmas.Cmp.{nat_list_cmp_total, eq_by_cmp_equiv}
use Rattle.std.proofs.lemmas.List.Elements.{All-nil, All-cons, All-head, All-tail, All-filter}
use Rattle.std.proofs.lemmas.List.Quantifiers.{position-Some}
use Rattle.std.proofs.lemmas.Map.Entries.{lookup_from_place}
use Rattle.std.proofs.lemmas.Map.Keys.{sorted_head, sorted_tail, IsDistinct-from_sorted}
use Rattle.std.proofs.lemmas.Map.Lookups.{exact_bytes}
use Rattle.std.proofs.lemmas.Option.{slice_get-get_or}
use Rattle.std.proofs.lemmas.Slice.Eq.{bytes_eq-Decides}
use Rattle.graph_meaning.specs.Assertions.{is_traced, traced_ids}
use Rattle.graph_meaning.specs.Collecting.{instances, violating_kinds}
use Rattle.graph_meaning.specs.Heap.{Heap, Object, Table, ids, is_live, is_seen, object_at, kind_at, name_cmp}
use Rattle.graph_meaning.specs.Roles.{RoleTable}
use Rattle.graph_meaning.proofs.HeapLemmas.{has_id-ids}
use Rattle.graph_meaning.proofs.Membership.{All-has_id}
use Rattle.object_table.specs.Placed.{PlacedTable, IsSound}
use Rattle.object_table.proofs.Positions.{position_distinct, any-position}
use Rattle.assert_registry.specs.Laws.{StandFor}
use Rattle.verdict_list.specs.Counts.{CountTable}
use Rattle.verdict_list.specs.Counts.{AreCountsOf}
use Rattle.verdict_list.specs.Kinds.{name_of, limit_in, is_over_limit, named_limit, IsOverLimit}

abbrev Named : Type 0 → Type 0
Named X = List (List ℕ × X)

-- ---- entries by names in order

less-not : (q k : List ℕ) → name_cmp q k ≡ Less → is_at (name_cmp q) k ≡ false
less-not q k below = ap is_eq below

itself : (q : List ℕ) → is_at (name_cmp q) q ≡ true
itself q = (Equal-is (name_cmp q q)).1 (go (name_cmp q q) (nat_list_cmp_total.antisymm q q))
  where
    go : (o : Ordering) → o ≡ ordering_reverse o → o ≡ Equal
    go Less e = cc
    go Equal e = refl
    go Greater e = cc

same_name : (q k : List ℕ) → is_at (name_cmp q) k ≡ true → q ≡ k
same_name q k at = exact_bytes q k ((Equal-is (name_cmp q k)).0 at)

none_below : {X : Type 0} (q : List ℕ) (es : Named X) → AllByRecursion (λ k. name_cmp q k ≡ Less) (keys_of es) → lookup (is_at (name_cmp q)) es ≡ None
none_below q [] below = refl
none_below q (e ∷ es) below = ap (λ b. cond b (Some e.1) (lookup (is_at (name_cmp q)) es)) (less-not q e.0 below.0) ∙ none_below q es below.1

below_all : (q k : List ℕ) (ks : List (List ℕ)) → name_cmp q k ≡ Less → AllByRecursion (λ x. name_cmp k x ≡ Less) ks → AllByRecursion (λ x. name_cmp q x ≡ Less) ks
below_all q k [] less all = tt
below_all q k (x ∷ ks) less all = (nat_list_cmp_total.trans q k x less all.0, below_all q k ks less all.1)

first_found : {X : Type 0} (e : List ℕ × X) (es : Named X) → lookup (is_at (name_cmp e.0)) (e ∷ es) ≡ Some e.1
first_found e es = ap (λ b. cond b (Some e.1) (lookup (is_at (name_cmp e.0)) es)) (itself e.0)

none_less : {X : Type 0} (q : List ℕ) (e : List ℕ × X) (es : Named X) → IsStrictlySortedBy name_cmp (keys_of (e ∷ es)) → name_cmp q e.0 ≡ Less → lookup (is_at (name_cmp q)) (e ∷ es) ≡ None
none_less q e es sorted less = none_below q (e ∷ es) (less, below_all q e.0 (keys_of es) less (sorted_head name_cmp e.0 (keys_of es) sorted))

some-none : {X : Type 0} {A : Type 0} (x : X) → Some x ≡ None → A
some-none x e = cc

-- Entries in order in which every look-up finds the same are the same.
same_named : {X : Type 0} (es fs : Named X) → IsStrictlySortedBy name_cmp (keys_of es) → IsStrictlySortedBy name_cmp (keys_of fs) →
    ((q : List ℕ) → lookup (is_at (name_cmp q)) es ≡ lookup (is_at (name_cmp q)) fs) → es ≡ fs
same_named [] [] sorted_es sorted_fs same = refl
same_named [] (f ∷ fs) sorted_es sorted_fs same = some-none f.1 (sym (first_found f fs) ∙ sym (same f.0))
same_named (e ∷ es) [] sorted_es sorted_fs same = some-none e.1 (sym (first_found e es) ∙ same e.0)
same_named {X} (e ∷ es) (f ∷ fs) sorted_es sorted_fs same =
    go (name_cmp e.0 f.0) refl (same_named es fs (sorted_tail name_cmp e.0 (keys_of es) sorted_es) (sorted_tail name_cmp f.0 (keys_of fs) sorted_fs))
  where
    go : (o : Ordering) → name_cmp e.0 f.0 ≡ o → (((q : List ℕ) → lookup (is_at (name_cmp q)) es ≡ lookup (is_at (name_cmp q)) fs) → es ≡ fs) → (e ∷ es) ≡ (f ∷ fs)
    go Less is rest = some-none e.1 (sym (first_found e es) ∙ same e.0 ∙ none_less e.0 f fs sorted_fs is)
    go Greater is rest = some-none f.1 (sym (first_found f fs) ∙ sym (same f.0) ∙ none_less f.0 e es sorted_es (nat_list_cmp_total.antisymm f.0 e.0 ∙ ap ordering_reverse is))
    go Equal is rest = ap (λ x. x ∷ es) head ∙ ap (λ xs. f ∷ xs) (rest tails)
      where
        names : e.0 ≡ f.0
        names = exact_bytes e.0 f.0 is

        found : Some e.1 ≡ Some f.1
        found = sym (first_found e es) ∙ same e.0 ∙ ap (λ q. lookup (is_at (name_cmp q)) (f ∷ fs)) names ∙ first_found f fs

        head : e ≡ f
        head = let both : Some e.1 ≡ Some f.1 = found in let values : e.1 ≡ f.1 = cc in ap (λ k. (k, e.1)) names ∙ ap (λ v. (f.0, v)) values

        tails : (q : List ℕ) → lookup (is_at (name_cmp q)) es ≡ lookup (is_at (name_cmp q)) fs
        tails q = at (is_at (name_cmp q) e.0) refl
          where
            at : (b : Bool) → is_at (name_cmp q) e.0 ≡ b → lookup (is_at (name_cmp q)) es ≡ lookup (is_at (name_cmp q)) fs
            at true here =
                let q_is : q ≡ e.0 = same_name q e.0 here in
                let left : lookup (is_at (name_cmp q)) es ≡ None = ap (λ k. lookup (is_at (name_cmp k)) es) q_is ∙ none_below e.0 es (sorted_head name_cmp e.0 (keys_of es) sorted_es) in
                let right : lookup (is_at (name_cmp q)) fs ≡ None = ap (λ k. lookup (is_at (name_cmp k)) fs) (q_is ∙ names) ∙ none_below f.0 fs (sorted_head name_cmp f.0 (keys_of fs) sorted_fs) in
                left ∙ sym right
            at false other =
                let there : is_at (name_cmp q) f.0 ≡ false = ap (is_at (name_cmp q)) (sym names) ∙ other in
                sym (ap (λ b. cond b (Some e.1) (lookup (is_at (name_cmp q)) es)) other) ∙ same q ∙ ap (λ b. cond b (Some f.1) (lookup (is_at (name_cmp q)) fs)) there

-- ---- entries that pass

module _ (test : List ℕ × ℕ → Bool) where
  below_passing : (q : List ℕ) (es : Named ℕ) → AllByRecursion (λ k. name_cmp q k ≡ Less) (keys_of es) → AllByRecursion (λ k. name_cmp q k ≡ Less) (keys_of (filter test es))
  below_passing q [] below = tt
  below_passing q (e ∷ es) below = go (test e) (below_passing q es below.1)
    where
      go : (b : Bool) → AllByRecursion (λ k. name_cmp q k ≡ Less) (keys_of (filter test es)) → AllByRecursion (λ k. name_cmp q k ≡ Less) (keys_of (cond b (e ∷ filter test es) (filter test es)))
      go true rest = (below.0, rest)
      go false rest = rest

  sorted_passing : (es : Named ℕ) → IsStrictlySortedBy name_cmp (keys_of es) → IsStrictlySortedBy name_cmp (keys_of (filter test es))
  unfolding IsStrictlySortedBy
  sorted_passing [] sorted = tt
  sorted_passing (e ∷ es) sorted = go (test e) (sorted_passing es sorted.1)
    where
      go : (b : Bool) → IsStrictlySortedBy name_cmp (keys_of (filter test es)) → IsStrictlySortedBy name_cmp (keys_of (cond b (e ∷ filter test es) (filter test es)))
      go true rest = (below_passing e.0 es sorted.0, rest)
      go false rest = rest

  lookup-passing : (q : List ℕ) (es : Named ℕ) → IsStrictlySortedBy name_cmp (keys_of es) →
      lookup (is_at (name_cmp q)) (filter test es) ≡ option_and_then (λ l. cond (test (q, l)) (Some l) None) (lookup (is_at (name_cmp q)) es)
  lookup-passing q [] sorted = refl
  lookup-passing q (e ∷ es) sorted = go (test e) refl (is_at (name_cmp q) e.0) refl (lookup-passing q es (sorted_tail name_cmp e.0 (keys_of es) sorted))
    where
      go : (b : Bool) → test e ≡ b → (c : Bool) → is_at (name_cmp q) e.0 ≡ c →
          lookup (is_at (name_cmp q)) (filter test es) ≡ option_and_then (λ l. cond (test (q, l)) (Some l) None) (lookup (is_at (name_cmp q)) es) →
          lookup (is_at (name_cmp q)) (cond b (e ∷ filter test es) (filter test es)) ≡ option_and_then (λ l. cond (test (q, l)) (Some l) None) (cond c (Some e.1) (lookup (is_at (name_cmp q)) es))
      go true passes true at rest =
          ap (λ x. cond x (Some e.1) (lookup (is_at (name_cmp q)) (filter test es))) at
          ∙ sym (ap (λ k. cond (test (k, e.1)) (Some e.1) None) (same_name q e.0 at) ∙ ap (λ x. cond x (Some e.1) None) passes)
      go true passes false at rest = ap (λ x. cond x (Some e.1) (lookup (is_at (name_cmp q)) (filter test es))) at ∙ rest
      go false fails true at rest =
          ap (λ k. lookup (is_at (name_cmp k)) (filter test es)) (same_name q e.0 at) ∙ none_below e.0 (filter test es) (below_passing e.0 es (sorted_head name_cmp e.0 (keys_of es) sorted))
          ∙ sym (ap (λ k. cond (test (k, e.1)) (Some e.1) None) (same_name q e.0 at) ∙ ap (λ x. cond x (Some e.1) None) fails)
      go false fails false at rest = rest

-- ---- a type that was not seen has no traced object

found_passes : {X : Type 0} (P : X → Type 0) (test : X → Bool) (xs : List X) (x : X) → All P xs → find test xs ≡ Some x → P x
found_passes P test [] x all at = cc
found_passes {X} P test (y ∷ xs) x all at = go (test y) at (found_passes P test xs x (All-tail P y xs all))
  where
    go : (b : Bool) → cond b (Some y) (find test xs) ≡ Some x → (find test xs ≡ Some x → P x) → P x
    go true here rest = let e : y ≡ x = cc in subst P e (All-head P y xs all)
    go false here rest = rest here

filter_none : {X : Type 0} (test : X → Bool) (xs : List X) → All (λ x. test x ≡ false) xs → filter test xs ≡ []
filter_none test [] all = refl
filter_none test (x ∷ xs) all = ap (λ b. cond b (x ∷ filter test xs) (filter test xs)) (All-head (λ x. test x ≡ false) x xs all) ∙ filter_none test xs (All-tail (λ x. test x ≡ false) x xs all)

module _ (t : Table) (sound : IsSound t) where
  seen_at : (id : ℕ) → is_live t id ≡ true → is_seen t.kinds (kind_at t id) ≡ true
  seen_at id live = go (object_at t.objects id) refl live
    where
      go : (o : Option Object) → object_at t.objects id ≡ o → is_some o ≡ true → is_seen t.kinds (option_map_or (λ x. x.kind) o []) ≡ true
      go None is live = absurd (false≢true live)
      go (Some o) is live = found_passes (λ x. IsTrue (is_seen t.kinds x.kind)) (λ x. x.id == id) t.objects o sound.seen is

  other_kind : (name : List ℕ) → position (bytes_eq name) t.kinds ≡ None → (id : ℕ) → is_live t id ≡ true → bytes_eq (kind_at t id) name ≡ false
  other_kind name unseen id live = false_from_ne_true _ (λ same.
      let e : kind_at t id ≡ name = (bytes_eq-Decides (kind_at t id) name).0 same in
      false≢true (sym (any-position (bytes_eq name) t.kinds ∙ ap is_some unseen) ∙ ap (is_seen t.kinds) (sym e) ∙ seen_at id live))

pub no_instances : (h : Heap) → IsSound h.table → (name : List ℕ) → position (bytes_eq name) h.table.kinds ≡ None → instances h name ≡ []
unfolding instances traced_ids
no_instances h sound name unseen =
    filter_none (λ id. bytes_eq (kind_at h.table id) name) (filter (is_traced h) (ids h.table))
    (All-filter (is_traced h) (λ id. bytes_eq (kind_at h.table id) name ≡ false) (ids h.table)
    (λ k d within. other_kind h.table sound name unseen (get_or (ids h.table) k d) (sym (has_id-ids h.table (get_or (ids h.table) k d)) ∙ All-has_id (ids h.table) k d within)))

-- ---- the types over their limit among those with the first numbers

-- the number of a type, where it is one of the first and the type is over its limit
abbrev pub over_below : RoleTable → CountTable → ℕ → Option ℕ → Option ℕ
over_below r t n None = None
over_below r t n (Some k) = cond (nat_lt k n && is_over_limit r t k) (Some k) None

below_next : (k n : ℕ) → k ≢ n → nat_lt k (n + 1) ≡ nat_lt k n
below_next k n ne = go (nat_lt k n) refl
  where
    go : (b : Bool) → nat_lt k n ≡ b → nat_lt k (n + 1) ≡ b
    go true is = lt-ltb k (n + 1) (omega (arith, ltb-true k n is))
    go false is = le-ltb k (n + 1) (let above = ltb-false k n is in let apart : k ≢ n = ne in ⊎_elim (λ e. absurd (ne e)) (λ other. omega (arith, above, other)) (cases_eq k n))

pub over_pass : (r : RoleTable) (t : CountTable) (n : ℕ) (o : Option ℕ) → is_over_limit r t n ≡ false → over_below r t (n + 1) o ≡ over_below r t n o
over_pass r t n None fails = refl
over_pass r t n (Some k) fails = ⊎_elim
    (λ e. ap (λ b. cond b (Some k) None)
    (none (nat_lt k (n + 1)) (is_over_limit r t k) (ap (is_over_limit r t) e ∙ fails)
    ∙ sym (none (nat_lt k n) (is_over_limit r t k) (ap (is_over_limit r t) e ∙ fails))))
    (λ ne. ap (λ b. cond (b && is_over_limit r t k) (Some k) None) (below_next k n ne))
    (cases_eq k n)
  where
    none : (a b : Bool) → b ≡ false → (a && b) ≡ false
    none true b is = is
    none false b is = refl

pub over_more : (p : PlacedTable) (r : RoleTable) (t : CountTable) → IsDistinct bytes_eq p.table.kinds → (n : ℕ) → n < length p.table.kinds →
    is_over_limit r t n ≡ true → (q : List ℕ) (found : Option ℕ) → found ≡ over_below r t n (position (bytes_eq q) p.table.kinds) →
    cond (bytes_eq (name_of p n) q) (Some n) found ≡ over_below r t (n + 1) (position (bytes_eq q) p.table.kinds)
over_more p r t distinct n within over q found is = go (bytes_eq (name_of p n) q) refl
  where
    here : cond (nat_lt n (n + 1) && is_over_limit r t n) (Some n) None ≡ Some n
    here = ap (λ b. cond (b && is_over_limit r t n) (Some n) None) (lt-ltb n (n + 1) (omega arith)) ∙ ap (λ b. cond b (Some n) None) over

    go : (b : Bool) → bytes_eq (name_of p n) q ≡ b → cond b (Some n) found ≡ over_below r t (n + 1) (position (bytes_eq q) p.table.kinds)
    go true same =
        let e : name_of p n ≡ q = (bytes_eq-Decides (name_of p n) q).0 same in
        let at : position (bytes_eq q) p.table.kinds ≡ Some n = ap (λ name. position (bytes_eq name) p.table.kinds) (sym e) ∙ position_distinct p.table.kinds n distinct within in
        sym (ap (over_below r t (n + 1)) at ∙ here)
    go false differ = is ∙ at (position (bytes_eq q) p.table.kinds) refl
      where
        at : (o : Option ℕ) → position (bytes_eq q) p.table.kinds ≡ o → over_below r t n o ≡ over_below r t (n + 1) o
        at None none = refl
        at (Some k) some =
            let ne : k ≢ n = λ e. (
            let its : q ≡ name_of p k = (bytes_eq-Decides q (name_of p k)).0 (position-Some (bytes_eq q) p.table.kinds k [] some).1 in
            let mine : name_of p n ≡ q = ap (name_of p) (sym e) ∙ sym its in
            false≢true (sym differ ∙ (bytes_eq-Decides (name_of p n) q).1 mine)) in
            ap (λ b. cond (b && is_over_limit r t k) (Some k) None) (sym (below_next k n ne))

-- ---- all types

-- entries by texts, as entries by names
abbrev pub by_texts : {Y : Type 0} → List (String Y × ℕ) → Named ℕ
by_texts es = map (λ e. (string_bytes e.0, e.1)) es

lookup-by_texts : {Y : Type 0} (q : List ℕ) (es : List (String Y × ℕ)) → lookup (is_at (name_cmp q)) (by_texts es) ≡ lookup (is_at (λ k. slice_cmp nat_cmp q (string_bytes k))) es
lookup-by_texts q [] = refl
lookup-by_texts q (e ∷ es) = ap (λ rest. cond (is_at (name_cmp q) (string_bytes e.0)) (Some e.1) rest) (lookup-by_texts q es)

below-by_texts : {Y : Type 0} (k : String Y) (es : List (String Y × ℕ)) → AllByRecursion (λ x. string_cmp k x ≡ Less) (keys_of es) →
    AllByRecursion (λ x. name_cmp (string_bytes k) x ≡ Less) (keys_of (by_texts es))
below-by_texts k [] below = tt
below-by_texts k (e ∷ es) below = (below.0, below-by_texts k es below.1)

sorted-by_texts : {Y : Type 0} (es : List (String Y × ℕ)) → IsStrictlySortedBy string_cmp (keys_of es) → IsStrictlySortedBy name_cmp (keys_of (by_texts es))
unfolding IsStrictlySortedBy
sorted-by_texts [] sorted = tt
sorted-by_texts (e ∷ es) sorted = (below-by_texts e.0 es sorted.0, sorted-by_texts es sorted.1)

module _ (f : ℕ → ℕ) where
  lookup-values : (q : List ℕ) (es : Named ℕ) → lookup (is_at (name_cmp q)) (map (λ e. (e.0, f e.1)) es) ≡ option_map f (lookup (is_at (name_cmp q)) es)
  lookup-values q [] = refl
  lookup-values q (e ∷ es) = go (is_at (name_cmp q) e.0) (lookup-values q es)
    where
      go : (b : Bool) → lookup (is_at (name_cmp q)) (map (λ e. (e.0, f e.1)) es) ≡ option_map f (lookup (is_at (name_cmp q)) es) →
          cond b (Some (f e.1)) (lookup (is_at (name_cmp q)) (map (λ e. (e.0, f e.1)) es)) ≡ option_map f (cond b (Some e.1) (lookup (is_at (name_cmp q)) es))
      go true rest = refl
      go false rest = rest

  keys-values : (es : Named ℕ) → keys_of (map (λ e. (e.0, f e.1)) es) ≡ keys_of es
  keys-values [] = refl
  keys-values (e ∷ es) = ap (λ ks. e.0 ∷ ks) (keys-values es)

over_is : (r : RoleTable) (t : CountTable) (n : ℕ) (o : Option ℕ) (k : ℕ) → over_below r t n o ≡ Some k → (o ≡ Some k) × (is_over_limit r t k ≡ true)
over_is r t n None k is = cc
over_is r t n (Some m) k is = go (nat_lt m n) (is_over_limit r t m) refl is
  where
    go : (b c : Bool) → is_over_limit r t m ≡ c → cond (b && c) (Some m) None ≡ Some k → (Some m ≡ Some k) × (is_over_limit r t k ≡ true)
    go true true over here = let e : m ≡ k = cc in (here, subst (λ x. is_over_limit r t x ≡ true) e over)
    go true false over here = cc
    go false c over here = cc

-- the map has each type that is over its limit by its name, and no other
abbrev pub HasOver : {Y : Type 0} → PlacedTable → RoleTable → CountTable → BTreeMap (String Y) ℕ → ℕ → Type 0
HasOver p r t m n = (q : List ℕ) → get_by_text m q ≡ over_below r t n (position (bytes_eq q) p.table.kinds)

module _ {Y : Type 0} (p : PlacedTable) (r : RoleTable) (t : CountTable) (m : BTreeMap (String Y) ℕ) (n : ℕ)
    (sorted : IsStrictlySortedBy string_cmp (keys_of m.entries)) (has : HasOver p r t m n) where
  abbrev texts : Named ℕ
  texts = by_texts m.entries

  -- each entry has a type's name and number
  entry-is : (i : ℕ) (k : List ℕ) (v : ℕ) → slice_get texts i ≡ Some (k, v) → (k ≡ name_of p v) × IsOverLimit p r t v
  entry-is i k v at =
      let found : lookup (is_at (name_cmp k)) texts ≡ Some v =
      lookup_from_place (eq_by_cmp_equiv nat_list_cmp_total) texts i k v (IsDistinct-from_sorted name_cmp (keys_of texts) (sorted-by_texts m.entries sorted)) at in
      let (placed, over) = over_is r t n (position (bytes_eq k) p.table.kinds) v (sym (has k) ∙ sym (lookup-by_texts k m.entries) ∙ found) in
      let place = position-Some (bytes_eq k) p.table.kinds v [] placed in
      ((bytes_eq-Decides k (name_of p v)).0 place.1, record { seen = place.0; over = over })

  text_at : (es : List (String Y × ℕ)) (i : ℕ) (d : String Y × ℕ) → i < length es → slice_get (by_texts es) i ≡ Some (string_bytes (get_or es i d).0, (get_or es i d).1)
  text_at [] i d within = absurd (omega (arith, within))
  text_at (e ∷ es) zero d within = refl
  text_at (e ∷ es) (suc i) d within = text_at es i d (omega (arith, within))

  all_named : All (λ e. (string_bytes e.0 ≡ name_of p e.1) × IsOverLimit p r t e.1) m.entries
  all_named i d within = entry-is i (string_bytes (get_or m.entries i d).0) (get_or m.entries i d).1 (text_at m.entries i d within)

  pub all_over : All (IsOverLimit p r t) (values_of m.entries)
  all_over = go m.entries all_named
    where
      go : (es : List (String Y × ℕ)) → All (λ e. (string_bytes e.0 ≡ name_of p e.1) × IsOverLimit p r t e.1) es → All (IsOverLimit p r t) (values_of es)
      go [] all = All-nil (IsOverLimit p r t)
      go (e ∷ es) all =
          All-cons (IsOverLimit p r t) e.1 (values_of es) (All-head (λ x. (string_bytes x.0 ≡ name_of p x.1) × IsOverLimit p r t x.1) e es all).1
          (go es (All-tail (λ x. (string_bytes x.0 ≡ name_of p x.1) × IsOverLimit p r t x.1) e es all))

  abbrev limit_at : ℕ → ℕ
  limit_at k = unwrap_or (limit_in r k) 0

  named_limits : (es : List (String Y × ℕ)) → All (λ e. (string_bytes e.0 ≡ name_of p e.1) × IsOverLimit p r t e.1) es →
      map (named_limit p r) (values_of es) ≡ map (λ e. (e.0, limit_at e.1)) (by_texts es)
  named_limits [] all = refl
  named_limits (e ∷ es) all =
      ap (λ name. (name, limit_at e.1) ∷ map (named_limit p r) (values_of es)) (sym (All-head (λ x. (string_bytes x.0 ≡ name_of p x.1) × IsOverLimit p r t x.1) e es all).0)
      ∙ ap (λ xs. (string_bytes e.0, limit_at e.1) ∷ xs) (named_limits es (All-tail (λ x. (string_bytes x.0 ≡ name_of p x.1) × IsOverLimit p r t x.1) e es all))

  module _ (h : Heap) (all : n ≡ length p.table.kinds) (sound : IsSound p.table) (stand : StandFor p r h) (trace : AreCountsOf p h t) where
    passes : List ℕ × ℕ → Bool
    passes l = nat_lt l.1 (length (instances h l.0))

    -- what a heap says of the limit of a name, roles say of its number
    look : (q : List ℕ) (o : Option ℕ) → position (bytes_eq q) p.table.kinds ≡ o →
        option_map limit_at (over_below r t n o) ≡ option_and_then (λ l. cond (passes (q, l)) (Some l) None) (lookup (is_at (name_cmp q)) h.limits)
    unfolding passes
    look q None unseen = go (lookup (is_at (name_cmp q)) h.limits)
      where
        none : instances h q ≡ []
        none = no_instances h (subst IsSound (sym stand.table) sound) q (ap (λ (x : Table). position (bytes_eq q) x.kinds) stand.table ∙ unseen)

        go : (o : Option ℕ) → None ≡ option_and_then (λ l. cond (nat_lt l (length (instances h q))) (Some l) None) o
        go None = refl
        go (Some l) = sym (ap (λ b. cond b (Some l) None) (ap (λ xs. nat_lt l (length xs)) none ∙ le-ltb l 0 (omega arith)))
    look q (Some k) at =
        ap (λ b. option_map limit_at (cond (b && is_over_limit r t k) (Some k) None)) (lt-ltb k n (omega (arith, all, within)))
        ∙ go (limit_in r k) refl
        ∙ ap (option_and_then (λ l. cond (nat_lt l (length (instances h q))) (Some l) None)) limited
      where
        within : k < length p.table.kinds
        within = (position-Some (bytes_eq q) p.table.kinds k [] at).0

        its : q ≡ name_of p k
        its = (bytes_eq-Decides q (name_of p k)).0 (position-Some (bytes_eq q) p.table.kinds k [] at).1

        named : slice_get p.table.kinds k ≡ Some q
        named = slice_get-get_or p.table.kinds k [] within ∙ ap Some (sym its)

        limited : limit_in r k ≡ lookup (is_at (name_cmp q)) h.limits
        limited = stand.limits k q named

        counted : slice_index t.instances k ≡ length (instances h q)
        counted = trace.instances k q named

        go : (o : Option ℕ) → limit_in r k ≡ o →
            option_map limit_at (cond (option_map_or (λ l. nat_lt l (slice_index t.instances k)) (limit_in r k) false) (Some k) None)
            ≡ option_and_then (λ l. cond (nat_lt l (length (instances h q))) (Some l) None) (limit_in r k)
        go None is = rw is refl
        go (Some l) is = rw (is, counted) (chosen (nat_lt l (length (instances h q))))
          where
            chosen : (b : Bool) → option_map limit_at (cond b (Some k) None) ≡ cond b (Some l) None
            chosen true = ap (λ o. Some (unwrap_or o 0)) is
            chosen false = refl

    -- The numbers in the order of the names are those of the heap's types over their limit.
    pub over-are : map (named_limit p r) (values_of m.entries) ≡ violating_kinds h
    unfolding violating_kinds passes
    over-are =
        named_limits m.entries all_named
        ∙ same_named (map (λ e. (e.0, limit_at e.1)) texts) (filter passes h.limits)
        (subst (IsStrictlySortedBy name_cmp) (sym (keys-values limit_at texts)) (sorted-by_texts m.entries sorted))
        (sorted_passing passes h.limits stand.ordered.limits)
        (λ q. lookup-values limit_at q texts ∙ ap (option_map limit_at) (lookup-by_texts q m.entries ∙ has q)
        ∙ look q (position (bytes_eq q) p.table.kinds) refl ∙ sym (lookup-passing passes q h.limits stand.ordered.limits))

-- at first there is none
pub over_none : {Y : Type 0} (p : PlacedTable) (r : RoleTable) (t : CountTable) (m : BTreeMap (String Y) ℕ) → m.entries ≡ [] → HasOver p r t m 0
over_none p r t m empty q = ap (lookup (is_at (λ k. slice_cmp nat_cmp q (string_bytes k)))) empty ∙ go (position (bytes_eq q) p.table.kinds)
  where
    go : (o : Option ℕ) → None ≡ over_below r t 0 o
    go None = refl
    go (Some k) = sym (ap (λ b. cond (b && is_over_limit r t k) (Some k) None) (le-ltb k 0 (omega arith)))

-- at most one entry more
pub one_more : (n m k : ℕ) (b : Bool) → m ≡ n + cond b 0 1 → n ≤ k → m ≤ k + 1
one_more n m k true is few = omega (arith, is, few)
one_more n m k false is few = omega (arith, is, few)
