-- The limits of types by name, where they are given by number.
use Rattle.std.proofs.Common.{◌≡◌, ℕ, zero, suc, ◌-◌, ◌<◌, Bool, true, false, cond, List, [], ◌∷◌, ◌++◌, length, replicate, Option, None, Some, sym, ap, refl, subst, ⊎_elim, ◌∙◌, arith, slice_set}
use Rattle.std.specs.BTreeMap.{insert_entry, is_at}
use Rattle.std.specs.Cmp.{eq_by_cmp_equiv}
use Rattle.std.specs.List.{position, IsDistinct}
use Rattle.std.specs.List.Sorted.{IsStrictlySortedBy}
use Rattle.std.specs.Map.{keys_of, lookup}
use Rattle.std.specs.Option.{option_and_then, option_map}
use Rattle.std.specs.Ordering.{ordering_reverse}
use Rattle.std.specs.Str.{bytes_eq}
use Rattle.std.specs.declared.cmp.Ordering.{Ordering}
use Rattle.std.specs.declared.cmp.Ordering.TheVariants.{Less, Equal, Greater}
use Rattle.std.proofs.lemmas.Bool.{false≢true, cases_Bool}
use Rattle.std.proofs.lemmas.Cmp.{nat_list_cmp_total}
use Rattle.std.proofs.lemmas.Bool.Decides.{nat_tests}
use Rattle.std.proofs.lemmas.List.Quantifiers.{position-Some}
use Rattle.std.proofs.lemmas.Map.{lookup-none}
use Rattle.std.proofs.lemmas.Map.Entries.{lookup_head, lookup_tail, none_past_head, none_below_head}
use Rattle.std.proofs.lemmas.Map.Keys.{IsDistinct-from_sorted, IsDistinct-tail, apart_from_distinct, sorted_tail}
use Rattle.std.proofs.lemmas.Map.Lookups.{exact_bytes}
use Rattle.std.proofs.lemmas.Slice.Eq.{bytes_eq-Decides}
use Rattle.graph_meaning.specs.Heap.{name_cmp, is_seen}
use Rattle.graph_meaning.specs.Step.{with_kind}
use Rattle.graph_meaning.proofs.Orders.{sorted-insert_entry}
use Rattle.assert_registry.specs.Assertions.{AreOfSeenTypes, limit_of, with_room}
use Rattle.assert_registry.specs.Laws.{LimitsAgree}
use Rattle.assert_registry.proofs.ByName.{name-itself, name-same, cond_twice, cond_swapped, lookup-insert_entry, no_limit}
use Rattle.heap_parts.specs.Parts.{named_limits}

-- ---- two tests of names

bytes-itself : (name : List ℕ) → bytes_eq name name ≡ true
bytes-itself name = (bytes_eq-Decides name name).1 refl

-- both tests of names say the same
same_test : (name other : List ℕ) → is_at (name_cmp name) other ≡ bytes_eq name other
same_test name other = go (is_at (name_cmp name) other) refl (bytes_eq name other) refl
  where
    go : (b : Bool) → is_at (name_cmp name) other ≡ b → (c : Bool) → bytes_eq name other ≡ c → is_at (name_cmp name) other ≡ bytes_eq name other
    go true is true eq = is ∙ sym eq
    go false is false eq = is ∙ sym eq
    go true is false eq =
        absurd (false≢true (sym eq ∙ ap (bytes_eq name) (sym (name-same name other is)) ∙ bytes-itself name))
    go false is true eq =
        absurd (false≢true (sym is ∙ ap (is_at (name_cmp name)) (sym ((bytes_eq-Decides name other).0 eq)) ∙ name-itself name))

-- ---- entries in order are told apart by what look-ups find in them

-- what a name has in these entries
abbrev found : List (List ℕ × ℕ) → List ℕ → Option ℕ
found es name = lookup (is_at (name_cmp name)) es

at_head : (e : List ℕ × ℕ) (es : List (List ℕ × ℕ)) → found (e ∷ es) e.0 ≡ Some e.1
at_head e es = lookup_head (is_at (name_cmp e.0)) e es (name-itself e.0)

past_head : (name : List ℕ) (e : List ℕ × ℕ) (es : List (List ℕ × ℕ)) → IsStrictlySortedBy name_cmp (keys_of (e ∷ es)) → is_at (name_cmp name) e.0 ≡ true → found es name ≡ None
past_head name e es s at =
    lookup-none (is_at (name_cmp name)) es (none_past_head (eq_by_cmp_equiv nat_list_cmp_total) name e es (IsDistinct-from_sorted name_cmp (keys_of (e ∷ es)) s) at)

module _ (e f : List ℕ × ℕ) (es fs : List (List ℕ × ℕ)) (s : IsStrictlySortedBy name_cmp (keys_of (e ∷ es)))
    (t : IsStrictlySortedBy name_cmp (keys_of (f ∷ fs))) (agree : (name : List ℕ) → found (e ∷ es) name ≡ found (f ∷ fs) name) where
  heads : e.0 ≡ f.0
  heads = exact_bytes e.0 f.0 (go (name_cmp e.0 f.0) refl)
    where
      go : (o : Ordering) → name_cmp e.0 f.0 ≡ o → name_cmp e.0 f.0 ≡ Equal
      go Less is =
          let gone : Some e.1 ≡ None = sym (at_head e es) ∙ agree e.0 ∙ lookup-none _ (f ∷ fs) (none_below_head nat_list_cmp_total e.0 f fs t is) in
          cc
      go Equal is = is
      go Greater is =
          let gone : Some f.1 ≡ None =
          sym (at_head f fs) ∙ sym (agree f.0) ∙ lookup-none _ (e ∷ es) (none_below_head nat_list_cmp_total f.0 e es s (nat_list_cmp_total.antisymm f.0 e.0 ∙ ap ordering_reverse is)) in
          cc

  values : e.1 ≡ f.1
  values =
      let same : Some e.1 ≡ Some f.1 = sym (at_head e es) ∙ agree e.0 ∙ lookup_head (is_at (name_cmp e.0)) f fs (ap (is_at (name_cmp e.0)) (sym heads) ∙ name-itself e.0) in
      cc

  tails : (name : List ℕ) → found es name ≡ found fs name
  tails name =
      ⊎_elim
      (λ here. past_head name e es s here ∙ sym (past_head name f fs t (ap (is_at (name_cmp name)) (sym heads) ∙ here)))
      (λ later.
      sym (lookup_tail (is_at (name_cmp name)) e es later) ∙ agree name ∙ lookup_tail (is_at (name_cmp name)) f fs (ap (is_at (name_cmp name)) (sym heads) ∙ later))
      (cases_Bool (is_at (name_cmp name) e.0))

same_entries : (es fs : List (List ℕ × ℕ)) → IsStrictlySortedBy name_cmp (keys_of es) → IsStrictlySortedBy name_cmp (keys_of fs) → ((name : List ℕ) → found es name ≡ found fs name) → es ≡ fs
same_entries [] [] s t agree = refl
same_entries [] (f ∷ fs) s t agree = let gone : None ≡ Some f.1 = agree f.0 ∙ at_head f fs in cc
same_entries (e ∷ es) [] s t agree = let gone : None ≡ Some e.1 = sym (agree e.0) ∙ at_head e es in cc
same_entries (e ∷ es) (f ∷ fs) s t agree =
    let rest = same_entries es fs (sorted_tail name_cmp e.0 (keys_of es) s) (sorted_tail name_cmp f.0 (keys_of fs) t) (tails e f es fs s t agree) in
    λ i. (heads e f es fs s t agree i, values e f es fs s t agree i) ∷ rest i

-- ---- two limits

sorted-insert : (es : List (List ℕ × ℕ)) (kind : List ℕ) (limit : ℕ) → IsStrictlySortedBy name_cmp (keys_of es) → IsStrictlySortedBy name_cmp (keys_of (insert_entry name_cmp es kind limit))
sorted-insert = sorted-insert_entry name_cmp nat_list_cmp_total

-- a later limit of a type takes the place of an earlier one
insert-twice : (es : List (List ℕ × ℕ)) (kind : List ℕ) (limit earlier : ℕ) → IsStrictlySortedBy name_cmp (keys_of es) →
    insert_entry name_cmp es kind limit ≡ insert_entry name_cmp (insert_entry name_cmp es kind earlier) kind limit
insert-twice es kind limit earlier s =
    same_entries _ _ (sorted-insert es kind limit s) (sorted-insert (insert_entry name_cmp es kind earlier) kind limit (sorted-insert es kind earlier s))
    (λ name.
    lookup-insert_entry es kind name limit
    ∙ cond_twice (is_at (name_cmp name) kind) limit earlier (lookup (is_at (name_cmp name)) es)
    ∙ sym (lookup-insert_entry (insert_entry name_cmp es kind earlier) kind name limit ∙ ap (cond (is_at (name_cmp name) kind) (Some limit)) (lookup-insert_entry es kind name earlier)))

-- limits of two types may be set in either order
insert-swapped : (es : List (List ℕ × ℕ)) (kind other : List ℕ) (limit limit_of_other : ℕ) → bytes_eq kind other ≡ false →
    IsStrictlySortedBy name_cmp (keys_of es) →
    insert_entry name_cmp (insert_entry name_cmp es kind limit) other limit_of_other ≡ insert_entry name_cmp (insert_entry name_cmp es other limit_of_other) kind limit
insert-swapped es kind other limit limit_of_other ne s =
    same_entries _ _ (sorted-insert (insert_entry name_cmp es kind limit) other limit_of_other (sorted-insert es kind limit s))
    (sorted-insert (insert_entry name_cmp es other limit_of_other) kind limit (sorted-insert es other limit_of_other s))
    (λ name.
    lookup-insert_entry (insert_entry name_cmp es kind limit) other name limit_of_other
    ∙ ap (cond (is_at (name_cmp name) other) (Some limit_of_other)) (lookup-insert_entry es kind name limit)
    ∙ cond_swapped (is_at (name_cmp name) other) (is_at (name_cmp name) kind) limit limit_of_other (lookup (is_at (name_cmp name)) es)
    (λ first later. false≢true (sym ne ∙ ap (bytes_eq kind) (sym (name-same name other first) ∙ name-same name kind later) ∙ bytes-itself kind))
    ∙ sym
    (lookup-insert_entry (insert_entry name_cmp es other limit_of_other) kind name limit
    ∙ ap (cond (is_at (name_cmp name) kind) (Some limit)) (lookup-insert_entry es other name limit_of_other)))

-- ---- limits by number

-- the first place that passes is the first one, or it is a place of the rest
position-cons : {X : Type 0} (p : X → Bool) (x : X) (xs : List X) → position p (x ∷ xs) ≡ cond (p x) (Some 0) (option_map suc (position p xs))
position-cons p x xs = grind (arith, nat_tests)

sorted-nothing : IsStrictlySortedBy name_cmp []
unfolding IsStrictlySortedBy
sorted-nothing = tt

pub named-sorted : (kinds : List (List ℕ)) (limits : List (Option ℕ)) → IsStrictlySortedBy name_cmp (keys_of (named_limits kinds limits))
named-sorted [] limits = sorted-nothing
named-sorted (kind ∷ kinds) [] = sorted-nothing
named-sorted (kind ∷ kinds) (None ∷ limits) = named-sorted kinds limits
named-sorted (kind ∷ kinds) (Some limit ∷ limits) = sorted-insert (named_limits kinds limits) kind limit (named-sorted kinds limits)

named-none : (kinds : List (List ℕ)) (n : ℕ) → named_limits kinds (replicate n None) ≡ []
named-none [] n = refl
named-none (kind ∷ kinds) zero = refl
named-none (kind ∷ kinds) (suc n) = named-none kinds n

named-padded : (kinds : List (List ℕ)) (limits : List (Option ℕ)) (n : ℕ) → named_limits kinds (limits ++ replicate n None) ≡ named_limits kinds limits
named-padded [] limits n = refl
named-padded (kind ∷ kinds) [] n = named-none (kind ∷ kinds) n
named-padded (kind ∷ kinds) (None ∷ limits) n = named-padded kinds limits n
named-padded (kind ∷ kinds) (Some limit ∷ limits) n = ap (λ named. insert_entry name_cmp named kind limit) (named-padded kinds limits n)

-- more room changes no limit
pub named-with_room : (kinds : List (List ℕ)) (limits : List (Option ℕ)) (room : ℕ) → named_limits kinds (with_room limits room) ≡ named_limits kinds limits
named-with_room kinds limits room = named-padded kinds limits (room - length limits)

named-pushed : (kinds : List (List ℕ)) (kind : List ℕ) (limits : List (Option ℕ)) → limit_of limits (length kinds) ≡ None → named_limits (kinds ++ kind ∷ []) limits ≡ named_limits kinds limits
named-pushed [] kind [] none = refl
named-pushed [] kind (None ∷ limits) none = refl
named-pushed [] kind (Some limit ∷ limits) none = cc
named-pushed (k ∷ kinds) kind [] none = refl
named-pushed (k ∷ kinds) kind (None ∷ limits) none = named-pushed kinds kind limits none
named-pushed (k ∷ kinds) kind (Some limit ∷ limits) none = ap (λ named. insert_entry name_cmp named k limit) (named-pushed kinds kind limits none)

-- a type that was just seen has no limit
pub named-with_kind : (kinds : List (List ℕ)) (kind : List ℕ) (limits : List (Option ℕ)) → AreOfSeenTypes limits kinds → named_limits (with_kind kinds kind) limits ≡ named_limits kinds limits
named-with_kind kinds kind limits seen = go (is_seen kinds kind)
  where
    go : (b : Bool) → named_limits (cond b kinds (kinds ++ kind ∷ [])) limits ≡ named_limits kinds limits
    go true = refl
    go false = named-pushed kinds kind limits (no_limit limits kinds seen)

-- the limit of a type is set by its number as it is set by its name
pub named-set : (kinds : List (List ℕ)) (limits : List (Option ℕ)) (kind : List ℕ) (number limit : ℕ) →
    position (bytes_eq kind) kinds ≡ Some number → number < length limits →
    named_limits kinds (slice_set limits number (Some limit)) ≡ insert_entry name_cmp (named_limits kinds limits) kind limit
named-set [] limits kind number limit at within = cc
named-set (k ∷ kinds) [] kind number limit at within = absurd (omega arith)
named-set (k ∷ kinds) (l ∷ limits) kind number limit at within =
    go (bytes_eq kind k) refl (position (bytes_eq kind) kinds) refl (sym (position-cons (bytes_eq kind) k kinds) ∙ at) (λ n. named-set kinds limits kind n limit)
  where
    here : (l : Option ℕ) → named_limits (k ∷ kinds) (Some limit ∷ limits) ≡ insert_entry name_cmp (named_limits (k ∷ kinds) (l ∷ limits)) k limit
    here None = refl
    here (Some earlier) = insert-twice (named_limits kinds limits) k limit earlier (named-sorted kinds limits)

    later : (l : Option ℕ) (n : ℕ) → bytes_eq kind k ≡ false →
        named_limits kinds (slice_set limits n (Some limit)) ≡ insert_entry name_cmp (named_limits kinds limits) kind limit →
        named_limits (k ∷ kinds) (l ∷ slice_set limits n (Some limit)) ≡ insert_entry name_cmp (named_limits (k ∷ kinds) (l ∷ limits)) kind limit
    later None n ne rest = rest
    later (Some own) n ne rest =
        ap (λ named. insert_entry name_cmp named k own) rest ∙ insert-swapped (named_limits kinds limits) kind k limit own ne (named-sorted kinds limits)

    go : (b : Bool) → bytes_eq kind k ≡ b → (o : Option ℕ) → position (bytes_eq kind) kinds ≡ o →
        cond b (Some 0) (option_map suc o) ≡ Some number →
        ((n : ℕ) → position (bytes_eq kind) kinds ≡ Some n → n < length limits → named_limits kinds (slice_set limits n (Some limit)) ≡ insert_entry name_cmp (named_limits kinds limits) kind limit) →
        named_limits (k ∷ kinds) (slice_set (l ∷ limits) number (Some limit)) ≡ insert_entry name_cmp (named_limits (k ∷ kinds) (l ∷ limits)) kind limit
    go true same o is first rest =
        let zeroth : 0 ≡ number = cc in
        let name : k ≡ kind = sym ((bytes_eq-Decides kind k).0 same) in
        subst (λ n. named_limits (k ∷ kinds) (slice_set (l ∷ limits) n (Some limit)) ≡ insert_entry name_cmp (named_limits (k ∷ kinds) (l ∷ limits)) kind limit) zeroth
        (subst (λ x. named_limits (k ∷ kinds) (Some limit ∷ limits) ≡ insert_entry name_cmp (named_limits (k ∷ kinds) (l ∷ limits)) x limit) name (here l))
    go false ne None is first rest = cc
    go false ne (Some n) is first rest =
        let next : suc n ≡ number = cc in
        subst (λ m. named_limits (k ∷ kinds) (slice_set (l ∷ limits) m (Some limit)) ≡ insert_entry name_cmp (named_limits (k ∷ kinds) (l ∷ limits)) kind limit) next
        (later l n ne (rest n is (let w : number < suc (length limits) = within in omega (arith, next, w))))

-- ---- by name as by number

-- a name that stands first stands at no later place
not_again : (kind : List ℕ) (kinds : List (List ℕ)) → IsDistinct bytes_eq (kind ∷ kinds) → position (bytes_eq kind) kinds ≡ None
not_again kind kinds distinct = go (position (bytes_eq kind) kinds) refl
  where
    go : (o : Option ℕ) → position (bytes_eq kind) kinds ≡ o → o ≡ None
    go None is = refl
    go (Some n) is =
        let found = position-Some (bytes_eq kind) kinds n [] is in
        absurd (false≢true (sym (apart_from_distinct bytes_eq (kind ∷ kinds) 0 (suc n) [] distinct (omega arith) (let w = found.0 in omega (arith, w))) ∙ found.1))

no_limits : (o : Option ℕ) → option_and_then (limit_of []) o ≡ None
no_limits None = refl
no_limits (Some n) = refl

shifted : (l : Option ℕ) (limits : List (Option ℕ)) (o : Option ℕ) → option_and_then (limit_of (l ∷ limits)) (option_map suc o) ≡ option_and_then (limit_of limits) o
shifted l limits None = refl
shifted l limits (Some n) = refl

-- Each type has the limit by its name that it has by its number.
pub named-agree : (kinds : List (List ℕ)) (limits : List (Option ℕ)) → IsDistinct bytes_eq kinds → LimitsAgree kinds (named_limits kinds limits) limits
named-agree [] limits distinct name = refl
named-agree (k ∷ kinds) [] distinct name = sym (no_limits (position (bytes_eq name) (k ∷ kinds)))
named-agree (k ∷ kinds) (None ∷ limits) distinct name =
    go (bytes_eq name k) refl (named-agree kinds limits (IsDistinct-tail bytes_eq k kinds distinct) name)
    ∙ sym (ap (option_and_then (limit_of (None ∷ limits))) (position-cons (bytes_eq name) k kinds))
  where
    go : (b : Bool) → bytes_eq name k ≡ b →
        lookup (is_at (name_cmp name)) (named_limits kinds limits) ≡ option_and_then (limit_of limits) (position (bytes_eq name) kinds) →
        lookup (is_at (name_cmp name)) (named_limits kinds limits) ≡ option_and_then (limit_of (None ∷ limits)) (cond b (Some 0) (option_map suc (position (bytes_eq name) kinds)))
    go true same rest =
        let names : k ≡ name = sym ((bytes_eq-Decides name k).0 same) in
        rest ∙ ap (option_and_then (limit_of limits)) (subst (λ x. position (bytes_eq x) kinds ≡ None) names (not_again k kinds distinct))
    go false ne rest = rest ∙ sym (shifted None limits (position (bytes_eq name) kinds))
named-agree (k ∷ kinds) (Some limit ∷ limits) distinct name =
    lookup-insert_entry (named_limits kinds limits) k name limit
    ∙ ap (λ b. cond b (Some limit) (lookup (is_at (name_cmp name)) (named_limits kinds limits))) (same_test name k)
    ∙ go (bytes_eq name k) (named-agree kinds limits (IsDistinct-tail bytes_eq k kinds distinct) name)
    ∙ sym (ap (option_and_then (limit_of (Some limit ∷ limits))) (position-cons (bytes_eq name) k kinds))
  where
    go : (b : Bool) →
        lookup (is_at (name_cmp name)) (named_limits kinds limits) ≡ option_and_then (limit_of limits) (position (bytes_eq name) kinds) →
        cond b (Some limit) (lookup (is_at (name_cmp name)) (named_limits kinds limits))
        ≡ option_and_then (limit_of (Some limit ∷ limits)) (cond b (Some 0) (option_map suc (position (bytes_eq name) kinds)))
    go true rest = refl
    go false rest = rest ∙ sym (shifted (Some limit) limits (position (bytes_eq name) kinds))
