-- Limits by number of a type and by its name.
use Rattle.std.proofs.Common.{◌≡◌, ◌≢◌, ℕ, zero, suc, ◌-◌, ◌<◌, Bool, true, false, cond, List, [], ◌∷◌, ◌++◌, length, get_or, set, replicate, Option, None, Some, sym, ap, refl, subst, ◌∙◌, arith}
use Rattle.std.specs.BTreeMap.{insert_entry, is_at}
use Rattle.std.specs.Cmp.{Equal-is}
use Rattle.std.specs.List.{position}
use Rattle.std.specs.Map.{lookup}
use Rattle.std.specs.Option.{is_some, IsSome, option_and_then}
use Rattle.std.specs.Ordering.{match_ordering, ordering_reverse}
use Rattle.std.specs.Str.{bytes_eq}
use Rattle.std.specs.declared.cmp.Ordering.{Ordering}
use Rattle.std.specs.declared.cmp.Ordering.TheVariants.{Less, Equal, Greater}
use Rattle.std.proofs.lemmas.Bool.{false≢true}
use Rattle.std.proofs.lemmas.Cmp.{nat_list_cmp_total}
use Rattle.std.proofs.lemmas.List.{get_or-set_same, get_or-set_other}
use Rattle.std.proofs.lemmas.List.Quantifiers.{position-Some}
use Rattle.std.proofs.lemmas.Map.Lookups.{exact_bytes}
use Rattle.std.proofs.lemmas.Slice.Eq.{bytes_eq-Decides}
use Rattle.graph_meaning.specs.Heap.{name_cmp, is_seen}
use Rattle.object_table.proofs.Positions.{position_push}
use Rattle.assert_registry.specs.Assertions.{AreOfSeenTypes, limit_of}
use Rattle.assert_registry.specs.Laws.{NewTypeHasNoLimit, RoomChangesNoLimit, LimitIsSet}

-- ---- names

-- a name is found at itself
pub name-itself : (name : List ℕ) → is_at (name_cmp name) name ≡ true
name-itself name = (Equal-is (name_cmp name name)).1 (go (name_cmp name name) (nat_list_cmp_total.antisymm name name))
  where
    go : (o : Ordering) → o ≡ ordering_reverse o → o ≡ Equal
    go Less e = cc
    go Equal e = refl
    go Greater e = cc

-- a name is found at no other
pub name-same : (name other : List ℕ) → is_at (name_cmp name) other ≡ true → name ≡ other
name-same name other at = exact_bytes name other ((Equal-is (name_cmp name other)).0 at)

-- of two values under one test the first counts
pub cond_twice : {X : Type 0} (b : Bool) (v w : X) (rest : Option X) → cond b (Some v) rest ≡ cond b (Some v) (cond b (Some w) rest)
cond_twice true v w rest = refl
cond_twice false v w rest = refl

-- two tests of which one at most passes may be made in either order
pub cond_swapped : {X : Type 0} (b c : Bool) (v w : X) (rest : Option X) → (b ≡ true → c ≡ true → ⊥) → cond b (Some w) (cond c (Some v) rest) ≡ cond c (Some v) (cond b (Some w) rest)
cond_swapped true true v w rest apart = absurd (apart refl refl)
cond_swapped true false v w rest apart = refl
cond_swapped false c v w rest apart = refl

-- what a name has after another, or itself, was given a limit
pub lookup-insert_entry : (named : List (List ℕ × ℕ)) (kind name : List ℕ) (limit : ℕ) →
    lookup (is_at (name_cmp name)) (insert_entry name_cmp named kind limit) ≡ cond (is_at (name_cmp name) kind) (Some limit) (lookup (is_at (name_cmp name)) named)
lookup-insert_entry [] kind name limit = refl
lookup-insert_entry (e ∷ named) kind name limit =
    go (name_cmp kind e.0) refl (lookup-insert_entry named kind name limit)
  where
    go : (c : Ordering) → name_cmp kind e.0 ≡ c →
        lookup (is_at (name_cmp name)) (insert_entry name_cmp named kind limit) ≡ cond (is_at (name_cmp name) kind) (Some limit) (lookup (is_at (name_cmp name)) named) →
        lookup (is_at (name_cmp name)) (match_ordering c ((kind, limit) ∷ e ∷ named) ((e.0, limit) ∷ named) (e ∷ insert_entry name_cmp named kind limit))
        ≡ cond (is_at (name_cmp name) kind) (Some limit) (lookup (is_at (name_cmp name)) (e ∷ named))
    go Less is rest = refl
    go Equal is rest =
        let same : kind ≡ e.0 = exact_bytes kind e.0 is in
        subst (λ (x : List ℕ). cond (is_at (name_cmp name) e.0) (Some limit) (lookup (is_at (name_cmp name)) named)
        ≡ cond (is_at (name_cmp name) x) (Some limit) (lookup (is_at (name_cmp name)) (e ∷ named))) (sym same)
        (cond_twice (is_at (name_cmp name) e.0) limit e.1 (lookup (is_at (name_cmp name)) named))
    go Greater is rest =
        ap (λ found. cond (is_at (name_cmp name) e.0) (Some e.1) found) rest
        ∙ cond_swapped (is_at (name_cmp name) e.0) (is_at (name_cmp name) kind) limit e.1 (lookup (is_at (name_cmp name)) named)
        (λ first later.
        let same : kind ≡ e.0 = sym (name-same name kind later) ∙ name-same name e.0 first in
        let equal : name_cmp kind e.0 ≡ Equal = (Equal-is (name_cmp kind e.0)).0 (ap (is_at (name_cmp kind)) (sym same) ∙ name-itself kind) in
        cc)

-- ---- limits

-- a type past those that were seen has no limit
pub no_limit : (numbered : List (Option ℕ)) (kinds : List (List ℕ)) → AreOfSeenTypes numbered kinds → limit_of numbered (length kinds) ≡ None
no_limit numbered kinds seen = go (limit_of numbered (length kinds)) (seen (length kinds))
  where
    go : (o : Option ℕ) → (IsSome o → length kinds < length kinds) → o ≡ None
    go None seen = refl
    go (Some limit) seen = let less : length kinds < length kinds = seen refl in absurd (omega arith)

pub new_type_has_no_limit : NewTypeHasNoLimit
new_type_has_no_limit kinds named numbered kind seen agree name = agree name ∙ go (is_seen kinds kind)
  where
    pushed : (o : Option ℕ) (b : Bool) → option_and_then (limit_of numbered) o ≡ option_and_then (limit_of numbered) (cond (is_some o) o (cond b (Some (length kinds)) None))
    pushed (Some n) b = refl
    pushed None true = sym (no_limit numbered kinds seen)
    pushed None false = refl

    go : (b : Bool) → option_and_then (limit_of numbered) (position (bytes_eq name) kinds) ≡ option_and_then (limit_of numbered) (position (bytes_eq name) (cond b kinds (kinds ++ kind ∷ [])))
    go true = refl
    go false =
        pushed (position (bytes_eq name) kinds) (bytes_eq name kind) ∙ ap (option_and_then (limit_of numbered)) (sym (position_push (bytes_eq name) kinds kind))

padded : (limits : List (Option ℕ)) (n kind : ℕ) → limit_of (limits ++ replicate n None) kind ≡ limit_of limits kind
padded [] zero kind = refl
padded [] (suc n) zero = refl
padded [] (suc n) (suc kind) = padded [] n kind
padded (l ∷ limits) n zero = refl
padded (l ∷ limits) n (suc kind) = padded limits n kind

pub room_changes_no_limit : RoomChangesNoLimit
room_changes_no_limit limits kinds kind = padded limits (kinds - length limits) kind

pub limit_is_set : LimitIsSet
limit_is_set kinds named numbered kind number limit at within agree name =
    lookup-insert_entry named kind name limit ∙ go (is_at (name_cmp name) kind) refl
  where
    place : (number < length kinds) × (bytes_eq kind (get_or kinds number []) ≡ true)
    place = let found = position-Some (bytes_eq kind) kinds number [] at in (found.0, found.1)

    -- no other name has the number
    apart : (o : Option ℕ) → position (bytes_eq name) kinds ≡ o → name ≢ kind → option_and_then (limit_of numbered) o ≡ option_and_then (limit_of (set numbered number (Some limit))) o
    apart None is ne = refl
    apart (Some n) is ne = sym (get_or-set_other numbered number n (Some limit) None other)
      where
        other : n ≢ number
        other same =
            let mine : name ≡ get_or kinds n [] = (bytes_eq-Decides name (get_or kinds n [])).0 (position-Some (bytes_eq name) kinds n [] is).1 in
            let its : kind ≡ get_or kinds number [] = (bytes_eq-Decides kind (get_or kinds number [])).0 place.1 in
            ne (mine ∙ ap (λ k. get_or kinds k []) same ∙ sym its)

    go : (b : Bool) → is_at (name_cmp name) kind ≡ b →
        cond b (Some limit) (lookup (is_at (name_cmp name)) named) ≡ option_and_then (limit_of (set numbered number (Some limit))) (position (bytes_eq name) kinds)
    go true is =
        let same : name ≡ kind = name-same name kind is in
        sym (ap (option_and_then (limit_of (set numbered number (Some limit)))) (ap (λ k. position (bytes_eq k) kinds) same ∙ at) ∙ get_or-set_same numbered number (Some limit) None within)
    go false is =
        agree name ∙ apart (position (bytes_eq name) kinds) refl (λ same. false≢true (sym is ∙ ap (is_at (name_cmp name)) (sym same) ∙ name-itself name))
