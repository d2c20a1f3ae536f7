-- The parts of the list of verdicts are those of the heap.
use Rattle.std.proofs.Common.{◌≡◌, ℕ, zero, suc, ◌<◌, slice_index, true, false, nat_lt, List, [], ◌∷◌, length, map, get_or, Option, Some, sym, ap, refl, subst, ◌∙◌, arith}
use Rattle.std.specs.Prelude.{unwrap_or}
use Rattle.std.specs.List.{All}
use Rattle.std.specs.Option.{option_and_then, option_map_or}
use Rattle.std.proofs.lemmas.Bool.{ltb-true}
use Rattle.std.proofs.lemmas.List.{length-map, get_or-map}
use Rattle.std.proofs.lemmas.List.Elements.{All-head, All-tail}
use Rattle.std.proofs.lemmas.Option.{slice_get-get_or}
use Rattle.graph_meaning.specs.declared.collection.Verdict.{Verdict}
use Rattle.graph_meaning.specs.Collecting.{first_with_paths, instances, violating_dead, violating_kinds, violating_unshared, dead_verdict, instances_verdict, unshared_verdict}
use Rattle.graph_meaning.specs.Heap.{Heap}
use Rattle.graph_meaning.specs.Roles.{RoleTable}
use Rattle.object_table.specs.Placed.{PlacedTable, id_in}
use Rattle.verdict_list.specs.Counts.{CountTable}
use Rattle.verdict_list.specs.Counts.{AreCountsOf}
use Rattle.verdict_list.specs.declared.instances.KindCount.{KindCount}
use Rattle.verdict_list.specs.Kinds.{name_of, is_over_limit, named_limit, named_count, IsOverLimit, IsCountedBy, IsSeenIn, SaysOf, HasFirst, ArePastLimits}
use Rattle.verdict_list.specs.Listed.{GoesOn, first_verdicts}
use Rattle.verdict_list.proofs.Counting.{named_at}
use Rattle.verdict_list.proofs.GoingOn.{goes_on_twice}

pub first_none : (n : ℕ) → first_with_paths n [] ≡ []
unfolding first_with_paths
first_none n = go n
  where
    go : (m : ℕ) → first_with_paths m [] ≡ []
    go zero = refl
    go (suc m) = refl

-- a verdict on each of the objects in these cells
pub map_held : (f : ℕ → Option ℕ) (verdict : ℕ → Verdict) (cells objects : List ℕ) → map f cells ≡ map Some objects → map (λ cell. verdict (unwrap_or (f cell) 0)) cells ≡ map verdict objects
map_held f verdict [] [] same = refl
map_held f verdict [] (x ∷ xs) same = cc
map_held f verdict (c ∷ cells) [] same = cc
map_held f verdict (c ∷ cells) (x ∷ xs) same =
    let first : f c ≡ Some x = cc in
    let others : map f cells ≡ map Some xs = cc in
    ap (λ o. verdict (unwrap_or o 0) ∷ map (λ cell. verdict (unwrap_or (f cell) 0)) cells) first ∙ ap (λ vs. verdict x ∷ vs) (map_held f verdict cells xs others)

pub map_pairs : {X Y : Type 0} (verdict : Y → Verdict) (f : X → Y) (xs : List X) (ys : List Y) → map f xs ≡ ys → map (λ x. verdict (f x)) xs ≡ map verdict ys
map_pairs {X} verdict f xs ys same = go xs ∙ ap (map verdict) same
  where
    go : (zs : List X) → map (λ x. verdict (f x)) zs ≡ map verdict (map f zs)
    go [] = refl
    go (z ∷ zs) = ap (λ vs. verdict (f z) ∷ vs) (go zs)

-- ---- types

module _ (p : PlacedTable) (r : RoleTable) (t : CountTable) (places : List (Option ℕ)) where
  named_counts : (counts : List KindCount) → All (IsCountedBy r t places) counts → map (named_count p) counts ≡ map (named_limit p r) (map (λ c. c.kind) counts)
  named_counts [] all = refl
  named_counts (c ∷ counts) all =
      ap (λ l. (name_of p c.kind, l) ∷ map (named_count p) counts) (sym (ap (λ o. unwrap_or o 0) (All-head (IsCountedBy r t places) c counts all).limit))
      ∙ ap (λ rest. named_limit p r c.kind ∷ rest) (named_counts counts (All-tail (IsCountedBy r t places) c counts all))

  pub kinds-are : (h : Heap) (counts : List KindCount) (kinds : List ℕ) → All (IsCountedBy r t places) counts →
      map (λ c. c.kind) counts ≡ kinds → map (named_limit p r) kinds ≡ violating_kinds h → map (named_count p) counts ≡ violating_kinds h
  kinds-are h counts kinds all same over = named_counts counts all ∙ ap (map (named_limit p r)) same ∙ over

  module _ (h : Heap) (trace : AreCountsOf p h t) (counts : List KindCount) (each : All (IsCountedBy r t places) counts) (seen : All (IsSeenIn p) counts) where
    pub all_say : All (SaysOf p h) counts
    all_say k d within =
        let c = get_or counts k d in
        (each k d within).found ∙ trace.instances c.kind (name_of p c.kind) (named_at p c.kind (seen k d within).seen)

    over_at : (kinds : List ℕ) → map (λ c. c.kind) counts ≡ kinds → All (IsOverLimit p r t) kinds → (k : ℕ) (d : KindCount) → k < length counts → is_over_limit r t (get_or counts k d).kind ≡ true
    over_at kinds same over k d within =
        let there : All (IsOverLimit p r t) (map (λ (c : KindCount). c.kind) counts) = subst (All (IsOverLimit p r t)) (sym same) over in
        let it = (there k d.kind (omega (arith, within, length-map counts (λ (c : KindCount). c.kind)))).over in
        subst (λ kind. is_over_limit r t kind ≡ true) (get_or-map (λ (c : KindCount). c.kind) counts k d d.kind within) it

    pub first_at_limit : (kinds : List ℕ) → map (λ c. c.kind) counts ≡ kinds → All (IsOverLimit p r t) kinds → ArePastLimits p r h places →
        (k : ℕ) (d : KindCount) → k < length counts → HasFirst p h (get_or counts k d)
    first_at_limit kinds same over past k d within =
        let c = get_or counts k d in
        let found = instances h (name_of p c.kind) in
        let less : c.limit < slice_index t.instances c.kind =
        ltb-true c.limit (slice_index t.instances c.kind)
        (sym (ap (λ o. option_map_or (λ l. nat_lt l (slice_index t.instances c.kind)) o false) (each k d within).limit)
        ∙ over_at kinds same over k d within) in
        let named = trace.instances c.kind (name_of p c.kind) (named_at p c.kind (seen k d within).seen) in
        let at = slice_get-get_or found c.limit 0 (omega (arith, less, named)) in
        (get_or found c.limit 0, ap (option_and_then (id_in p)) (each k d within).first ∙ past c.kind c.limit (seen k d within).seen (each k d within).limit ∙ at, at)

-- ---- the whole list

-- the verdicts on what is asserted dead, on types and on what is asserted unshared
pub first_three : (paths : ℕ) (none one two three : List Verdict) (count : ℕ → ℕ) (h : Heap) → none ≡ [] →
    GoesOn paths none (map (dead_verdict h) (violating_dead h)) one → GoesOn paths one (map (instances_verdict h) (violating_kinds h)) two →
    GoesOn paths two (map (unshared_verdict count h) (violating_unshared h)) three → three ≡ first_with_paths paths (first_verdicts count h)
first_three paths none one two three count h empty dead kinds unshared =
    let first = goes_on_twice paths none one two (map (dead_verdict h) (violating_dead h)) (map (instances_verdict h) (violating_kinds h)) dead kinds in
    goes_on_twice paths none two three _ (map (unshared_verdict count h) (violating_unshared h)) first unshared [] (empty ∙ sym (first_none paths))
