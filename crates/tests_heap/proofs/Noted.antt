-- Logs in which no id is above a number.
use Rattle.std.proofs.Common.{ℕ, zero, suc, ◌<◌, ◌≤◌, ◌++◌, Bool, List, [], ◌∷◌, map, filter, drop, arith, All}
use Rattle.std.proofs.lemmas.List.Elements.{All-nil, All-cons, All-head, All-tail, All-replicate, All-set, All-map, All-weaker, All-filter, All-drop, All-push}
use Rattle.heap_base.specs.declared.limits.TheConstants.{MOST_THREADS}
use Rattle.graph_meaning.specs.Heap.{no_regions, regions_of}
use Rattle.graph_meaning.specs.Step.{with_member}
use Rattle.region_log.specs.Regions.{with_region, without_innermost, IsAbove}

-- no id in any region of any thread is above this
abbrev pub AreUpTo : ℕ → List (List (List ℕ)) → Type 0
AreUpTo last regions = All (All (All (λ id. id ≤ last))) regions

module _ (last : ℕ) where
  pub upto-none : AreUpTo last no_regions
  upto-none = All-replicate (All (All (λ id. id ≤ last))) MOST_THREADS [] (All-nil (All (λ id. id ≤ last)))

  pub upto-of : (regions : List (List (List ℕ))) (thread : ℕ) → AreUpTo last regions → All (All (λ id. id ≤ last)) (regions_of regions thread)
  upto-of [] thread upto = All-nil (All (λ id. id ≤ last))
  upto-of (r ∷ regions) zero upto = All-head (All (All (λ id. id ≤ last))) r regions upto
  upto-of (r ∷ regions) (suc thread) upto = upto-of regions thread (All-tail (All (All (λ id. id ≤ last))) r regions upto)

  pub upto-start : (regions : List (List (List ℕ))) (thread : ℕ) → AreUpTo last regions → AreUpTo last (with_region regions thread)
  upto-start regions thread upto =
      All-set (All (All (λ id. id ≤ last))) regions thread ([] ∷ regions_of regions thread)
      (All-cons (All (λ id. id ≤ last)) [] (regions_of regions thread) (All-nil (λ id. id ≤ last)) (upto-of regions thread upto)) upto

  pub upto-finish : (regions : List (List (List ℕ))) (thread : ℕ) → AreUpTo last regions → AreUpTo last (without_innermost regions thread)
  upto-finish regions thread upto =
      All-set (All (All (λ id. id ≤ last))) regions thread (drop 1 (regions_of regions thread)) (All-drop (All (λ id. id ≤ last)) 1 (regions_of regions thread) (upto-of regions thread upto)) upto

  pub upto-above : (regions : List (List (List ℕ))) (thread id : ℕ) → last < id → AreUpTo last regions → IsAbove id (regions_of regions thread)
  upto-above regions thread id above upto =
      All-weaker (All (λ other. other ≤ last)) (All (λ other. other < id))
      (λ ids all. All-weaker (λ other. other ≤ last) (λ other. other < id) (λ other within. omega arith) ids all) (regions_of regions thread)
      (upto-of regions thread upto)

upto-more : (last more : ℕ) (regions : List (List (List ℕ))) → last ≤ more → AreUpTo last regions → AreUpTo more regions
upto-more last more regions less upto =
    All-weaker (All (All (λ id. id ≤ last))) (All (All (λ id. id ≤ more)))
    (λ rs each. All-weaker (All (λ id. id ≤ last)) (All (λ id. id ≤ more)) (λ ids all. All-weaker (λ id. id ≤ last) (λ id. id ≤ more) (λ id within. omega arith) ids all) rs each)
    regions upto

pub upto-note : (last : ℕ) (regions : List (List (List ℕ))) (thread id : ℕ) → last < id → AreUpTo last regions → AreUpTo id (with_member regions thread id)
upto-note last regions thread id above upto =
    let up = upto-more last id regions (omega arith) upto in
    All-set (All (All (λ x. x ≤ id))) regions thread (map (λ (r : List ℕ). r ++ id ∷ []) (regions_of regions thread))
    (All-map (All (λ x. x ≤ id)) (λ (r : List ℕ). r ++ id ∷ []) (regions_of regions thread)
    (All-weaker (All (λ x. x ≤ id)) (λ (r : List ℕ). All (λ x. x ≤ id) (r ++ id ∷ [])) (λ r all. All-push (λ x. x ≤ id) r id all (omega arith))
    (regions_of regions thread) (upto-of id regions thread up)))
    up
