-- What a collection finds and leaves.
use Rattle.std.proofs.Common.{◌≡◌, ℕ, ◌+◌, List, ◌++◌, length, map, take, drop, Option, sym, ap, refl, subst, ◌∙◌, arith}
use Rattle.std.proofs.lemmas.List.{length-append, length-map, take-append-drop}
use Rattle.graph_meaning.specs.declared.collection.Verdict.{Verdict}
use Rattle.graph_meaning.specs.Heap.{Heap}
use Rattle.graph_meaning.specs.Laws.{AllLive}
use Rattle.graph_meaning.specs.Assertions.{reference_count}
use Rattle.graph_meaning.specs.Collecting.{Rules, after_collection, violating_dead, violating_kinds}
use Rattle.graph_meaning.specs.Collecting.{violating_unshared, violating_ownees, dead_verdict, instances_verdict, unshared_verdict, ownedby_verdict}
use Rattle.graph_meaning.specs.Collecting.{without_paths, all_verdicts, first_with_paths, collection_counted, collection_of}
use Rattle.graph_meaning.specs.Roles.{RoleTable}
use Rattle.object_table.specs.Placed.{PlacedTable, IsPlaced}
use Rattle.assert_registry.specs.Laws.{StandFor}
use Rattle.heap_marking.specs.Results.{TraceResult}
use Rattle.heap_marking.specs.Traces.{CountsReferences}
use Rattle.verdict_list.proofs.Collected.{verdicts_agree}
use Rattle.verdict_list.specs.Counts.{counted_in}
use Rattle.audit_core.specs.Verdicts.{counts_of}
use Rattle.audit_core.specs.Audit.{Audit, AreItsRoles, audit_table, next_collection, next_counted, after_next}

-- ---- how many verdicts there are

length-first_with_paths : (paths : ℕ) (verdicts : List Verdict) → length (first_with_paths paths verdicts) ≡ length verdicts
unfolding first_with_paths
length-first_with_paths paths verdicts =
    length-append (take paths verdicts) (map without_paths (drop paths verdicts))
    ∙ ap (λ n. length (take paths verdicts) + n) (length-map (drop paths verdicts) without_paths)
    ∙ sym (length-append (take paths verdicts) (drop paths verdicts))
    ∙ ap length (take-append-drop paths verdicts)

-- as many, however references are counted
length-all_verdicts : (count other : ℕ → ℕ) (h : Heap) → length (all_verdicts count h) ≡ length (all_verdicts other h)
unfolding all_verdicts
length-all_verdicts count other h =
    let first = map (dead_verdict h) (violating_dead h) ++ map (instances_verdict h) (violating_kinds h) in
    let unshared = map (unshared_verdict count h) (violating_unshared h) in
    let others = map (unshared_verdict other h) (violating_unshared h) in
    let last = map (ownedby_verdict h) (violating_ownees h) in
    let a = length-append (first ++ unshared) last in
    let b = length-append first unshared in
    let c = length-map (violating_unshared h) (unshared_verdict count h) in
    let d = length-append (first ++ others) last in
    let e = length-append first others in
    let f = length-map (violating_unshared h) (unshared_verdict other h) in
    omega (arith, a, b, c, d, e, f)

verdicts-of : (count : ℕ → ℕ) (rules : Rules) (number : ℕ) (h : Heap) → (collection_counted count rules number h).verdicts ≡ first_with_paths rules.paths (all_verdicts count h)
unfolding collection_counted
verdicts-of count rules number h = refl

-- ---- what is left

pub left_by : (count : ℕ → ℕ) (a : Audit) (after : List (Option ℕ)) (left : Heap) (total : ℕ) (verdicts : List Verdict) →
    left ≡ after_collection a.rules a.heap → total ≡ a.violations + length verdicts → verdicts ≡ first_with_paths a.rules.paths (all_verdicts count a.heap) →
    record a { heap = left; cells = after; collections = a.collections + 1; violations = total } ≡ record (after_next a) { cells = after }
unfolding after_next
left_by count a after left total verdicts left_is total_is verdicts_are =
    λ i. record {
      heap = left_is i;
      cells = after;
      rules = a.rules;
      collections = a.collections + 1;
      violations = (total_is ∙ ap (λ n. a.violations + n) many) i;
    }
  where
    paths : ℕ
    paths = a.rules.paths

    many : length verdicts ≡ length (collection_of a.rules (a.collections + 1) a.heap).verdicts
    many =
        ap length verdicts_are
        ∙ length-first_with_paths paths (all_verdicts count a.heap)
        ∙ length-all_verdicts count (reference_count a.heap) a.heap
        ∙ sym (length-first_with_paths paths (all_verdicts (reference_count a.heap) a.heap))
        ∙ ap length (sym (verdicts-of (reference_count a.heap) a.rules (a.collections + 1) a.heap))

-- ---- where the counts are the numbers of references

module _ (p : PlacedTable) (placed : IsPlaced p) (h : Heap) (t : TraceResult) (counts : CountsReferences p h t) where
  pub collections_agree : AllLive p.table h.unshared → (rules : Rules) (number : ℕ) → collection_counted (counted_in p (counts_of t)) rules number h ≡ collection_of rules number h
  unfolding collection_counted
  collections_agree live rules number =
      ap (λ vs. record (collection_of rules number h) { verdicts = first_with_paths rules.paths vs }) (verdicts_agree p placed h (counts_of t) counts live)

-- A collection by the counts of a trace is the next collection, where these are the numbers of references.
pub counted_as_defined : (a : Audit) (p : PlacedTable) → p ≡ audit_table a → IsPlaced p → (r : RoleTable) → AreItsRoles a r → (t : TraceResult) →
    ((h : Heap) → StandFor p r h → CountsReferences p h t) → next_counted t a ≡ next_collection a
counted_as_defined a p is placed r roles t counts =
    let at = audit_table a in
    let placed_there : IsPlaced at = subst IsPlaced is placed in
    let counts_there : CountsReferences at a.heap t =
    subst (λ (q : PlacedTable). CountsReferences q a.heap t) is (counts a.heap (subst (λ (q : PlacedTable). StandFor q r a.heap) (sym is) roles.of_heap)) in
    collections_agree at placed_there a.heap t counts_there roles.of_heap.refers.unshared a.rules (a.collections + 1)
