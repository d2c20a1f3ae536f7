-- What a collection finds, by its parts, and by what a trace counted.
use Rattle.std.proofs.Common.{◌≡◌, ℕ, ◌-◌, List, [], ◌∷◌, ◌++◌, length, map, get_or, IsTrue, Some, ap, refl, ◌∙◌}
use Rattle.std.specs.List.{All}
use Rattle.std.specs.Option.{option_map_or}
use Rattle.std.proofs.lemmas.List.Elements.{All-filter, All-head, All-tail}
use Rattle.graph_meaning.specs.declared.collection.Collection.{Collection}
use Rattle.graph_meaning.specs.declared.collection.Verdict.{Verdict}
use Rattle.graph_meaning.specs.Heap.{Heap, is_live}
use Rattle.graph_meaning.specs.Laws.{AllLive}
use Rattle.graph_meaning.specs.Reach.{has_id}
use Rattle.graph_meaning.specs.Assertions.{traced_ids, reference_count}
use Rattle.graph_meaning.specs.Collecting.{Rules, after_sweep, holders_of, ids_to_clear, violating_dead, violating_kinds, violating_unshared}
use Rattle.graph_meaning.specs.Collecting.{violating_ownees, dead_verdict, instances_verdict, unshared_verdict, ownedby_verdict, all_verdicts}
use Rattle.graph_meaning.specs.Collecting.{first_with_paths, collection_counted}
use Rattle.object_table.specs.Placed.{PlacedTable, IsPlaced, id_in}
use Rattle.object_table.proofs.ObjectsByCell.{cell_of-held}
use Rattle.verdict_list.specs.Counts.{CountTable, counted_in}

-- ---- the numbers and verdicts of a collection

pub found_by : (count : ℕ → ℕ) (h : Heap) (rules : Rules) (number live traced freed cleared : ℕ) (verdicts : List Verdict) →
    live ≡ length h.table.objects → traced ≡ length (traced_ids h) → freed ≡ length h.table.objects - length (traced_ids h) →
    cleared ≡ holders_of (has_id (ids_to_clear rules h)) (after_sweep h).table → verdicts ≡ first_with_paths rules.paths (all_verdicts count h) →
    (let c : Collection = record { number = number; live = live; traced = traced; freed = freed; cleared = cleared; verdicts = verdicts } in c) ≡ collection_counted count rules number h
unfolding collection_counted
found_by count h rules number live traced freed cleared verdicts live_is traced_is freed_is cleared_is verdicts_are = λ i. record {
  number = number;
  live = live_is i;
  traced = traced_is i;
  freed = freed_is i;
  cleared = cleared_is i;
  verdicts = verdicts_are i;
}

-- ---- where the counts are the numbers of references

map_agree_all : {X Y : Type 0} (f g : X → Y) (xs : List X) → All (λ x. f x ≡ g x) xs → map f xs ≡ map g xs
map_agree_all f g [] agree = refl
map_agree_all f g (x ∷ xs) agree =
    let rest = map_agree_all f g xs (All-tail (λ x. f x ≡ g x) x xs agree) in
    λ i. All-head (λ x. f x ≡ g x) x xs agree i ∷ rest i

module _ (p : PlacedTable) (placed : IsPlaced p) (h : Heap) (t : CountTable) (counts : (cell id : ℕ) → id_in p cell ≡ Some id → t.references cell ≡ reference_count h id) where
  counted : (id : ℕ) → IsTrue (is_live p.table id) → counted_in p t id ≡ reference_count h id
  counted id live =
      let held = placed.somewhere id live in
      ap (λ o. option_map_or t.references o 0) (cell_of-held p placed held.0 id held.1) ∙ counts held.0 id held.1

  unshared_agree : AllLive p.table h.unshared → map (unshared_verdict (counted_in p t) h) (violating_unshared h) ≡ map (unshared_verdict (reference_count h) h) (violating_unshared h)
  unfolding violating_unshared
  unshared_agree live =
      map_agree_all (unshared_verdict (counted_in p t) h) (unshared_verdict (reference_count h) h) (violating_unshared h)
      (All-filter _ (λ id. unshared_verdict (counted_in p t) h id ≡ unshared_verdict (reference_count h) h id) h.unshared
      (λ k d within. ap (λ n. unshared_verdict (λ _. n) h (get_or h.unshared k d)) (counted (get_or h.unshared k d) (live k d within))))

  pub verdicts_agree : AllLive p.table h.unshared → all_verdicts (counted_in p t) h ≡ all_verdicts (reference_count h) h
  unfolding all_verdicts
  verdicts_agree live =
      ap (λ vs. ((map (dead_verdict h) (violating_dead h) ++ map (instances_verdict h) (violating_kinds h)) ++ vs) ++ map (ownedby_verdict h) (violating_ownees h)) (unshared_agree live)
