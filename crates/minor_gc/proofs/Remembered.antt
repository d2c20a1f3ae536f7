-- The remembered objects of a nursery.
use Rattle.std.proofs.Common.{◌≡◌, ℕ, ◌<◌, ◌≤◌, List, length, filter, get_or, Bool, true, false, not, ◌&&◌, cond, IsTrue, Option, None, Some, refl, sym, ◌∙◌, ap, subst, arith}
use Rattle.std.specs.List.{All, count_by}
use Rattle.std.proofs.lemmas.Bool.{lt-ltb, and_from}
use Rattle.std.proofs.lemmas.List.{length-map}
use Rattle.std.proofs.lemmas.List.Elements.{All-weaker, All-filter}
use Rattle.graph_meaning.specs.Heap.{ids, is_live, targets}
use Rattle.graph_meaning.specs.Reach.{has_id}
use Rattle.graph_meaning.proofs.HeapLemmas.{has_id-ids}
use Rattle.graph_meaning.proofs.Membership.{has_id-filter, length-filter_le, All-has_id}
use Rattle.object_table.specs.Placed.{id_in}
use Rattle.minor_gc.specs.Generations.{Generations, is_young, is_old, holds_young, remembered_set}
use Rattle.minor_gc.specs.Nurseries.{NurseryParts, generations_of, young_count}
use Rattle.minor_gc.specs.Tallies.{HoldsOneOf}
use Rattle.minor_gc.proofs.Inside.{IsSoundNursery}
use Rattle.minor_gc.proofs.Targets.{any_count}

-- an old object that holds a young one
abbrev pub remembers : Generations → ℕ → Bool
remembers g x = is_old g x && holds_young g x

-- the remembered list, by its definition
pub remembered_is : (g : Generations) (xs : List ℕ) → xs ≡ remembered_set g → xs ≡ filter (remembers g) (ids g.table)
unfolding remembered_set
remembered_is g xs list = list

module _ {n : NurseryParts} (is : IsSoundNursery n) where
  abbrev g : Generations
  g = generations_of n

  list : n.remembered ≡ filter (remembers g) (ids g.table)
  list = remembered_is g n.remembered is.nursery.remembered

  pub remembered_live : All (λ id. IsTrue (is_live g.table id)) n.remembered
  remembered_live =
      let live = All-weaker (λ id. IsTrue (has_id (ids g.table) id)) (λ id. IsTrue (is_live g.table id)) (λ id among. sym (has_id-ids g.table id) ∙ among) (ids g.table) (All-has_id (ids g.table)) in
      subst (All (λ id. IsTrue (is_live g.table id))) (sym list) (All-filter (remembers g) (λ id. IsTrue (is_live g.table id)) (ids g.table) live)

  pub few_remembered : length n.remembered ≤ length g.table.objects
  few_remembered = omega (arith, ap length list, length-filter_le (remembers g) (ids g.table), length-map g.table.objects (λ o. o.id))

  -- what holds young objects is remembered
  pub counted_remembered : (cell : ℕ) → 0 < get_or n.counts cell 0 → HoldsOneOf n.placed n.remembered cell
  counted_remembered cell some = go (id_in n.placed cell) refl
    where
      go : (o : Option ℕ) → id_in n.placed cell ≡ o → HoldsOneOf n.placed n.remembered cell
      go None at = absurd (let zero_count = is.nursery.counts cell ∙ ap (young_count g) at in omega arith)
      go (Some id) at = pick (is_young g id) refl
        where
          count : (b : Bool) → is_young g id ≡ b → get_or n.counts cell 0 ≡ cond b 0 (count_by (is_young g) (targets g.table id))
          count b young = is.nursery.counts cell ∙ ap (young_count g) at ∙ ap (λ c. cond c 0 (count_by (is_young g) (targets g.table id))) young

          pick : (b : Bool) → is_young g id ≡ b → HoldsOneOf n.placed n.remembered cell
          pick true young = absurd (let none = count true young in omega arith)
          pick false old =
              let many = count false old in
              let holds : holds_young g id ≡ true = any_count (is_young g) (targets g.table id) ∙ lt-ltb 0 (count_by (is_young g) (targets g.table id)) (omega arith) in
              let live = has_id-ids g.table id ∙ is.placed.live cell id at in
              (id, at, ap (λ l. has_id l id) list ∙ has_id-filter (remembers g) (ids g.table) id ∙ and_from _ _ (and_from _ _ (ap not old) holds) live)
