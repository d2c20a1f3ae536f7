-- Survivors keep their slots: whatever a kept object holds is kept with it.
use Rattle.std.proofs.Common.{◌≡◌, ◌==◌, ◌||◌, ℕ, List, get_or, Bool, true, not, cond, IsTrue, IfSome, Option, None, Some, refl, sym, ◌∙◌, ap, subst}
use Rattle.std.specs.List.{All}
use Rattle.std.specs.Option.{option_map}
use Rattle.std.proofs.lemmas.List.Folds.{map_fixed}
use Rattle.graph_meaning.specs.Heap.{Slot, Object, Table, ids, is_live, object_at}
use Rattle.graph_meaning.specs.Laws.{HoldsLive}
use Rattle.graph_meaning.specs.Reach.{has_id, HasEdge}
use Rattle.graph_meaning.specs.Assertions.{object_graph, root_ids}
use Rattle.graph_meaning.specs.Collecting.{slot_without, object_without, with_only}
use Rattle.graph_meaning.proofs.Distances.{find_All}
use Rattle.graph_meaning.proofs.HeapLemmas.{has_id-ids, object_at-with_only}
use Rattle.graph_meaning.proofs.Membership.{has_id-filter}
use Rattle.graph_meaning.proofs.Reaching.{reached_nodes-closed}
use Rattle.std.proofs.lemmas.Bool.{and_parts}
use Rattle.minor_gc.specs.Generations.{Generations, is_old, young_kept, kept_by_minor, kept_by_full, after_minor, after_full}
use Rattle.minor_gc.specs.Nurseries.{NurseryParts, generations_of}
use Rattle.minor_gc.specs.Survivors.{HoldsStrongly, KeepsObjects, SurvivorsKeepSlots}
use Rattle.minor_gc.proofs.Inside.{IsSoundNursery}
use Rattle.minor_gc.proofs.Keeping.{live_kept, in_minor, edge_stays}
use Rattle.minor_gc.proofs.Targets.{ends_at, slot_end, object_strong}

-- what leads from a kept object is kept
abbrev IsClosed : Table → List ℕ → Type 0
IsClosed t kept = (x y : ℕ) → IsTrue (has_id kept x) → HasEdge (object_graph t) x y → IsTrue (has_id kept y)

module _ (t : Table) (holds : HoldsStrongly t) (kept : List ℕ) (closed : IsClosed t kept) where
  -- a slot that holds nothing, or what is kept, stays as it is
  slot_stays : (s : Slot) → IfSome s.held (λ y. IsTrue (has_id kept y)) → slot_without (λ id. not (has_id kept id)) s ≡ s
  slot_stays s has = go s.held has
    where
      by : (y : ℕ) (b : Bool) → b ≡ true → cond (not b) (record s { held = None }) (record s { held = Some y }) ≡ record s { held = Some y }
      by y b is = ap (λ (a : Bool). cond (not a) (record s { held = None }) (record s { held = Some y })) is

      go : (o : Option ℕ) → IfSome o (λ y. IsTrue (has_id kept y)) → slot_without (λ id. not (has_id kept id)) (record s { held = o }) ≡ record s { held = o }
      go None has = refl
      go (Some y) has = by y (has_id kept y) has

  -- what a slot of a kept object holds is kept
  held_stays : (x : ℕ) (o : Object) → object_at t.objects x ≡ Some o → IsTrue (has_id kept x) → All (λ (s : Slot). IfSome s.held (λ y. IsTrue (has_id kept y))) o.slots
  held_stays x o at has k d within = go (get_or o.slots k d).held refl live
    where
      live : HoldsLive t (get_or o.slots k d)
      live = find_All (λ u. u.id == x) (λ u. All (HoldsLive t) u.slots) t.objects o holds.live at k d within

      go : (held : Option ℕ) → (get_or o.slots k d).held ≡ held → IfSome held (λ y. IsTrue (is_live t y)) → IfSome held (λ y. IsTrue (has_id kept y))
      go None is lives = tt
      go (Some y) is lives =
          let end = slot_end 0 o.slots k y d (object_strong t x o holds.strong at) within is in
          closed x y has (ap (λ (u : Option Object). has_id (ends_at u) y) at ∙ end, has_id-ids t y ∙ lives)

  keeps : KeepsObjects t (with_only kept t)
  keeps x live =
      let both = live_kept kept t x live in
      object_at-with_only kept t x
      ∙ ap (λ (b : Bool). option_map (object_without (λ id. not (has_id kept id))) (cond b (object_at t.objects x) None)) both.0
      ∙ go both.0 (object_at t.objects x) refl
    where
      go : IsTrue (has_id kept x) → (u : Option Object) → object_at t.objects x ≡ u → option_map (object_without (λ id. not (has_id kept id))) u ≡ u
      go has None at = refl
      go has (Some o) at =
          ap (λ (slots : List Slot). Some (record o { slots = slots }))
          (map_fixed (slot_without (λ id. not (has_id kept id))) o.slots (λ k d within. slot_stays (get_or o.slots k d) (held_stays x o at has k d within)))

-- what is kept by a minor collection stays
stays-minor : (g : Generations) (x : ℕ) → IsTrue (has_id (kept_by_minor g) x) → IsTrue (is_old g x || has_id (young_kept g) x) × IsTrue (is_live g.table x)
unfolding kept_by_minor
stays-minor g x has =
    let both = and_parts (is_old g x || has_id (young_kept g) x) (has_id (ids g.table) x) (sym (has_id-filter (λ y. is_old g y || has_id (young_kept g) y) (ids g.table) x) ∙ has) in
    (both.0, sym (has_id-ids g.table x) ∙ both.1)

closed-minor : (g : Generations) → IsClosed g.table (kept_by_minor g)
closed-minor g x y has edge =
    let was = stays-minor g x has in
    in_minor g y (sym (has_id-ids g.table y) ∙ edge.1) (edge_stays g x y was.1 was.0 edge)

closed-full : (g : Generations) → IsClosed g.table (kept_by_full g)
unfolding kept_by_full
closed-full g x y has edge = (reached_nodes-closed (object_graph g.table) (root_ids g.table)).along_edges x y has refl edge

pub survivors_keep_slots : SurvivorsKeepSlots
survivors_keep_slots g holds =
    (keeps g.table holds (kept_by_minor g) (closed-minor g), keeps g.table holds (kept_by_full g) (closed-full g))

-- the same of a nursery, whose heap is left so
module _ {n : NurseryParts} (is : IsSoundNursery n) (after : NurseryParts) where
  held : HoldsStrongly n.placed.table
  held = record { strong = is.nursery.strong; live = is.sound.slots }

  pub minor_keeps : generations_of after ≡ after_minor (generations_of n) → KeepsObjects n.placed.table after.placed.table
  minor_keeps left = subst (λ (g : Generations). KeepsObjects n.placed.table g.table) (sym left) (survivors_keep_slots (generations_of n) held).0

  pub full_keeps : generations_of after ≡ after_full (generations_of n) → KeepsObjects n.placed.table after.placed.table
  full_keeps left = subst (λ (g : Generations). KeepsObjects n.placed.table g.table) (sym left) (survivors_keep_slots (generations_of n) held).1
