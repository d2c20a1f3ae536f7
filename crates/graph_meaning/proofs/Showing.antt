-- What is shown of a way leads through what is shown of the table.
use Rattle.std.proofs.Common.{◌≡◌, ℕ, ◌+◌, ◌-◌, ◌*◌, max, ◌<◌, ◌≤◌, ◌&&◌, ◌==◌, drop, take, length, Bool, true, false, cond, List, [], ◌∷◌, ◌++◌}
use Rattle.std.proofs.Common.{get_or, sym, ap, refl, subst, ◌∙◌, arith, IsTrue, All, Option, None, Some, eq-eqb, eqb-true, ⊎_elim}
use Rattle.std.specs.Prelude.{zero, suc, slice_index_or, if◌then◌else◌, IfSome}
use Rattle.std.proofs.Math.ListN.{get_or-map, get_or-eq_default}
use Rattle.std.proofs.Math.Seq.{take-append_seam, drop-append_seam}
use Rattle.std.proofs.lemmas.Slice.Eq.{bytes_eq-Decides}
use Rattle.heap_base.specs.declared.limits.TheConstants.{END_STEPS}
use Rattle.std.specs.Option.{is_some, option_map, option_map_or}
use Rattle.std.specs.Str.{bytes_eq}
use Rattle.std.proofs.lemmas.Bool.{and_parts, and_from, false≢true, cases_lt}
use Rattle.std.proofs.lemmas.Bool.Decides.{Decides-eqb}
use Rattle.std.proofs.lemmas.List.{drop_more, drop_all, length-take-le, take-append-drop}
use Rattle.graph_meaning.specs.declared.paths.PathStep.{PathStep}
use Rattle.graph_meaning.specs.declared.views.HeapView.{HeapView}
use Rattle.graph_meaning.specs.Heap.{Slot, Object, Table, empty_slot, object_at, kind_at, is_live, edge_of, edge_at}
use Rattle.graph_meaning.specs.Paths.{view_of, start_of, LeadsAlong}
use Rattle.graph_meaning.specs.Laws.{HoldsLive, WaysAreShownAsPaths}
use Rattle.graph_meaning.specs.Views.{object_view, heap_view, shown_object, has_object, holds, goes_by, leads_on, leads_to_end, is_path}
use Rattle.graph_meaning.proofs.Distances.{find_All}
use Rattle.graph_meaning.proofs.Membership.{find-map}

-- one step more is seen
pub leads_on-drop : (v : HeapView) (x : ℕ) (steps : List PathStep) (i : ℕ) (s : PathStep) → i < length steps → get_or steps i s ≡ s →
    leads_on v x (drop i steps) ≡ (goes_by v x s && leads_on v s.id (drop (i + 1) steps))
unfolding leads_on
leads_on-drop v x steps i s within here = ap (leads_on v x) (drop_more steps i s within) ∙ ap (λ z. goes_by v x z && leads_on v z.id (drop (i + 1) steps)) here

-- all are seen
pub leads_on-end : (v : HeapView) (x : ℕ) (steps : List PathStep) (i : ℕ) → length steps ≤ i → leads_on v x (drop i steps) ≡ true
unfolding leads_on
leads_on-end v x steps i past = ap (leads_on v x) (drop_all i steps past)

-- ---- what a view shows of a table

shown-object_at : (t : Table) (x : ℕ) → shown_object (heap_view t) x ≡ option_map object_view (object_at t.objects x)
shown-object_at t x = find-map (λ o. o.id == x) object_view t.objects

-- a live object is shown with its type
has_object-live : (t : Table) (x : ℕ) → is_live t x ≡ true → has_object (heap_view t) x (kind_at t x) ≡ true
has_object-live t x live =
    ap (λ o. option_map_or (λ u. bytes_eq u.kind (kind_at t x)) o false) (shown-object_at t x) ∙ go (object_at t.objects x) live
  where
    go : (o : Option Object) → is_some o ≡ true → option_map_or (λ u. bytes_eq u.kind (option_map_or (λ w. w.kind) o [])) (option_map object_view o) false ≡ true
    go None live = absurd (false≢true live)
    go (Some o) live = (bytes_eq-Decides o.kind o.kind).1 refl

-- an edge is shown as what the slot holds
holds-edge : (t : Table) (x slot y : ℕ) → edge_at t x slot ≡ Some y → holds (heap_view t) x slot y ≡ true
holds-edge t x slot y edge =
    ap (λ o. option_map_or (λ u. option_map_or (λ id. id == y) (slice_index_or u.slots slot None) false) o false) (shown-object_at t x)
    ∙ go (object_at t.objects x) edge
  where
    go : (o : Option Object) → option_map_or (λ u. edge_of (slice_index_or u.slots slot empty_slot)) o None ≡ Some y →
        option_map_or (λ u. option_map_or (λ id. id == y) (slice_index_or u.slots slot None) false) (option_map object_view o) false ≡ true
    go None edge = absurd (cc)
    go (Some o) edge =
        ap (λ held. option_map_or (λ id. id == y) held false) (get_or-map edge_of o.slots slot empty_slot ∙ edge) ∙ eq-eqb y y refl

module _ (t : Table) (sound : All (λ o. All (HoldsLive t) o.slots) t.objects) where
  -- what an edge leads to is live
  edge-live : (x slot y : ℕ) → edge_at t x slot ≡ Some y → is_live t y ≡ true
  edge-live x slot y edge = go (object_at t.objects x) refl edge
    where
      held : (s : Slot) → HoldsLive t s → edge_of s ≡ Some y → is_live t y ≡ true
      held s live leads = of_weak s.weak refl leads
        where
          of_weak : (b : Bool) → s.weak ≡ b → cond b None s.held ≡ Some y → is_live t y ≡ true
          of_weak true weak leads = absurd (cc)
          of_weak false weak leads = subst (λ h. IfSome h (λ id. IsTrue (is_live t id))) leads live

      in_slots : (slots : List Slot) → All (HoldsLive t) slots → edge_of (get_or slots slot empty_slot) ≡ Some y → is_live t y ≡ true
      in_slots slots live leads =
          ⊎_elim
          (λ within. held (get_or slots slot empty_slot) (live slot empty_slot within) leads)
          (λ past. absurd (let none : None ≡ Some y = sym (ap edge_of (get_or-eq_default slots empty_slot past)) ∙ leads in cc))
          (cases_lt slot (length slots))

      go : (o : Option Object) → object_at t.objects x ≡ o → option_map_or (λ u. edge_of (get_or u.slots slot empty_slot)) o None ≡ Some y → is_live t y ≡ true
      go None at edge = absurd (cc)
      go (Some o) at edge = in_slots o.slots (find_All (λ u. u.id == x) (λ u. All (HoldsLive t) u.slots) t.objects o sound at) edge

  -- steps of the table lead on in what is shown
  leads_on-along : (x : ℕ) (steps : List PathStep) (y : ℕ) → LeadsAlong t x steps y → leads_on (heap_view t) x steps ≡ true
  unfolding leads_on
  leads_on-along x [] y along = refl
  leads_on-along x (s ∷ steps) y along =
      and_from _ _
      (and_from _ _ (holds-edge t x s.slot s.id along.0)
      (subst (λ k. has_object (heap_view t) s.id k ≡ true) (sym along.1) (has_object-live t s.id (edge-live x s.slot s.id along.0))))
      (leads_on-along s.id steps y along.2)

-- a part of the steps leads on, and another leads to the end
leads_on-front : (v : HeapView) (x : ℕ) (n : ℕ) (steps : List PathStep) → leads_on v x steps ≡ true → leads_on v x (take n steps) ≡ true
unfolding leads_on
leads_on-front v x zero steps leads = refl
leads_on-front v x (suc n) [] leads = refl
leads_on-front v x (suc n) (s ∷ steps) leads =
    let both = and_parts _ _ leads in and_from _ _ both.0 (leads_on-front v s.id n steps both.1)

leads_to_end-rest : (v : HeapView) (x : ℕ) (n : ℕ) (steps : List PathStep) → leads_on v x steps ≡ true → leads_to_end v (drop n steps) ≡ true
unfolding leads_on leads_to_end
leads_to_end-rest v x zero [] leads = refl
leads_to_end-rest v x zero (s ∷ steps) leads =
    let both = and_parts (goes_by v x s) (leads_on v s.id steps) leads in
    and_from (has_object v s.id s.kind) (leads_on v s.id steps) (and_parts (holds v x s.slot s.id) (has_object v s.id s.kind) both.0).1 both.1
leads_to_end-rest v x (suc n) [] leads = refl
leads_to_end-rest v x (suc n) (s ∷ steps) leads = leads_to_end-rest v s.id n steps (and_parts (goes_by v x s) (leads_on v s.id steps) leads).1

-- whether steps are left out decides what is seen of them
module _ (v : HeapView) (x : ℕ) (steps : List PathStep) (leads : leads_on v x steps ≡ true) where
  abbrev pub shown : List PathStep
  shown = take END_STEPS steps ++ drop (max END_STEPS (length steps - END_STEPS)) steps

  whole : length steps ≤ 2 * END_STEPS → shown ≡ steps
  whole short =
      let first : max END_STEPS (length steps - END_STEPS) ≡ END_STEPS = omega arith in
      ap (λ n. take END_STEPS steps ++ drop n steps) first ∙ take-append-drop END_STEPS steps

  first_part : 2 * END_STEPS < length steps → take END_STEPS shown ≡ take END_STEPS steps
  first_part long =
      let many = length-take-le END_STEPS steps (omega arith) in
      subst (λ n. take n shown ≡ take END_STEPS steps) many (take-append_seam (take END_STEPS steps) (drop (max END_STEPS (length steps - END_STEPS)) steps))

  last_part : 2 * END_STEPS < length steps → drop END_STEPS shown ≡ drop (max END_STEPS (length steps - END_STEPS)) steps
  last_part long =
      let many = length-take-le END_STEPS steps (omega arith) in
      subst (λ n. drop n shown ≡ drop (max END_STEPS (length steps - END_STEPS)) steps) many (drop-append_seam (take END_STEPS steps) (drop (max END_STEPS (length steps - END_STEPS)) steps))

  pub is_shown : (if length steps - 2 * END_STEPS == 0 then leads_on v x shown else leads_on v x (take END_STEPS shown) && leads_to_end v (drop END_STEPS shown)) ≡ true
  is_shown = go (length steps - 2 * END_STEPS == 0) refl
    where
      go : (b : Bool) → (length steps - 2 * END_STEPS == 0) ≡ b → (if b then leads_on v x shown else leads_on v x (take END_STEPS shown) && leads_to_end v (drop END_STEPS shown)) ≡ true
      go true short =
          let few : length steps - 2 * END_STEPS ≡ 0 = eqb-true _ _ short in ap (leads_on v x) (whole (omega (arith, few))) ∙ leads
      go false long =
          let many : 2 * END_STEPS < length steps = grind (arith, Decides-eqb (length steps - 2 * END_STEPS) 0, long) in
          and_from _ _ (ap (leads_on v x) (first_part many) ∙ leads_on-front v x END_STEPS steps leads)
          (ap (leads_to_end v) (last_part many) ∙ leads_to_end-rest v x (max END_STEPS (length steps - END_STEPS)) steps leads)

pub ways_are_shown_as_paths : WaysAreShownAsPaths
unfolding is_path view_of
ways_are_shown_as_paths t w sound start way =
    and_from _ _ start (is_shown (heap_view t) (start_of w.from) w.steps (leads_on-along t sound (start_of w.from) w.steps w.to way))
