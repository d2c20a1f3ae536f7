-- Edges after a collection: what stays has the edges that it had, and by force nothing leads to what was cut off.
use Rattle.std.proofs.Common.{◌≡◌, ℕ, ◌+◌, Bool, true, false, not, ◌&&◌, cond, List, [], ◌∷◌, filter, map, get_or, sym, ap, refl, subst, ◌∙◌, IsTrue, All, eqb-true, ◌==◌, Option, None, Some}
use Rattle.std.specs.List.{filter_map, cons_option, enumerate_from}
use Rattle.std.specs.Option.{option_map, option_map_or, IfSome}
use Rattle.std.proofs.lemmas.Bool.{false≢true, false_from_ne_true, or_from}
use Rattle.std.proofs.lemmas.List.Elements.{All-head, All-tail}
use Rattle.graph_meaning.specs.Reach.{has_id}
use Rattle.graph_meaning.specs.Heap.{Slot, Object, Table, object_at, is_live, edge_of, numbered_edge, edges_of, targets}
use Rattle.graph_meaning.specs.Assertions.{root_ids, traced_ids, references, scanned_ids}
use Rattle.graph_meaning.specs.Collecting.{Rules, slot_without, object_without, after_sweep, cut_off, violating_dead, after_collection}
use Rattle.graph_meaning.specs.Laws.{HoldsLive, KeepsEdges, ForceCutsOff, PlainLeavesSwept}
use Rattle.graph_meaning.proofs.Membership.{has_id-filter, map-filter, is_some_list-nil}
use Rattle.std.proofs.lemmas.List.Folds.{list_any_none, map_fixed}
use Rattle.graph_meaning.proofs.Distances.{find_All}
use Rattle.graph_meaning.proofs.EdgesOfSlots.{edges_lead}
use Rattle.graph_meaning.proofs.HeapLemmas.{has_id-ids, object_at-with_only, object_at-cut_off}
use Rattle.graph_meaning.proofs.Tracing.{traced_along, held_by, is_some-references}
use Rattle.graph_meaning.proofs.Keeping.{has_id-traced_ids}

-- what an edge leads to is live
pub edge-live : (t : Table) (s : Slot) (y : ℕ) → HoldsLive t s → edge_of s ≡ Some y → is_live t y ≡ true
edge-live t s y live e = go s.weak s.held live e
  where
    go : (weak : Bool) (held : Option ℕ) → IfSome held (λ id. IsTrue (is_live t id)) → cond weak None held ≡ Some y → is_live t y ≡ true
    go true held live e = absurd cc
    go false None live e = absurd cc
    go false (Some z) live e = let same : z ≡ y = cc in subst (λ w. is_live t w ≡ true) same live

-- the edges of an object, if there is one
pub edges_at : Option Object → List (ℕ × ℕ)
edges_at o = option_map_or (λ x. edges_of x.slots) o []

-- ---- no edge leads to what is cut off

-- a slot that holds none of these is no edge to one of them
slot_leads_past : (gone : ℕ → Bool) (x : ℕ) → gone x ≡ true → (s : Slot) → edge_of (slot_without gone s) ≡ Some x → ⊥
slot_leads_past gone x out s leads = go s.weak s.held leads
  where
    by : (weak : Bool) (y : ℕ) (b : Bool) → gone y ≡ b → edge_of (cond b (record { held = None; weak = weak }) (record { held = Some y; weak = weak })) ≡ Some x → ⊥
    by true y true here leads = absurd (cc)
    by true y false here leads = absurd (cc)
    by false y true here leads = absurd (cc)
    by false y false here leads = let e : y ≡ x = cc in false≢true (sym here ∙ ap gone e ∙ out)

    go : (weak : Bool) (o : Option ℕ) → edge_of (slot_without gone (record { held = o; weak = weak })) ≡ Some x → ⊥
    go true None leads = absurd (cc)
    go false None leads = absurd (cc)
    go weak (Some y) leads = by weak y (gone y) refl leads

no_edges_to : (gone : ℕ → Bool) (x : ℕ) → gone x ≡ true → (n : ℕ) (slots : List Slot) → has_id (map (λ e. e.1) (filter_map numbered_edge (enumerate_from n (map (slot_without gone) slots)))) x ≡ false
no_edges_to gone x out n [] = refl
no_edges_to gone x out n (s ∷ slots) =
    go (edge_of (slot_without gone s)) (slot_leads_past gone x out s) (no_edges_to gone x out (n + 1) slots)
  where
    rest : List (ℕ × ℕ)
    rest = filter_map numbered_edge (enumerate_from (n + 1) (map (slot_without gone) slots))

    go : (o : Option ℕ) → (o ≡ Some x → ⊥) → has_id (map (λ e. e.1) rest) x ≡ false → has_id (map (λ e. e.1) (cons_option (option_map (λ y. (n, y)) o) rest)) x ≡ false
    go None apart later = later
    go (Some y) apart later = or_from _ _ (false_from_ne_true _ (λ same. apart (ap Some (eqb-true y x same)))) later

targets-cut_off : (gone : ℕ → Bool) (t : Table) (x s : ℕ) → gone x ≡ true → has_id (targets (cut_off gone t) s) x ≡ false
unfolding edges_at
targets-cut_off gone t x s out =
    ap (λ o. has_id (map (λ e. e.1) (edges_at o)) x) (object_at-cut_off gone t s) ∙ go (object_at t.objects s)
  where
    go : (o : Option Object) → has_id (map (λ e. e.1) (edges_at (option_map (object_without gone) o))) x ≡ false
    go None = refl
    go (Some o) = no_edges_to gone x out 0 o.slots

-- ---- what stays has the edges that it had

-- a slot whose edge, if it is one, leads to none of these leads where it led
same_edge : (gone : ℕ → Bool) (s : Slot) → IfSome (edge_of s) (λ y. gone y ≡ false) → edge_of (slot_without gone s) ≡ edge_of s
same_edge gone s past = go s.weak s.held past
  where
    weak_by : (y : ℕ) (b : Bool) → edge_of (cond b (record { held = None; weak = true }) (record { held = Some y; weak = true })) ≡ None
    weak_by y true = refl
    weak_by y false = refl

    by : (y : ℕ) (b : Bool) → gone y ≡ b → gone y ≡ false → edge_of (cond b (record { held = None; weak = false }) (record { held = Some y; weak = false })) ≡ Some y
    by y true here past = absurd (false≢true (sym past ∙ here))
    by y false here past = refl

    go : (weak : Bool) (o : Option ℕ) → IfSome (edge_of (record { held = o; weak = weak })) (λ y. gone y ≡ false) →
        edge_of (slot_without gone (record { held = o; weak = weak })) ≡ edge_of (record { held = o; weak = weak })
    go true None past = refl
    go false None past = refl
    go true (Some y) past = weak_by y (gone y)
    go false (Some y) past = by y (gone y) refl past

same_edges : (gone : ℕ → Bool) (n : ℕ) (slots : List Slot) → All (λ s. IfSome (edge_of s) (λ y. gone y ≡ false)) slots →
    filter_map numbered_edge (enumerate_from n (map (slot_without gone) slots)) ≡ filter_map numbered_edge (enumerate_from n slots)
same_edges gone n [] past = refl
same_edges gone n (s ∷ slots) past =
    let here = same_edge gone s (All-head (λ s. IfSome (edge_of s) (λ y. gone y ≡ false)) s slots past) in
    let rest = same_edges gone (n + 1) slots (All-tail (λ s. IfSome (edge_of s) (λ y. gone y ≡ false)) s slots past) in
    ap (λ o. cons_option (option_map (λ y. (n, y)) o) (filter_map numbered_edge (enumerate_from (n + 1) (map (slot_without gone) slots)))) here
    ∙ ap (λ es. cons_option (option_map (λ y. (n, y)) (edge_of s)) es) rest

-- ---- the laws

pub keeps_edges : KeepsEdges
unfolding after_sweep edges_at
keeps_edges h id live at =
    let t = h.table in
    ap edges_at (object_at-with_only (traced_ids h) t id)
    ∙ ap (λ b. edges_at (option_map (object_without gone) (cond b (object_at t.objects id) None))) (has_id-traced_ids h id ∙ at)
    ∙ go (object_at t.objects id) refl
  where
    gone : ℕ → Bool
    gone x = not (has_id (traced_ids h) x)

    past : (s : Slot) → IfSome (edge_of s) (λ y. IsTrue (has_id (targets h.table id) y)) → HoldsLive h.table s → IfSome (edge_of s) (λ y. gone y ≡ false)
    past s held alive = by s.weak s.held held alive
      where
        by : (weak : Bool) (o : Option ℕ) → IfSome (edge_of (record { held = o; weak = weak })) (λ y. IsTrue (has_id (targets h.table id) y)) →
            IfSome o (λ y. IsTrue (is_live h.table y)) → IfSome (edge_of (record { held = o; weak = weak })) (λ y. gone y ≡ false)
        by true o held alive = tt
        by false None held alive = tt
        by false (Some y) held alive = ap not (has_id-traced_ids h y ∙ traced_along h id y at held (has_id-ids h.table y ∙ alive))

    go : (o : Option Object) → object_at h.table.objects id ≡ o → edges_at (option_map (object_without gone) o) ≡ edges_at o
    go None same = refl
    go (Some o) same =
        let held = edges_lead 0 o.slots in
        let alive = find_All (λ u. u.id == id) (λ u. All (HoldsLive h.table) u.slots) h.table.objects o live.slots same in
        let are_targets : targets h.table id ≡ map (λ e. e.1) (edges_of o.slots) = ap (λ u. map (λ e. e.1) (edges_at u)) same in
        same_edges gone 0 o.slots
        (λ k d within. past (get_or o.slots k d)
        (subst (λ ys. IfSome (edge_of (get_or o.slots k d)) (λ y. IsTrue (has_id ys y))) (sym are_targets) (held k d within)) (alive k d within))

-- a filter by what a map gives has nothing that fails
unnamed_after : (gone : ℕ → Bool) (t : Table) (x : ℕ) → gone x ≡ true → has_id (root_ids (cut_off gone t)) x ≡ false
unnamed_after gone t x out =
    ap (λ xs. has_id xs x) (map-filter (λ y. not (gone y)) (λ (r : List ℕ × ℕ). r.1) t.roots)
    ∙ has_id-filter (λ y. not (gone y)) (root_ids t) x
    ∙ ap (λ b. not b && has_id (root_ids t) x) out

unheld_after : (gone : ℕ → Bool) (t : Table) (holders : List ℕ) (x : ℕ) → gone x ≡ true → held_by (cut_off gone t) holders x ≡ false
unheld_after gone t holders x out =
    list_any_none (λ s. has_id (targets (cut_off gone t) s) x) holders (λ k d within. targets-cut_off gone t x (get_or holders k d) out)

pub force_cuts_off : ForceCutsOff
unfolding after_collection
force_cuts_off paths h x at =
    let rules : Rules = record { paths = paths; force = true } in
    let after = after_collection rules h in
    let gone = has_id (violating_dead h) in
    is_some_list-nil (references after x)
    (is_some-references after x ∙ or_from _ _ (unnamed_after gone (after_sweep h).table x at) (unheld_after gone (after_sweep h).table (scanned_ids after) x at))

-- where nothing is cut off, all stays
slot_stays : (s : Slot) → slot_without (has_id []) s ≡ s
slot_stays s = go s.held
  where
    go : (o : Option ℕ) → slot_without (has_id []) (record s { held = o }) ≡ record s { held = o }
    go None = refl
    go (Some y) = refl

all_stay : (rs : List (List ℕ × ℕ)) → filter (λ r. not (has_id [] r.1)) rs ≡ rs
all_stay [] = refl
all_stay (r ∷ rs) = ap (λ ys. r ∷ ys) (all_stay rs)

pub plain_leaves_swept : PlainLeavesSwept
unfolding after_collection
plain_leaves_swept paths h =
    let t = (after_sweep h).table in
    let slots = λ (slots : List Slot). map_fixed (slot_without (has_id [])) slots (λ k d within. slot_stays (get_or slots k d)) in
    let objects = map_fixed (object_without (has_id [])) t.objects (λ k d within. ap (λ ss. record (get_or t.objects k d) { slots = ss }) (slots (get_or t.objects k d).slots)) in
    ap (λ os. record (after_sweep h) { table = record t { objects = os; roots = filter (λ r. not (has_id [] r.1)) t.roots } }) objects
    ∙ ap (λ rs. record (after_sweep h) { table = record t { roots = rs } }) (all_stay t.roots)
