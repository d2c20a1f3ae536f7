-- A table to which objects alone were added has no root and no edge, and any of its objects may be freed.
use Rattle.std.proofs.Common.{◌≡◌, ℕ, zero, suc, ◌+◌, Bool, true, false, cond, List, [], map, replicate, sym, refl, ap, ◌∙◌, subst, Option, None, Some, ◌==◌, All}
use Rattle.std.specs.List.{filter_map, enumerate_from}
use Rattle.std.specs.Option.{option_map_or, option_or}
use Rattle.std.proofs.lemmas.Bool.{false≢true}
use Rattle.std.proofs.lemmas.List.Elements.{All-nil}
use Rattle.graph_meaning.specs.Heap.{Object, Table, empty_slot, object_at, numbered_edge, edges_of, targets}
use Rattle.graph_meaning.specs.Reach.{has_id}
use Rattle.graph_meaning.specs.Step.{with_object}
use Rattle.graph_meaning.proofs.HeapLemmas.{object_at-with_object}
use Rattle.object_table.specs.Placed.{LeadsToKept}

no-edges : (n k : ℕ) → filter_map numbered_edge (enumerate_from k (replicate n empty_slot)) ≡ []
no-edges zero k = refl
no-edges (suc n) k = no-edges n (k + 1)

abbrev targets_of : Option Object → List ℕ
targets_of o = map (λ (e : ℕ × ℕ). e.1) (option_map_or (λ (x : Object). edges_of x.slots) o [])

-- an object that is added has no edge, and adds none
pub no-targets : (t : Table) (id : ℕ) (kind : List ℕ) (slots : ℕ) → ((x : ℕ) → targets t x ≡ []) → (x : ℕ) → targets (with_object t id kind slots) x ≡ []
no-targets t id kind slots none x = ap targets_of (object_at-with_object t id kind slots x) ∙ go (object_at t.objects x) (id == x) (none x)
  where
    go : (o : Option Object) (b : Bool) → targets_of o ≡ [] → targets_of (option_or o (cond b (Some (record { id = id; kind = kind; slots = replicate slots empty_slot })) None)) ≡ []
    go (Some o) b e = e
    go None true e = ap (map (λ (y : ℕ × ℕ). y.1)) (no-edges slots 0)
    go None false e = refl

pub no-roots : (t : Table) (id : ℕ) (kind : List ℕ) (slots : ℕ) → t.roots ≡ [] → (with_object t id kind slots).roots ≡ []
unfolding with_object
no-roots t id kind slots none = none

-- whatever is kept, nothing that is kept leads to what is freed
pub leads_to_kept : (t : Table) (kept : List ℕ) → t.roots ≡ [] → ((x : ℕ) → targets t x ≡ []) → LeadsToKept t kept
leads_to_kept t kept roots none = record {
  by_roots = subst (All (λ r. has_id kept r.1 ≡ true)) (sym roots) (All-nil (λ r. has_id kept r.1 ≡ true));
  by_edges = λ x y at to. absurd (false≢true (ap (λ ys. has_id ys y) (sym (none x)) ∙ to));
}
