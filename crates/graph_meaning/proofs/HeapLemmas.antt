-- Facts on the definitions of heaps and of what operations leave.
use Rattle.std.proofs.Common.{◌≡◌, ℕ, Bool, true, false, not, ◌&&◌, ◌||◌, cond, List, [], ◌∷◌, filter, map, replicate, get_or, sym, ap, refl, ◌∙◌}
use Rattle.std.proofs.Common.{IsTrue, All, eq-eqb, eqb-true, ◌==◌, Option, None, Some, slice_set}
use Rattle.std.specs.Option.{option_map, option_or, is_some}
use Rattle.std.proofs.lemmas.List.Folds.{find-append, list_any_at}
use Rattle.graph_meaning.specs.Reach.{has_id}
use Rattle.graph_meaning.specs.Heap.{Slot, Object, Table, empty_slot, object_at, is_live, ids}
use Rattle.graph_meaning.specs.Collecting.{object_without, with_only, cut_off}
use Rattle.graph_meaning.specs.Step.{with_object, with_slot, with_changed_slot, with_root}
use Rattle.graph_meaning.proofs.Membership.{list_any-map, is_some-find, find-map, find_agree, find-filter}

-- the ids of the objects are those that are live
pub has_id-ids : (t : Table) (id : ℕ) → has_id (ids t) id ≡ is_live t id
has_id-ids t id = list_any-map (λ x. x == id) (λ o. o.id) t.objects ∙ sym (is_some-find (λ (o : Object). o.id == id) t.objects)

pub is_some-or_cond : {X : Type 0} (o : Option X) (b : Bool) (new : X) → is_some (option_or o (cond b (Some new) None)) ≡ (is_some o || b)
is_some-or_cond (Some x) b new = refl
is_some-or_cond None true new = refl
is_some-or_cond None false new = refl

is_some-cond : {X : Type 0} (b : Bool) (o : Option X) → is_some (cond b o None) ≡ (b && is_some o)
is_some-cond true o = refl
is_some-cond false o = refl

is_some-option_map : {X Y : Type 0} (f : X → Y) (o : Option X) → is_some (option_map f o) ≡ is_some o
is_some-option_map f None = refl
is_some-option_map f (Some x) = refl

-- a change that keeps ids
pub object_at-map : (f : Object → Object) → ((o : Object) → (f o).id ≡ o.id) → (objects : List Object) (x : ℕ) → object_at (map f objects) x ≡ option_map f (object_at objects x)
object_at-map f same objects x =
    find-map (λ o. o.id == x) f objects ∙ ap (option_map f) (find_agree _ _ (λ o. ap (λ n. n == x) (same o)) objects)

-- ---- which objects are live after an operation

pub object_at-with_object : (t : Table) (id : ℕ) (kind : List ℕ) (slots x : ℕ) →
    object_at (with_object t id kind slots).objects x ≡ option_or (object_at t.objects x) (cond (id == x) (Some (record { id = id; kind = kind; slots = replicate slots empty_slot })) None)
unfolding with_object
object_at-with_object t id kind slots x = find-append (λ o. o.id == x) t.objects (record { id = id; kind = kind; slots = replicate slots empty_slot } ∷ [])

pub is_live-with_object : (t : Table) (id : ℕ) (kind : List ℕ) (slots x : ℕ) → is_live (with_object t id kind slots) x ≡ (is_live t x || (id == x))
is_live-with_object t id kind slots x =
    ap is_some (object_at-with_object t id kind slots x) ∙ is_some-or_cond (object_at t.objects x) (id == x) _

-- a change to a slot changes no id
pub id-with_slot : (at slot : ℕ) (change : Slot → Slot) (o : Object) → (with_slot at slot change o).id ≡ o.id
id-with_slot at slot change o = go (o.id == at)
  where
    go : (b : Bool) → (cond b (record o { slots = slice_set o.slots slot (change (get_or o.slots slot empty_slot)) }) o).id ≡ o.id
    go true = refl
    go false = refl

pub object_at-with_change : (t : Table) (at slot : ℕ) (change : Slot → Slot) (x : ℕ) →
    object_at (with_changed_slot t at slot change).objects x ≡ option_map (with_slot at slot change) (object_at t.objects x)
unfolding with_changed_slot
object_at-with_change t at slot change x = object_at-map (with_slot at slot change) (id-with_slot at slot change) t.objects x

pub is_live-with_change : (t : Table) (at slot : ℕ) (change : Slot → Slot) (x : ℕ) → is_live (with_changed_slot t at slot change) x ≡ is_live t x
is_live-with_change t at slot change x =
    ap is_some (object_at-with_change t at slot change x) ∙ is_some-option_map (with_slot at slot change) (object_at t.objects x)

pub objects-with_root : (t : Table) (name : List ℕ) (to : Option ℕ) → (with_root t name to).objects ≡ t.objects
unfolding with_root
objects-with_root t name None = refl
objects-with_root t name (Some id) = refl

-- ---- which objects are live after a collection

pub object_at-with_only : (kept : List ℕ) (t : Table) (x : ℕ) →
    object_at (with_only kept t).objects x ≡ option_map (object_without (λ id. not (has_id kept id))) (cond (has_id kept x) (object_at t.objects x) None)
unfolding with_only
object_at-with_only kept t x =
    let gone = λ (id : ℕ). not (has_id kept id) in
    object_at-map (object_without gone) (λ o. refl) (filter (λ o. has_id kept o.id) t.objects) x
    ∙ ap (option_map (object_without gone)) (find-filter (λ o. o.id == x) (λ o. has_id kept o.id) (has_id kept x) (λ o same. ap (has_id kept) (eqb-true o.id x same)) t.objects)

pub is_live-with_only : (kept : List ℕ) (t : Table) (x : ℕ) → is_live (with_only kept t) x ≡ (has_id kept x && is_live t x)
is_live-with_only kept t x =
    ap is_some (object_at-with_only kept t x)
    ∙ is_some-option_map (object_without (λ id. not (has_id kept id))) (cond (has_id kept x) (object_at t.objects x) None)
    ∙ is_some-cond (has_id kept x) (object_at t.objects x)

pub object_at-cut_off : (gone : ℕ → Bool) (t : Table) (x : ℕ) → object_at (cut_off gone t).objects x ≡ option_map (object_without gone) (object_at t.objects x)
object_at-cut_off gone t x = object_at-map (object_without gone) (λ o. refl) t.objects x

pub is_live-cut_off : (gone : ℕ → Bool) (t : Table) (x : ℕ) → is_live (cut_off gone t) x ≡ is_live t x
is_live-cut_off gone t x = ap is_some (object_at-cut_off gone t x) ∙ is_some-option_map (object_without gone) (object_at t.objects x)

-- each object is live
pub All-objects_live : (t : Table) → All (λ o. IsTrue (is_live t o.id)) t.objects
All-objects_live t k d within =
    let id = (get_or t.objects k d).id in
    is_some-find (λ (o : Object). o.id == id) t.objects ∙ list_any_at (λ (o : Object). o.id == id) t.objects k d within (eq-eqb id id refl)
