-- What has been read stays within bounds, whatever lines are taken.
use Rattle.std.proofs.Common.{◌≡◌, ℕ, ◌+◌, ◌-◌, ◌<◌, ◌≤◌, ◌&&◌, ◌||◌, true, Bool, cond, ltb, leb, List, [], ◌∷◌, ◌++◌, length, Option, None, Some}
use Rattle.std.proofs.Common.{replicate, sym, refl, ap, ◌∙◌, subst, arith, All, AllPairs, length-append, append-nil, rules}
use Rattle.std.proofs.lemmas.Bool.{false≢true, ltb-true, leb-true, and_parts}
use Rattle.std.proofs.lemmas.Option.{cond_some, none-some}
use Rattle.std.proofs.lemmas.List.{map-append, length-replicate}
use Rattle.std.proofs.lemmas.List.Elements.{All-weaker, All-push}
use Rattle.std.proofs.lemmas.List.Quantifiers.{all_pairs_push}
use Rattle.heap_base.specs.declared.limits.TheConstants.{USUAL_OBJECTS, USUAL_SLOTS, USUAL_ROOTS, MOST_KINDS}
use Rattle.graph_meaning.specs.Heap.{is_seen}
use Rattle.graph_meaning.specs.declared.views.ObjectView.{ObjectView}
use Rattle.heap_snapshot.specs.declared.line.Line.{Line}
use Rattle.heap_snapshot.specs.declared.line.Line.TheVariants.{Head, Object, Slot, Root, End}
use Rattle.heap_snapshot.specs.declared.stage.Stage.{Stage}
use Rattle.heap_snapshot.specs.declared.stage.Stage.TheVariants.{Empty, Begun, InObject, InRoots, Ended}
use Rattle.heap_snapshot.specs.Table.{Reading, nothing_read, whole_object, open_objects, objects_read, may_add, after_object_line, may_fill, after_slot_line}
use Rattle.heap_snapshot.specs.Table.{take_slot, may_root, after_root_line, closed_reading, is_empty, is_before_roots, is_under_way, is_ended, take_line}
use Rattle.heap_snapshot.specs.Table.{take_said}
use Rattle.heap_snapshot.specs.Dangling.{object_ids}
use Rattle.heap_snapshot.specs.Bounds.{IsWithin, IsBounded}

pub bounded_nothing : IsBounded nothing_read
bounded_nothing = record { filled = tt; few_objects = omega arith; few_slots = omega arith; few_roots = omega arith; rising = search rules; within = search rules }

-- ---- each line

-- the objects are the same
keeps_objects : (r : Reading) (s : Reading) → IsBounded r → object_ids (objects_read s) ≡ object_ids (objects_read r) → length (objects_read s) ≡ length (objects_read r)
    → s.greatest ≡ r.greatest → s.slots ≡ r.slots → length s.roots ≤ USUAL_ROOTS → IsWithin s.stage → IsBounded s
keeps_objects r s is same count greatest slots roots within = record {
  filled = within;
  few_objects = subst (λ n. n ≤ USUAL_OBJECTS) (sym count) is.few_objects;
  few_slots = subst (λ n. n ≤ USUAL_SLOTS) (sym slots) is.few_slots;
  few_roots = roots;
  rising = subst (AllPairs (λ x y. x < y)) (sym same) is.rising;
  within = subst (λ xs. All (λ id. id ≤ s.greatest) xs) (sym same) (subst (λ n. All (λ id. id ≤ n) (object_ids (objects_read r))) (sym greatest) is.within);
}

-- a line is taken where its condition holds
taken_where : (condition : Bool) (r s : Reading) → cond condition (Some r) None ≡ Some s → (condition ≡ true) × (r ≡ s)
taken_where condition r s is = cond_some condition r s is

object_bounded : (r : Reading) (id slots : ℕ) (kind : List ℕ) → may_add r id slots kind ≡ true → IsBounded r → IsBounded (after_object_line r id slots kind)
unfolding may_add
object_bounded r id slots kind may is =
    let a =
    and_parts (is_before_roots r.stage && ltb r.greatest id && ltb (length (objects_read r)) USUAL_OBJECTS && leb (r.slots + slots) USUAL_SLOTS)
    (is_seen r.kinds kind || ltb (length r.kinds) MOST_KINDS) may in
    let b = and_parts (is_before_roots r.stage && ltb r.greatest id && ltb (length (objects_read r)) USUAL_OBJECTS) (leb (r.slots + slots) USUAL_SLOTS) a.0 in
    let c = and_parts (is_before_roots r.stage && ltb r.greatest id) (ltb (length (objects_read r)) USUAL_OBJECTS) b.0 in
    let d = and_parts (is_before_roots r.stage) (ltb r.greatest id) c.0 in
    let above : r.greatest < id = ltb-true r.greatest id d.1 in
    let few : length (objects_read r) < USUAL_OBJECTS = ltb-true (length (objects_read r)) USUAL_OBJECTS c.1 in
    let room : r.slots + slots ≤ USUAL_SLOTS = leb-true (r.slots + slots) USUAL_SLOTS b.1 in
    let new : ObjectView = record { id = id; kind = kind; slots = replicate (slots - 0) None } in
    let ids : object_ids (objects_read r ++ new ∷ []) ≡ object_ids (objects_read r) ++ id ∷ [] = map-append (λ (o : ObjectView). o.id) (objects_read r) (new ∷ []) in
    let counted : length (objects_read r ++ new ∷ []) ≡ length (objects_read r) + 1 = length-append (objects_read r) (new ∷ []) in
    record {
      filled = omega arith;
      few_objects = omega (arith, counted);
      few_slots = room;
      few_roots = is.few_roots;
      rising = subst (AllPairs (λ x y. x < y)) (sym ids) (all_pairs_push (λ x y. x < y) (object_ids (objects_read r)) id is.rising (λ k d within. let low = is.within k d within in omega arith));
      within =
          subst (All (λ x. x ≤ id)) (sym ids)
          (All-push (λ x. x ≤ id) (object_ids (objects_read r)) id
          (All-weaker (λ x. x ≤ r.greatest) (λ x. x ≤ id) (λ x low. omega arith) (object_ids (objects_read r)) is.within) (omega arith));
    }

slot_bounded : (r : Reading) (slot to : ℕ) (stage : Stage) (s : Reading) → r.stage ≡ stage → take_slot r slot to stage ≡ Some s → IsBounded r → IsBounded s
slot_bounded r slot to Empty s at taken is = absurd (none-some s taken)
slot_bounded r slot to Begun s at taken is = absurd (none-some s taken)
slot_bounded r slot to (InObject o) s at taken is =
    let parts = taken_where (may_fill o slot) (record r { stage = InObject (after_slot_line o slot to) }) s taken in
    let may = and_parts _ _ parts.0 in
    let below : slot < o.slots = ltb-true slot o.slots may.0 in
    let above : length o.filled ≤ slot = leb-true (length o.filled) slot may.1 in
    let count : length ((o.filled ++ replicate (slot - length o.filled) None) ++ Some to ∷ []) ≡ slot + 1 =
    omega (
      arith,
      length-append (o.filled ++ replicate (slot - length o.filled) None) (Some to ∷ []),
      length-append o.filled (replicate (slot - length o.filled) None),
      length-replicate {A = Option ℕ} (slot - length o.filled) None,
    ) in
    let same : object_ids (objects_read r) ≡ object_ids (r.objects ++ whole_object o ∷ []) = ap (λ (t : Stage). object_ids (r.objects ++ open_objects t)) at in
    let now : object_ids (r.objects ++ whole_object (after_slot_line o slot to) ∷ []) ≡ object_ids (r.objects ++ whole_object o ∷ []) =
    map-append (λ (o : ObjectView). o.id) r.objects (whole_object (after_slot_line o slot to) ∷ []) ∙ sym (map-append (λ (o : ObjectView). o.id) r.objects (whole_object o ∷ [])) in
    let counted : length (r.objects ++ whole_object (after_slot_line o slot to) ∷ []) ≡ length (objects_read r) =
    length-append r.objects (whole_object (after_slot_line o slot to) ∷ []) ∙ sym (length-append r.objects (whole_object o ∷ [])) ∙ ap (λ (t : Stage). length (r.objects ++ open_objects t)) (sym at) in
    subst IsBounded parts.1
    (keeps_objects r (record r { stage = InObject (after_slot_line o slot to) }) is (now ∙ sym same) counted refl refl is.few_roots (omega arith))
slot_bounded r slot to InRoots s at taken is = absurd (none-some s taken)
slot_bounded r slot to Ended s at taken is = absurd (none-some s taken)

-- nothing is open any longer
closed_ids : (r : Reading) → objects_read r ++ [] ≡ objects_read r
closed_ids r = append-nil (objects_read r)

may_root-few : (r : Reading) (name : List ℕ) → may_root r name ≡ true → length r.roots < USUAL_ROOTS
unfolding may_root
may_root-few r name may = ltb-true (length r.roots) USUAL_ROOTS (and_parts _ _ may).1

head_bounded : (r : Reading) (stage : Stage) → r.stage ≡ stage → is_empty stage ≡ true → IsBounded r → IsBounded (record r { stage = Begun })
head_bounded r Empty at empty is =
    keeps_objects r (record r { stage = Begun }) is (ap (λ (t : Stage). object_ids (r.objects ++ open_objects t)) (sym at))
    (ap (λ (t : Stage). length (r.objects ++ open_objects t)) (sym at)) refl refl is.few_roots tt
head_bounded r Begun at empty is = absurd (false≢true empty)
head_bounded r (InObject o) at empty is = absurd (false≢true empty)
head_bounded r InRoots at empty is = absurd (false≢true empty)
head_bounded r Ended at empty is = absurd (false≢true empty)

pub bounded_more : (r : Reading) (line : Line) (s : Reading) → take_line r line ≡ Some s → IsBounded r → IsBounded s
unfolding take_line
bounded_more r Head s taken is =
    let parts = taken_where (is_empty r.stage) (record r { stage = Begun }) s taken in
    subst IsBounded parts.1 (head_bounded r r.stage refl parts.0 is)
bounded_more r (Object id slots kind) s taken is =
    let parts = taken_where (may_add r id slots kind) (after_object_line r id slots kind) s taken in
    subst IsBounded parts.1 (object_bounded r id slots kind parts.0 is)
bounded_more r (Slot slot to) s taken is = slot_bounded r slot to r.stage s refl taken is
bounded_more r (Root to name) s taken is =
    let parts = taken_where (may_root r name) (after_root_line r name to) s taken in
    let few = may_root-few r name parts.0 in
    subst IsBounded parts.1
    (keeps_objects r (after_root_line r name to) is (ap object_ids (closed_ids r)) (ap length (closed_ids r)) refl refl (omega (arith, few, length-append r.roots ((name, to) ∷ []))) tt)
bounded_more r End s taken is =
    let parts = taken_where (is_under_way r.stage) (closed_reading r) s taken in
    subst IsBounded parts.1
    (keeps_objects r (closed_reading r) is (ap object_ids (closed_ids r)) (ap length (closed_ids r)) refl refl is.few_roots tt)

-- the same where a line may say nothing
pub bounded_said : (r : Reading) (said : Option Line) (s : Reading) → Some s ≡ take_said r said → IsBounded r → IsBounded s
bounded_said r None s taken is = absurd (none-some s (sym taken))
bounded_said r (Some line) s taken is = bounded_more r line s (sym taken) is

-- behind the end nothing is open
pub ended_objects : (r : Reading) (stage : Stage) → r.stage ≡ stage → is_ended stage ≡ true → objects_read r ≡ r.objects
ended_objects r Empty at is_so = absurd (false≢true is_so)
ended_objects r Begun at is_so = absurd (false≢true is_so)
ended_objects r (InObject o) at is_so = absurd (false≢true is_so)
ended_objects r InRoots at is_so = absurd (false≢true is_so)
ended_objects r Ended at is_so = ap (λ (t : Stage). r.objects ++ open_objects t) at ∙ append-nil r.objects

pub ended_few : (r : Reading) → is_ended r.stage ≡ true → IsBounded r → length r.objects ≤ USUAL_OBJECTS
ended_few r is_so is = subst (λ (xs : List ObjectView). length xs ≤ USUAL_OBJECTS) (ended_objects r r.stage refl is_so) is.few_objects

pub ended_rising : (r : Reading) → is_ended r.stage ≡ true → IsBounded r → AllPairs (λ x y. x < y) (object_ids r.objects)
ended_rising r is_so is = subst (λ (xs : List ObjectView). AllPairs (λ x y. x < y) (object_ids xs)) (ended_objects r r.stage refl is_so) is.rising
