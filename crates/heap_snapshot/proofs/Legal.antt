-- The ids, the types and the names of what has been read.
use Rattle.std.proofs.Common.{◌≡◌, ℕ, ◌≤◌, ◌||◌, Bool, true, false, cond, ltb, List, [], ◌∷◌, ◌++◌, length, Some, All, sym, refl, ap, ◌∙◌, subst, arith, append-nil, length-append}
use Rattle.std.proofs.lemmas.Bool.{false≢true, ltb-true, and_parts}
use Rattle.std.proofs.lemmas.Option.{cond_some, none-some}
use Rattle.std.proofs.lemmas.List.Elements.{All-nil, All-push, All-head, All-tail, All-cons}
use Rattle.std.proofs.lemmas.List.Sums.{fold_push}
use Rattle.heap_base.specs.declared.limits.TheConstants.{MOST_KINDS}
use Rattle.graph_meaning.specs.Heap.{is_seen}
use Rattle.graph_meaning.specs.Step.{with_kind}
use Rattle.graph_meaning.specs.declared.views.ObjectView.{ObjectView}
use Rattle.heap_snapshot.specs.declared.line.Line.{Line}
use Rattle.heap_snapshot.specs.declared.line.Line.TheVariants.{Head, Object, Slot, Root, End}
use Rattle.heap_snapshot.specs.declared.stage.Stage.{Stage}
use Rattle.heap_snapshot.specs.declared.stage.Stage.TheVariants.{Empty, Begun, InObject, InRoots, Ended}
use Rattle.heap_snapshot.specs.Formed.{IsId, IsName, kind_names}
use Rattle.heap_snapshot.specs.Table.{Reading, nothing_read, whole_object, open_objects, objects_read, is_empty, is_under_way, may_add, after_object_line}
use Rattle.heap_snapshot.specs.Table.{may_fill, after_slot_line, take_slot, may_root, after_root_line, closed_reading, take_line}
use Rattle.heap_snapshot.proofs.Spoken.{HasNames, line_in-named}
use Rattle.heap_snapshot.proofs.Texts.{IsSaid}

abbrev pub IsLegalObject : ObjectView → Type 0
IsLegalObject o = IsId o.id × IsName o.kind

abbrev pub IsLegalRoot : List ℕ × ℕ → Type 0
IsLegalRoot r = IsName r.0

-- the types are those of the objects, and few; and what has an id or a name has a legal one
pub record Legal (r : Reading) : Type 0 where
  pub kinds : r.kinds ≡ kind_names (objects_read r)
  pub few_kinds : length r.kinds ≤ MOST_KINDS
  pub objects : All IsLegalObject (objects_read r)
  pub roots : All IsLegalRoot r.roots

pub legal_nothing : Legal nothing_read
legal_nothing = record { kinds = refl; few_kinds = omega arith; objects = All-nil IsLegalObject; roots = All-nil IsLegalRoot }

pub kinds-push : (objects : List ObjectView) (o : ObjectView) → kind_names (objects ++ o ∷ []) ≡ with_kind (kind_names objects) o.kind
kinds-push objects o = fold_push (λ (kinds : List (List ℕ)) (x : ObjectView). with_kind kinds x.kind) [] objects o

few_more : (kinds : List (List ℕ)) (kind : List ℕ) → length kinds ≤ MOST_KINDS → (is_seen kinds kind || ltb (length kinds) MOST_KINDS) ≡ true → length (with_kind kinds kind) ≤ MOST_KINDS
few_more kinds kind few may = go (is_seen kinds kind) may
  where
    go : (seen : Bool) → (seen || ltb (length kinds) MOST_KINDS) ≡ true → length (cond seen kinds (kinds ++ kind ∷ [])) ≤ MOST_KINDS
    go true may = few
    go false may = omega (arith, ltb-true (length kinds) MOST_KINDS may, length-append kinds (kind ∷ []))

-- the same types, objects and roots
keeps : (r s : Reading) → Legal r → s.kinds ≡ r.kinds → objects_read s ≡ objects_read r → All IsLegalRoot s.roots → Legal s
keeps r s is kinds objects roots = record {
  kinds = kinds ∙ is.kinds ∙ sym (ap kind_names objects);
  few_kinds = subst (λ (ks : List (List ℕ)). length ks ≤ MOST_KINDS) (sym kinds) is.few_kinds;
  objects = subst (All IsLegalObject) (sym objects) is.objects;
  roots = roots;
}

kinds_may : (r : Reading) (id slots : ℕ) (kind : List ℕ) → may_add r id slots kind ≡ true → (is_seen r.kinds kind || ltb (length r.kinds) MOST_KINDS) ≡ true
unfolding may_add
kinds_may r id slots kind may = (and_parts _ _ may).1

object_legal : (r : Reading) (id slots : ℕ) (kind : List ℕ) → may_add r id slots kind ≡ true → IsId id × IsName kind → Legal r → Legal (after_object_line r id slots kind)
object_legal r id slots kind may legal is =
    let new : ObjectView = whole_object (record { id = id; slots = slots; kind = kind; filled = [] }) in
    record {
      kinds = ap (λ (ks : List (List ℕ)). with_kind ks kind) is.kinds ∙ sym (kinds-push (objects_read r) new);
      few_kinds = few_more r.kinds kind is.few_kinds (kinds_may r id slots kind may);
      objects = All-push IsLegalObject (objects_read r) new is.objects legal;
      roots = is.roots;
    }

front_of : (P : ObjectView → Type 0) (xs : List ObjectView) (y : ObjectView) → All P (xs ++ y ∷ []) → All P xs × P y
front_of P [] y all = (All-nil P, All-head P y [] all)
front_of P (x ∷ xs) y all =
    let later = front_of P xs y (All-tail P x (xs ++ y ∷ []) all) in (All-cons P x xs (All-head P x (xs ++ y ∷ []) all) later.0, later.1)

slot_legal : (r : Reading) (slot to : ℕ) (stage : Stage) (s : Reading) → r.stage ≡ stage → take_slot r slot to stage ≡ Some s → Legal r → Legal s
slot_legal r slot to Empty s at taken is = absurd (none-some s taken)
slot_legal r slot to Begun s at taken is = absurd (none-some s taken)
slot_legal r slot to (InObject o) s at taken is =
    let parts = cond_some (may_fill o slot) (record r { stage = InObject (after_slot_line o slot to) }) s taken in
    let old : ObjectView = whole_object o in
    let new : ObjectView = whole_object (after_slot_line o slot to) in
    let same : objects_read r ≡ r.objects ++ old ∷ [] = ap (λ (t : Stage). r.objects ++ open_objects t) at in
    let legal = front_of IsLegalObject r.objects old (subst (All IsLegalObject) same is.objects) in
    subst Legal parts.1
    (record {
      kinds = is.kinds ∙ ap kind_names same ∙ kinds-push r.objects old ∙ sym (kinds-push r.objects new);
      few_kinds = is.few_kinds;
      objects = All-push IsLegalObject r.objects new legal.0 legal.1;
      roots = is.roots;
    })
slot_legal r slot to InRoots s at taken is = absurd (none-some s taken)
slot_legal r slot to Ended s at taken is = absurd (none-some s taken)

head_legal : (r : Reading) (stage : Stage) → r.stage ≡ stage → is_empty stage ≡ true → Legal r → Legal (record r { stage = Begun })
head_legal r Empty at empty is =
    keeps r (record r { stage = Begun }) is refl (ap (λ (t : Stage). r.objects ++ open_objects t) (sym at)) is.roots
head_legal r Begun at empty is = absurd (false≢true empty)
head_legal r (InObject o) at empty is = absurd (false≢true empty)
head_legal r InRoots at empty is = absurd (false≢true empty)
head_legal r Ended at empty is = absurd (false≢true empty)

taken_legal : (r : Reading) (line : Line) (s : Reading) → HasNames line → take_line r line ≡ Some s → Legal r → Legal s
unfolding take_line
taken_legal r Head s names taken is =
    let parts = cond_some (is_empty r.stage) (record r { stage = Begun }) s taken in
    subst Legal parts.1 (head_legal r r.stage refl parts.0 is)
taken_legal r (Object id slots kind) s names taken is =
    let parts = cond_some (may_add r id slots kind) (after_object_line r id slots kind) s taken in
    subst Legal parts.1 (object_legal r id slots kind parts.0 names is)
taken_legal r (Slot slot to) s names taken is = slot_legal r slot to r.stage s refl taken is
taken_legal r (Root to name) s names taken is =
    let parts = cond_some (may_root r name) (after_root_line r name to) s taken in
    subst Legal parts.1
    (keeps r (after_root_line r name to) is refl (append-nil (objects_read r)) (All-push IsLegalRoot r.roots (name, to) is.roots names.1))
taken_legal r End s names taken is =
    let parts = cond_some (is_under_way r.stage) (closed_reading r) s taken in
    subst Legal parts.1 (keeps r (closed_reading r) is refl (append-nil (objects_read r)) is.roots)

pub legal_more : (r : Reading) (line : Line) (s : Reading) → IsSaid line → take_line r line ≡ Some s → Legal r → Legal s
legal_more r line s said taken is = taken_legal r line s (line_in-named said.0 line said.1) taken is
