-- The lines that were taken are the lines of the view.
use Rattle.std.proofs.Common.{◌≡◌, ℕ, ◌+◌, ◌-◌, ◌≤◌, true, ltb, leb, List, [], ◌∷◌, ◌++◌, length, map, replicate, Option, None, Some, sym, refl, ap}
use Rattle.std.proofs.Common.{◌∙◌, subst, arith, append_assoc, append-nil, length-append, zero, suc}
use Rattle.std.proofs.lemmas.Bool.{false≢true, leb-true, ltb-true, and_parts}
use Rattle.std.proofs.lemmas.Option.{cond_some, none-some}
use Rattle.std.proofs.lemmas.List.{map-append, length-replicate}
use Rattle.std.proofs.lemmas.Grind.{flat_map-append}
use Rattle.std.specs.List.{flat_map}
use Rattle.graph_meaning.specs.declared.views.ObjectView.{ObjectView}
use Rattle.heap_snapshot.specs.declared.line.Line.{Line}
use Rattle.heap_snapshot.specs.declared.line.Line.TheVariants.{Head, Object, Slot, Root, End}
use Rattle.heap_snapshot.specs.declared.stage.OpenObject.{OpenObject}
use Rattle.heap_snapshot.specs.declared.stage.Stage.{Stage}
use Rattle.heap_snapshot.specs.declared.stage.Stage.TheVariants.{Empty, Begun, InObject, InRoots, Ended}
use Rattle.heap_snapshot.specs.Text.{lines_of_slots, lines_of_object, line_of_root, lines_within}
use Rattle.heap_snapshot.specs.Table.{Reading, whole_object, open_objects, objects_read, is_empty, is_before_roots, is_under_way, may_add}
use Rattle.heap_snapshot.specs.Table.{after_object_line, may_fill, after_slot_line, take_slot, may_root, after_root_line, closed_reading, take_line}
use Rattle.heap_snapshot.specs.Taken.{open_lines, AreLinesAt, AreLines}
use Rattle.heap_snapshot.proofs.Writing.{slot_lines-append}

-- empty slots have no line
empty_lines : (slot n : ℕ) → lines_of_slots slot (replicate n None) ≡ []
empty_lines slot zero = refl
empty_lines slot (suc n) = empty_lines (slot + 1) n

whole_lines : (o : OpenObject) → length o.filled ≤ o.slots → lines_of_object (whole_object o) ≡ open_lines o
whole_lines o within =
    let count : length (o.filled ++ replicate (o.slots - length o.filled) None) ≡ o.slots =
    omega (arith, length-append o.filled (replicate (o.slots - length o.filled) None), length-replicate {A = Option ℕ} (o.slots - length o.filled) None) in
    let slots : lines_of_slots 0 (o.filled ++ replicate (o.slots - length o.filled) None) ≡ lines_of_slots 0 o.filled =
    slot_lines-append 0 o.filled (replicate (o.slots - length o.filled) None)
    ∙ ap (λ (ls : List Line). lines_of_slots 0 o.filled ++ ls) (empty_lines (0 + length o.filled) (o.slots - length o.filled)) ∙ append-nil (lines_of_slots 0 o.filled) in
    ap (λ n. Object o.id n o.kind ∷ lines_of_slots 0 (o.filled ++ replicate (o.slots - length o.filled) None)) count ∙ ap (λ (ls : List Line). Object o.id o.slots o.kind ∷ ls) slots

-- the same lines, where nothing is open any longer
closed : (stage : Stage) (objects : List ObjectView) (roots : List (List ℕ × ℕ)) (lines : List Line) → is_under_way stage ≡ true →
    AreLinesAt stage objects roots lines → lines ≡ Head ∷ lines_within (objects ++ open_objects stage) roots
closed Empty objects roots lines way are = absurd (false≢true way)
closed Begun objects roots lines way are =
    are.0 ∙ sym (ap (λ (xs : List ObjectView). Head ∷ lines_within (xs ++ []) roots) are.1 ∙ ap (λ (rs : List (List ℕ × ℕ)). Head ∷ lines_within [] rs) are.2)
closed (InObject o) objects roots lines way are =
    let more : flat_map lines_of_object (objects ++ whole_object o ∷ []) ≡ flat_map lines_of_object objects ++ open_lines o =
    flat_map-append lines_of_object objects (whole_object o ∷ [])
    ∙ ap (λ (ls : List Line). flat_map lines_of_object objects ++ ls) (append-nil (lines_of_object (whole_object o)) ∙ whole_lines o are.1) in
    are.0 ∙ ap (λ (ls : List Line). Head ∷ ls) (sym more ∙ sym (append-nil (flat_map lines_of_object (objects ++ whole_object o ∷ []))))
    ∙ ap (λ (rs : List (List ℕ × ℕ)). Head ∷ lines_within (objects ++ whole_object o ∷ []) rs) (sym are.2)
closed InRoots objects roots lines way are = are ∙ ap (λ (xs : List ObjectView). Head ∷ lines_within xs roots) (sym (append-nil objects))
closed Ended objects roots lines way are = absurd (false≢true way)

no_roots : (stage : Stage) (objects : List ObjectView) (roots : List (List ℕ × ℕ)) (lines : List Line) → is_before_roots stage ≡ true → AreLinesAt stage objects roots lines → roots ≡ []
no_roots Empty objects roots lines way are = absurd (false≢true way)
no_roots Begun objects roots lines way are = are.2
no_roots (InObject o) objects roots lines way are = are.2
no_roots InRoots objects roots lines way are = absurd (false≢true way)
no_roots Ended objects roots lines way are = absurd (false≢true way)

pub under_way : (stage : Stage) → is_before_roots stage ≡ true → is_under_way stage ≡ true
under_way Empty way = way
under_way Begun way = refl
under_way (InObject o) way = refl
under_way InRoots way = absurd (false≢true way)
under_way Ended way = absurd (false≢true way)

head_line : (r : Reading) (stage : Stage) (lines : List Line) → is_empty stage ≡ true → AreLinesAt stage r.objects r.roots lines → AreLines (record r { stage = Begun }) (lines ++ Head ∷ [])
head_line r Empty lines empty are = (ap (λ (ls : List Line). ls ++ Head ∷ []) are.0, are.1, are.2)
head_line r Begun lines empty are = absurd (false≢true empty)
head_line r (InObject o) lines empty are = absurd (false≢true empty)
head_line r InRoots lines empty are = absurd (false≢true empty)
head_line r Ended lines empty are = absurd (false≢true empty)

object_line : (r : Reading) (id slots : ℕ) (kind : List ℕ) (lines : List Line) → is_before_roots r.stage ≡ true → AreLines r lines →
    AreLines (after_object_line r id slots kind) (lines ++ Object id slots kind ∷ [])
object_line r id slots kind lines before are =
    let none = no_roots r.stage r.objects r.roots lines before are in
    let all = closed r.stage r.objects r.roots lines (under_way r.stage before) are in (
      ap (λ (ls : List Line). ls ++ Object id slots kind ∷ [])
          (all ∙ ap (λ (rs : List (List ℕ × ℕ)). Head ∷ lines_within (objects_read r) rs) none
          ∙ ap (λ (ls : List Line). Head ∷ ls) (append-nil (flat_map lines_of_object (objects_read r)))),
      omega arith,
      none,
    )

slot_taken : (r : Reading) (slot to : ℕ) (stage : Stage) (s : Reading) (lines : List Line) → take_slot r slot to stage ≡ Some s →
    AreLinesAt stage r.objects r.roots lines → AreLines s (lines ++ Slot slot to ∷ [])
slot_taken r slot to Empty s lines taken are = absurd (none-some s taken)
slot_taken r slot to Begun s lines taken are = absurd (none-some s taken)
slot_taken r slot to (InObject o) s lines taken are =
    let parts = cond_some (may_fill o slot) (record r { stage = InObject (after_slot_line o slot to) }) s taken in
    let may = and_parts (ltb slot o.slots) (leb (length o.filled) slot) parts.0 in
    let above : length o.filled ≤ slot = leb-true (length o.filled) slot may.1 in
    let front : List (Option ℕ) = o.filled ++ replicate (slot - length o.filled) None in
    let count : length front ≡ slot = omega (arith, length-append o.filled (replicate (slot - length o.filled) None), length-replicate {A = Option ℕ} (slot - length o.filled) None) in
    let here : lines_of_slots 0 front ≡ lines_of_slots 0 o.filled =
    slot_lines-append 0 o.filled (replicate (slot - length o.filled) None)
    ∙ ap (λ (ls : List Line). lines_of_slots 0 o.filled ++ ls) (empty_lines (0 + length o.filled) (slot - length o.filled)) ∙ append-nil (lines_of_slots 0 o.filled) in
    let place : 0 + length front ≡ slot = omega (arith, count) in
    let grown : lines_of_slots 0 (front ++ Some to ∷ []) ≡ lines_of_slots 0 o.filled ++ Slot slot to ∷ [] =
    slot_lines-append 0 front (Some to ∷ []) ∙ ap (λ (ls : List Line). ls ++ lines_of_slots (0 + length front) (Some to ∷ [])) here
    ∙ ap (λ n. lines_of_slots 0 o.filled ++ lines_of_slots n (Some to ∷ [])) place in
    let below = ltb-true slot o.slots may.0 in
    subst (λ (x : Reading). AreLines x (lines ++ Slot slot to ∷ [])) parts.1 (
      ap (λ (ls : List Line). ls ++ Slot slot to ∷ []) are.0
          ∙ ap (λ (ls : List Line). Head ∷ ls)
          (append_assoc (flat_map lines_of_object r.objects) (open_lines o) (Slot slot to ∷ [])
          ∙ ap (λ (ls : List Line). flat_map lines_of_object r.objects ++ Object o.id o.slots o.kind ∷ ls) (sym grown)),
      omega (arith, below, count, length-append front (Some to ∷ [])),
      are.2,
    )
slot_taken r slot to InRoots s lines taken are = absurd (none-some s taken)
slot_taken r slot to Ended s lines taken are = absurd (none-some s taken)

before_of : (r : Reading) (id slots : ℕ) (kind : List ℕ) → may_add r id slots kind ≡ true → is_before_roots r.stage ≡ true
unfolding may_add
before_of r id slots kind may = (and_parts _ _ (and_parts _ _ (and_parts _ _ (and_parts _ _ may).0).0).0).0

way_of : (r : Reading) (name : List ℕ) → may_root r name ≡ true → is_under_way r.stage ≡ true
unfolding may_root
way_of r name may = (and_parts _ _ (and_parts _ _ may).0).0

-- a line that is taken is the next of the lines
pub line_is_next : (r : Reading) (line : Line) (s : Reading) (lines : List Line) → take_line r line ≡ Some s → AreLines r lines → AreLines s (lines ++ line ∷ [])
unfolding take_line
line_is_next r Head s lines taken are =
    let parts = cond_some (is_empty r.stage) (record r { stage = Begun }) s taken in
    subst (λ (x : Reading). AreLines x (lines ++ Head ∷ [])) parts.1 (head_line r r.stage lines parts.0 are)
line_is_next r (Object id slots kind) s lines taken are =
    let parts = cond_some (may_add r id slots kind) (after_object_line r id slots kind) s taken in
    subst (λ (x : Reading). AreLines x (lines ++ Object id slots kind ∷ [])) parts.1 (object_line r id slots kind lines (before_of r id slots kind parts.0) are)
line_is_next r (Slot slot to) s lines taken are = slot_taken r slot to r.stage s lines taken are
line_is_next r (Root to name) s lines taken are =
    let parts = cond_some (may_root r name) (after_root_line r name to) s taken in
    let all = closed r.stage r.objects r.roots lines (way_of r name parts.0) are in
    subst (λ (x : Reading). AreLines x (lines ++ Root to name ∷ [])) parts.1
    (ap (λ (ls : List Line). ls ++ Root to name ∷ []) all
    ∙ ap (λ (ls : List Line). Head ∷ ls) (append_assoc (flat_map lines_of_object (objects_read r)) (map line_of_root r.roots) (Root to name ∷ [])
    ∙ ap (λ (ls : List Line). flat_map lines_of_object (objects_read r) ++ ls) (sym (map-append line_of_root r.roots ((name, to) ∷ [])))))
line_is_next r End s lines taken are =
    let parts = cond_some (is_under_way r.stage) (closed_reading r) s taken in
    let all = closed r.stage r.objects r.roots lines parts.0 are in
    subst (λ (x : Reading). AreLines x (lines ++ End ∷ [])) parts.1 (ap (λ (ls : List Line). ls ++ End ∷ []) all)
