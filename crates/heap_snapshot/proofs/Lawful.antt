-- A well-formed view is lawful: its text is read back.
use Rattle.std.proofs.Common.{◌≡◌, ℕ, ◌+◌, ◌≤◌, true, IsTrue, List, [], ◌∷◌, length, map, Option, None, Some, IfSome, All, refl, ap, ◌∙◌, subst, arith, ⊎_elim}
use Rattle.std.specs.List.{flat_map}
use Rattle.std.proofs.lemmas.Bool.{false≢true, cond-true, eqb-true, or_cases}
use Rattle.std.proofs.lemmas.List.Elements.{All-nil, All-cons, All-head, All-tail, All-weaker, All-append}
use Rattle.std.proofs.lemmas.List.Sums.{sum_by-cons}
use Rattle.heap_base.specs.declared.limits.TheConstants.{USUAL_SLOTS}
use Rattle.graph_meaning.specs.Reach.{has_id}
use Rattle.graph_meaning.specs.declared.views.HeapView.{HeapView}
use Rattle.graph_meaning.specs.declared.views.ObjectView.{ObjectView}
use Rattle.heap_snapshot.specs.declared.line.Line.{Line}
use Rattle.heap_snapshot.specs.declared.line.Line.TheVariants.{Head, Object, Slot, End}
use Rattle.heap_snapshot.specs.Dangling.{object_ids, target_in, dangling_at, dangling_from, first_dangling}
use Rattle.heap_snapshot.specs.Formed.{IsId, IsWellFormed, WellFormedIsLawful}
use Rattle.heap_snapshot.specs.Reading.{unless_dangling}
use Rattle.heap_snapshot.specs.Table.{Reading, nothing_read, is_ended}
use Rattle.heap_snapshot.specs.Text.{lines_of, lines_within, lines_of_object, lines_of_slots, line_of_root, snapshot_text}
use Rattle.heap_snapshot.proofs.Danglings.{dangling-live}
use Rattle.heap_snapshot.proofs.Formed.{slot_total}
use Rattle.heap_snapshot.proofs.Legal.{IsLegalObject, IsLegalRoot}
use Rattle.heap_snapshot.proofs.TakenLines.{lines_taken}
use Rattle.heap_snapshot.proofs.WrittenLines.{IsWritten, reads_lines}

abbrev Refers : List ℕ → Option ℕ → Type 0
Refers ids held = IfSome held (λ to. IsTrue (has_id ids to))

-- the line may be written, and refers to one of these objects if to any
abbrev IsRight : List ℕ → Line → Type 0
IsRight ids l = IsWritten l × Refers ids (target_in l)

-- an id of these objects
legal_id : (objects : List ObjectView) (id : ℕ) → All IsLegalObject objects → IsTrue (has_id (object_ids objects) id) → IsId id
legal_id [] id legal has = absurd (false≢true has)
legal_id (o ∷ objects) id legal has =
    ⊎_elim
    (λ here. subst IsId (eqb-true o.id id here) (All-head IsLegalObject o objects legal).0)
    (λ later. legal_id objects id (All-tail IsLegalObject o objects legal) later)
    (or_cases _ _ has)

module _ (v : HeapView) (formed : IsWellFormed v) where
  abbrev all_ids : List ℕ
  all_ids = object_ids v.objects

  slots_right : (slot : ℕ) (slots : List (Option ℕ)) → slot + length slots ≤ USUAL_SLOTS → All (Refers all_ids) slots → All (IsRight all_ids) (lines_of_slots slot slots)
  slots_right slot [] few refer = All-nil (IsRight all_ids)
  slots_right slot (None ∷ slots) few refer = slots_right (slot + 1) slots (omega arith) (All-tail (Refers all_ids) None slots refer)
  slots_right slot (Some to ∷ slots) few refer =
      let there : IsTrue (has_id all_ids to) = All-head (Refers all_ids) (Some to) slots refer in
      All-cons (IsRight all_ids) (Slot slot to) (lines_of_slots (slot + 1) slots) ((omega arith, legal_id v.objects to formed.objects there), there)
      (slots_right (slot + 1) slots (omega arith) (All-tail (Refers all_ids) (Some to) slots refer))

  objects_right : (objects : List ObjectView) → slot_total objects ≤ USUAL_SLOTS → All IsLegalObject objects → All (λ (o : ObjectView). All (Refers all_ids) o.slots) objects →
      All (IsRight all_ids) (flat_map lines_of_object objects)
  objects_right [] few legal refer = All-nil (IsRight all_ids)
  objects_right (o ∷ objects) few legal refer =
      let is = All-head IsLegalObject o objects legal in
      let total : slot_total (o ∷ objects) ≡ length o.slots + slot_total objects = sum_by-cons (λ (x : ObjectView). length x.slots) o objects in
      All-append (IsRight all_ids) (lines_of_object o) (flat_map lines_of_object objects)
      (All-cons (IsRight all_ids) (Object o.id (length o.slots) o.kind) (lines_of_slots 0 o.slots) ((is.0, omega (arith, few, total), is.1), tt)
      (slots_right 0 o.slots (omega (arith, few, total)) (All-head (λ (x : ObjectView). All (Refers all_ids) x.slots) o objects refer)))
      (objects_right objects (omega (arith, few, total)) (All-tail IsLegalObject o objects legal) (All-tail (λ (x : ObjectView). All (Refers all_ids) x.slots) o objects refer))

  roots_right : (roots : List (List ℕ × ℕ)) → All IsLegalRoot roots → All (λ (r : List ℕ × ℕ). IsTrue (has_id all_ids r.1)) roots → All (IsRight all_ids) (map line_of_root roots)
  roots_right [] legal refer = All-nil (IsRight all_ids)
  roots_right (r ∷ roots) legal refer =
      let there : IsTrue (has_id all_ids r.1) = All-head (λ (r : List ℕ × ℕ). IsTrue (has_id all_ids r.1)) r roots refer in
      All-cons (IsRight all_ids) (line_of_root r) (map line_of_root roots) ((legal_id v.objects r.1 formed.objects there, All-head IsLegalRoot r roots legal), there)
      (roots_right roots (All-tail IsLegalRoot r roots legal) (All-tail (λ (r : List ℕ × ℕ). IsTrue (has_id all_ids r.1)) r roots refer))

  lines_right : All (IsRight all_ids) (lines_of v)
  lines_right =
      All-cons (IsRight all_ids) Head (_) (tt, tt)
      (All-append (IsRight all_ids) (lines_within v.objects v.roots) (End ∷ [])
      (All-append (IsRight all_ids) (flat_map lines_of_object v.objects) (map line_of_root v.roots)
      (objects_right v.objects formed.few_slots formed.objects formed.slots)
      (roots_right v.roots formed.root_names formed.roots))
      (All-cons (IsRight all_ids) End [] (tt, tt) (All-nil (IsRight all_ids))))

-- what refers to an object dangles nowhere
live_here : (ids : List ℕ) (line : ℕ) (held : Option ℕ) → Refers ids held → dangling_at ids line held ≡ None
live_here ids line None refers = refl
live_here ids line (Some to) refers = cond-true (has_id ids to) None (Some (line, to)) refers

none_dangling : (ids : List ℕ) (line : ℕ) (lines : List Line) → All (λ l. Refers ids (target_in l)) lines → dangling_from ids line lines ≡ None
unfolding dangling_from
none_dangling ids line [] refer = refl
none_dangling ids line (l ∷ lines) refer =
    dangling-live ids line l lines (live_here ids line (target_in l) (All-head (λ l. Refers ids (target_in l)) l lines refer))
    ∙ none_dangling ids (line + 1) lines (All-tail (λ l. Refers ids (target_in l)) l lines refer)

pub well_formed_is_lawful : WellFormedIsLawful
unfolding snapshot_text
well_formed_is_lawful v formed =
    let ids : List ℕ = object_ids v.objects in
    let right = lines_right v formed in
    let taken = lines_taken v formed in
    let end : Reading = taken.0 in
    let read = reads_lines 0 nothing_read end (lines_of v) (All-weaker (IsRight ids) IsWritten (λ l is. is.0) (lines_of v) right) taken.1 in
    let none : first_dangling v ≡ None = none_dangling ids 1 (lines_of v) (All-weaker (IsRight ids) (λ l. Refers ids (target_in l)) (λ l is. is.1) (lines_of v) right) in (
      snapshot_text v,
      read.1 ∙ cond-true (is_ended end.stage) _ _ taken.2 ∙ ap (λ (w : HeapView). unless_dangling w (first_dangling w)) taken.3 ∙ ap (unless_dangling v) none,
    )
