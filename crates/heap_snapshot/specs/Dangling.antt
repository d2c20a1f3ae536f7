-- The first line of a text that refers to an object that isn't there.
use Rattle.std.specs.Prelude.{◌≡◌, ℕ, ◌+◌, List, [], ◌∷◌, map, if◌then◌else◌, Option, None, Some, Result, Ok, Err, ⊤}
use Rattle.graph_meaning.specs.declared.views.HeapView.{HeapView}
use Rattle.graph_meaning.specs.declared.views.ObjectView.{ObjectView}
use Rattle.graph_meaning.specs.Reach.{has_id}
use Rattle.heap_snapshot.specs.declared.dangling.DanglingReference.{DanglingReference}
use Rattle.heap_snapshot.specs.declared.line.Line.{Line}
use Rattle.heap_snapshot.specs.declared.line.Line.TheVariants.{Head, Object, Slot, Root, End}
use Rattle.heap_snapshot.specs.Text.{lines_of}

-- the object that a line refers to, if it refers to one
abbrev pub target_in : Line → Option ℕ
target_in Head = None
target_in (Object id slots kind) = None
target_in (Slot slot to) = Some to
target_in (Root to name) = Some to
target_in End = None

-- an id that is none of these, with the number of the line
abbrev pub dangling_at : List ℕ → ℕ → Option ℕ → Option (ℕ × ℕ)
dangling_at ids line None = None
dangling_at ids line (Some to) = if has_id ids to then None else Some (line, to)

abbrev pub first_of : {A : Type 0} → Option A → Option A → Option A
first_of None second = second
first_of (Some x) second = Some x

-- the first of these lines, of which the first has this number, that refers to none of these objects: its number, and
-- what it refers to
unfoldable pub dangling_from : List ℕ → ℕ → List Line → Option (ℕ × ℕ)
dangling_from ids line [] = None
dangling_from ids line (l ∷ lines) = first_of (dangling_at ids line (target_in l)) (dangling_from ids (line + 1) lines)

abbrev pub object_ids : List ObjectView → List ℕ
object_ids objects = map (λ o. o.id) objects

-- the first line of the view's text that refers to no object of the view
abbrev pub first_dangling : HeapView → Option (ℕ × ℕ)
first_dangling v = dangling_from (object_ids v.objects) 1 (lines_of v)

-- ---- the answers of a search

-- what there is to find is what is found in this, or the rest of the search, from the line behind
abbrev pub Passes : Result ℕ DanglingReference → Option (ℕ × ℕ) → (ℕ → Option (ℕ × ℕ)) → Type 0
Passes (Ok next) found later = found ≡ later next
Passes (Err d) found later = found ≡ Some (d.line, d.to)

abbrev pub FindsDangling : Result ⊤ DanglingReference → Option (ℕ × ℕ) → Type 0
FindsDangling (Ok all) found = found ≡ None
FindsDangling (Err d) found = found ≡ Some (d.line, d.to)
