-- The text of a snapshot: the lines that a view has, one after another.
use Rattle.std.specs.Prelude.{ℕ, ◌+◌, List, [], ◌∷◌, ◌++◌, length, map, Option, None, Some}
use Rattle.std.specs.List.{flat_map}
use Rattle.graph_meaning.specs.declared.views.ObjectView.{ObjectView}
use Rattle.graph_meaning.specs.declared.views.HeapView.{HeapView}
use Rattle.heap_snapshot.specs.declared.line.Line.{Line}
use Rattle.heap_snapshot.specs.declared.line.Line.TheVariants.{Head, Object, Slot, Root, End}
use Rattle.heap_snapshot.specs.Lines.{line_bytes}

-- the line of a slot, which an empty one doesn't have
abbrev pub slot_line : ℕ → Option ℕ → List Line
slot_line slot None = []
slot_line slot (Some to) = Slot slot to ∷ []

-- the lines of these slots, of which the first has this number
abbrev pub lines_of_slots : ℕ → List (Option ℕ) → List Line
lines_of_slots slot [] = []
lines_of_slots slot (held ∷ slots) = slot_line slot held ++ lines_of_slots (slot + 1) slots

abbrev pub lines_of_object : ObjectView → List Line
lines_of_object o = Object o.id (length o.slots) o.kind ∷ lines_of_slots 0 o.slots

abbrev pub line_of_root : List ℕ × ℕ → Line
line_of_root r = Root r.1 r.0

-- the lines of the objects and of the roots
abbrev pub lines_within : List ObjectView → List (List ℕ × ℕ) → List Line
lines_within objects roots = flat_map lines_of_object objects ++ map line_of_root roots

-- the lines of a view
abbrev pub lines_of : HeapView → List Line
lines_of v = Head ∷ (lines_within v.objects v.roots ++ End ∷ [])

-- the text of a view
unfoldable pub snapshot_text : HeapView → List ℕ
snapshot_text v = flat_map line_bytes (lines_of v)
