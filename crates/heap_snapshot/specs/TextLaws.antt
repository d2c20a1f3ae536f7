-- Laws of snapshots: what bytes that stand for a view are.
use Rattle.std.specs.Prelude.{◌≡◌, ℕ, List, Some}
use Rattle.graph_meaning.specs.declared.views.HeapView.{HeapView}
use Rattle.heap_snapshot.specs.declared.refusal.SnapWhy.TheVariants.{Dangling}
use Rattle.heap_snapshot.specs.Dangling.{first_dangling}
use Rattle.heap_snapshot.specs.Reading.{IsLawful, StandsFor, meaning_of, refusal_at}
use Rattle.heap_snapshot.specs.Text.{snapshot_text}

-- Bytes that stand for a view are its text: a view has one text at most.
abbrev pub StandsByText : Type 0
StandsByText = (bytes : List ℕ) (v : HeapView) → StandsFor bytes v → bytes ≡ snapshot_text v

-- The text of a lawful view stands for it: what is written of it is read back.
abbrev pub WrittenIsReadBack : Type 0
WrittenIsReadBack = (v : HeapView) → IsLawful v → StandsFor (snapshot_text v) v

-- Lawful views with one text are one view.
abbrev pub TextTellsView : Type 0
TextTellsView = (v w : HeapView) → IsLawful v → IsLawful w → snapshot_text v ≡ snapshot_text w → v ≡ w

-- Bytes in which an id dangles are the text of a view too, and its line is counted in them.
abbrev pub DanglesInText : Type 0
DanglesInText =
    (bytes : List ℕ) (line id : ℕ) → meaning_of bytes ≡ refusal_at line (Dangling id) → (v : HeapView) × (bytes ≡ snapshot_text v) × (first_dangling v ≡ Some (line, id))
