-- The lines that were taken, by what stands last.
use Rattle.std.specs.Prelude.{◌≡◌, ℕ, ◌≤◌, List, [], ◌∷◌, ◌++◌, length}
use Rattle.std.specs.List.{flat_map}
use Rattle.graph_meaning.specs.declared.views.ObjectView.{ObjectView}
use Rattle.heap_snapshot.specs.declared.line.Line.{Line}
use Rattle.heap_snapshot.specs.declared.line.Line.TheVariants.{Head, Object, End}
use Rattle.heap_snapshot.specs.declared.stage.OpenObject.{OpenObject}
use Rattle.heap_snapshot.specs.declared.stage.Stage.{Stage}
use Rattle.heap_snapshot.specs.declared.stage.Stage.TheVariants.{Empty, Begun, InObject, InRoots, Ended}
use Rattle.heap_snapshot.specs.Text.{lines_of_slots, lines_of_object, lines_within}
use Rattle.heap_snapshot.specs.Table.{Reading}

-- the lines of an open object so far
abbrev pub open_lines : OpenObject → List Line
open_lines o = Object o.id o.slots o.kind ∷ lines_of_slots 0 o.filled

-- the lines that were read, by what stands last
abbrev pub AreLinesAt : Stage → List ObjectView → List (List ℕ × ℕ) → List Line → Type 0
AreLinesAt Empty objects roots lines = (lines ≡ []) × (objects ≡ []) × (roots ≡ [])
AreLinesAt Begun objects roots lines = (lines ≡ Head ∷ []) × (objects ≡ []) × (roots ≡ [])
AreLinesAt (InObject o) objects roots lines = (lines ≡ Head ∷ (flat_map lines_of_object objects ++ open_lines o)) × (length o.filled ≤ o.slots) × (roots ≡ [])
AreLinesAt InRoots objects roots lines = lines ≡ Head ∷ lines_within objects roots
AreLinesAt Ended objects roots lines = lines ≡ Head ∷ (lines_within objects roots ++ End ∷ [])

abbrev pub AreLines : Reading → List Line → Type 0
AreLines r lines = AreLinesAt r.stage r.objects r.roots lines
