-- A verdict with its paths or without, put together from its parts.
use Rattle.std.proofs.Common.{◌≡◌, ℕ, Bool, true, false, List, Some, ap, refl}
use Rattle.std.specs.List.{slice_get}
use Rattle.std.specs.Option.{option_map, option_map_or}
use Rattle.graph_meaning.specs.declared.collection.Verdict.TheVariants.{Unshared}
use Rattle.graph_meaning.specs.declared.paths.Shown.{Shown}
use Rattle.graph_meaning.specs.Assertions.{references}
use Rattle.graph_meaning.specs.Collecting.{unshared_verdict}
use Rattle.graph_meaning.specs.Heap.{Heap, kind_at}
use Rattle.graph_meaning.specs.Paths.{shown_path, reference_way}
use Rattle.graph_meaning.specs.Roles.{id_at}
use Rattle.object_table.specs.Placed.{PlacedTable, IsPlaced, id_in}
use Rattle.object_table.proofs.ObjectsByCell.{cell_of-held}
use Rattle.path_cert.proofs.HeldObjects.{id-held}
use Rattle.verdict_list.specs.Counts.{CountTable}
use Rattle.verdict_list.specs.Listed.{path_if, verdict_if}
use Rattle.verdict_list.specs.Counts.{counted_in}

-- where the path is shown, it is that to the object in the cell
pub first_shown : (p : PlacedTable) (cell id : ℕ) (b : Bool) (path : ℕ → Shown) → (b ≡ true → id_in p cell ≡ Some id) → path_if b (path (id_at p.cells cell)) ≡ path_if b (path id)
first_shown p cell id true path held = ap path (id-held p cell id (held refl))
first_shown p cell id false path held = refl

pub counted-is : (p : PlacedTable) (t : CountTable) → IsPlaced p → (cell id : ℕ) → id_in p cell ≡ Some id → counted_in p t id ≡ t.references cell
counted-is p t placed cell id held = ap (λ o. option_map_or t.references o 0) (cell_of-held p placed cell id held)

pub unshared-is : (b : Bool) (count : ℕ → ℕ) (h : Heap) (x id : ℕ) (kind : List ℕ) (refs : ℕ) (first second : Shown) → id ≡ x →
    kind ≡ kind_at h.table x → refs ≡ count x → first ≡ path_if b (shown_path (option_map (reference_way h x) (slice_get (references h x) 0))) →
    second ≡ path_if b (shown_path (option_map (reference_way h x) (slice_get (references h x) 1))) →
    Unshared id kind refs first second ≡ verdict_if b (unshared_verdict count h x)
unshared-is true count h x id kind refs first second e1 e2 e3 e4 e5 = rw (e1, e2, e3, e4, e5) refl
unshared-is false count h x id kind refs first second e1 e2 e3 e4 e5 = rw (e1, e2, e3, e4, e5) refl
