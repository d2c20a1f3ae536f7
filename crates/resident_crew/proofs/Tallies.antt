-- What the tallies of a trace count together.
use Rattle.std.proofs.Common.{ℕ, ◌==◌, ◌≤◌, Bool, true, false, List, length, arith}
use Rattle.std.specs.Prelude.{is_some}
use Rattle.std.specs.List.{All, range_with_len}
use Rattle.std.proofs.lemmas.List.FromFn.{length-range_with_len}
use Rattle.heap_base.specs.Counting.{bit}
use Rattle.heap_base.proofs.Counting.{total-le, total-ones}
use Rattle.graph_meaning.specs.Roles.{RoleTable, AreRolesOf}
use Rattle.graph_meaning.proofs.Membership.{length-filter_le}
use Rattle.object_table.specs.Placed.{PlacedTable, id_in}
use Rattle.scan_job.specs.Cells.{graph_of}
use Rattle.scan_job.specs.Graphs.{StoppedGraph}
use Rattle.scan_job.specs.Scans.{kind_count}
use Rattle.scan_job.specs.States.{ScanState}
use Rattle.scan_job.proofs.Placing.{is-whole}
use Rattle.heap_marking.specs.TracedCells.{ThreePhases, AreWonOnce, IsNew, all_tallies, is_traced, traced_cells}
use Rattle.heap_marking.proofs.PhaseTotals.{phases_trace}

few-bits : (b : Bool) → bit b ≤ 1
few-bits false = omega arith
few-bits true = omega arith

few-counted : (g : StoppedGraph) (kind : ℕ) (xs : List ℕ) → kind_count g kind xs ≤ length xs
few-counted g kind xs =
    let a = total-le (λ x. bit (g.kind x == kind)) (λ _. 1) (λ x. few-bits (g.kind x == kind)) xs in
    let b = total-ones xs in
    omega arith

-- at most one object stands in a cell
few-nodes : (p : PlacedTable) (r : RoleTable) → length (traced_cells (graph_of p r)) ≤ length p.cells
few-nodes p r =
    let g = graph_of p r in
    let a = length-filter_le (is_traced g) g.nodes in
    let b = length-filter_le (λ cell. is_some (id_in p cell)) (range_with_len 0 (length p.cells)) in
    let c = length-range_with_len 0 (length p.cells) in
    omega arith

-- No type has more traced objects than there are cells.
pub few-tallied : (p : PlacedTable) (r : RoleTable) → AreRolesOf p.cells (length p.table.kinds) r → (js ms : List ScanState) → All IsNew js →
    ThreePhases (graph_of p r) js ms → AreWonOnce ms → (kind : ℕ) → all_tallies kind ms ≤ length p.cells
few-tallied p r roles js ms new phases once kind =
    let g = graph_of p r in
    let a = (phases_trace g js ms (is-whole p r roles) new phases once).instances kind in
    let b = few-counted g kind (traced_cells g) in
    let c = few-nodes p r in
    omega arith
