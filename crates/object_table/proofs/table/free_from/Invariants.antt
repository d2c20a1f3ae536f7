use Rattle.std.proofs.Common.{◌≡◌, ℕ, ◌+◌, ◌≤◌, length, drop, filter}
use Rattle.std.specs.List.{sum_by}
use Rattle.object_table.specs.Residents.{is_flagged, held_at}
use Rattle.object_table.specs.Parts.{slots_at_cell, held_unless, is_freed}
use Rattle.object_table.proofs.table.free_from.Given as goal

-- the objects from this place on are freed where they aren't kept
abbrev pub invariant-loop-place : goal.invariant-loop-place
invariant-loop-place l = record {
  from : l.first ≤ l.place;
  within : l.place ≤ length l.ids;
  count : length l.cells.cells ≡ length l.initial.cells.cells;
  freed : (cell : ℕ) → held_at l.cells.cells cell ≡ held_unless (is_freed l.kept (drop l.place l.ids) cell) l.initial.cells.cells cell;
  slots :
      l.slots + sum_by (λ e. slots_at_cell l.initial.cells.cells e.1) (filter (λ e. is_flagged l.kept e.1) (drop l.place l.ids))
      ≡ sum_by (λ e. slots_at_cell l.initial.cells.cells e.1) (drop l.place l.ids);
}
