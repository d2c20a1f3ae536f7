use Rattle.std.proofs.Common.{◌≡◌, ◌+◌, ◌≤◌, length, drop, filter}
use Rattle.std.specs.List.{sum_by}
use Rattle.object_table.specs.Residents.{is_flagged}
use Rattle.object_table.specs.Parts.{slots_at_cell}
use Rattle.object_table.proofs.table.freed_slots.Given as goal

-- the slots of the objects from this place on are counted where these aren't kept
abbrev pub invariant-loop-place : goal.invariant-loop-place
invariant-loop-place l = record {
  within : l.place ≤ length l.ids;
  slots :
      l.slots + sum_by (λ e. slots_at_cell l.cells.cells e.1) (filter (λ e. is_flagged l.kept e.1) (drop l.place l.ids))
      ≡ sum_by (λ e. slots_at_cell l.cells.cells e.1) (drop l.place l.ids);
}
