-- Steps of paths, by cells, and which of them are shown.
use Rattle.std.specs.Prelude.{ℕ, ◌-◌, max, List, ◌++◌, take, drop, Bool, ◌||◌, nat_lt, nat_le, Option}
use Rattle.std.specs.Option.{option_map}
use Rattle.heap_base.specs.declared.limits.TheConstants.{END_STEPS}
use Rattle.graph_meaning.specs.declared.paths.PathStep.{PathStep}
use Rattle.graph_meaning.specs.Heap.{Table, kind_at, edge_of}
use Rattle.graph_meaning.specs.Paths.{Way, way_by_edge}
use Rattle.object_table.specs.Placed.{PlacedTable, slot_in}

-- the step by an edge, from the slot with its number to the object that it leads to
abbrev pub step_to : Table → ℕ × ℕ → PathStep
step_to t e = record { slot = e.0; id = e.1; kind = kind_at t e.1 }

-- the way to the object in a cell that goes on by one of its slots, if the slot is an edge
abbrev pub way_by_slot : PlacedTable → Way → ℕ → ℕ → Option Way
way_by_slot p w cell slot = option_map (λ y. way_by_edge p.table w (slot, y)) (edge_of (slot_in p cell slot))

-- ---- what is shown

-- of n steps, whether the one with this number, from 0, is among the first or the last that are shown
abbrev pub is_shown : ℕ → ℕ → Bool
is_shown n number = nat_lt number END_STEPS || nat_le (n - END_STEPS) number

-- of n steps, what is shown of those from one with this number on
unfoldable pub shown_from : ℕ → ℕ → List PathStep → List PathStep
shown_from n number steps = take (END_STEPS - number) steps ++ drop (max END_STEPS (n - END_STEPS) - number) steps
