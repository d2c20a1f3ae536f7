-- For how many cells and types a kit was made.
use Rattle.std.specs.Prelude.{ℕ, length}
use Rattle.heap_marking.specs.declared.kit.Kit.{Kit}

abbrev pub kit_cells : Kit → ℕ
kit_cells k = k.memory.headers.cells

abbrev pub kit_kinds : Kit → ℕ
kit_kinds k = length k.memory.tally
