use Rattle.std.proofs.Common.{◌≡◌, ℕ, []}
use Rattle.graph_meaning.specs.Heap.{targets}
use Rattle.tests_support.proofs.apart.table_apart.Given as goal

abbrev pub invariant-loop-object : goal.invariant-loop-object
invariant-loop-object l = record { roots : l.table.table.roots ≡ []; edges : (x : ℕ) → targets l.table.table x ≡ [] }
