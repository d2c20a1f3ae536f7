-- Which objects violate what was asserted of them, by cell and by id.
use Rattle.std.specs.Prelude.{ℕ, List, Bool, false, ◌&&◌, nat_le, slice_index_or}
use Rattle.graph_meaning.specs.Assertions.{is_traced, reference_count}
use Rattle.graph_meaning.specs.Collecting.{violating_dead, violating_unshared}
use Rattle.graph_meaning.specs.Heap.{Heap}
use Rattle.graph_meaning.specs.Reach.{has_id}
use Rattle.graph_meaning.specs.Roles.{RoleTable}
use Rattle.verdict_list.specs.Counts.{CountTable}
use Rattle.verdict_list.specs.declared.violating.Assertion.{Assertion}
use Rattle.verdict_list.specs.declared.violating.Assertion.TheVariants.{Dead, Unshared}

-- for each cell whether the assertion was made of its object
abbrev pub flags_of : Assertion → RoleTable → List Bool
flags_of Dead r = r.dead
flags_of Unshared r = r.unshared

-- whether the assertion was made of the object in a cell and is violated, by the roles and the result of a trace
abbrev pub is_violated_in : Assertion → RoleTable → CountTable → ℕ → Bool
is_violated_in Dead r t cell = slice_index_or r.dead cell false && slice_index_or t.kept cell false
is_violated_in Unshared r t cell = slice_index_or r.unshared cell false && nat_le 2 (t.references cell)

-- the same of the object with this id, in the heap
abbrev pub is_violated_by : Assertion → Heap → ℕ → Bool
is_violated_by Dead h id = has_id h.dead id && is_traced h id
is_violated_by Unshared h id = has_id h.unshared id && nat_le 2 (reference_count h id)

-- the objects that violate the assertion, by id
abbrev pub violators : Assertion → Heap → List ℕ
violators Dead h = violating_dead h
violators Unshared h = violating_unshared h
