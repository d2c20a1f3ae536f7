-- The first root's name is above nothing.
use Rattle.std.proofs.Common.{◌≡◌, ℕ, true, IsTrue, List, [], ◌∷◌, length, refl, arith}
use Rattle.std.specs.Ordering.{is_lt}
use Rattle.std.proofs.lemmas.Bool.{false≢true}
use Rattle.heap_base.specs.Names.{is_name}
use Rattle.graph_meaning.specs.Heap.{name_cmp}
use Rattle.heap_snapshot.specs.Table.{last_name}

pub above_nothing : (roots : List (List ℕ × ℕ)) (name : List ℕ) → length roots ≡ 0 → IsTrue (is_name name) → true ≡ is_lt (name_cmp (last_name roots) name)
above_nothing [] [] none is = absurd (false≢true is)
above_nothing [] (b ∷ name) none is = refl
above_nothing (r ∷ roots) name none is = absurd (omega arith)
