-- Laws of minor collections.
use Rattle.std.specs.Prelude.{ℕ, ◌≡◌, IsTrue, false}
use Rattle.graph_meaning.specs.Heap.{is_live}
use Rattle.graph_meaning.specs.Laws.{IdsRise}
use Rattle.minor_gc.specs.Generations.{Generations, is_young, after_minor, after_full}

-- A minor collection frees no object that a full one would keep.
abbrev pub MinorKeepsMore : Type 0
MinorKeepsMore = (g : Generations) (x : ℕ) → IsTrue (is_live (after_full g).table x) → IsTrue (is_live (after_minor g).table x)

-- A minor collection frees no old object.
abbrev pub MinorKeepsOld : Type 0
MinorKeepsOld = (g : Generations) (x : ℕ) → IsTrue (is_live g.table x) → is_young g x ≡ false → IsTrue (is_live (after_minor g).table x)

-- No object is young after a collection.
abbrev pub NoneYoungAfter : Type 0
NoneYoungAfter =
    (g : Generations) (x : ℕ) → IdsRise g.table →
    (IsTrue (is_live (after_minor g).table x) → is_young (after_minor g) x ≡ false) × (IsTrue (is_live (after_full g).table x) → is_young (after_full g) x ≡ false)
