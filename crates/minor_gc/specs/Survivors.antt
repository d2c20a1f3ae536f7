-- What a collection leaves of the objects that it keeps.
use Rattle.std.specs.Prelude.{◌≡◌, ℕ, IsTrue, All}
use Rattle.graph_meaning.specs.Heap.{Table, is_live, object_at}
use Rattle.graph_meaning.specs.Laws.{HoldsLive}
use Rattle.minor_gc.specs.Generations.{Generations, after_minor, after_full}
use Rattle.minor_gc.specs.Nurseries.{NoneWeak}

-- no slot is weak, and what a slot holds is live
pub record HoldsStrongly (t : Table) : Type 0 where
  pub strong : NoneWeak t
  pub live : All (λ o. All (HoldsLive t) o.slots) t.objects

-- Each object that is live afterwards is the one that was there before: its type is the same, and each slot holds what it held.
abbrev pub KeepsObjects : Table → Table → Type 0
KeepsObjects before after = (x : ℕ) → IsTrue (is_live after x) → object_at after.objects x ≡ object_at before.objects x

-- The survivors of a minor collection and of a full one keep their slots.
abbrev pub SurvivorsKeepSlots : Type 0
SurvivorsKeepSlots = (g : Generations) → HoldsStrongly g.table → KeepsObjects g.table (after_minor g).table × KeepsObjects g.table (after_full g).table
