-- The heaps that allocations, stores and roots make.
use Rattle.std.specs.Prelude.{◌≡◌, List, map, All, Ok, ⊤}
use Rattle.std.specs.Map.{keys_of}
use Rattle.heap_base.specs.Limits.{usual_limits}
use Rattle.graph_meaning.specs.declared.event.Event.{Event}
use Rattle.graph_meaning.specs.declared.event.Event.TheVariants.{Alloc, Store, Root}
use Rattle.graph_meaning.specs.Heap.{Table, Heap, empty_heap}
use Rattle.graph_meaning.specs.Views.{heap_view}
use Rattle.trace_reader.specs.Meaning.{event}
use Rattle.heap_snapshot.specs.Formed.{IsId, IsName, kind_names}
use Rattle.heap_snapshot.specs.HeapOfTrace.{heap_after}
use Rattle.heap_snapshot.specs.Reading.{IsLawful}

-- the operation is an allocation, a store or a root
abbrev pub MakesHeaps : Event → Type 0
MakesHeaps (Alloc id kind slots thread) = ⊤
MakesHeaps (Store at slot to) = ⊤
MakesHeaps (Root name to) = ⊤
MakesHeaps other = ⊥

-- the id of a new object is an id, and the name of its type or of a root is a name
abbrev pub IsNamed : Event → Type 0
IsNamed (Alloc id kind slots thread) = IsId id × IsName kind
IsNamed (Root name to) = IsName name
IsNamed other = ⊤

-- What holds of a table that such operations made: the types are those of its objects, in the order in which they first come, ids and names
-- are such as a heap may have, and the limits are the usual ones.
pub record IsMade (t : Table) : Type 0 where
  pub kinds : t.kinds ≡ kind_names (heap_view t).objects
  pub objects : All (λ o. IsId o.id × IsName o.kind) t.objects
  pub roots : All IsName (keys_of t.roots)
  pub most : t.most ≡ usual_limits

-- The view of each heap that allocations, stores and roots make of the empty heap, none of which is refused, is lawful.
abbrev pub ViewsAreLawful : Type 0
ViewsAreLawful =
    (events : List Event) (h : Heap) → All MakesHeaps events → All IsNamed events → heap_after (empty_heap usual_limits) (map (λ e. event e) events) ≡ Ok h → IsLawful (heap_view h.table)
