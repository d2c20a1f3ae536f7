-- How many objects a collection traces.
use Rattle.std.proofs.Common.{◌≤◌, length, arith}
use Rattle.std.proofs.lemmas.List.{length-map}
use Rattle.graph_meaning.specs.Heap.{Heap, ids}
use Rattle.graph_meaning.specs.Assertions.{is_traced, traced_ids}
use Rattle.graph_meaning.proofs.Membership.{length-filter_le}

-- no more objects are traced than there are
pub traced-few : (h : Heap) → length (traced_ids h) ≤ length h.table.objects
unfolding traced_ids
traced-few h =
    let front = length-filter_le (is_traced h) (ids h.table) in
    omega (arith, front, length-map h.table.objects (λ o. o.id))
