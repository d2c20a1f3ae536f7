-- The id of a new object is above all that are in regions.
use Rattle.std.proofs.Common.{ℕ, ◌<◌, ◌≤◌, List, All, IsTrue, ◌∙◌, arith}
use Rattle.std.proofs.lemmas.List.Elements.{All-weaker, All-contains}
use Rattle.graph_meaning.specs.Heap.{Table, ids, is_live}
use Rattle.graph_meaning.specs.Laws.{AllLive, IdsRise}
use Rattle.graph_meaning.proofs.HeapLemmas.{has_id-ids}
use Rattle.graph_meaning.proofs.Membership.{has_id-Contains}
use Rattle.region_log.specs.Regions.{IsAbove}

-- where it is above every id that was allocated before, and regions have live objects alone
pub IsAbove-live : (t : Table) (regions : List (List ℕ)) (id : ℕ) → IdsRise t → t.greatest < id → All (AllLive t) regions → IsAbove id regions
IsAbove-live t regions id rise above live =
    All-weaker (AllLive t) (All (λ other. other < id))
    (λ members each. All-weaker (λ other. IsTrue (is_live t other)) (λ other. other < id)
    (λ other is. let within = All-contains (λ x. x ≤ t.greatest) (ids t) other rise.within ((has_id-Contains (ids t) other).0 (has_id-ids t other ∙ is)) in omega arith)
    members each)
    regions live
