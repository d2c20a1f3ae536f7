-- A heap in two generations, and what its collections keep.
use Rattle.std.specs.Prelude.{ℕ, ◌-◌, List, ◌++◌, length, filter, Bool, true, not, ◌||◌, ◌&&◌, nat_lt}
use Rattle.std.specs.List.{list_any, flat_map}
use Rattle.graph_meaning.specs.Heap.{Table, ids, targets}
use Rattle.graph_meaning.specs.Reach.{Graph, has_id, reached_nodes}
use Rattle.graph_meaning.specs.Assertions.{object_graph, root_ids}
use Rattle.graph_meaning.specs.Collecting.{with_only}
use Rattle.minor_gc.specs.declared.minor.Minor.{Minor}

-- A table, and the id up to which its objects are old: the greatest one that had been allocated at the last
-- collection, 0 before the first.
pub record Generations : Type 0 where
  pub table : Table
  pub old_up_to : ℕ

-- An object is young from its allocation until the first collection that it survives. Ids rise: since the last
-- collection those were allocated that are above it.
abbrev pub is_young : Generations → ℕ → Bool
is_young g x = nat_lt g.old_up_to x

abbrev pub is_old : Generations → ℕ → Bool
is_old g x = not (is_young g x)

-- the object holds a young one in a slot
abbrev pub holds_young : Generations → ℕ → Bool
holds_young g x = list_any (is_young g) (targets g.table x)

-- the old objects that hold a young one in a slot, by id
unfoldable pub remembered_set : Generations → List ℕ
remembered_set g = filter (λ x. is_old g x && holds_young g x) (ids g.table)

-- ---- what is kept

-- the young objects and the edges between them
abbrev pub young_graph : Generations → Graph
young_graph g = record { nodes = filter (is_young g) (ids g.table); targets = targets g.table; passable = λ x. true }

-- what roots name and what old objects hold in slots
abbrev pub young_starts : Generations → List ℕ
young_starts g = root_ids g.table ++ flat_map (targets g.table) (filter (is_old g) (ids g.table))

-- the young objects that a path over young objects leads to from one that a root names or an old object holds
unfoldable pub young_kept : Generations → List ℕ
young_kept g = reached_nodes (young_graph g) (young_starts g)

-- what a minor collection keeps: the old objects, and those young ones
unfoldable pub kept_by_minor : Generations → List ℕ
kept_by_minor g = filter (λ x. is_old g x || has_id (young_kept g) x) (ids g.table)

-- what a full collection keeps: what a path leads to from a root
unfoldable pub kept_by_full : Generations → List ℕ
kept_by_full g = reached_nodes (object_graph g.table) (root_ids g.table)

-- ---- a collection

-- The heap with these objects alone, all of which are old then. Types, roots and the greatest id stay.
abbrev pub after_keeping : List ℕ → Generations → Generations
after_keeping kept g = record { table = with_only kept g.table; old_up_to = g.table.greatest }

abbrev pub after_minor : Generations → Generations
after_minor g = after_keeping (kept_by_minor g) g

abbrev pub after_full : Generations → Generations
after_full g = after_keeping (kept_by_full g) g

-- What a collection that keeps these objects says of itself.
abbrev pub collection_with : List ℕ → Generations → Minor
collection_with kept g = record {
  live = length g.table.objects;
  freed = length g.table.objects - length (with_only kept g.table).objects;
  remembered = length (remembered_set g);
}

abbrev pub minor_collection : Generations → Minor
minor_collection g = collection_with (kept_by_minor g) g

abbrev pub full_collection : Generations → Minor
full_collection g = collection_with (kept_by_full g) g
