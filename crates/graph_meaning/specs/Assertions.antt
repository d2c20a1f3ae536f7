-- What the assertions speak of, in a heap that stands still: owners and ownees, what is traced, and references.
-- The assertions are those of E. Aftandilian and S. Guyer, "GC Assertions", PLDI 2009.
use Rattle.std.specs.Prelude.{ℕ, ◌==◌, List, ◌++◌, length, map, filter, Bool, true, false, not, ◌||◌, ◌&&◌}
use Rattle.std.specs.List.{list_any, flat_map}
use Rattle.graph_meaning.specs.Heap.{Table, Heap, ids, edges, targets}
use Rattle.graph_meaning.specs.Reach.{Graph, has_id, reached_nodes}

-- the objects and their edges; paths go on from those that aren't shut
abbrev pub open_graph : Table → (ℕ → Bool) → Graph
open_graph t is_shut = record { nodes = ids t; targets = targets t; passable = λ x. not (is_shut x) }

-- the objects and their edges
abbrev pub object_graph : Table → Graph
object_graph t = open_graph t (λ x. false)

-- the objects that the roots name
abbrev pub root_ids : Table → List ℕ
root_ids t = map (λ r. r.1) t.roots

-- ---- owners and ownees

-- some owner was asserted of it
abbrev pub is_ownee : Heap → ℕ → Bool
is_ownee h x = has_id (map (λ o. o.0) h.owners) x

-- it is the owner of an ownee
abbrev pub is_owner : Heap → ℕ → Bool
is_owner h x = has_id (map (λ o. o.1) h.owners) x

abbrev pub is_border : Heap → ℕ → Bool
is_border h x = is_owner h x || is_ownee h x

-- the objects that are owners, by id; an owner that was freed is none
abbrev pub owner_ids : Heap → List ℕ
owner_ids h = filter (is_owner h) (ids h.table)

-- what the edges of owners lead to
abbrev pub owner_targets : Heap → List ℕ
owner_targets h = flat_map (targets h.table) (owner_ids h)

-- what a path of one or more edges from x leads to that goes on from no border object
unfoldable pub found_from : Heap → ℕ → List ℕ
found_from h x = reached_nodes (open_graph h.table (is_border h)) (targets h.table x)

-- the owner finds the ownee
abbrev pub finds : Heap → ℕ → ℕ → Bool
finds h owner ownee = has_id (found_from h owner) ownee

-- ---- what is traced

-- what a path of one or more edges leads to from an owner
unfoldable pub under_owners : Heap → List ℕ
under_owners h = reached_nodes (object_graph h.table) (owner_targets h)

-- the objects that aren't under owners, and their edges
abbrev pub root_graph : Heap → Graph
root_graph h = record {
  nodes = filter (λ x. not (has_id (under_owners h) x)) (ids h.table);
  targets = targets h.table;
  passable = λ x. true;
}

-- what a path from a root leads to on which no object is under owners
unfoldable pub root_traced : Heap → List ℕ
root_traced h = reached_nodes (root_graph h) (root_ids h.table)

abbrev pub is_traced : Heap → ℕ → Bool
is_traced h x = has_id (under_owners h) x || has_id (root_traced h) x

-- the ids of the traced objects, by id
unfoldable pub traced_ids : Heap → List ℕ
traced_ids h = filter (is_traced h) (ids h.table)

-- the ownee is named by a root, or an edge from a root-traced object that is no owner leads to it
unfoldable pub is_met : Heap → ℕ → Bool
is_met h e =
    has_id (root_ids h.table) e || list_any (λ x. not (is_owner h x) && has_id (targets h.table x) e) (root_traced h)

-- what the path to a met ownee may not go on from
abbrev pub is_owned : Heap → ℕ → Bool
is_owned h x = has_id (under_owners h) x || is_owner h x

-- ---- references

-- a reference: a root, by its name, or a slot, by its object and its number
pub data Reference : Type 0 where
  by_root : List ℕ → Reference
  by_slot : ℕ → ℕ → Reference

-- the objects whose slots count, by id: those that are traced, and the owners
abbrev pub scanned_ids : Heap → List ℕ
scanned_ids h = filter (λ x. is_traced h x || is_owner h x) (ids h.table)

-- the roots that hold x, by name
abbrev pub roots_to : Table → ℕ → List Reference
roots_to t x = map (λ r. by_root r.0) (filter (λ r. r.1 == x) t.roots)

-- the slots of s by which an edge leads to x
abbrev pub slots_to : Table → ℕ → ℕ → List Reference
slots_to t x s = map (λ e. by_slot s e.0) (filter (λ e. e.1 == x) (edges t s))

-- The references to x: the roots that hold it, by name, and then the slots, by the holder's id and the slot.
unfoldable pub references : Heap → ℕ → List Reference
references h x = roots_to h.table x ++ flat_map (slots_to h.table x) (scanned_ids h)

-- how many references there are to x
abbrev pub reference_count : Heap → ℕ → ℕ
reference_count h x = length (references h x)
