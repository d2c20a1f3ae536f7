-- A heap that stands still, as a graph whose nodes are numbers: what its slots and roots lead to, and who owns whom.
use Rattle.std.specs.Prelude.{ℕ, List, filter, Bool, true, not, ◌||◌, IsTrue}
use Rattle.std.specs.List.{flat_map}
use Rattle.heap_base.specs.Counting.{IsOnce}
use Rattle.graph_meaning.specs.Reach.{Graph, has_id, reached_nodes}

-- The objects; what the slots of each lead to, in order, a slot that is no edge left out; what the roots name, in order;
-- the number of each object's type; which objects are owners and which are ownees; and whether the first object is the
-- owner of the second. An ownee whose owner was freed has none.
pub record StoppedGraph : Type 0 where
  pub nodes : List ℕ
  pub targets : ℕ → List ℕ
  pub roots : List ℕ
  pub kind : ℕ → ℕ
  pub is_owner : ℕ → Bool
  pub is_ownee : ℕ → Bool
  pub owns : ℕ → ℕ → Bool

-- Each object stands once among the nodes; slots and roots lead to objects; owners are objects; and whoever owns an object
-- is an owner, and what it owns an ownee.
pub record IsWhole (g : StoppedGraph) : Type 0 where
  pub once : IsOnce g.nodes
  pub edges : (x y : ℕ) → IsTrue (has_id (g.targets x) y) → IsTrue (has_id g.nodes y)
  pub named : (x : ℕ) → IsTrue (has_id g.roots x) → IsTrue (has_id g.nodes x)
  pub owners : (x : ℕ) → IsTrue (g.is_owner x) → IsTrue (has_id g.nodes x)
  pub owned : (o e : ℕ) → IsTrue (g.owns o e) → IsTrue (g.is_owner o) × IsTrue (g.is_ownee e)

-- an owner or an ownee
abbrev pub is_border : StoppedGraph → ℕ → Bool
is_border g x = g.is_owner x || g.is_ownee x

abbrev pub owners : StoppedGraph → List ℕ
owners g = filter g.is_owner g.nodes

-- what the slots of these objects lead to
abbrev pub all_targets : StoppedGraph → List ℕ → List ℕ
all_targets g xs = flat_map g.targets xs

-- the objects and their edges
abbrev pub whole_graph : StoppedGraph → Graph
whole_graph g = record { nodes = g.nodes; targets = g.targets; passable = λ _. true }

-- the same, where no path goes on from a border object
abbrev pub inner_graph : StoppedGraph → Graph
inner_graph g = record { nodes = g.nodes; targets = g.targets; passable = λ x. not (is_border g x) }

-- a path of one or more edges leads from some owner to the object
abbrev pub is_under_owners : StoppedGraph → ℕ → Bool
is_under_owners g x = has_id (reached_nodes (whole_graph g) (all_targets g (owners g))) x

-- a path of one or more edges leads from the object o to the object x, and goes on from no border object
abbrev pub is_found_from : StoppedGraph → ℕ → ℕ → Bool
is_found_from g o x = has_id (reached_nodes (inner_graph g) (g.targets o)) x

-- a path of no edge or more leads to the object from one that a root names
abbrev pub is_reached_by_roots : StoppedGraph → ℕ → Bool
is_reached_by_roots g x = has_id (reached_nodes (whole_graph g) g.roots) x
