-- Reachability in a finite directed graph whose nodes are numbers: along paths, and round by round.
-- Tracing from roots is reachability; so are the search from one object, and the levels of shortest paths.
use Rattle.std.specs.Prelude.{◌≡◌, ℕ, zero, suc, ◌≤◌, List, [], ◌∷◌, length, filter, find, Bool, IsTrue, Option, not, ◌||◌, ◌&&◌, ◌==◌, ◌↔◌}
use Rattle.std.specs.List.{list_any, range_with_len}

-- whether a number stands in a list
abbrev pub has_id : List ℕ → ℕ → Bool
has_id ids id = list_any (λ x. x == id) ids

-- A graph: its nodes, where the edges of each node lead, and which nodes a path may go on from.
pub record Graph : Type 0 where
  pub nodes : List ℕ
  pub targets : ℕ → List ℕ
  pub passable : ℕ → Bool

-- an edge leads from the node x to the node y
abbrev pub HasEdge : Graph → ℕ → ℕ → Type 0
HasEdge g x y = IsTrue (has_id (g.targets x) y) × IsTrue (has_id g.nodes y)

-- These steps are a path from x to y: each follows an edge, and each node that the path goes on from is passable.
abbrev pub IsPath : Graph → ℕ → List ℕ → ℕ → Type 0
IsPath g x [] y = x ≡ y
IsPath g x (z ∷ steps) y = IsTrue (g.passable x) × HasEdge g x z × IsPath g z steps y

-- a path of no step or more leads to y from one of the sources, which is a node
abbrev pub IsReachable : Graph → List ℕ → ℕ → Type 0
IsReachable g sources y =
    (x : ℕ) × (steps : List ℕ) × IsTrue (has_id sources x) × IsTrue (has_id g.nodes x) × IsPath g x steps y

-- the nodes that were found, and those that an edge leads to from a passable one of them
abbrev pub next_round : Graph → List ℕ → List ℕ
next_round g found = filter (λ y. has_id found y || list_any (λ x. g.passable x && has_id (g.targets x) y) found) g.nodes

-- the nodes that at most n steps lead to from the sources
unfoldable pub within : Graph → List ℕ → ℕ → List ℕ
within g sources zero = filter (has_id sources) g.nodes
within g sources (suc n) = next_round g (within g sources n)

-- The nodes that are reached from the sources. As many steps as there are nodes are enough.
unfoldable pub reached_nodes : Graph → List ℕ → List ℕ
reached_nodes g sources = within g sources (length g.nodes)

-- ---- levels: the shortest paths

-- the nodes that n steps lead to from the sources, and no fewer
unfoldable pub level : Graph → List ℕ → ℕ → List ℕ
level g sources zero = within g sources zero
level g sources (suc n) = filter (λ y. not (has_id (within g sources n) y)) (within g sources (suc n))

-- how many steps lead to y at the least, where any do
unfoldable pub distance : Graph → List ℕ → ℕ → Option ℕ
distance g sources y = find (λ n. has_id (within g sources n) y) (range_with_len 0 (suc (length g.nodes)))

-- the first node of level n that an edge leads from to y, of those that a path may go on from
unfoldable pub predecessor : Graph → List ℕ → ℕ → ℕ → Option ℕ
predecessor g sources n y = find (λ x. g.passable x && has_id (g.targets x) y) (level g sources n)

-- ---- what connects the two

-- What is computed round by round is what paths lead to.
abbrev pub ReachedByPath : Type 0
ReachedByPath = (g : Graph) (sources : List ℕ) (y : ℕ) → IsTrue (has_id (reached_nodes g sources) y) ↔ IsReachable g sources y

-- y is so many steps away where a path of so many steps leads to it, and no path has fewer.
pub record IsDistance (g : Graph) (sources : List ℕ) (y n : ℕ) : Type 0 where
  pub attained : (x : ℕ) × (steps : List ℕ) × IsTrue (has_id sources x) × IsPath g x steps y × (length steps ≡ n)
  pub least : (x : ℕ) (steps : List ℕ) → IsTrue (has_id sources x) → IsTrue (has_id g.nodes x) → IsPath g x steps y → n ≤ length steps

abbrev pub DistanceIsShortest : Type 0
DistanceIsShortest = (g : Graph) (sources : List ℕ) (y n : ℕ) → distance g sources y ≡ Option.Some n → IsDistance g sources y n
