-- What a nursery is made of.
use Rattle.std.specs.Prelude.{◌≡◌, ℕ, ◌≤◌, List, [], length, All, Bool, false, if◌then◌else◌, Option, None, Some, count_by, slice_index_or}
use Rattle.std.specs.Option.{option_map_or}
use Rattle.heap_base.specs.Limits.{usual_limits}
use Rattle.graph_meaning.specs.Heap.{Table, empty_table, targets}
use Rattle.object_table.specs.Placed.{PlacedTable, id_in, IsStacked}
use Rattle.minor_gc.specs.Generations.{Generations, is_young, is_old, remembered_set}

-- What contracts see of a nursery: its heap, and which object each cell of its table holds.
pub record NurseryState : Type 0 where
  pub heap : Generations
  pub cells : List (Option ℕ)

abbrev pub nothing_nursed : NurseryState
nothing_nursed = record { heap = record { table = empty_table usual_limits; old_up_to = 0 }; cells = [] }

-- the table of its heap, with the cells
abbrev pub nursery_table : NurseryState → PlacedTable
nursery_table n = record { table = n.heap.table; cells = n.cells }

-- The parts: the table, the id up to which objects are old, the greatest id that was allocated; for each cell whether
-- an old object stands in it, and how many young ones this holds; the worklist of a search; the remembered ids; and for
-- how many of these there is memory.
pub record NurseryParts : Type 0 where
  pub placed : PlacedTable
  pub old_up_to : ℕ
  pub greatest : ℕ
  pub marks : List Bool
  pub work : List ℕ
  pub counts : List ℕ
  pub remembered : List ℕ
  pub room : ℕ

abbrev pub generations_of : NurseryParts → Generations
generations_of n = record { table = n.placed.table; old_up_to = n.old_up_to }

-- how many slots of an old object hold a young one; 0 of a young object and of an empty cell
abbrev pub young_count : Generations → Option ℕ → ℕ
young_count g None = 0
young_count g (Some x) = if is_young g x then 0 else count_by (is_young g) (targets g.table x)

-- no slot is weak
abbrev pub NoneWeak : Table → Type 0
NoneWeak t = All (λ o. All (λ s. s.weak ≡ false) o.slots) t.objects

pub record IsNursery (n : NurseryParts) : Type 0 where
  pub greatest : n.greatest ≡ n.placed.table.greatest
  pub old : n.old_up_to ≤ n.greatest
  pub strong : NoneWeak n.placed.table
  pub stacked : IsStacked n.placed n.old_up_to
  pub each_mark : length n.marks ≡ length n.placed.cells
  pub marks : (cell : ℕ) → slice_index_or n.marks cell false ≡ option_map_or (is_old (generations_of n)) (id_in n.placed cell) false
  pub idle : n.work ≡ []
  pub each_count : length n.counts ≡ length n.placed.cells
  pub counts : (cell : ℕ) → slice_index_or n.counts cell 0 ≡ young_count (generations_of n) (id_in n.placed cell)
  pub remembered : n.remembered ≡ remembered_set (generations_of n)
  pub room : length n.placed.table.objects ≤ n.room
