-- The heap that a table, a registry and a log of regions stand for.
use Rattle.std.specs.Prelude.{◌≡◌, ℕ, List, [], ◌∷◌, length, map, filter, Bool, true, false, not, ◌&&◌, Option, None, Some, Result, Ok, OnOk, OnErr, slice_index_or}
use Rattle.std.specs.BTreeMap.{insert_entry}
use Rattle.std.specs.List.{range_with_len}
use Rattle.std.specs.Result.{result_err}
use Rattle.graph_meaning.specs.declared.event.Event.{Event}
use Rattle.graph_meaning.specs.declared.event.Event.TheVariants.{Alloc, Store, Root, AssertDead, StartRegion, AssertAllDead, AssertInstances, AssertUnshared, AssertOwnedBy, SetWeak, Collect}
use Rattle.graph_meaning.specs.declared.refusal.Stop.{Stop}
use Rattle.graph_meaning.specs.Answers.{RefusesBy}
use Rattle.graph_meaning.specs.Assertions.{is_traced}
use Rattle.graph_meaning.specs.Collecting.{violating_dead}
use Rattle.graph_meaning.specs.Heap.{Heap, name_cmp}
use Rattle.graph_meaning.specs.Laws.{RefersToLive, IdsRise, IsOrdered, IsWithinLimits}
use Rattle.graph_meaning.specs.Reach.{has_id}
use Rattle.graph_meaning.specs.Roles.{RoleTable}
use Rattle.graph_meaning.specs.Step.{step}
use Rattle.assert_registry.specs.Assertions.{AreOfSeenTypes}
use Rattle.object_table.specs.Placed.{PlacedTable, id_in}
use Rattle.sweep.specs.Parts.{PartsOfHeap}

-- The types that have a limit, by name, each with its limit: type k has the k-th limit, if that is one.
abbrev pub named_limits : List (List ℕ) → List (Option ℕ) → List (List ℕ × ℕ)
named_limits [] limits = []
named_limits (kind ∷ kinds) [] = []
named_limits (kind ∷ kinds) (None ∷ limits) = named_limits kinds limits
named_limits (kind ∷ kinds) (Some limit ∷ limits) = insert_entry name_cmp (named_limits kinds limits) kind limit

-- the heap with these parts
abbrev pub heap_of : PartsOfHeap → Heap
heap_of parts = record {
  table = parts.placed.table;
  dead = parts.assertions.dead;
  unshared = parts.assertions.unshared;
  regions = parts.regions.regions;
  limits = named_limits parts.placed.table.kinds parts.assertions.limits;
  owners = parts.assertions.owners;
}

-- A heap, and for each cell of its table the id of the object that it holds, if it holds one.
pub record PlacedHeap : Type 0 where
  pub heap : Heap
  pub cells : List (Option ℕ)

-- the heap's table with its cells
abbrev pub placed_in : PlacedHeap → PlacedTable
placed_in h = record { table = h.heap.table; cells = h.cells }

abbrev pub placed_heap : PartsOfHeap → PlacedHeap
placed_heap parts = record { heap = heap_of parts; cells = parts.placed.cells }

-- What is true of a heap at any time of a trace: what it refers to is live, the ids of its objects rise, its parts are in
-- order, and nothing passes its limit.
pub record IsWellFormed (h : Heap) : Type 0 where
  pub refers : RefersToLive h
  pub rising : IdsRise h.table
  pub ordered : IsOrdered h
  pub limits : IsWithinLimits h.table

-- of these ids, those that are not asserted dead
abbrev pub without_dead : List ℕ → List ℕ → List ℕ
without_dead dead ids = filter (λ id. not (has_id dead id)) ids

-- What is in an open region and not asserted dead is unasserted in it: what an inner region had when it ended is asserted dead.
abbrev pub AreUnasserted : PartsOfHeap → Type 0
AreUnasserted parts =
    map (map (without_dead parts.assertions.dead)) parts.regions.regions ≡ map (map (without_dead parts.assertions.dead)) parts.regions.unasserted

-- The parts are those of such a heap, each type with a limit was seen, and what regions have to assert is known.
pub record AreParts (parts : PartsOfHeap) : Type 0 where
  pub heap : IsWellFormed (heap_of parts)
  pub seen : AreOfSeenTypes parts.assertions.limits parts.placed.table.kinds
  pub unasserted : AreUnasserted parts

-- any operation but a collection
abbrev pub is_operation : Event → Bool
is_operation (Alloc id kind slots thread) = true
is_operation (Store at slot to) = true
is_operation (SetWeak at slot weak) = true
is_operation (Root name to) = true
is_operation (AssertDead id) = true
is_operation (StartRegion thread) = true
is_operation (AssertAllDead thread) = true
is_operation (AssertInstances kind limit) = true
is_operation (AssertUnshared id) = true
is_operation (AssertOwnedBy owner ownee) = true
is_operation Collect = false

-- One operation on a heap: what `step` refuses is refused, else the heap is what `step` leaves, and after an error nothing
-- has changed.
pub record Steps {T : Type 0} (before : PlacedHeap) (event : Event) (result : Result T Stop) (after : PlacedHeap) : Type 0 where
  pub refused : RefusesBy result (result_err (step before.heap event))
  pub applied : OnOk result (step before.heap event ≡ Ok after.heap)
  pub err : OnErr result (after ≡ before)

-- ---- the end of a collection

-- There is a flag for each cell, and that of an object says whether it is traced.
pub record FlagTraced (h : PlacedHeap) (flags : List Bool) : Type 0 where
  pub each : length flags ≡ length h.cells
  pub tell : (cell id : ℕ) → id_in (placed_in h) cell ≡ Some id → slice_index_or flags cell false ≡ is_traced h.heap id

-- which of the first cells hold an object that is asserted dead and traced, by these roles and by what is kept
abbrev pub dead_below : RoleTable → List Bool → ℕ → List Bool
dead_below r kept cells = map (λ cell. slice_index_or r.dead cell false && slice_index_or kept cell false) (range_with_len 0 cells)

-- There is a flag for each cell, and that of an object says whether it is asserted dead and traced.
pub record AreDeadAndTraced (h : PlacedHeap) (flags : List Bool) : Type 0 where
  pub each : length flags ≡ length h.cells
  pub tell : (cell id : ℕ) → id_in (placed_in h) cell ≡ Some id → slice_index_or flags cell false ≡ has_id (violating_dead h.heap) id
