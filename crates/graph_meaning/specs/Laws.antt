-- Laws of heaps and collections.
use Rattle.std.specs.Prelude.{◌≡◌, ℕ, ◌+◌, ◌<◌, ◌≤◌, List, [], ◌∷◌, map, sum_by, length, All, AllPairs, Bool, true, false, IsTrue, ◌||◌, ◌↔◌, Some, is_some, IfSome, IfOk}
use Rattle.std.specs.List.Sorted.{IsStrictlySortedBy}
use Rattle.std.specs.Map.{keys_of}
use Rattle.std.specs.Ordering.{nat_cmp}
use Rattle.heap_base.specs.Limits.{ArePossible}
use Rattle.heap_base.specs.declared.limits.Limits.{Limits}
use Rattle.heap_base.specs.declared.limits.TheConstants.{MOST_KINDS}
use Rattle.graph_meaning.specs.declared.event.Event.{Event}
use Rattle.graph_meaning.specs.declared.event.Event.TheVariants.{SetWeak}
use Rattle.graph_meaning.specs.Heap.{Slot, Table, Heap, empty_heap, name_cmp, ids, is_live, slot_count, edges, targets}
use Rattle.graph_meaning.specs.Reach.{has_id, IsPath, reached_nodes, distance}
use Rattle.graph_meaning.specs.Assertions.{open_graph, object_graph, root_ids, is_owner, is_owned, is_border, finds, under_owners, root_traced, is_traced, is_met, references, reference_count}
use Rattle.graph_meaning.specs.Paths.{Way, way_ends, root_ways, owner_ways, canonical_way, plain_way, unowned_way, view_of, IsWay}
use Rattle.graph_meaning.specs.Collecting.{Rules, violating_dead, after_sweep, after_collection}
use Rattle.graph_meaning.specs.Step.{step}
use Rattle.graph_meaning.specs.Views.{heap_view, has_start, is_path}

-- ---- in terms of paths

-- an edge leads from x to the live object y
abbrev pub LeadsTo : Table → ℕ → ℕ → Type 0
LeadsTo t x y = IsTrue (has_id (targets t x) y) × IsTrue (is_live t y)

-- An owner finds what a path of one or more edges leads to from it of which no inner object is a border object: the path
-- leads on from the end z of its first edge, and goes on from no border object.
abbrev pub FindsByPath : Type 0
FindsByPath =
    (h : Heap) (owner ownee : ℕ) →
    IsTrue (finds h owner ownee)
    ↔ ((z : ℕ) × (steps : List ℕ) × LeadsTo h.table owner z × IsPath (open_graph h.table (is_border h)) z steps ownee)

-- Under owners is what a path of one or more edges leads to from an owner.
abbrev pub UnderOwnersByPath : Type 0
UnderOwnersByPath =
    (h : Heap) (x : ℕ) →
    IsTrue (has_id (under_owners h) x)
    ↔ ((owner : ℕ) × (z : ℕ) × (steps : List ℕ) × IsTrue (is_owner h owner) × IsTrue (is_live h.table owner) × LeadsTo h.table owner z × IsPath (object_graph h.table) z steps x)

-- Root traced is what a path of no edge or more leads to from an object that a root names, with no object on it under owners.
abbrev pub RootTracedByPath : Type 0
RootTracedByPath =
    (h : Heap) (x : ℕ) →
    IsTrue (has_id (root_traced h) x)
    ↔ ((start : ℕ) × (steps : List ℕ) × IsTrue (has_id (root_ids h.table) start) × IsTrue (is_live h.table start)
    × IsPath (object_graph h.table) start steps x × All (λ y. has_id (under_owners h) y ≡ false) (start ∷ steps))

-- ---- what the definitions say of one another

-- An object is traced exactly where it is under owners or a root reaches it.
abbrev pub TracedIsReached : Type 0
TracedIsReached =
    (h : Heap) (x : ℕ) → is_traced h x ≡ (has_id (under_owners h) x || has_id (reached_nodes (object_graph h.table) (root_ids h.table)) x)

-- An object has references exactly where it is traced.
abbrev pub TracedIsReferredTo : Type 0
TracedIsReferredTo = (h : Heap) (x : ℕ) → IsTrue (is_live h.table x) → (0 < reference_count h x) ↔ IsTrue (is_traced h x)

-- An ownee is met exactly where it has a level from the roots, through no object that is under owners or an owner.
abbrev pub MetHasLevel : Type 0
MetHasLevel =
    (h : Heap) (e : ℕ) → IsTrue (is_live h.table e) → is_met h e ≡ is_some (distance (open_graph h.table (is_owned h)) (root_ids h.table) e)

-- A canonical path from sources of k steps each has the fewest steps: no path from a source is shorter.
abbrev pub CanonicalIsShortest : Type 0
CanonicalIsShortest =
    (t : Table) (is_shut : ℕ → Bool) (sources : List Way) (k y : ℕ) (w : Way) → All (λ s. length s.steps ≡ k) sources →
    canonical_way t is_shut sources y ≡ Some w → (x : ℕ) (steps : List ℕ) → IsTrue (has_id (way_ends sources) x) → IsTrue (is_live t x) →
    IsPath (open_graph t is_shut) x steps y → length w.steps ≤ k + length steps

-- There is a canonical path exactly to what is reached from the sources.
abbrev pub CanonicalExists : Type 0
CanonicalExists =
    (t : Table) (is_shut : ℕ → Bool) (sources : List Way) (y : ℕ) → is_some (canonical_way t is_shut sources y) ≡ has_id (reached_nodes (open_graph t is_shut) (way_ends sources)) y

-- Where the source references are ways, the canonical path to y is a way to y.
abbrev pub CanonicalIsWay : Type 0
CanonicalIsWay =
    (t : Table) (is_shut : ℕ → Bool) (sources : List Way) (y : ℕ) (w : Way) → All (IsWay t) sources → canonical_way t is_shut sources y ≡ Some w → IsWay t w × (w.to ≡ y)

-- the source references are ways, of no step from a root and of one from an owner
abbrev pub SourcesAreWays : Type 0
SourcesAreWays =
    (h : Heap) → All (λ w. IsWay h.table w × (length w.steps ≡ 0)) (root_ways h.table) × All (λ w. IsWay h.table w × (length w.steps ≡ 1)) (owner_ways h)

-- There is a plain path exactly to what is traced.
abbrev pub TracedHasPath : Type 0
TracedHasPath = (h : Heap) (x : ℕ) → is_some (plain_way h x) ≡ is_traced h x

-- An ownee is met exactly where there is a path to it through nothing that is owned.
abbrev pub MetHasPath : Type 0
MetHasPath = (h : Heap) (e : ℕ) → IsTrue (is_live h.table e) → is_some (unowned_way h e) ≡ is_met h e

-- ---- what each operation and each collection keeps

-- these are the ids of live objects
abbrev pub AllLive : Table → List ℕ → Type 0
AllLive t = All (λ id. IsTrue (is_live t id))

-- what the slot holds, if anything, is live
abbrev pub HoldsLive : Table → Slot → Type 0
HoldsLive t slot = IfSome slot.held (λ id. IsTrue (is_live t id))

-- Each root names a live object, each slot, weak or not, holds one or nothing, and what is asserted and what belongs to a
-- region is live.
pub record RefersToLive (h : Heap) : Type 0 where
  pub roots : AllLive h.table (root_ids h.table)
  pub slots : All (λ o. All (HoldsLive h.table) o.slots) h.table.objects
  pub dead : AllLive h.table h.dead
  pub unshared : AllLive h.table h.unshared
  pub regions : All (All (AllLive h.table)) h.regions
  pub ownees : AllLive h.table (map (λ o. o.0) h.owners)

-- The ids of the objects rise, and none is above the greatest that was ever allocated.
pub record IdsRise (t : Table) : Type 0 where
  pub rising : AllPairs (λ x y. x < y) (ids t)
  pub within : All (λ id. id ≤ t.greatest) (ids t)

-- Roots and limits are in the order of names; what is asserted of objects is in the order of ids, each once.
pub record IsOrdered (h : Heap) : Type 0 where
  pub roots : IsStrictlySortedBy name_cmp (keys_of h.table.roots)
  pub dead : IsStrictlySortedBy nat_cmp h.dead
  pub unshared : IsStrictlySortedBy nat_cmp h.unshared
  pub limits : IsStrictlySortedBy name_cmp (keys_of h.limits)
  pub owners : IsStrictlySortedBy nat_cmp (keys_of h.owners)

-- The limits of the table are possible, and there are no more objects, slots, roots and types than there may be.
pub record IsWithinLimits (t : Table) : Type 0 where
  pub possible : ArePossible t.most
  pub objects : length t.objects ≤ t.most.objects
  pub slots : slot_count t ≤ t.most.slots
  pub roots : length t.roots ≤ t.most.roots
  pub kinds : length t.kinds ≤ MOST_KINDS

-- what is so at the beginning, under whatever limits are possible, and stays so by each operation and each collection
abbrev pub AlwaysHolds : (Heap → Type 0) → Type 0
AlwaysHolds P =
    ((most : Limits) → ArePossible most → P (empty_heap most)) × ((h : Heap) (event : Event) → P h → IfOk (step h event) P) × ((rules : Rules) (h : Heap) → P h → P (after_collection rules h))

abbrev pub HeapsReferToLive : Type 0
HeapsReferToLive = AlwaysHolds RefersToLive

abbrev pub IdsAlwaysRise : Type 0
IdsAlwaysRise = AlwaysHolds (λ h. IdsRise h.table)

abbrev pub HeapsAreOrdered : Type 0
HeapsAreOrdered = AlwaysHolds IsOrdered

abbrev pub LimitsAreKept : Type 0
LimitsAreKept = AlwaysHolds (λ h. IsOrdered h × IsWithinLimits h.table)

-- no slot is weak
abbrev pub NoneWeak : Heap → Type 0
NoneWeak h = All (λ o. All (λ s. s.weak ≡ false) o.slots) h.table.objects

-- the operation makes a slot weak
abbrev pub makes_weak : Event → Bool
makes_weak (SetWeak at slot weak) = weak
makes_weak event = false

-- A slot is weak only where an operation made it weak: until then each slot that holds an object is an edge.
abbrev pub WeakOnlyByOperation : Type 0
WeakOnlyByOperation =
    ((most : Limits) → NoneWeak (empty_heap most))
    × ((h : Heap) (event : Event) → makes_weak event ≡ false → NoneWeak h → IfOk (step h event) NoneWeak)
    × ((rules : Rules) (h : Heap) → NoneWeak h → NoneWeak (after_collection rules h))

-- After a collection exactly the traced objects are live.
abbrev pub KeepsTraced : Type 0
KeepsTraced = (rules : Rules) (h : Heap) (id : ℕ) → is_live (after_collection rules h).table id ≡ is_traced h id

-- Without force exactly the sweep is left.
abbrev pub PlainLeavesSwept : Type 0
PlainLeavesSwept = (paths : ℕ) (h : Heap) → after_collection (record { paths = paths; force = false }) h ≡ after_sweep h

-- Unless by force, what stays has the edges that it had.
abbrev pub KeepsEdges : Type 0
KeepsEdges = (h : Heap) (id : ℕ) → RefersToLive h → IsTrue (is_traced h id) → edges (after_sweep h).table id ≡ edges h.table id

-- By force, what was asserted dead and traced has no reference any longer.
abbrev pub ForceCutsOff : Type 0
ForceCutsOff =
    (paths : ℕ) (h : Heap) (id : ℕ) → IsTrue (has_id (violating_dead h) id) → references (after_collection (record { paths = paths; force = true }) h) id ≡ []

-- All objects together have no more references than there may be roots and slots.
abbrev pub RefsAreBounded : Type 0
RefsAreBounded =
    (h : Heap) → IdsRise h.table → IsWithinLimits h.table → sum_by (reference_count h) (ids h.table) ≤ h.table.most.roots + h.table.most.slots

-- ---- what is shown

-- What a path through the table shows is a path through what is shown of the table, where it starts in it and all that
-- slots hold is live.
abbrev pub WaysAreShownAsPaths : Type 0
WaysAreShownAsPaths =
    (t : Table) (w : Way) → All (λ o. All (HoldsLive t) o.slots) t.objects → IsTrue (has_start (heap_view t) w.from) → IsWay t w → IsTrue (is_path (heap_view t) (view_of w))
