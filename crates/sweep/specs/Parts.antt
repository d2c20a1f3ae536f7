-- What a sweep leaves of the parts of a heap.
use Rattle.std.specs.Prelude.{◌≡◌, ℕ, ◌-◌, List, length, filter}
use Rattle.graph_meaning.specs.Heap.{Heap}
use Rattle.graph_meaning.specs.Reach.{has_id}
use Rattle.graph_meaning.specs.Assertions.{traced_ids}
use Rattle.graph_meaning.specs.Collecting.{after_sweep}
use Rattle.object_table.specs.Placed.{PlacedTable}
use Rattle.assert_registry.specs.Assertions.{Assertions}
use Rattle.region_log.specs.Regions.{RegionTable, table_with_ids}

-- The parts of a heap: the objects in their cells, what is asserted of them, and the open regions.
pub record PartsOfHeap : Type 0 where
  pub placed : PlacedTable
  pub assertions : Assertions
  pub regions : RegionTable

-- what is asserted of these objects and of types; the owner of one of them stays its owner, though it be none of them
abbrev pub assertions_on : List ℕ → Assertions → Assertions
assertions_on kept a = record a {
  dead = filter (has_id kept) a.dead;
  unshared = filter (has_id kept) a.unshared;
  owners = filter (λ o. has_id kept o.0) a.owners;
}

-- the regions with these objects alone in them; the same threads are reserved
abbrev pub regions_with : List ℕ → RegionTable → RegionTable
regions_with kept r = table_with_ids (has_id kept) r

-- These are the parts of the heap. Its limits are by the names of types and not by their numbers, so they are left out.
pub record ArePartsOf (h : Heap) (parts : PartsOfHeap) : Type 0 where
  pub table : h.table ≡ parts.placed.table
  pub dead : h.dead ≡ parts.assertions.dead
  pub unshared : h.unshared ≡ parts.assertions.unshared
  pub regions : h.regions ≡ parts.regions.regions
  pub owners : h.owners ≡ parts.assertions.owners

-- these are the ids of the traced objects, in some order
abbrev pub AreTracedIds : Heap → List ℕ → Type 0
AreTracedIds h kept = (id : ℕ) → has_id kept id ≡ has_id (traced_ids h) id

-- Where the objects that stay are the traced ones of a heap, what is left are the parts of the heap after its sweep, and
-- as many objects were freed as were not traced.
pub record SweepsHeap (h : Heap) (after : PartsOfHeap) (freed : ℕ) : Type 0 where
  pub left : ArePartsOf (after_sweep h) after
  pub count : freed ≡ length h.table.objects - length (traced_ids h)
