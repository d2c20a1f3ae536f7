-- Open regions: of one thread, and of all threads.
use Rattle.std.specs.Prelude.{◌≡◌, ◌<◌, ◌≤◌, ◌-◌, ◌==◌, ℕ, List, [], ◌∷◌, ◌++◌, length, map, filter, take, drop, reverse, replicate, All, AllPairs}
use Rattle.std.specs.Prelude.{Bool, false, IsTrue, nat_le, Option, slice_set, slice_index_or}
use Rattle.heap_base.specs.declared.limits.TheConstants.{MOST_THREADS, MOST_REGIONS}
use Rattle.graph_meaning.specs.declared.refusal.Refusal.{Refusal}
use Rattle.graph_meaning.specs.declared.refusal.Refusal.TheVariants.{TooDeep, NoRegion}
use Rattle.graph_meaning.specs.Heap.{no_regions, regions_of}
use Rattle.graph_meaning.specs.Step.{refusal_where, with_member}

-- ---- what is seen of them

-- The open regions of a thread, the innermost first, each the ids of its objects; the same with those ids alone that were in no
-- inner region when it ended, which asserted them; and whether the thread is reserved.
pub record ThreadRegions : Type 0 where
  pub regions : List (List ℕ)
  pub unasserted : List (List ℕ)
  pub reserved : Bool

-- The open regions of each thread, as a heap has them; the same with those ids alone that were in no inner region when it ended; and
-- for each thread, at the place of its number, whether it is reserved: whether memory was taken for its next object.
pub record RegionTable : Type 0 where
  pub regions : List (List (List ℕ))
  pub unasserted : List (List (List ℕ))
  pub reserved : List Bool

-- no region is open, and no thread reserved
abbrev pub no_open_regions : RegionTable
no_open_regions = record { regions = no_regions; unasserted = no_regions; reserved = replicate MOST_THREADS false }

abbrev pub is_reserved : RegionTable → ℕ → Bool
is_reserved r thread = slice_index_or r.reserved thread false

-- ---- what an operation leaves of one thread

-- the thread with a region more, which is its innermost and has no object; it is not reserved then
abbrev pub thread_with_region : ThreadRegions → ThreadRegions
thread_with_region t = record { regions = [] ∷ t.regions; unasserted = [] ∷ t.unasserted; reserved = false }

-- the thread with the object in each of its regions; it is not reserved then
abbrev pub thread_with_object : ThreadRegions → ℕ → ThreadRegions
thread_with_object t id = record {
  regions = map (λ r. r ++ id ∷ []) t.regions;
  unasserted = map (λ r. r ++ id ∷ []) t.unasserted;
  reserved = false;
}

-- the regions around the innermost one without its ids, which are their last
abbrev pub outer_without : List (List ℕ) → List (List ℕ)
outer_without regions = map (λ r. take (length r - length (slice_index_or regions 0 [])) r) (drop 1 regions)

-- the thread without its innermost region, whose ids are unasserted in no other
abbrev pub thread_without_region : ThreadRegions → ThreadRegions
thread_without_region t = record t { regions = drop 1 t.regions; unasserted = outer_without t.unasserted }

-- the thread with these ids alone in its regions
abbrev pub thread_with_ids : (ℕ → Bool) → ThreadRegions → ThreadRegions
thread_with_ids passes t = record t { regions = map (filter passes) t.regions; unasserted = map (filter passes) t.unasserted }

-- ---- why an operation is refused

-- the thread has as many open regions as it may have
abbrev pub start_refusal : List (List (List ℕ)) → ℕ → Option Refusal
start_refusal regions thread = refusal_where (nat_le MOST_REGIONS (length (regions_of regions thread))) (TooDeep thread)

-- the thread has no open region
abbrev pub end_refusal : List (List (List ℕ)) → ℕ → Option Refusal
end_refusal regions thread = refusal_where (length (regions_of regions thread) == 0) (NoRegion thread)

-- ---- what an operation leaves

-- a region more of the thread is open, which is its innermost, and has no object
abbrev pub with_region : List (List (List ℕ)) → ℕ → List (List (List ℕ))
with_region regions thread = slice_set regions thread ([] ∷ regions_of regions thread)

-- the innermost region of the thread is open no longer
abbrev pub without_innermost : List (List (List ℕ)) → ℕ → List (List (List ℕ))
without_innermost regions thread = slice_set regions thread (drop 1 (regions_of regions thread))

-- the innermost region of the thread is open no longer, and its ids are in no other
abbrev pub without_innermost_ids : List (List (List ℕ)) → ℕ → List (List (List ℕ))
without_innermost_ids regions thread = slice_set regions thread (outer_without (regions_of regions thread))

-- the ids in the innermost region of the thread
abbrev pub innermost : List (List (List ℕ)) → ℕ → List ℕ
innermost regions thread = slice_index_or (regions_of regions thread) 0 []

-- the table with a region more of the thread, which is not reserved then
abbrev pub table_with_region : RegionTable → ℕ → RegionTable
table_with_region r thread = record {
  regions = with_region r.regions thread;
  unasserted = with_region r.unasserted thread;
  reserved = slice_set r.reserved thread false;
}

-- the table with the object in each open region of the thread, which is not reserved then
abbrev pub table_with_object : RegionTable → ℕ → ℕ → RegionTable
table_with_object r thread id = record {
  regions = with_member r.regions thread id;
  unasserted = with_member r.unasserted thread id;
  reserved = slice_set r.reserved thread false;
}

-- the table without the innermost region of the thread, whose ids are unasserted in no other
abbrev pub table_without_region : RegionTable → ℕ → RegionTable
table_without_region r thread = record r {
  regions = without_innermost r.regions thread;
  unasserted = without_innermost_ids r.unasserted thread;
}

-- the table with these ids alone in the regions
abbrev pub table_with_ids : (ℕ → Bool) → RegionTable → RegionTable
table_with_ids passes r = record r { regions = map (map (filter passes)) r.regions; unasserted = map (map (filter passes)) r.unasserted }

-- the id is above all that are in a region
abbrev pub IsAbove : ℕ → List (List ℕ) → Type 0
IsAbove id regions = All (All (λ other. other < id)) regions

-- ---- what is true of them

-- each region around the innermost one ends with its ids
abbrev pub AreNested : List (List ℕ) → Type 0
AreNested regions = map (λ r. r ++ slice_index_or regions 0 []) (outer_without regions) ≡ drop 1 regions

-- No more regions than a thread may have, and in each the ids rise.
pub record AreRegions (regions : List (List ℕ)) : Type 0 where
  pub few : length regions ≤ MOST_REGIONS
  pub rising : All (AllPairs (λ a b. a < b)) regions

-- There are regions, and a reservation or none, of each thread.
pub record IsRegionTable (r : RegionTable) : Type 0 where
  pub each : length r.regions ≡ MOST_THREADS
  pub reservations : length r.reserved ≡ MOST_THREADS
  pub regions : All AreRegions r.regions

-- ---- how they are kept

-- The open regions of a thread, the innermost first, by its ids in the order in which they were noted, and how many there were when each
-- region began, the innermost last: a region has all that were noted since.
abbrev pub regions_from : List ℕ → List ℕ → List (List ℕ)
regions_from ids starts = reverse (map (λ start. drop start ids) starts)

-- Each region began within the one around it. The outermost has all ids: where none is open, there are none.
pub record AreStarts (ids starts : List ℕ) : Type 0 where
  pub outermost : slice_index_or starts 0 (length ids) ≡ 0
  pub rising : AllPairs (λ a b. a ≤ b) starts
  pub within : All (λ start. start ≤ length ids) starts

-- a reserved thread with an open region has memory for one id more
abbrev pub HasRoom : List ℕ → ℕ → Bool → Type 0
HasRoom starts room reserved = IsTrue reserved → 0 < length starts → 0 < room

-- where a region begins after the ids that don't pass are gone: behind those before it that do
abbrev pub start_kept : (ℕ → Bool) → List ℕ → ℕ → ℕ
start_kept passes ids start = length (filter passes (take start ids))

-- a thread of which nothing was asked yet
abbrev pub unused_thread : ThreadRegions
unused_thread = record { regions = []; unasserted = []; reserved = false }

-- a list with an element for each thread: the last ones that are missing are this
abbrev pub for_each_thread : {X : Type 0} → X → List X → List X
for_each_thread x xs = xs ++ replicate (MOST_THREADS - length xs) x

-- the regions of the first threads, where nothing was asked of the others
abbrev pub region_table : List ThreadRegions → RegionTable
region_table threads = record {
  regions = map (λ t. t.regions) (for_each_thread unused_thread threads);
  unasserted = map (λ t. t.unasserted) (for_each_thread unused_thread threads);
  reserved = map (λ t. t.reserved) (for_each_thread unused_thread threads);
}

-- There are no more than there may be threads, and each has its regions in order.
pub record AreThreads (threads : List ThreadRegions) : Type 0 where
  pub few : length threads ≤ MOST_THREADS
  pub each : All (λ t. AreRegions t.regions) threads
