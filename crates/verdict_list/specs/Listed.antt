-- How a list of verdicts goes on, and by what its paths are shown.
use Rattle.std.specs.Prelude.{◌≡◌, ℕ, ◌+◌, ◌<◌, ◌≤◌, List, ◌++◌, length, map, All, Bool, true, false, Some, IfSome, IsSome, unwrap_or, slice_get, option_map}
use Rattle.heap_base.specs.Counting.{IsOnce}
use Rattle.graph_meaning.specs.declared.collection.Verdict.{Verdict}
use Rattle.graph_meaning.specs.declared.paths.Shown.{Shown}
use Rattle.graph_meaning.specs.declared.paths.Shown.TheVariants.{LeftOut}
use Rattle.graph_meaning.specs.Collecting.{all_verdicts, without_paths, first_with_paths, violating_dead, violating_kinds, violating_unshared, dead_verdict, instances_verdict, unshared_verdict, ownedby_verdict}
use Rattle.graph_meaning.specs.Heap.{Heap}
use Rattle.graph_meaning.specs.Assertions.{references}
use Rattle.graph_meaning.specs.Paths.{reference_way, shown_path}
use Rattle.graph_meaning.specs.Roles.{RoleTable, id_at}
use Rattle.object_table.specs.Placed.{PlacedTable, id_in}
use Rattle.assert_registry.specs.Assertions.{owner_of}
use Rattle.assert_registry.specs.Laws.{StandFor}
use Rattle.object_paths.specs.PlainPaths.{ArePlainLevels}
use Rattle.object_paths.specs.References.{AreFirstOf}
use Rattle.verdict_list.specs.Ownership.{AreViolating}
use Rattle.verdict_list.specs.declared.instances.KindCount.{KindCount}
use Rattle.verdict_list.specs.declared.listing.FirstViolations.{FirstViolations}
use Rattle.verdict_list.specs.declared.ownedby.CheckedTable.{CheckedTable}
use Rattle.verdict_list.specs.declared.shown_paths.PlainPaths.{PlainPaths}
use Rattle.verdict_list.specs.declared.unshared.SharedObjects.{SharedObjects}
use Rattle.verdict_list.specs.Counts.{CountTable, counted_in, most_first_verdicts}
use Rattle.verdict_list.specs.Kinds.{named_count, IsSeenIn, TellOf}

-- the path, or none
abbrev pub path_if : Bool → Shown → Shown
path_if true path = path
path_if false path = LeftOut

-- the verdict with its paths, or without
abbrev pub verdict_if : Bool → Verdict → Verdict
verdict_if true v = v
verdict_if false v = without_paths v

-- The list goes on with these verdicts: of all that it has then, so many of the first carry their paths.
abbrev pub GoesOn : ℕ → List Verdict → List Verdict → List Verdict → Type 0
GoesOn paths old verdicts new = (before : List Verdict) → old ≡ first_with_paths paths before → new ≡ first_with_paths paths (before ++ verdicts)

-- the verdicts on what is asserted dead, on types and on what is asserted unshared, with these counts of references
abbrev pub first_verdicts : (ℕ → ℕ) → Heap → List Verdict
first_verdicts count h =
    (map (dead_verdict h) (violating_dead h) ++ map (instances_verdict h) (violating_kinds h)) ++ map (unshared_verdict count h) (violating_unshared h)

-- What violates stands in the table, each shared object once, and no more of it than there are verdicts at most.
pub record StandIn (p : PlacedTable) (found : FirstViolations) : Type 0 where
  pub dead : All (λ cell. IsSome (id_in p cell)) found.dead.now
  pub kinds : All (IsSeenIn p) found.kinds.now
  pub unshared : All (λ cell. IsSome (id_in p cell)) found.unshared.now
  pub once : IsOnce found.unshared.now
  pub few : length found.dead.now + length found.kinds.now + length found.unshared.now ≤ most_first_verdicts

-- This is all that violates the heap's assertions but those of owners, in order. The types tell their first objects past the limit where
-- so many paths are more than there are objects asserted dead.
pub record AreFirstViolations (p : PlacedTable) (h : Heap) (paths : ℕ) (found : FirstViolations) : Type 0 where
  pub dead : map (id_in p) found.dead.now ≡ map Some (violating_dead h)
  pub kinds : map (named_count p) found.kinds.now ≡ violating_kinds h
  pub tell : TellOf p h (length found.dead.now < paths) found.kinds.now
  pub unshared : map (id_in p) found.unshared.now ≡ map Some (violating_unshared h)

-- all verdicts with what was counted, of which so many of the first carry their paths
abbrev pub verdicts_in : PlacedTable → CountTable → ℕ → Heap → List Verdict
verdicts_in p t paths h = first_with_paths paths (all_verdicts (counted_in p t) h)

-- The heap is that of the table and of roles by which the levels were made, if they were made.
pub record ShowsPaths (plain : PlainPaths) (h : Heap) : Type 0 where
  pub roles : RoleTable
  pub stand : StandFor plain.table.now roles h
  pub made : IfSome plain.levels.now (ArePlainLevels plain.table.now roles)

-- The heap is that of the table and the roles, and the ownees of the check are those that violate.
pub record ChecksHeap (c : CheckedTable) (h : Heap) : Type 0 where
  pub stand : StandFor c.table.now c.roles.now h
  pub violating : AreViolating c.table.now h c.check.now

-- the first references to as many of these objects as there are entries for
abbrev pub KnowsFirst : PlainPaths → Heap → SharedObjects → Type 0
KnowsFirst plain h shared = AreFirstOf plain.table.now h shared.cells.now shared.references.now

-- the object in a cell and its owner, as a heap has them
abbrev pub owned_pair : PlacedTable → Heap → ℕ → ℕ × ℕ
owned_pair p h cell = (id_at p.cells cell, unwrap_or (owner_of h.owners (id_at p.cells cell)) 0)

-- the path by the reference with the number n, from 0, to the object with this id, if there is one
abbrev pub reference_path : Heap → ℕ → ℕ → Shown
reference_path h id n = shown_path (option_map (reference_way h id) (slice_get (references h id) n))

-- the verdict on a type, by its count
abbrev pub instances_at : PlacedTable → Heap → KindCount → Verdict
instances_at p h c = instances_verdict h (named_count p c)

-- the verdict on the object in a cell, with what was counted
abbrev pub unshared_at : PlacedTable → CountTable → Heap → ℕ → Verdict
unshared_at p t h cell = unshared_verdict (counted_in p t) h (id_at p.cells cell)

-- the verdict on the ownee in a cell
abbrev pub ownedby_in : PlacedTable → Heap → ℕ → Verdict
ownedby_in p h cell = ownedby_verdict h (owned_pair p h cell)
