-- What the rules of a snapshot's text come to in a view.
use Rattle.std.specs.Prelude.{ℕ, ◌<◌, ◌≤◌, ◌^◌, List, [], length, fold, sum_by, All, AllPairs, IsTrue, IfSome}
use Rattle.std.specs.List.Sorted.{IsStrictlySortedBy}
use Rattle.std.specs.Map.{keys_of}
use Rattle.std.specs.Str.{is_utf8}
use Rattle.heap_base.specs.Names.{is_name}
use Rattle.heap_base.specs.declared.limits.TheConstants.{USUAL_OBJECTS, USUAL_SLOTS, USUAL_ROOTS, MOST_KINDS}
use Rattle.graph_meaning.specs.Heap.{name_cmp}
use Rattle.graph_meaning.specs.Reach.{has_id}
use Rattle.graph_meaning.specs.Step.{with_kind}
use Rattle.graph_meaning.specs.declared.views.HeapView.{HeapView}
use Rattle.graph_meaning.specs.declared.views.ObjectView.{ObjectView}
use Rattle.heap_snapshot.specs.Dangling.{object_ids}
use Rattle.heap_snapshot.specs.Reading.{IsLawful}

-- an id is a number of 32 bits, and not 0
abbrev pub IsId : ℕ → Type 0
IsId id = (0 < id) × (id < 2 ^ 32)

-- the name of a type or of a root is UTF-8
abbrev pub IsName : List ℕ → Type 0
IsName name = IsTrue (is_name name) × IsTrue (is_utf8 name)

-- the names of the types, in the order in which they first come
abbrev pub kind_names : List ObjectView → List (List ℕ)
kind_names objects = fold (λ kinds o. with_kind kinds o.kind) [] objects

-- The limits are kept; ids, types and names are such as a heap may have; ids and the names of roots rise; and whatever a
-- slot or a root holds is an object of the view.
pub record IsWellFormed (v : HeapView) : Type 0 where
  pub few_objects : length v.objects ≤ USUAL_OBJECTS
  pub few_slots : sum_by (λ o. length o.slots) v.objects ≤ USUAL_SLOTS
  pub few_roots : length v.roots ≤ USUAL_ROOTS
  pub few_kinds : length (kind_names v.objects) ≤ MOST_KINDS
  pub objects : All (λ o. IsId o.id × IsName o.kind) v.objects
  pub root_names : All (λ r. IsName r.0) v.roots
  pub ids : AllPairs (λ x y. x < y) (object_ids v.objects)
  pub names : IsStrictlySortedBy name_cmp (keys_of v.roots)
  pub slots : All (λ o. All (λ slot. IfSome slot (λ to. IsTrue (has_id (object_ids v.objects) to))) o.slots) v.objects
  pub roots : All (λ r. IsTrue (has_id (object_ids v.objects) r.1)) v.roots

-- a lawful view is well formed
abbrev pub LawfulIsWellFormed : Type 0
LawfulIsWellFormed = (v : HeapView) → IsLawful v → IsWellFormed v

-- and a well-formed view is lawful
abbrev pub WellFormedIsLawful : Type 0
WellFormedIsLawful = (v : HeapView) → IsWellFormed v → IsLawful v
