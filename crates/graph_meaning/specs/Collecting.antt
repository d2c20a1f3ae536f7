-- What a collection finds in a heap, and what it leaves.
use Rattle.std.specs.Prelude.{ℕ, ◌+◌, ◌-◌, List, [], ◌++◌, length, map, filter, take, drop, sum_by, Bool, false, not, ◌||◌, ◌&&◌, nat_le, nat_lt, if◌then◌else◌, None, slice_index_or, slice_get}
use Rattle.std.specs.List.{count_by}
use Rattle.std.specs.Option.{option_map, option_map_or}
use Rattle.std.specs.Str.{bytes_eq}
use Rattle.graph_meaning.specs.declared.collection.Collection.{Collection}
use Rattle.graph_meaning.specs.declared.collection.Verdict.{Verdict}
use Rattle.graph_meaning.specs.declared.collection.Verdict.TheVariants.{Dead, Instances, Unshared, OwnedBy}
use Rattle.graph_meaning.specs.declared.paths.Shown.TheVariants.{LeftOut}
use Rattle.graph_meaning.specs.Heap.{Slot, Object, Table, Heap, is_live, kind_at}
use Rattle.graph_meaning.specs.Reach.{has_id}
use Rattle.graph_meaning.specs.Assertions.{traced_ids, is_met, finds, references, reference_count}
use Rattle.graph_meaning.specs.Paths.{shown_path, plain_way, unowned_way, reference_way}

-- What a collection goes by: how many of its paths are shown, and whether what is asserted dead is cut off by force.
pub record Rules : Type 0 where
  pub paths : ℕ
  pub force : Bool

-- ---- violations

-- the objects that are asserted dead and traced, by id
unfoldable pub violating_dead : Heap → List ℕ
violating_dead h = filter (has_id (traced_ids h)) h.dead

-- the traced objects of a type, by id
unfoldable pub instances : Heap → List ℕ → List ℕ
instances h kind = filter (λ id. bytes_eq (kind_at h.table id) kind) (traced_ids h)

-- the types with a limit that their traced objects number more than, by name, each with its limit
unfoldable pub violating_kinds : Heap → List (List ℕ × ℕ)
violating_kinds h = filter (λ l. nat_lt l.1 (length (instances h l.0))) h.limits

-- the objects that are asserted unshared and have two references or more, by id
unfoldable pub violating_unshared : Heap → List ℕ
violating_unshared h = filter (λ id. nat_le 2 (reference_count h id)) h.unshared

-- the owner was freed
abbrev pub is_gone : Heap → ℕ → Bool
is_gone h owner = not (is_live h.table owner)

-- the ownees that are met and that their owner doesn't find, or whose owner is gone, by id, each with its owner
unfoldable pub violating_ownees : Heap → List (ℕ × ℕ)
violating_ownees h = filter (λ o. is_met h o.0 && (is_gone h o.1 || not (finds h o.1 o.0))) h.owners

-- ---- verdicts

abbrev pub dead_verdict : Heap → ℕ → Verdict
dead_verdict h id = Dead id (kind_at h.table id) (shown_path (plain_way h id))

-- the path is that of the first object past the limit
abbrev pub instances_verdict : Heap → List ℕ × ℕ → Verdict
instances_verdict h l =
    let found = instances h l.0 in Instances l.0 l.1 (length found) (shown_path (plain_way h (slice_index_or found l.1 0)))

-- with this count of references; the paths are those of the first two
abbrev pub unshared_verdict : (ℕ → ℕ) → Heap → ℕ → Verdict
unshared_verdict count h id =
    let refs = references h id in
    Unshared id (kind_at h.table id) (count id) (shown_path (option_map (reference_way h id) (slice_get refs 0))) (shown_path (option_map (reference_way h id) (slice_get refs 1)))

abbrev pub ownedby_verdict : Heap → ℕ × ℕ → Verdict
ownedby_verdict h o = OwnedBy o.0 (kind_at h.table o.0) o.1 (is_gone h o.1) (shown_path (unowned_way h o.0))

-- the violated assertions in order, each with its paths, where references are counted so
unfoldable pub all_verdicts : (ℕ → ℕ) → Heap → List Verdict
all_verdicts count h =
    map (dead_verdict h) (violating_dead h)
    ++ map (instances_verdict h) (violating_kinds h)
    ++ map (unshared_verdict count h) (violating_unshared h)
    ++ map (ownedby_verdict h) (violating_ownees h)

abbrev pub without_paths : Verdict → Verdict
without_paths (Dead id kind path) = Dead id kind LeftOut
without_paths (Instances kind limit found path) = Instances kind limit found LeftOut
without_paths (Unshared id kind refs first second) = Unshared id kind refs LeftOut LeftOut
without_paths (OwnedBy id kind owner gone path) = OwnedBy id kind owner gone LeftOut

-- so many of the first verdicts with their paths, and the others without
unfoldable pub first_with_paths : ℕ → List Verdict → List Verdict
first_with_paths paths verdicts = take paths verdicts ++ map without_paths (drop paths verdicts)

-- ---- what is left

-- the slot, emptied if it holds one of these
abbrev pub slot_without : (ℕ → Bool) → Slot → Slot
slot_without gone slot = if option_map_or gone slot.held false then record slot { held = None } else slot

-- the object with no slot that holds one of these
abbrev pub object_without : (ℕ → Bool) → Object → Object
object_without gone o = record o { slots = map (slot_without gone) o.slots }

-- The table with these objects alone. A slot that held another is empty, and weak as before.
unfoldable pub with_only : List ℕ → Table → Table
with_only kept t = record t { objects = map (object_without (λ id. not (has_id kept id))) (filter (λ o. has_id kept o.id) t.objects) }

-- Exactly the traced objects stay, and what was asserted of the others is forgotten.
unfoldable pub after_sweep : Heap → Heap
after_sweep h =
    let kept = traced_ids h in
    record {
      table = with_only kept h.table;
      dead = filter (has_id kept) h.dead;
      unshared = filter (has_id kept) h.unshared;
      regions = map (map (filter (has_id kept))) h.regions;
      limits = h.limits;
      owners = filter (λ o. has_id kept o.0) h.owners;
    }

-- how many slots and roots hold one of these
abbrev pub holders_of : (ℕ → Bool) → Table → ℕ
holders_of gone t =
    sum_by (λ o. count_by (λ s. option_map_or gone s.held false) o.slots) t.objects + count_by (λ r. gone r.1) t.roots

-- the table with no slot and no root that holds one of these
abbrev pub cut_off : (ℕ → Bool) → Table → Table
cut_off gone t = record t { objects = map (object_without gone) t.objects; roots = filter (λ r. not (gone r.1)) t.roots }

-- what is cut off after the sweep: by force, what is asserted dead and was traced
abbrev pub ids_to_clear : Rules → Heap → List ℕ
ids_to_clear rules h = if rules.force then violating_dead h else []

-- the heap that a collection leaves
unfoldable pub after_collection : Rules → Heap → Heap
after_collection rules h =
    let left = after_sweep h in record left { table = cut_off (has_id (ids_to_clear rules h)) left.table }

-- The collection with this number: how many objects there are before it, how many stay, the difference, how many
-- slots and roots were cleared, and the violated assertions, where references are counted so.
unfoldable pub collection_counted : (ℕ → ℕ) → Rules → ℕ → Heap → Collection
collection_counted count rules number h =
    let live = length h.table.objects in
    let traced = length (traced_ids h) in
    record {
      number = number;
      live = live;
      traced = traced;
      freed = live - traced;
      cleared = holders_of (has_id (ids_to_clear rules h)) (after_sweep h).table;
      verdicts = first_with_paths rules.paths (all_verdicts count h);
    }

-- the collection with this number
abbrev pub collection_of : Rules → ℕ → Heap → Collection
collection_of rules number h = collection_counted (reference_count h) rules number h
