-- Which line may stand where: what has been read so far takes a line, or the line breaks the snapshot.
use Rattle.std.specs.Prelude.{ℕ, ◌+◌, ◌-◌, List, [], ◌∷◌, ◌++◌, length, replicate, Bool, true, false, ◌&&◌, ◌||◌, nat_le, nat_lt, if◌then◌else◌, Option, None, Some, slice_get}
use Rattle.std.specs.Option.{option_map_or}
use Rattle.std.specs.Ordering.{is_lt}
use Rattle.heap_base.specs.declared.limits.TheConstants.{USUAL_OBJECTS, USUAL_SLOTS, USUAL_ROOTS, MOST_KINDS}
use Rattle.graph_meaning.specs.declared.views.ObjectView.{ObjectView}
use Rattle.graph_meaning.specs.Heap.{is_seen, name_cmp}
use Rattle.graph_meaning.specs.Step.{with_kind}
use Rattle.heap_snapshot.specs.declared.line.Line.{Line}
use Rattle.heap_snapshot.specs.declared.line.Line.TheVariants.{Head, Object, Slot, Root, End}
use Rattle.heap_snapshot.specs.declared.stage.OpenObject.{OpenObject}
use Rattle.heap_snapshot.specs.declared.stage.Stage.{Stage}
use Rattle.heap_snapshot.specs.declared.stage.Stage.TheVariants.{Empty, Begun, InObject, InRoots, Ended}

-- What has been read: what stands last; the objects before the open one; the roots; the type names that were seen; how
-- many slots the objects have together, the open one among them; and the greatest id, 0 before the first.
pub record Reading : Type 0 where
  pub stage : Stage
  pub objects : List ObjectView
  pub roots : List (List ℕ × ℕ)
  pub kinds : List (List ℕ)
  pub slots : ℕ
  pub greatest : ℕ

abbrev pub nothing_read : Reading
nothing_read = record { stage = Empty; objects = []; roots = []; kinds = []; slots = 0; greatest = 0 }

-- ---- where the text stands

abbrev pub is_empty : Stage → Bool
is_empty Empty = true
is_empty stage = false

abbrev pub is_ended : Stage → Bool
is_ended Ended = true
is_ended stage = false

-- an object line may follow the first line, an object line or a slot line
abbrev pub is_before_roots : Stage → Bool
is_before_roots Begun = true
is_before_roots (InObject o) = true
is_before_roots stage = false

-- a root line or the end may follow any line but the end
abbrev pub is_under_way : Stage → Bool
is_under_way Empty = false
is_under_way Ended = false
is_under_way stage = true

-- ---- the open object

-- the slots that no line names are empty
abbrev pub whole_object : OpenObject → ObjectView
whole_object o = record { id = o.id; kind = o.kind; slots = o.filled ++ replicate (o.slots - length o.filled) None }

abbrev pub open_objects : Stage → List ObjectView
open_objects (InObject o) = whole_object o ∷ []
open_objects stage = []

-- the objects, the open one among them
abbrev pub objects_read : Reading → List ObjectView
objects_read r = r.objects ++ open_objects r.stage

-- ---- what a line does

abbrev pub reading_where : Bool → Reading → Option Reading
reading_where condition r = if condition then Some r else None

-- an id above all before, a number of slots and a type within the limits
unfoldable pub may_add : Reading → ℕ → ℕ → List ℕ → Bool
may_add r id slots kind =
    is_before_roots r.stage && nat_lt r.greatest id && nat_lt (length (objects_read r)) USUAL_OBJECTS && nat_le (r.slots + slots) USUAL_SLOTS &&
    (is_seen r.kinds kind || nat_lt (length r.kinds) MOST_KINDS)

abbrev pub after_object_line : Reading → ℕ → ℕ → List ℕ → Reading
after_object_line r id slots kind = record {
  stage = InObject (record { id = id; slots = slots; kind = kind; filled = [] });
  objects = objects_read r;
  roots = r.roots;
  kinds = with_kind r.kinds kind;
  slots = r.slots + slots;
  greatest = id;
}

-- the slot is one of the object's, and above its last that was named
abbrev pub may_fill : OpenObject → ℕ → Bool
may_fill o slot = nat_lt slot o.slots && nat_le (length o.filled) slot

-- the slots between it and the last that was named are empty
abbrev pub after_slot_line : OpenObject → ℕ → ℕ → OpenObject
after_slot_line o slot to = record o { filled = o.filled ++ replicate (slot - length o.filled) None ++ Some to ∷ [] }

abbrev pub take_slot : Reading → ℕ → ℕ → Stage → Option Reading
take_slot r slot to (InObject o) = reading_where (may_fill o slot) (record r { stage = InObject (after_slot_line o slot to) })
take_slot r slot to stage = None

-- the name of the last root; no name is below it before the first
abbrev pub last_name : List (List ℕ × ℕ) → List ℕ
last_name roots = option_map_or (λ r. r.0) (slice_get roots (length roots - 1)) []

-- a name whose bytes are above the last root's
unfoldable pub may_root : Reading → List ℕ → Bool
may_root r name = is_under_way r.stage && is_lt (name_cmp (last_name r.roots) name) && nat_lt (length r.roots) USUAL_ROOTS

abbrev pub after_root_line : Reading → List ℕ → ℕ → Reading
after_root_line r name to = record r { stage = InRoots; objects = objects_read r; roots = r.roots ++ (name, to) ∷ [] }

abbrev pub closed_reading : Reading → Reading
closed_reading r = record r { stage = Ended; objects = objects_read r }

-- what has been read with a line more, unless the line may not stand there
unfoldable pub take_line : Reading → Line → Option Reading
take_line r Head = reading_where (is_empty r.stage) (record r { stage = Begun })
take_line r (Object id slots kind) = reading_where (may_add r id slots kind) (after_object_line r id slots kind)
take_line r (Slot slot to) = take_slot r slot to r.stage
take_line r (Root to name) = reading_where (may_root r name) (after_root_line r name to)
take_line r End = reading_where (is_under_way r.stage) (closed_reading r)

-- a line that says nothing may stand nowhere
abbrev pub take_said : Reading → Option Line → Option Reading
take_said r None = None
take_said r (Some line) = take_line r line
