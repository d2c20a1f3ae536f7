-- The trace that makes the heap of a view, byte for byte. A line is the compact JSON text (RFC 8259) of an object with its
-- keys in the order of their bytes, and a newline.
use Rattle.std.specs.Prelude.{ℕ, ◌+◌, List, [], ◌∷◌, ◌++◌, length, Option, None, Some, codes}
use Rattle.std.specs.List.{flat_map}
use Rattle.serde_json.specs.Data.{Data, number, unsigned, string, object, no_members, member}
use Rattle.serde_json.specs.Written.{compact_text}
use Rattle.graph_meaning.specs.declared.views.ObjectView.{ObjectView}
use Rattle.graph_meaning.specs.declared.views.HeapView.{HeapView}

-- ---- the operations

abbrev pub whole : ℕ → Data
whole n = number (unsigned n)

-- a new object
abbrev pub alloc_data : ℕ → ℕ → List ℕ → Data
alloc_data id slots kind =
    object (member (codes "id") (whole id) (member (codes "op") (string (codes "alloc")) (member (codes "slots") (whole slots) (member (codes "type") (string kind) no_members))))

-- an object is put into a slot
abbrev pub store_data : ℕ → ℕ → ℕ → Data
store_data at slot to =
    object (member (codes "at") (whole at) (member (codes "op") (string (codes "store")) (member (codes "slot") (whole slot) (member (codes "to") (whole to) no_members))))

-- an object is given a root
abbrev pub root_data : List ℕ → ℕ → Data
root_data name to =
    object (member (codes "name") (string name) (member (codes "op") (string (codes "root")) (member (codes "to") (whole to) no_members)))

-- ---- lines

unfoldable pub data_line : Data → List ℕ
data_line d = compact_text d ++ 10 ∷ []

abbrev pub alloc_line : ObjectView → List ℕ
alloc_line o = data_line (alloc_data o.id (length o.slots) o.kind)

-- the line of a slot, which an empty one doesn't have
abbrev pub store_line : ℕ → ℕ → Option ℕ → List ℕ
store_line at slot None = []
store_line at slot (Some to) = data_line (store_data at slot to)

-- the lines of these slots of an object, of which the first has this number
abbrev pub slot_lines : ℕ → ℕ → List (Option ℕ) → List ℕ
slot_lines at slot [] = []
slot_lines at slot (held ∷ slots) = store_line at slot held ++ slot_lines at (slot + 1) slots

abbrev pub store_lines : ObjectView → List ℕ
store_lines o = slot_lines o.id 0 o.slots

abbrev pub root_line : List ℕ × ℕ → List ℕ
root_line r = data_line (root_data r.0 r.1)

-- The trace of a view: its objects by id, what their slots hold by id and slot, and the roots by name.
unfoldable pub trace_text : HeapView → List ℕ
trace_text v = flat_map alloc_line v.objects ++ flat_map store_lines v.objects ++ flat_map root_line v.roots
