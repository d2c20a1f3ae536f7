-- From a trace to a snapshot, from that to a trace, and from this to a snapshot.
use Rattle.std.specs.Prelude.{◌≡◌, ◌≤◌, ⊤, List, length, All}
use Rattle.heap_base.specs.Limits.{usual_limits}
use Rattle.heap_base.specs.declared.status.Status.TheVariants.{Clean}
use Rattle.graph_meaning.specs.Heap.{empty_heap}
use Rattle.trace_reader.specs.Items.{items_of}
use Rattle.trace_reader.specs.Meaning.{Item, blank, event, refused}
use Rattle.trace_run.specs.Program.{Report, report_by}
use Rattle.heap_snapshot.specs.declared.from_trace.TheConstants.{LONGEST_TRACE}
use Rattle.heap_snapshot.specs.declared.read.TheConstants.{LONGEST_SNAPSHOT}
use Rattle.heap_snapshot.specs.FromTrace.{snapshot_meaning}
use Rattle.heap_snapshot.specs.Made.{IsNamed}
use Rattle.heap_snapshot.specs.ToTrace.{text_of, snapshot_status}

-- the ids and names of an operation are ids and names
abbrev pub IsNamedItem : Item → Type 0
IsNamedItem blank = ⊤
IsNamedItem (event e) = IsNamed e
IsNamedItem (refused r) = ⊤

-- what is written of the heap that the items of a trace make
abbrev pub snapshot_report : List Item → Report
snapshot_report items = report_by snapshot_meaning (empty_heap usual_limits) items

-- Where no line of a trace is refused, its snapshot is one, and the snapshot of the trace that is made of it is the same text. The two texts that
-- are read are no longer than they may be.
abbrev pub RoundTrips : Type 0
RoundTrips =
    (items : List Item) → All IsNamedItem items → (snapshot_report items).status ≡ Clean → length (snapshot_report items).text ≤ LONGEST_SNAPSHOT →
    length (text_of (snapshot_report items).text) ≤ LONGEST_TRACE →
    (snapshot_status (snapshot_report items).text ≡ Clean)
    × ((snapshot_report (items_of LONGEST_TRACE (text_of (snapshot_report items).text))).text ≡ (snapshot_report items).text)
    × ((snapshot_report (items_of LONGEST_TRACE (text_of (snapshot_report items).text))).status ≡ Clean)
