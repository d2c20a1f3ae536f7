use Rattle.std.proofs.Common.{take}
use Rattle.std.specs.List.{flat_map}
use Rattle.graph_meaning.specs.Heap.{targets}
use Rattle.minor_gc.specs.Marks.{MarksAll}
use Rattle.minor_gc.specs.Searches.{marks_of}
use Rattle.minor_gc.proofs.search.Search.take_objects.Given as goal

-- what the objects before this one hold is marked
abbrev pub invariant-loop-id : goal.invariant-loop-id
invariant-loop-id l = MarksAll l.table (flat_map (targets l.table.table) (take l.id-index l.ids)) (marks_of l.fn.self) (marks_of l.self)
