use Rattle.std.proofs.Common.{map, take}
use Rattle.minor_gc.specs.Marks.{MarksAll}
use Rattle.minor_gc.specs.Searches.{marks_of}
use Rattle.minor_gc.proofs.search.Search.take_roots.Given as goal

-- what the roots before this one name is marked
abbrev pub invariant-loop-root : goal.invariant-loop-root
invariant-loop-root l = MarksAll l.table (map (λ r. r.1) (take l.root l.table.table.roots)) (marks_of l.fn.self) (marks_of l.self)
