-- What contracts see of a search.
use Rattle.minor_gc.specs.declared.search.Search.{Search}
use Rattle.minor_gc.specs.Marks.{Marks}

abbrev pub marks_of : Search → Marks
marks_of s = record { marks = s.marks.items; work = s.work.items }
