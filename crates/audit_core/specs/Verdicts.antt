-- The verdicts of a collection by the counts of a trace.
use Rattle.header_rule.specs.ClosedWords.{count_in}
use Rattle.heap_marking.specs.Results.{TraceResult}
use Rattle.verdict_list.specs.Counts.{CountTable}

-- what a trace counted
abbrev pub counts_of : TraceResult → CountTable
counts_of t = record { cells = t.words.cells; references = count_in t.words; instances = t.instances; kept = t.kept }
