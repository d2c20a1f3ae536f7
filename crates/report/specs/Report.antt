-- The report on the run of a trace.
use Rattle.std.specs.Prelude.{ℕ, List, ◌++◌}
use Rattle.std.specs.List.{flat_map}
use Rattle.graph_meaning.specs.declared.collection.Collection.{Collection}
use Rattle.trace_reader.specs.Meaning.{Item}
use Rattle.report.specs.Run.{RunRules, Totals, no_totals, with_collections, first_state, Ending, end_of_trace, refused_line, halted, RunResult, run}
use Rattle.report.specs.Text.{collection_text, fault_text, halt_text, end_text}

-- the texts of the collections alone
abbrev pub collections_text : List Collection → List ℕ
collections_text collections = flat_map collection_text collections

-- the last line of a report, where these are the totals of all its collections
abbrev pub last_line : Totals → Ending → List ℕ
last_line totals end_of_trace = end_text totals.collections totals.violations
last_line totals (refused_line line r) = fault_text line r
last_line totals (halted collection violations) = halt_text collection violations

-- The report on a run, where collections of these totals came before it.
unfoldable pub report_text : Totals → RunResult → List ℕ
report_text before ran = collections_text ran.collections ++ last_line (with_collections before ran.collections) ran.ending

-- ---- from the beginning of a trace

-- the whole report on these items
abbrev pub report_of : RunRules → List Item → List ℕ
report_of rules items = report_text no_totals (run rules (first_state rules.most) items)

-- the text of their collections, without a last line
abbrev pub part_of : RunRules → List Item → List ℕ
part_of rules items = collections_text (run rules (first_state rules.most) items).collections
