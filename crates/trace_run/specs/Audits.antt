-- What an audit makes of a trace, whoever keeps the heap and traces it: the meaning of a program whose states are heaps
-- with the totals of their collections, and the report of an audit by the definition of its run.
use Rattle.std.specs.Prelude.{◌≡◌, ℕ, ◌+◌, List, [], ◌∷◌, length, true, false, nat_lt, if◌then◌else◌, Result, Ok, Err}
use Rattle.heap_base.specs.Limits.{usual_limits}
use Rattle.heap_base.specs.declared.limits.Limits.{Limits}
use Rattle.graph_meaning.specs.declared.collection.Collection.{Collection}
use Rattle.graph_meaning.specs.declared.reaction.React.{React}
use Rattle.graph_meaning.specs.declared.refusal.Refusal.{Refusal}
use Rattle.graph_meaning.specs.Heap.{Heap}
use Rattle.graph_meaning.specs.Collecting.{collection_of, after_collection}
use Rattle.trace_reader.specs.Meaning.{Item}
use Rattle.report.specs.Run as meant
use Rattle.report.specs.Run.{RunRules, collection_rules, Totals, violations_of, RunState, Turn, turn, first_state, is_halted, is_at_end, ending_of, status_of}
use Rattle.report.specs.Text.{collection_text, halt_text, end_text}
use Rattle.report.specs.Report.{collections_text, report_of, part_of}
use Rattle.trace_run.specs.declared.taken.Taken.{Taken}
use Rattle.trace_run.specs.declared.taken.Taken.TheVariants.{GoesOn, Halts}
use Rattle.trace_run.specs.Program.{Effect, goes_on, refuses, halts, Last, ProgramMeaning, Report, due_text, text_if_due}

-- a run under these limits that shows so many paths of each collection and does this about violations
abbrev pub rules_within : Limits → ℕ → React → RunRules
rules_within most paths react = record { paths = paths; react = react; most = most }

-- such a run under the usual limits
abbrev pub rules_by : ℕ → React → RunRules
rules_by paths react = rules_within usual_limits paths react

-- ---- a program

-- What the run goes by, the heap, and the totals of the collections so far.
pub record AuditState : Type 0 where
  pub rules : RunRules
  pub heap : Heap
  pub totals : Totals

abbrev pub state_of : RunRules → RunState → AuditState
state_of rules s = record { rules = rules; heap = s.heap; totals = s.totals }

-- at the beginning of a trace
abbrev pub first_audit_state : RunRules → AuditState
first_audit_state rules = state_of rules (first_state rules.most)

-- the texts of the collections of a turn are due; the run halts where it is to
abbrev pub effect_of_turn : RunRules → Turn → Effect AuditState
effect_of_turn rules t =
    if meant.halts rules.react t.collections
    then halts (collections_text t.collections) (record { text = halt_text t.state.totals.collections (violations_of t.collections); violated = true })
    else goes_on (collections_text t.collections) (state_of rules t.state)

abbrev pub effect_of : RunRules → Result Turn Refusal → Effect AuditState
effect_of rules (Ok t) = effect_of_turn rules t
effect_of rules (Err r) = refuses r

-- where nothing halts the run, the end line is its last text
abbrev pub end_of : Totals → Last
end_of t = record { text = end_text t.collections t.violations; violated = nat_lt 0 t.violations }

-- An event is a turn of the run, which doesn't depend on the number of lines before it.
abbrev pub audit_meaning : ProgramMeaning AuditState
audit_meaning = record {
  takes = λ s e. effect_of s.rules (turn (collection_rules s.rules) (record { heap = s.heap; totals = s.totals; lines = 0 }) e);
  ends = λ s. end_of s.totals;
}

-- ---- a collection

-- the next collection
abbrev pub next_of : AuditState → Collection
next_of s = collection_of (collection_rules s.rules) (s.totals.collections + 1) s.heap

-- the state behind it
abbrev pub behind_next : AuditState → AuditState
behind_next s = record s {
  heap = after_collection (collection_rules s.rules) s.heap;
  totals = record { collections = s.totals.collections + 1; violations = s.totals.violations + length (next_of s).verdicts };
}

-- What a collection makes due: its text, and the halt line behind it where the run is to halt.
abbrev pub IsDue : React → Collection → Taken → Type 0
IsDue react c (GoesOn due) = (meant.halts react (c ∷ []) ≡ false) × (text_if_due due ≡ collection_text c)
IsDue react c (Halts due last) =
    (meant.halts react (c ∷ []) ≡ true) × (due_text due ≡ collection_text c) × (last.text.items ≡ halt_text c.number (length c.verdicts)) × (last.violated ≡ true)

-- ---- the report

-- the report of an audit by these rules on a trace
abbrev pub audit_report : RunRules → List Item → Report
audit_report rules items = record {
  text = report_of rules items;
  part = part_of rules items;
  status = status_of rules items;
  is_halted = is_halted (ending_of rules items);
  is_at_end = is_at_end (ending_of rules items);
}
