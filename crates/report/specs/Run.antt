-- What the run of a trace is: what its items lead to, one after another, and how it ends.
use Rattle.std.specs.Prelude.{ℕ, ◌+◌, List, [], ◌∷◌, ◌++◌, length, Bool, true, false, ◌&&◌, nat_lt, if◌then◌else◌, Result, Ok, Err}
use Rattle.heap_base.specs.Counting.{total}
use Rattle.heap_base.specs.declared.limits.Limits.{Limits}
use Rattle.heap_base.specs.declared.status.Status.{Status}
use Rattle.heap_base.specs.declared.status.Status.TheVariants.{Clean, Violated, TraceFault}
use Rattle.graph_meaning.specs.declared.collection.Collection.{Collection}
use Rattle.graph_meaning.specs.declared.event.Event.{Event}
use Rattle.graph_meaning.specs.declared.event.Event.TheVariants.{Collect}
use Rattle.graph_meaning.specs.declared.reaction.React.{React}
use Rattle.graph_meaning.specs.declared.reaction.React.TheVariants.{Report, Halt, Force}
use Rattle.graph_meaning.specs.declared.refusal.Refusal.{Refusal}
use Rattle.graph_meaning.specs.Heap.{Heap, empty_heap}
use Rattle.graph_meaning.specs.Step.{step}
use Rattle.graph_meaning.specs.Collecting.{Rules, collection_of, after_collection}
use Rattle.trace_reader.specs.Meaning.{Item, blank, event, refused}

-- ---- what a run goes by

-- How many paths of each collection are shown, what is done about violations, and the limits of the heap.
pub record RunRules : Type 0 where
  pub paths : ℕ
  pub react : React
  pub most : Limits

abbrev pub is_force : React → Bool
is_force Report = false
is_force Halt = false
is_force Force = true

abbrev pub is_halt : React → Bool
is_halt Report = false
is_halt Halt = true
is_halt Force = false

-- the rules of its collections
abbrev pub collection_rules : RunRules → Rules
collection_rules rules = record { paths = rules.paths; force = is_force rules.react }

-- ---- totals

-- How many collections there are, and how many violations they have together.
pub record Totals : Type 0 where
  pub collections : ℕ
  pub violations : ℕ

abbrev pub no_totals : Totals
no_totals = record { collections = 0; violations = 0 }

-- how many violations there are in all these collections
abbrev pub violations_of : List Collection → ℕ
violations_of collections = total (λ c. length c.verdicts) collections

-- the totals with these collections besides
abbrev pub with_collections : Totals → List Collection → Totals
with_collections before made =
    record { collections = before.collections + length made; violations = before.violations + violations_of made }

-- ---- one item

-- Where a run stands between two lines: its heap, the totals of the collections that it made, and how many lines were
-- read.
pub record RunState : Type 0 where
  pub heap : Heap
  pub totals : Totals
  pub lines : ℕ

-- the state at the beginning of a trace, with a heap under these limits
abbrev pub first_state : Limits → RunState
first_state most = record { heap = empty_heap most; totals = no_totals; lines = 0 }

-- What an item does: the collections that it makes, none or one, and the state after it.
pub record Turn : Type 0 where
  pub collections : List Collection
  pub state : RunState

-- the turn that makes these collections and leaves this heap
abbrev pub turn_to : RunState → List Collection → Heap → Turn
turn_to s made h =
    record { collections = made; state = record { heap = h; totals = with_collections s.totals made; lines = s.lines + 1 } }

-- the turn of an operation that makes no collection, unless its step is refused
abbrev pub turn_by_step : RunState → Result Heap Refusal → Result Turn Refusal
turn_by_step s (Ok h) = Ok (turn_to s [] h)
turn_by_step s (Err r) = Err r

-- What one operation does, or why it is refused. A collection is the next in number, and the run goes on from what it
-- leaves; any other operation is a step.
unfoldable pub turn : Rules → RunState → Event → Result Turn Refusal
turn rules s Collect =
    Ok (turn_to s (collection_of rules (s.totals.collections + 1) s.heap ∷ []) (after_collection rules s.heap))
turn rules s e = turn_by_step s (step s.heap e)

-- a line with no operation changes the number of lines alone
abbrev pub turn_of_item : Rules → RunState → Item → Result Turn Refusal
turn_of_item rules s blank = Ok (turn_to s [] s.heap)
turn_of_item rules s (event e) = turn rules s e
turn_of_item rules s (refused r) = Err r

-- ---- the run

-- How a run ends: behind the last item; at the line of this number, from 1, which is refused for this reason; or behind
-- the collection of this number, which has so many violations.
pub data Ending : Type 0 where
  end_of_trace : Ending
  refused_line : ℕ → Refusal → Ending
  halted : ℕ → ℕ → Ending

abbrev pub is_halted : Ending → Bool
is_halted end_of_trace = false
is_halted (refused_line line r) = false
is_halted (halted collection violations) = true

abbrev pub is_at_end : Ending → Bool
is_at_end end_of_trace = true
is_at_end (refused_line line r) = false
is_at_end (halted collection violations) = false

-- What a run did: the collections that it made, in order, and how it ended.
pub record RunResult : Type 0 where
  pub collections : List Collection
  pub ending : Ending

-- a run that makes no collection and ends so
abbrev pub empty_run : Ending → RunResult
empty_run ending = record { collections = []; ending = ending }

-- the run with these collections before its own
abbrev pub with_earlier : List Collection → RunResult → RunResult
with_earlier earlier ran = record { collections = earlier ++ ran.collections; ending = ran.ending }

-- whether a run halts behind these collections: it does so behind the first that has a violation
abbrev pub halts : React → List Collection → Bool
halts react made = is_halt react && nat_lt 0 (violations_of made)

-- the run that goes on from a turn, unless it halts
abbrev pub after_turn : React → Turn → (RunState → RunResult) → RunResult
after_turn react t go_on =
    with_earlier t.collections
    (if halts react t.collections then empty_run (halted t.state.totals.collections (violations_of t.collections)) else go_on t.state)

-- the run that goes on from a turn, or ends at this line where the turn is refused
abbrev pub by_turn : React → ℕ → Result Turn Refusal → (RunState → RunResult) → RunResult
by_turn react line (Ok t) go_on = after_turn react t go_on
by_turn react line (Err r) go_on = empty_run (refused_line line r)

-- The run of these items from a state. It ends at the first line that is refused, or where it halts.
unfoldable pub run : RunRules → RunState → List Item → RunResult
run rules s [] = empty_run end_of_trace
run rules s (item ∷ items) =
    by_turn rules.react (s.lines + 1) (turn_of_item (collection_rules rules) s item) (λ next. run rules next items)

-- ---- the status

abbrev pub last_status : Totals → Ending → Status
last_status totals end_of_trace = if nat_lt 0 totals.violations then Violated else Clean
last_status totals (refused_line line r) = TraceFault
last_status totals (halted collection violations) = Violated

-- The status that a run ends with, where collections of these totals came before it: a line was refused, or some
-- assertion was violated, or neither.
unfoldable pub run_status : Totals → RunResult → Status
run_status before ran = last_status (with_collections before ran.collections) ran.ending

-- ---- from the beginning of a trace

-- how the run of these items ends
abbrev pub ending_of : RunRules → List Item → Ending
ending_of rules items = (run rules (first_state rules.most) items).ending

-- the status that they end with
abbrev pub status_of : RunRules → List Item → Status
status_of rules items = run_status no_totals (run rules (first_state rules.most) items)
