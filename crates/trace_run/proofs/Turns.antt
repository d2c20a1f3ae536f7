-- What one line of a trace does to a run.
use Rattle.std.proofs.Common.{◌≡◌, ℕ, ◌≤◌, ◌++◌, List, Bool, false, Option, refl, sym, ◌∙◌, ap, subst}
use Rattle.std.specs.Io.KnownBytes.{Appends}
use Rattle.std.proofs.KnownBytes.{Appends-trans}
use Rattle.streams.specs.Causes.{Rose}
use Rattle.streams.specs.Sinks.{AppendsPart}
use Rattle.streams.specs.Streams.{Stream}
use Rattle.heap_base.specs.declared.status.Status.{Status}
use Rattle.heap_base.specs.declared.status.Status.TheVariants.{Clean, Violated, TraceFault, ReadFault, WriteFault, NoMemory, Usage}
use Rattle.graph_meaning.specs.declared.refusal.Refusal.{Refusal}
use Rattle.report.specs.declared.writing.WriteError.{WriteError}
use Rattle.report.specs.declared.writing.WriteError.TheVariants.{WriteFailed, OutOfMemory}
use Rattle.trace_reader.specs.Meaning.{Item, refused}
use Rattle.trace_run.specs.declared.taken.LastText.{LastText}
use Rattle.trace_run.specs.declared.turn.Flow.{Flow}
use Rattle.trace_run.specs.Program.{ProgramMeaning, Last, IsLast, Effect, halts, takes_item, Report, RunResult, halted, refused_line, by_effect, ends_so, behind, report_on}
use Rattle.trace_run.specs.Outcome.{sink_change}
use Rattle.trace_run.specs.Turn.{EndsRun, TakesLine, line_effect, status_of_error}
use Rattle.trace_run.proofs.Runs.{report_on-text}
use Rattle.report.proofs.Pieces.{AppendsPart-behind, AppendsPart-longer}
use Rattle.trace_run.proofs.Endings.{Rose-earlier}

pub Appends-as : (old new : Option (List ℕ)) (text text' : List ℕ) → text ≡ text' → Appends old new text → Appends old new text'
Appends-as old new text text' p appended = subst (λ (t : List ℕ). Appends old new t) p appended

-- a run that ends behind a text that was written
EndsRun-behind : (at_end : Bool) (sink mid sink' : Stream) (front : List ℕ) (r : RunResult) (status : Status) → Appends sink.bytes mid.bytes front →
    sink.faults ≤ mid.faults → EndsRun at_end (sink_change mid sink') (report_on r) status → EndsRun at_end (sink_change sink sink') (report_on (behind front r)) status
EndsRun-behind at_end sink mid sink' front r Clean before later ends = (ends.0, ends.1, Appends-as _ _ _ _ (sym (report_on-text front r)) (Appends-trans _ _ _ _ _ before ends.2))
EndsRun-behind at_end sink mid sink' front r Violated before later ends = (ends.0, ends.1, Appends-as _ _ _ _ (sym (report_on-text front r)) (Appends-trans _ _ _ _ _ before ends.2))
EndsRun-behind at_end sink mid sink' front r TraceFault before later ends = (ends.0, Appends-as _ _ _ _ (sym (report_on-text front r)) (Appends-trans _ _ _ _ _ before ends.1))
EndsRun-behind at_end sink mid sink' front r ReadFault before later ends = absurd ends
EndsRun-behind at_end sink mid sink' front r WriteFault before later ends =
    (Rose-earlier _ _ _ later ends.0, AppendsPart-behind _ _ _ front _ _ (report_on-text front r) before ends.1)
EndsRun-behind at_end sink mid sink' front r NoMemory before later ends =
    AppendsPart-behind _ _ _ front _ _ (report_on-text front r) before ends
EndsRun-behind at_end sink mid sink' front r Usage before later ends = absurd ends

ends-part : (sink sink' : Stream) (d : Report) (error : WriteError) → AppendsPart sink.bytes sink'.bytes d.text → (error ≡ WriteFailed → Rose sink.faults sink'.faults) →
    EndsRun false (sink_change sink sink') d (status_of_error error)
ends-part sink sink' d WriteFailed part failed = (failed refl, part)
ends-part sink sink' d OutOfMemory part failed = part

-- the text that was due was not written whole
pub ends-failed : (sink sink' : Stream) (text : List ℕ) (ran rest : RunResult) (error : WriteError) (status : Status) → ran ≡ behind text rest → status ≡ status_of_error error →
    AppendsPart sink.bytes sink'.bytes text → (error ≡ WriteFailed → Rose sink.faults sink'.faults) → EndsRun false (sink_change sink sink') (report_on ran) status
ends-failed sink sink' text ran rest error status is same part failed =
    let whole : (report_on ran).text ≡ text ++ (report_on rest).text = ap (λ (r : RunResult). (report_on r).text) is ∙ report_on-text text rest in
    let longer = AppendsPart-longer sink.bytes sink'.bytes text (report_on rest).text part in
    subst (λ (s : Status). EndsRun false (sink_change sink sink') (report_on ran) s) (sym same)
    (ends-part sink sink' (report_on ran) error (subst (λ (t : List ℕ). AppendsPart sink.bytes sink'.bytes t) (sym whole) longer) failed)

-- the text that was due was written, and the run halts
pub ends-halted : {State : Type 0} (effect : Effect State) (line : ℕ) (sink mid sink' : Stream) (text : List ℕ) (last : Last) (found : LastText) (status : Status) →
    effect ≡ halts text last → IsLast last found →
    Appends sink.bytes mid.bytes text → sink.faults ≤ mid.faults → ((d : Last) → IsLast d found → EndsRun false (sink_change mid sink') (report_on (ends_so (halted d))) status) →
    (on : State → RunResult) → EndsRun false (sink_change sink sink') (report_on (by_effect line effect on)) status
ends-halted {State} effect line sink mid sink' text last found status is same before later ends on =
    subst (λ (e : Effect State). EndsRun false (sink_change sink sink') (report_on (by_effect line e on)) status) (sym is)
    (EndsRun-behind false sink mid sink' text (ends_so (halted last)) status before later (ends last same))

-- a line is taken as one with an equal item is
pub TakesLine-at : {State : Type 0} (m : ProgramMeaning State) (s after : State) (lines : ℕ) (item item' : Item) (sink sink' : Stream) (flow : Flow) →
    item' ≡ item → TakesLine (line_effect (takes_item m s item) lines after) (sink_change sink sink') flow → TakesLine (line_effect (takes_item m s item') lines after) (sink_change sink sink') flow
TakesLine-at m s after lines item item' sink sink' flow same takes =
    subst (λ (i : Item). TakesLine (line_effect (takes_item m s i) lines after) (sink_change sink sink') flow) (sym same) takes

-- an item that is a refusal
pub ends-refused_item : {State : Type 0} (m : ProgramMeaning State) (s : State) (item : Item) (r : Refusal) (line : ℕ) (sink sink' : Stream) (status : Status) → item ≡ refused r →
    EndsRun false (sink_change sink sink') (report_on (ends_so (refused_line line r))) status →
    (on : State → RunResult) → EndsRun false (sink_change sink sink') (report_on (by_effect line (takes_item m s item) on)) status
ends-refused_item m s item r line sink sink' status same ends on =
    subst (λ (i : Item). EndsRun false (sink_change sink sink') (report_on (by_effect line (takes_item m s i) on)) status) (sym same) ends
