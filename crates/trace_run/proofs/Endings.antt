-- How the run of a whole trace ends.
use Rattle.std.proofs.Common.{◌≡◌, ◌⊎◌, inl, inr, ℕ, ◌+◌, ◌≤◌, List, [], ◌∷◌, ◌++◌, length, Bool, true, false, ◌||◌, IsTrue, Option, Some}
use Rattle.std.proofs.Common.{None, Result, Ok, Err, IfSome, refl, sym, ◌∙◌, ap, subst, arith}
use Rattle.std.specs.List.{concat, AllByRecursion}
use Rattle.std.specs.Io.KnownBytes.{Appends, Consumes, IsAtEnd}
use Rattle.std.proofs.KnownBytes.{Consumes-trans, Appends-nil, Appends-trans}
use Rattle.std.proofs.lemmas.List.{append_assoc, append-nil, length-append}
use Rattle.std.proofs.lemmas.Bool.{false≢true}
use Rattle.streams.specs.Causes.{Rose}
use Rattle.streams.specs.Sinks.{AppendsPart}
use Rattle.streams.specs.Streams.{Stream}
use Rattle.heap_base.specs.declared.status.Status.{Status}
use Rattle.heap_base.specs.declared.status.Status.TheVariants.{Clean, Violated, TraceFault, ReadFault, WriteFault, NoMemory, Usage}
use Rattle.graph_meaning.specs.declared.refusal.Refusal.{Refusal}
use Rattle.graph_meaning.specs.declared.refusal.Refusal.TheVariants as refusal
use Rattle.trace_reader.specs.declared.error.CutError.{CutError}
use Rattle.trace_reader.specs.declared.error.CutError.TheVariants as cut_error
use Rattle.trace_reader.specs.Meaning.{Item, item_of_line, refused}
use Rattle.trace_reader.specs.Items.{pieces, items_from, items_of}
use Rattle.trace_reader.specs.Cutter.{CutterState, StepsOn, Cuts, GivesNone, with_source}
use Rattle.trace_run.specs.Lines.{whole_lines}
use Rattle.trace_run.specs.Program.{ProgramMeaning, RunResult, Report, end_of_trace, refused_line, takes_item, by_effect, ends_so, behind, run, report_on, report_by}
use Rattle.trace_run.specs.Outcome.{Outside, sink_change, TraceReport, trace_report, of_bytes, IsTrace, ReportsTrace, EndsAs, AppendsPartOfReport}
use Rattle.trace_run.specs.Turn.{EndsRun}
use Rattle.report.proofs.Pieces.{AppendsPart-behind}
use Rattle.trace_reader.proofs.Pieces.{items_from-append, items_from-given, items_from-line_too_long, items_from-trace_too_long}
use Rattle.trace_run.proofs.Runs.{run-takes, run-nil, run-refused, run-leads_to, report_on-text, report_on-behind}
use Rattle.trace_run.proofs.Lines.{pieces-whole_lines, whole_lines-cut}
use Rattle.trace_run.specs.Progress.{RunsTo, IsWholeLine, Progress, InProgress, items_so_far}
use Rattle.trace_run.proofs.Progress.{end_now, cuts_of, still_at_end}

pub Rose-earlier : (start before now : ℕ) → start ≤ before → Rose before now → Rose start now
Rose-earlier start before now le rose = omega arith

-- a run that ends ends so where the same is to be reported
pub EndsRun-at : (at_end : Bool) (sink sink' : Stream) (r r' : RunResult) (status : Status) → r' ≡ r →
    EndsRun at_end (sink_change sink sink') (report_on r) status → EndsRun at_end (sink_change sink sink') (report_on r') status
EndsRun-at at_end sink sink' r r' status same ends = subst (λ (x : RunResult). EndsRun at_end (sink_change sink sink') (report_on x) status) (sym same) ends

-- ---- the bytes of the trace

-- The trace is what was taken and the rest, which is empty where the end was read. A source that doesn't tell its bytes
-- may as well have held what was taken, and no more.
pub rest_of : (start after : Option (List ℕ)) (taken : List ℕ) (AtEnd : Type 0) → Consumes start after taken →
    (AtEnd → IfSome start (λ bytes. IsAtEnd after)) →
    (rest : List ℕ) × IfSome start (λ left. left ≡ taken ++ rest) × (AtEnd → rest ≡ []) × Consumes start after taken
rest_of None after taken AtEnd consumed end = ([], tt, (λ _. refl), consumed)
rest_of (Some xs) None taken AtEnd consumed end = absurd consumed
rest_of (Some xs) (Some rest) taken AtEnd consumed end = (rest, consumed, end, consumed)

-- ---- what stands after a run

-- The items of the whole trace are those of the pieces so far and then these.
pub record RunOfAll (limit : ℕ) (start : Outside) (done : List (List ℕ)) (bytes : List ℕ) (more : List Item) : Type 0 where
  pub trace : IsTrace start bytes
  pub items : items_of limit bytes ≡ items_so_far limit done ++ more

module _ {State : Type 0} (p : ProgramMeaning State) (limit : ℕ) (first : State) (start now now' : Outside) (s : State) (n : ℕ)
    (done : List (List ℕ)) (text : List ℕ) (bytes : List ℕ) (more : List Item)
    (before : Appends start.sink.bytes now.sink.bytes text)
    (ran : RunsTo p first (items_so_far limit done) text s n)
    (all : RunOfAll limit start done bytes more) where
  abbrev rest : RunResult
  rest = run p s n more

  abbrev whole : Report
  whole = report_by p first (items_of limit bytes)

  whole_ran : run p first 0 (items_of limit bytes) ≡ behind text rest
  whole_ran = ap (run p first 0) all.items ∙ ran.on more

  whole_report : whole ≡ report_on (behind text rest)
  whole_report = ap report_on whole_ran

  whole_text : whole.text ≡ text ++ (report_on rest).text
  whole_text = ap (λ (r : Report). r.text) whole_report ∙ report_on-text text rest

  whole_status : whole.status ≡ (report_on rest).status
  whole_status = ap (λ (r : Report). r.status) whole_report ∙ (report_on-behind text rest).0

  whole_halted : whole.is_halted ≡ (report_on rest).is_halted
  whole_halted = ap (λ (r : Report). r.is_halted) whole_report ∙ (report_on-behind text rest).1

  appends_whole : Appends now.sink.bytes now'.sink.bytes (report_on rest).text → Appends start.sink.bytes now'.sink.bytes whole.text
  appends_whole after =
      subst (λ (t : List ℕ). Appends start.sink.bytes now'.sink.bytes t) (sym whole_text) (Appends-trans _ _ _ _ _ before after)

  appends_part : AppendsPart now.sink.bytes now'.sink.bytes (report_on rest).text → AppendsPartOfReport (trace_report limit (report_by p first)) start now'
  appends_part part = record {
    bytes = bytes;
    trace = all.trace;
    part = AppendsPart-behind start.sink.bytes now.sink.bytes now'.sink.bytes text _ _ whole_text before part;
  }

  read_or_halted : (at_end : Bool) → (IsTrue at_end → Consumes start.source.bytes now'.source.bytes bytes) → IsTrue (at_end || (report_on rest).is_halted) →
      Consumes start.source.bytes now'.source.bytes bytes ⊎ IsTrue whole.is_halted
  read_or_halted true end either = inl (end refl)
  read_or_halted false end either = inr (subst IsTrue (sym whole_halted) either)

  reports : (at_end : Bool) (status : Status) → (IsTrue at_end → Consumes start.source.bytes now'.source.bytes bytes) →
      IsTrue (at_end || (report_on rest).is_halted) → (report_on rest).status ≡ status →
      Appends now.sink.bytes now'.sink.bytes (report_on rest).text → ReportsTrace (trace_report limit (report_by p first)) start now' status
  reports at_end status end either is appended = record {
    bytes = bytes;
    trace = all.trace;
    read = read_or_halted at_end end either;
    appended = appends_whole appended;
    status = sym (whole_status ∙ is);
  }

  pub ended : (at_end : Bool) (status : Status) → start.sink.faults ≤ now.sink.faults → (IsTrue at_end → Consumes start.source.bytes now'.source.bytes bytes) →
      EndsRun at_end (sink_change now.sink now'.sink) (report_on rest) status → EndsAs (trace_report limit (report_by p first)) start now' status
  ended at_end Clean later end ends = reports at_end Clean end ends.0 ends.1 ends.2
  ended at_end Violated later end ends = reports at_end Violated end ends.0 ends.1 ends.2
  ended at_end TraceFault later end ends = record {
    bytes = bytes;
    trace = all.trace;
    refused = whole_status ∙ ends.0;
    appended = appends_whole ends.1;
  }
  ended at_end ReadFault later end ends = absurd ends
  ended at_end WriteFault later end ends = (Rose-earlier _ _ _ later ends.0, appends_part ends.1)
  ended at_end NoMemory later end ends = appends_part ends
  ended at_end Usage later end ends = absurd ends

-- ---- the run of the whole trace, after one more step of the cutter

pub record Trace (limit : ℕ) (start now' : Outside) (c c' : CutterState) (took taken : List ℕ) (done : List (List ℕ)) : Type 0 where
  pub rest : List ℕ
  pub all : RunOfAll limit start done ((taken ++ took) ++ rest) (items_from limit c.given (pieces ((c.pending ++ took) ++ rest)))
  pub nothing : IsTrue c'.at_end → rest ≡ []
  pub read : Consumes start.source.bytes now'.source.bytes (taken ++ took)

trace_of :
    {State : Type 0} (p : ProgramMeaning State) (limit : ℕ) (first : State) (start now now' : Outside) (c c' : CutterState) (s : State) (n : ℕ)
    (took taken : List ℕ) (done : List (List ℕ)) (text : List ℕ) (result : Result (Option ℕ) CutError) →
    Progress p limit first start now c s n taken done text → StepsOn (with_source c now.source) (with_source c' now'.source) result took →
    Trace limit start now' c c' took taken done
trace_of p limit first start now now' c c' s n took taken done text result so_far steps =
    let (rest, left, nothing, read) =
    rest_of start.source.bytes now'.source.bytes (taken ++ took) (IsTrue c'.at_end) (Consumes-trans _ _ _ _ _ so_far.consumed steps.consumes)
    (end_now p limit first start now now' c c' s n taken took done text result so_far steps) in
    let none : IsTrue c.at_end → took ++ rest ≡ [] = λ t. ap (λ x. x ++ rest) (steps.stays_at_end t).1 ∙ nothing (steps.stays_at_end t).0 in
    let cut : pieces ((taken ++ took) ++ rest) ≡ done ++ pieces ((c.pending ++ took) ++ rest) =
    ap pieces (append_assoc taken took rest) ∙ so_far.cut (took ++ rest) none ∙ ap (λ x. done ++ pieces x) (sym (append_assoc c.pending took rest)) in
    let others = pieces ((c.pending ++ took) ++ rest) in
    record {
      rest = rest;
      all = record {
        trace = left;
        items =
            ap (λ ps. items_from limit 0 ps) cut
            ∙ items_from-append limit 0 done others
            ∙ ap (λ b. items_from limit 0 done ++ items_from limit b others) (omega (arith, so_far.given));
      };
      nothing = nothing;
      read = read;
    }

-- ---- the run ends with a status that the last step told

run-none : {State : Type 0} (p : ProgramMeaning State) (limit : ℕ) (s : State) (n given : ℕ) → run p s n (items_from limit given (pieces [])) ≡ ends_so (end_of_trace (p.ends s))
unfolding items_from pieces
run-none p limit s n given = run-nil p s n

-- the trace was read to its end
pub finished : {State : Type 0} (p : ProgramMeaning State) (limit : ℕ) (first : State) (start now now' : Outside) (c c' : CutterState) (s : State) (n : ℕ) (took : List ℕ) (status : Status) →
    InProgress p limit first start now c s n → StepsOn (with_source c now.source) (with_source c' now'.source) (Ok None) took →
    EndsRun true (sink_change now.sink now'.sink) (report_on (ends_so (end_of_trace (p.ends s)))) status → EndsAs (trace_report limit (report_by p first)) start now' status
finished p limit first start now now' c c' s n took status progress steps ends =
    let so_far = progress.so_far in
    let cut : Cuts (with_source c now.source) (with_source c' now'.source) (c.pending ++ took) (Ok None) = cuts_of c.stopped _ _ so_far.stopped steps.cuts in
    let trace = trace_of p limit first start now now' c c' s n took progress.taken progress.done progress.text _ so_far steps in
    let none : trace.rest ≡ [] = trace.nothing cut.1.at_end in
    let nothing : (c.pending ++ took) ++ trace.rest ≡ [] = ap (λ t. t ++ trace.rest) (sym cut.0.pending ∙ cut.1.nothing_left) ∙ none in
    let last : run p s n (items_from limit c.given (pieces ((c.pending ++ took) ++ trace.rest))) ≡ ends_so (end_of_trace (p.ends s)) =
    ap (λ t. run p s n (items_from limit c.given (pieces t))) nothing ∙ run-none p limit s n c.given in
    let all_read : progress.taken ++ took ≡ (progress.taken ++ took) ++ trace.rest = sym (append-nil (progress.taken ++ took)) ∙ ap (λ t. (progress.taken ++ took) ++ t) (sym none) in
    ended p limit first start now now' s n progress.done progress.text _ _ so_far.written so_far.ran trace.all true status so_far.writes
    (λ t. subst (λ (bytes : List ℕ). Consumes start.source.bytes now'.source.bytes bytes) all_read trace.read)
    (EndsRun-at true now.sink now'.sink _ _ status last ends)

-- the bytes that the cutter holds are refused, whatever follows them
refused_cut :
    {State : Type 0} (p : ProgramMeaning State) (limit : ℕ) (first : State) (start now now' : Outside) (c c' : CutterState) (s : State) (n : ℕ)
    (took : List ℕ) (r : Refusal) (result : Result (Option ℕ) CutError) (status : Status) →
    InProgress p limit first start now c s n → StepsOn (with_source c now.source) (with_source c' now'.source) result took →
    ((rest : List ℕ) → (more : List Item) × (items_from limit c.given (pieces ((c.pending ++ took) ++ rest)) ≡ refused r ∷ more)) →
    EndsRun false (sink_change now.sink now'.sink) (report_on (ends_so (refused_line (n + 1) r))) status → EndsAs (trace_report limit (report_by p first)) start now' status
refused_cut p limit first start now now' c c' s n took r result status progress steps refuses ends =
    let so_far = progress.so_far in
    let trace = trace_of p limit first start now now' c c' s n took progress.taken progress.done progress.text _ so_far steps in
    let items = refuses trace.rest in
    let last : run p s n (items_from limit c.given (pieces ((c.pending ++ took) ++ trace.rest))) ≡ ends_so (refused_line (n + 1) r) =
    ap (run p s n) items.1 ∙ run-refused p s n r items.0 in
    ended p limit first start now now' s n progress.done progress.text _ _ so_far.written so_far.ran trace.all false status so_far.writes
    (λ t. absurd (false≢true t))
    (EndsRun-at false now.sink now'.sink _ _ status last ends)

-- the line that was given ends the run
line_ends_by : {State : Type 0} (p : ProgramMeaning State) (limit : ℕ) (first : State) (start now now' : Outside) (c c' : CutterState) (s : State) (n number : ℕ) (took : List ℕ) (status : Status) →
    InProgress p limit first start now c s n → StepsOn (with_source c now.source) (with_source c' now'.source) (Ok (Some number)) took →
    ((on : State → RunResult) → EndsRun false (sink_change now.sink now'.sink) (report_on (by_effect (n + 1) (takes_item p s (item_of_line c'.line)) on)) status) →
    EndsAs (trace_report limit (report_by p first)) start now' status
line_ends_by p limit first start now now' c c' s n number took status progress steps ends =
    let so_far = progress.so_far in
    let cut : Cuts (with_source c now.source) (with_source c' now'.source) (c.pending ++ took) (Ok (Some number)) = cuts_of c.stopped _ _ so_far.stopped steps.cuts in
    let trace = trace_of p limit first start now now' c c' s n took progress.taken progress.done progress.text _ so_far steps in
    let others = items_from limit c'.given (pieces (c'.pending ++ trace.rest)) in
    let items : items_from limit c.given (pieces ((c.pending ++ took) ++ trace.rest)) ≡ item_of_line c'.line ∷ others =
    let F : ℕ → Type 0 = λ l. items_from l c.given (pieces ((c.pending ++ took) ++ trace.rest)) ≡ item_of_line c'.line ∷ items_from l c'.given (pieces (c'.pending ++ trace.rest)) in
    subst F so_far.same_limit (items_from-given c c' (c.pending ++ took) number cut trace.rest trace.nothing) in
    let last : run p s n (items_from limit c.given (pieces ((c.pending ++ took) ++ trace.rest))) ≡ by_effect (n + 1) (takes_item p s (item_of_line c'.line)) (λ next. run p next (n + 1) others) =
    ap (run p s n) items ∙ run-takes p s n (item_of_line c'.line) others in
    ended p limit first start now now' s n progress.done progress.text _ _ so_far.written so_far.ran trace.all false status so_far.writes
    (λ t. absurd (false≢true t))
    (EndsRun-at false now.sink now'.sink _ _ status last (ends (λ next. run p next (n + 1) others)))

pub line_ends :
    {State : Type 0} (p : ProgramMeaning State) (limit : ℕ) (first : State) (start now now' : Outside) (c c' : CutterState) (s : State) (n number : ℕ) (took line : List ℕ) (status : Status) →
    InProgress p limit first start now c s n → StepsOn (with_source c now.source) (with_source c' now'.source) (Ok (Some number)) took → line ≡ c'.line →
    ((on : State → RunResult) → EndsRun false (sink_change now.sink now'.sink) (report_on (by_effect (n + 1) (takes_item p s (item_of_line line)) on)) status) →
    EndsAs (trace_report limit (report_by p first)) start now' status
line_ends p limit first start now now' c c' s n number took line status progress steps e ends =
    line_ends_by p limit first start now now' c c' s n number took status progress steps
    (λ on. subst (λ (l : List ℕ). EndsRun false (sink_change now.sink now'.sink) (report_on (by_effect (n + 1) (takes_item p s (item_of_line l)) on)) status) e (ends on))

-- a line that is too long, and a trace that is too long
refused_there : (limit : ℕ) (c c' : CutterState) (bytes rest : List ℕ) (r : Refusal) → c'.limit ≡ limit → c'.given ≡ c.given → c'.pending ≡ bytes →
    (more : List Item) × (items_from c'.limit c'.given (pieces (c'.pending ++ rest)) ≡ refused r ∷ more) → (more : List Item) × (items_from limit c.given (pieces (bytes ++ rest)) ≡ refused r ∷ more)
refused_there limit c c' bytes rest r same given pending (more, first) = (
  more,
  ap (λ l. items_from l c.given (pieces (bytes ++ rest))) (sym same) ∙ ap (λ b. items_from c'.limit b (pieces (bytes ++ rest))) (sym given)
      ∙ ap (λ t. items_from c'.limit c'.given (pieces (t ++ rest))) (sym pending) ∙ first,
)

module _ {State : Type 0} (p : ProgramMeaning State) (limit : ℕ) (first : State) (start now now' : Outside) (c c' : CutterState) (s : State) (n : ℕ) (took : List ℕ) (status : Status)
    (progress : InProgress p limit first start now c s n) where
  abbrev Refuses : CutError → Type 0
  Refuses e = StepsOn (with_source c now.source) (with_source c' now'.source) (Err e) took

  abbrev EndsThere : Refusal → Type 0
  EndsThere r = EndsRun false (sink_change now.sink now'.sink) (report_on (ends_so (refused_line (n + 1) r))) status

  abbrev EndsAll : Type 0
  EndsAll = EndsAs (trace_report limit (report_by p first)) start now' status

  cut_at : (e : CutError) → Refuses e → Cuts (with_source c now.source) (with_source c' now'.source) (c.pending ++ took) (Err e)
  cut_at e steps = cuts_of c.stopped _ _ progress.so_far.stopped steps.cuts

  stays_there : (e : CutError) (r : Refusal) → Refuses e → GivesNone c c' (c.pending ++ took) →
      ((rest : List ℕ) → (more : List Item) × (items_from c'.limit c'.given (pieces (c'.pending ++ rest)) ≡ refused r ∷ more)) → EndsThere r → EndsAll
  stays_there e r steps none refuses ends =
      refused_cut p limit first start now now' c c' s n took r _ status progress steps
      (λ rest. refused_there limit c c' (c.pending ++ took) rest r (steps.limit ∙ progress.so_far.same_limit) none.given none.pending (refuses rest))
      ends

  pub line_too_long : Refuses cut_error.LineTooLong → EndsThere refusal.LineTooLong → EndsAll
  line_too_long steps ends =
      let cut = cut_at cut_error.LineTooLong steps in
      stays_there cut_error.LineTooLong refusal.LineTooLong steps cut.0 (λ rest. items_from-line_too_long c' rest cut.1.too_long) ends

  pub trace_too_long : Refuses cut_error.TraceTooLong → EndsThere refusal.TraceTooLong → EndsAll
  trace_too_long steps ends =
      let cut = cut_at cut_error.TraceTooLong steps in
      let within : c'.given ≤ c'.limit = omega (arith, cut.0.given, progress.so_far.within, steps.limit, progress.so_far.same_limit) in
      stays_there cut_error.TraceTooLong refusal.TraceTooLong steps cut.0 (λ rest. items_from-trace_too_long c' rest within cut.1.past_limit) ends

-- ---- a read that failed

-- a read failed, and the run ends there
pub cut_short : {State : Type 0} (p : ProgramMeaning State) (limit : ℕ) (first : State) (start now now' : Outside) (c c' : CutterState) (s : State) (n : ℕ) (took : List ℕ) →
    InProgress p limit first start now c s n → StepsOn (with_source c now.source) (with_source c' now'.source) (Err cut_error.ReadFault) took → now'.sink ≡ now.sink →
    EndsAs (trace_report limit (report_by p first)) start now' ReadFault
cut_short p limit first start now now' c c' s n took progress steps same =
    let so_far = progress.so_far in
    let done = progress.done in
    let cut : Cuts (with_source c now.source) (with_source c' now'.source) (c.pending ++ took) (Err cut_error.ReadFault) = cuts_of c.stopped _ _ so_far.stopped steps.cuts in
    let waits = cut.1 in
    let all : AllByRecursion IsWholeLine done = so_far.whole (still_at_end c.at_end c'.at_end took (Unit {0}) steps.stays_at_end waits.not_at_end) in
    let split : progress.taken ++ took ≡ concat done ++ c'.pending =
    ap (λ t. t ++ took) so_far.split ∙ append_assoc (concat done) c.pending took ∙ ap (λ t. concat done ++ t) (sym cut.0.pending) in
    let cut_now : pieces (progress.taken ++ took) ≡ done ++ pieces c'.pending =
    so_far.cut took (λ t. (steps.stays_at_end t).1) ∙ ap (λ t. done ++ pieces t) (sym cut.0.pending) in
    let whole : whole_lines (progress.taken ++ took) ≡ concat done = whole_lines-cut (progress.taken ++ took) c'.pending done cut_now all waits.front.one_line in
    let items : items_of limit (whole_lines (progress.taken ++ took)) ≡ items_so_far limit done =
    ap (items_of limit) whole ∙ ap (λ ps. items_from limit 0 ps) (pieces-whole_lines done all) in
    let ran : run p first 0 (items_of limit (whole_lines (progress.taken ++ took))) ≡ behind progress.text (ends_so (end_of_trace (p.ends s))) =
    ap (run p first 0) items ∙ run-leads_to p first s (items_so_far limit done) progress.text n so_far.ran in (
      Rose-earlier _ _ _ so_far.reads cut.2,
      record {
        bytes = progress.taken ++ took;
        read = Consumes-trans _ _ _ _ _ so_far.consumed steps.consumes;
        goes_on = at_end _ progress.text ran;
        tail = omega (arith, ap length split, ap length whole, length-append (concat done) c'.pending, waits.front.short);
        within = omega (arith, ap length split, length-append (concat done) c'.pending, waits.front.within, cut.0.given, so_far.given, so_far.within, steps.limit, so_far.same_limit);
        part = subst (λ (k : Stream). Appends start.sink.bytes k.bytes (report_by p first (items_of limit (whole_lines (progress.taken ++ took)))).part) (sym same)
            (subst (λ (t : List ℕ). Appends start.sink.bytes now.sink.bytes t) (sym (part _ progress.text ran)) so_far.written);
      },
    )
  where
    at_end : (r : RunResult) (text : List ℕ) → r ≡ behind text (ends_so (end_of_trace (p.ends s))) → IsTrue (report_on r).is_at_end
    at_end r text e = ap (λ (x : RunResult). (report_on x).is_at_end) e

    part : (r : RunResult) (text : List ℕ) → r ≡ behind text (ends_so (end_of_trace (p.ends s))) → (report_on r).part ≡ text
    part r text e = ap (λ (x : RunResult). x.texts) e ∙ append-nil text

-- the program was out of memory before anything was written
pub nothing_written : (report : TraceReport) (start now : Outside) → now.sink ≡ start.sink → EndsAs report start now NoMemory
nothing_written report start now same =
    let (bytes, trace) = some_trace start.source.bytes in
    record {
      bytes = bytes;
      trace = trace;
      part = subst (λ (k : Stream). AppendsPart start.sink.bytes k.bytes (of_bytes report bytes).text) (sym same) (0, omega arith, Appends-nil start.sink.bytes);
    }
  where
    some_trace : (left : Option (List ℕ)) → (bytes : List ℕ) × IfSome left (λ told. told ≡ bytes)
    some_trace None = ([], tt)
    some_trace (Some bytes) = (bytes, refl)
