-- Nothing is written before the end.
use Rattle.std.proofs.Common.{◌≡◌, ℕ, ◌+◌, List, [], ◌∷◌, ◌++◌, Option, None, Some, Result, Ok, Err, refl, ap, ◌∙◌, subst, append-nil}
use Rattle.std.specs.Io.KnownBytes.{Appends, Keeps}
use Rattle.heap_base.specs.Limits.{usual_limits}
use Rattle.heap_base.specs.declared.status.Status.{Status}
use Rattle.heap_base.specs.declared.status.Status.TheVariants.{ReadFault}
use Rattle.graph_meaning.specs.declared.event.Event.{Event}
use Rattle.graph_meaning.specs.declared.event.Event.TheVariants.{Alloc, Store, SetWeak, Root, AssertDead, StartRegion, AssertAllDead, AssertInstances, AssertUnshared, AssertOwnedBy, Collect}
use Rattle.graph_meaning.specs.declared.refusal.Refusal.{Refusal}
use Rattle.graph_meaning.specs.Heap.{Heap, empty_heap}
use Rattle.graph_meaning.specs.Step.{step}
use Rattle.trace_reader.specs.Meaning.{Item, blank, event, refused}
use Rattle.trace_reader.specs.Items.{items_of}
use Rattle.trace_run.specs.Lines.{whole_lines}
use Rattle.trace_run.specs.Program.{RunResult, by_effect, takes_item, run, report_by}
use Rattle.trace_run.specs.Outcome.{Outside, EndsAs, RefusesWords, trace_report}
use Rattle.heap_snapshot.specs.declared.from_trace.TheConstants.{LONGEST_TRACE}
use Rattle.heap_snapshot.specs.FromTrace.{effect_of_step, takes, snapshot_meaning}
use Rattle.heap_snapshot.specs.Laws.{WritesAtTheEnd}
use Rattle.heap_snapshot.specs.ToTrace.{ConversionEndsAs}

-- ---- no text is due

module _ (line : ℕ) (on : Heap → RunResult) (later : (h : Heap) → (on h).texts ≡ []) where
  step_silent : (found : Result Heap Refusal) → (by_effect line (effect_of_step found) on).texts ≡ []
  step_silent (Ok h) = later h
  step_silent (Err r) = refl

  event_silent : (h : Heap) (e : Event) → (by_effect line (takes h e) on).texts ≡ []
  event_silent h (Alloc id kind slots thread) = step_silent (step h (Alloc id kind slots thread))
  event_silent h (Store at slot to) = step_silent (step h (Store at slot to))
  event_silent h (Root name to) = step_silent (step h (Root name to))
  event_silent h (SetWeak at slot weak) = refl
  event_silent h (AssertDead id) = refl
  event_silent h (StartRegion thread) = refl
  event_silent h (AssertAllDead thread) = refl
  event_silent h (AssertInstances kind limit) = refl
  event_silent h (AssertUnshared id) = refl
  event_silent h (AssertOwnedBy owner ownee) = refl
  event_silent h Collect = refl

  item_silent : (h : Heap) (item : Item) → (by_effect line (takes_item snapshot_meaning h item) on).texts ≡ []
  item_silent h blank = later h
  item_silent h (event e) = event_silent h e
  item_silent h (refused r) = refl

run_silent : (h : Heap) (lines : ℕ) (items : List Item) → (run snapshot_meaning h lines items).texts ≡ []
unfolding run
run_silent h lines [] = refl
run_silent h lines (item ∷ items) =
    item_silent (lines + 1) (λ next. run snapshot_meaning next (lines + 1) items) (λ next. run_silent next (lines + 1) items) h item

pub writes_at_the_end : WritesAtTheEnd
writes_at_the_end items = run_silent (empty_heap usual_limits) 0 items

-- ---- where a read failed

nothing_appended : (old new : Option (List ℕ)) {text : List ℕ} → text ≡ [] → Appends old new text → Keeps old new
nothing_appended None new none appends = tt
nothing_appended (Some xs) None none appends = absurd appends
nothing_appended (Some xs) (Some ys) none appends = appends ∙ ap (λ (t : List ℕ). xs ++ t) none ∙ append-nil xs

module _ (old new : Outside) {status : Status} (failed : status ≡ ReadFault) where
  pub unwritten_from_trace : EndsAs (trace_report LONGEST_TRACE (report_by snapshot_meaning (empty_heap usual_limits))) old new status → Keeps old.sink.bytes new.sink.bytes
  unwritten_from_trace ended =
      let cut = (subst (λ (s : Status). EndsAs (trace_report LONGEST_TRACE (report_by snapshot_meaning (empty_heap usual_limits))) old new s) failed ended).1 in
      nothing_appended old.sink.bytes new.sink.bytes (writes_at_the_end (items_of LONGEST_TRACE (whole_lines cut.bytes))) cut.part

  pub unwritten_to_trace : ConversionEndsAs old new status → Keeps old.sink.bytes new.sink.bytes
  unwritten_to_trace converted = (subst (λ (s : Status). ConversionEndsAs old new s) failed converted).1

  pub unwritten_usage : (usage : List ℕ) → RefusesWords usage old new status → Keeps old.sink.bytes new.sink.bytes
  unwritten_usage usage refuses = absurd (subst (λ (s : Status). RefusesWords usage old new s) failed refuses)
