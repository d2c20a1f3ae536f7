-- What follows from the statement on a run, status by status.
use Rattle.std.proofs.Common.{◌≡◌, ◌⊎◌, ⊎_elim, inl, inr, ℕ, List, [], IsTrue, Option, Some, None, IfSome, refl, sym, ◌∙◌, ap, subst, arith}
use Rattle.std.proofs.lemmas.List.{append_cancel_left, append-nil}
use Rattle.std.specs.Io.KnownBytes.{Appends, Consumes, IsAtEnd}
use Rattle.streams.specs.Causes.{Rose}
use Rattle.streams.specs.Sinks.{AppendsPart}
use Rattle.heap_base.specs.declared.status.Status.{Status}
use Rattle.heap_base.specs.declared.status.Status.TheVariants.{Clean, Violated, TraceFault, ReadFault, WriteFault, NoMemory, Usage}
use Rattle.trace_reader.specs.Meaning.{Item}
use Rattle.trace_reader.specs.Items.{items_of}
use Rattle.trace_run.specs.Lines.{whole_lines}
use Rattle.trace_run.specs.Program.{Report}
use Rattle.trace_run.specs.Outcome.{Outside, TraceReport, trace_report, of_bytes, ReportsTrace, AppendsPartOfReport, EndsAs}
use Rattle.trace_run.specs.Facts.{IsWholeReport, HasFacts, FactsFollow, NoReadFails, EqualReports}

-- the trace is that of the bytes that are told
told : (left : Option (List ℕ)) (bytes trace : List ℕ) → left ≡ Some bytes → IfSome left (λ x. x ≡ trace) → trace ≡ bytes
told None bytes trace e is = absurd (cc)
told (Some x) bytes trace e is = let same : x ≡ bytes = cc in sym is ∙ same

-- where all bytes were read, the source is at its end
at_end_of : (left after : Option (List ℕ)) (bytes trace : List ℕ) → left ≡ Some bytes → trace ≡ bytes → Consumes left after trace → IsAtEnd after
at_end_of None after bytes trace e same read = absurd (cc)
at_end_of (Some x) None bytes trace e same read = absurd read
at_end_of (Some x) (Some rest) bytes trace e same read =
    let left : x ≡ bytes = cc in
    append_cancel_left trace rest [] (sym read ∙ left ∙ sym same ∙ sym (append-nil trace))

whole_of : (report : TraceReport) (old new : Outside) (answer : Status) (bytes : List ℕ) → old.source.bytes ≡ Some bytes →
    ReportsTrace report old new answer → IsWholeReport (of_bytes report bytes) old new answer
whole_of report old new answer bytes e r =
    let same = told old.source.bytes bytes r.bytes e r.trace in
    record {
      at_end = ⊎_elim
          (λ read. inl (at_end_of old.source.bytes new.source.bytes bytes r.bytes e same read))
          (λ halted. inr (subst (λ (b : List ℕ). IsTrue ((of_bytes report b).is_halted)) same halted))
          r.read;
      appended = subst (λ (b : List ℕ). Appends old.sink.bytes new.sink.bytes ((of_bytes report b).text)) same r.appended;
      status = r.status ∙ ap (λ b. (of_bytes report b).status) same;
    }

part_of : (report : TraceReport) (old new : Outside) (bytes : List ℕ) → old.source.bytes ≡ Some bytes →
    AppendsPartOfReport report old new → AppendsPart old.sink.bytes new.sink.bytes ((of_bytes report bytes).text)
part_of report old new bytes e r =
    subst (λ (b : List ℕ). AppendsPart old.sink.bytes new.sink.bytes ((of_bytes report b).text)) (told old.source.bytes bytes r.bytes e r.trace) r.part

-- ---- a status is none but itself

neither : {A B : Type 0} {P : Type 0} → ¬ A → ¬ B → A ⊎ B → P
neither not_a not_b either = absurd (⊎_elim not_a not_b either)

-- an answer that is one of two statuses is no other
no_other : {first second answer : Status} → (answer ≡ first) ⊎ (answer ≡ second) → (s : Status) → ¬ (s ≡ first) → ¬ (s ≡ second) → ¬ (answer ≡ s)
no_other either s not_first not_second is = ⊎_elim (λ first. not_first (sym is ∙ first)) (λ second. not_second (sym is ∙ second)) either

-- a run that came to its end, whichever of the two it answers
facts_at_end : (report : Report) (old new : Outside) (answer : Status) → (answer ≡ Clean) ⊎ (answer ≡ Violated) → IsWholeReport report old new answer → HasFacts report old new answer
facts_at_end report old new answer ends w = record {
  whole = λ _. w;
  trace_fault = λ is. absurd (no_other ends TraceFault (λ x. cc) (λ x. cc) is);
  fault_report = λ is. absurd (no_other ends TraceFault (λ x. cc) (λ x. cc) is);
  hides_no_refusal = λ refused. absurd (no_other ends TraceFault (λ x. cc) (λ x. cc) (w.status ∙ refused));
  read_fault = λ is. absurd (no_other ends ReadFault (λ x. cc) (λ x. cc) is);
  write_fault = λ is. absurd (no_other ends WriteFault (λ x. cc) (λ x. cc) is);
  part = neither (no_other ends WriteFault (λ x. cc) (λ x. cc)) (no_other ends NoMemory (λ x. cc) (λ x. cc));
  taken = no_other ends Usage (λ x. cc) (λ x. cc);
  complete = λ _ _ _. ⊎_elim inl (λ violated. inr (inl violated)) ends;
}

-- a run that appended a part of its report: a write failed, or memory ran out
module _ (report : Report) (old new : Outside) (answer : Status) (fails : (answer ≡ WriteFault) ⊎ (answer ≡ NoMemory)) where
  facts_of_part : (answer ≡ WriteFault → Rose old.sink.faults new.sink.faults) → AppendsPart old.sink.bytes new.sink.bytes report.text → HasFacts report old new answer
  facts_of_part rose part = record {
    whole = neither (no_other fails Clean (λ x. cc) (λ x. cc)) (no_other fails Violated (λ x. cc) (λ x. cc));
    trace_fault = λ is. absurd (no_other fails TraceFault (λ x. cc) (λ x. cc) is);
    fault_report = λ is. absurd (no_other fails TraceFault (λ x. cc) (λ x. cc) is);
    hides_no_refusal = λ _. (no_other fails Clean (λ x. cc) (λ x. cc), no_other fails Violated (λ x. cc) (λ x. cc));
    read_fault = λ is. absurd (no_other fails ReadFault (λ x. cc) (λ x. cc) is);
    write_fault = rose;
    part = λ _. part;
    taken = no_other fails Usage (λ x. cc) (λ x. cc);
    complete = λ _ _ none. ⊎_elim (λ write. absurd (none (rose write))) (λ memory. inr (inr memory)) fails;
  }

facts_of : (report : TraceReport) (old new : Outside) (answer : Status) (bytes : List ℕ) → old.source.bytes ≡ Some bytes →
    EndsAs report old new answer → HasFacts (of_bytes report bytes) old new answer
facts_of report old new Clean bytes e r = facts_at_end (of_bytes report bytes) old new Clean (inl refl) (whole_of report old new Clean bytes e r)
facts_of report old new Violated bytes e r =
    facts_at_end (of_bytes report bytes) old new Violated (inr refl) (whole_of report old new Violated bytes e r)
facts_of report old new TraceFault bytes e r =
    let same = told old.source.bytes bytes r.bytes e r.trace in
    let refused : (of_bytes report bytes).status ≡ TraceFault = ap (λ b. (of_bytes report b).status) (sym same) ∙ r.refused in
    record {
      whole = neither (λ is. cc) (λ is. cc);
      trace_fault = λ _. refused;
      fault_report = λ _. subst (λ (b : List ℕ). Appends old.sink.bytes new.sink.bytes ((of_bytes report b).text)) same r.appended;
      hides_no_refusal = λ _. ((λ is. cc), (λ is. cc));
      read_fault = λ is. absurd (cc);
      write_fault = λ is. absurd (cc);
      part = neither (λ is. cc) (λ is. cc);
      taken = λ is. cc;
      complete = λ none _ _. absurd (none refused);
    }
facts_of report old new ReadFault bytes e r = record {
  whole = neither (λ is. cc) (λ is. cc);
  trace_fault = λ is. absurd (cc);
  fault_report = λ is. absurd (cc);
  hides_no_refusal = λ _. ((λ is. cc), (λ is. cc));
  read_fault = λ _. r.0;
  write_fault = λ is. absurd (cc);
  part = neither (λ is. cc) (λ is. cc);
  taken = λ is. cc;
  complete = λ _ none _. absurd (none r.0);
}
facts_of report old new WriteFault bytes e r =
    facts_of_part (of_bytes report bytes) old new WriteFault (inl refl) (λ _. r.0) (part_of report old new bytes e r.1)
facts_of report old new NoMemory bytes e r =
    facts_of_part (of_bytes report bytes) old new NoMemory (inr refl) (λ is. absurd (cc)) (part_of report old new bytes e r)
facts_of report old new Usage bytes e r = absurd r

pub facts_follow : FactsFollow
facts_follow report old new answer bytes e r = (facts_of report old new answer bytes e r, λ is. (subst (EndsAs report old new) is r).1)

-- ---- no count of faults, no failed read

pub no_read_fails : NoReadFails
no_read_fails report old new bytes left ended = absurd (rose_from_none ended.0)
  where
    rose_from_none : Rose 0 0 → ⊥
    rose_from_none rose = omega (arith, rose)

-- ---- equal reports

module _ (limit : ℕ) (of by : List Item → Report) (same : (items : List Item) → of items ≡ by items) where
  text-equal : (bytes : List ℕ) → (of_bytes (trace_report limit of) bytes).text ≡ (of_bytes (trace_report limit by) bytes).text
  text-equal bytes = ap (λ (r : Report). r.text) (same (items_of limit bytes))

  status-equal : (bytes : List ℕ) → (of_bytes (trace_report limit of) bytes).status ≡ (of_bytes (trace_report limit by) bytes).status
  status-equal bytes = ap (λ (r : Report). r.status) (same (items_of limit bytes))

  whole-equal : (old new : Outside) (answer : Status) → ReportsTrace (trace_report limit of) old new answer → ReportsTrace (trace_report limit by) old new answer
  whole-equal old new answer r = record {
    bytes = r.bytes;
    trace = r.trace;
    read = ⊎_elim inl (λ halted. inr (subst (λ (x : Report). IsTrue x.is_halted) (same (items_of limit r.bytes)) halted)) r.read;
    appended = subst (λ (t : List ℕ). Appends old.sink.bytes new.sink.bytes t) (text-equal r.bytes) r.appended;
    status = r.status ∙ status-equal r.bytes;
  }

  part-equal : (old new : Outside) → AppendsPartOfReport (trace_report limit of) old new → AppendsPartOfReport (trace_report limit by) old new
  part-equal old new r = record {
    bytes = r.bytes;
    trace = r.trace;
    part = subst (λ (t : List ℕ). AppendsPart old.sink.bytes new.sink.bytes t) (text-equal r.bytes) r.part;
  }

  pub ended-equal : (old new : Outside) (answer : Status) → EndsAs (trace_report limit of) old new answer → EndsAs (trace_report limit by) old new answer
  ended-equal old new Clean r = whole-equal old new Clean r
  ended-equal old new Violated r = whole-equal old new Violated r
  ended-equal old new TraceFault r = record {
    bytes = r.bytes;
    trace = r.trace;
    refused = sym (status-equal r.bytes) ∙ r.refused;
    appended = subst (λ (t : List ℕ). Appends old.sink.bytes new.sink.bytes t) (text-equal r.bytes) r.appended;
  }
  ended-equal old new ReadFault r =
      let now : IsTrue (by (items_of limit (whole_lines r.1.bytes))).is_at_end × Appends old.sink.bytes new.sink.bytes (by (items_of limit (whole_lines r.1.bytes))).part =
      subst (λ (x : Report). IsTrue x.is_at_end × Appends old.sink.bytes new.sink.bytes x.part) (same (items_of limit (whole_lines r.1.bytes))) (r.1.goes_on, r.1.part) in
      (r.0, record { bytes = r.1.bytes; read = r.1.read; goes_on = now.0; tail = r.1.tail; within = r.1.within; part = now.1 })
  ended-equal old new WriteFault r = (r.0, part-equal old new r.1)
  ended-equal old new NoMemory r = part-equal old new r
  ended-equal old new Usage r = absurd r

pub equal_reports : EqualReports
equal_reports limit of by old new answer same r = ended-equal limit of by same old new answer r
