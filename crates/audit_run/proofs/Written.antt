-- What was written of a trace in memory, by what stands at the status.
use Rattle.std.proofs.Common.{◌≡◌, ℕ, List, [], Option, Some, inl, inr, refl, sym, ap, subst, arith}
use Rattle.std.specs.Io.KnownBytes.{Appends}
use Rattle.heap_base.specs.declared.status.Status.{Status}
use Rattle.heap_base.specs.declared.status.Status.TheVariants.{Clean, Violated, TraceFault, ReadFault, WriteFault, NoMemory, Usage}
use Rattle.report.specs.Run.{RunRules}
use Rattle.trace_run.specs.Outcome.{Outside}
use Rattle.trace_run.specs.Program.{Report}
use Rattle.trace_run.specs.Facts.{HasFacts}
use Rattle.console.specs.Numbers.{number_of}
use Rattle.audit_run.specs.Facts.{FactsFollow}
use Rattle.audit_run.specs.InMemory.{WritesReport, defined_report}
use Rattle.audit_run.specs.Outcome.{EndsAs}

-- what an empty sink holds after these bytes were appended
held : (a b : Option (List ℕ)) (text bytes : List ℕ) → a ≡ Some [] → b ≡ Some text → Appends a b bytes → text ≡ bytes
held a b text bytes empty full appended =
    let from_empty : Appends (Some []) b bytes = subst (λ o. Appends o b bytes) empty appended in
    let to_full : Appends (Some []) (Some text) bytes = subst (λ o. Appends (Some []) o bytes) full from_empty in
    to_full

-- the facts of the run, read from the number of its status
of_facts : (report : Report) (old new : Outside) (answer : Status) (text : List ℕ) → old.sink.bytes ≡ Some [] → new.sink.bytes ≡ Some text → HasFacts report old new answer
    → WritesReport report text (number_of answer)
of_facts report old new Clean text empty full facts =
    let whole = facts.whole (inl refl) in
    record { whole = λ _. (held old.sink.bytes new.sink.bytes text report.text empty full whole.appended, ap number_of whole.status); part = λ p. absurd (elim p [ inl q ↦ omega arith | inr q ↦ omega arith ]) }
of_facts report old new Violated text empty full facts =
    let whole = facts.whole (inr refl) in
    record { whole = λ _. (held old.sink.bytes new.sink.bytes text report.text empty full whole.appended, ap number_of whole.status); part = λ p. absurd (elim p [ inl q ↦ omega arith | inr q ↦ omega arith ]) }
of_facts report old new TraceFault text empty full facts =
    record { whole = λ _. (held old.sink.bytes new.sink.bytes text report.text empty full (facts.fault_report refl), sym (ap number_of (facts.trace_fault refl))); part = λ p. absurd (elim p [ inl q ↦ omega arith | inr q ↦ omega arith ]) }
of_facts report old new ReadFault text empty full facts =
    record { whole = λ p. absurd (omega arith); part = λ p. absurd (elim p [ inl q ↦ omega arith | inr q ↦ omega arith ]) }
of_facts report old new WriteFault text empty full facts =
    let part = facts.part (inl refl) in
    record { whole = λ p. absurd (omega arith); part = λ _. (part.0, held old.sink.bytes new.sink.bytes text _ empty full part.2) }
of_facts report old new NoMemory text empty full facts =
    let part = facts.part (inr refl) in
    record { whole = λ p. absurd (omega arith); part = λ _. (part.0, held old.sink.bytes new.sink.bytes text _ empty full part.2) }
of_facts report old new Usage text empty full facts = absurd (facts.taken refl)

-- a trace in memory was audited by these rules
pub written : (rules : RunRules) (old new : Outside) (status : Status) (number : ℕ) (bytes text : List ℕ) → FactsFollow → old.source.bytes ≡ Some bytes → old.sink.bytes ≡ Some []
    → new.sink.bytes ≡ Some text → number ≡ number_of status → EndsAs rules old new status → WritesReport (defined_report rules bytes) text number
written rules old new status number bytes text facts holds empty full ended by_rules =
    subst (λ n. WritesReport (defined_report rules bytes) text n) (sym ended)
    (of_facts (defined_report rules bytes) old new status text empty full (facts rules old new status bytes holds by_rules).0)
