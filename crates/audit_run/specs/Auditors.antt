-- What an audit is to its auditor, and what makes its collections.
use Rattle.std.specs.Prelude.{◌≡◌, ◌<◌, Result, Ok, Err}
use Rattle.std.specs.Borrow.{MutBor}
use Rattle.heap_base.specs.declared.limits.TheConstants.{LONGEST_TRACE}
use Rattle.heap_base.specs.declared.errors.OutOfMemory.{OutOfMemory}
use Rattle.graph_meaning.specs.declared.collection.Collection.{Collection}
use Rattle.report.specs.Run.{RunRules}
use Rattle.trace_run.specs.Audits.{AuditState}
use Rattle.audit_core.specs.Audit.{Audit, next_collection, after_next}

-- where the run of this auditor stands
abbrev pub auditor_state : RunRules → Audit → AuditState
auditor_state rules a =
    record { rules = rules; heap = a.heap; totals = record { collections = a.collections; violations = a.violations } }

-- ---- what makes its collections, by what each call asks and by what it does

-- a collection may be made while fewer were made than a trace has bytes
abbrev pub MayCollect : {C : Type 0} → (C → MutBor Audit → Type 0) → Type 0
MayCollect {C} pre = (c : C) (a : MutBor Audit) → a.now.collections < LONGEST_TRACE → pre c a

-- the next collection was made, or the auditor is as it was, when out of memory
abbrev pub IsCollected : Audit → Result Collection OutOfMemory → Audit → Type 0
IsCollected a (Ok made) after = (made ≡ next_collection a) × (after ≡ record (after_next a) { cells = after.cells })
IsCollected a (Err e) after = after ≡ a

abbrev pub MakesCollections : {C : Type 0} → (C → MutBor Audit → Result Collection OutOfMemory → MutBor Audit → C → Type 0) → Type 0
MakesCollections {C} step =
    (c : C) (a : MutBor Audit) (made : Result Collection OutOfMemory) (a' : MutBor Audit) (c' : C) → step c a made a' c' → IsCollected a.now made a'.now
