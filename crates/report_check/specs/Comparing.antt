-- A comparison that is under way.
use Rattle.std.specs.Prelude.{◌≡◌, ◌≢◌, ℕ, ◌≤◌, List, [], ◌++◌, length, take, slice_get, Option, Some, None, IfSome, IfNone, option_to_list}
use Rattle.std.specs.Io.KnownBytes.{Consumes}
use Rattle.heap_base.specs.declared.status.Status.{Status}
use Rattle.heap_base.specs.declared.status.Status.TheVariants.{Clean, Violated, TraceFault, ReadFault, WriteFault, NoMemory, Usage}
use Rattle.report_check.specs.Differences.{IsFirstDifference}
use Rattle.report_check.specs.declared.compared.Compared.{Compared}
use Rattle.report_check.specs.declared.compared.Compared.TheVariants.{Equal, Differs}

-- The source of the report; what was read of it and is not compared yet; how many bytes were equal; the byte behind them that was taken, where
-- the report has another there, or none; and how many writes failed although no read did.
pub record ComparisonState (S : Type 0) : Type 0 where
  pub report : S
  pub pending : List ℕ
  pub place : ℕ
  pub other : Option ℕ
  pub refused : ℕ

-- nothing was read
abbrev pub fresh_comparison : {S : Type 0} → S → ComparisonState S
fresh_comparison report = record { report = report; pending = []; place = 0; other = None; refused = 0 }

-- The bytes that were taken, where the report tells its own: those that were equal, and the first that was another.
abbrev pub taken_bytes : Option (List ℕ) → ℕ → Option ℕ → Option (List ℕ)
taken_bytes None place other = None
taken_bytes (Some whole) place other = Some (take place whole ++ option_to_list other)

-- What was found of the whole report, where its source told it: so many bytes of it were equal; as long as none was another, those that were
-- read behind them are pending; and the byte that was another isn't the next of it.
pub record HasFound (whole left : Option (List ℕ)) (pending : List ℕ) (place : ℕ) (other : Option ℕ) : Type 0 where
  pub within : IfSome whole (λ bytes. place ≤ length bytes)
  pub consumed : IfNone other (IfSome whole (λ bytes. Consumes (Some bytes) left (take place bytes ++ pending)))
  pub apart : IfSome other (λ byte. IfSome whole (λ bytes. slice_get bytes place ≢ Some byte))

-- How much of a text was taken, by the status of the run that wrote it: all of it, or a beginning.
abbrev pub Holds : Status → Option (List ℕ) → List ℕ → Type 0
Holds Clean taken text = IfSome taken (λ bytes. bytes ≡ text)
Holds Violated taken text = IfSome taken (λ bytes. bytes ≡ text)
Holds TraceFault taken text = IfSome taken (λ bytes. bytes ≡ text)
Holds ReadFault taken text = IfSome taken (λ bytes. (rest : List ℕ) × (bytes ++ rest ≡ text))
Holds WriteFault taken text = IfSome taken (λ bytes. (rest : List ℕ) × (bytes ++ rest ≡ text))
Holds NoMemory taken text = IfSome taken (λ bytes. (rest : List ℕ) × (bytes ++ rest ≡ text))
Holds Usage taken text = ⊥

-- What is known of the whole text and of all bytes of the source, where it tells them.
abbrev pub TellsDifference : Option (List ℕ) → List ℕ → Compared → Type 0
TellsDifference whole text Equal = IfSome whole (λ bytes. bytes ≡ text)
TellsDifference whole text (Differs n) = IfSome whole (λ bytes. IsFirstDifference bytes text n)
