-- What is written of a comparison, and what follows from it.
use Rattle.std.proofs.Common.{◌≡◌, inl, inr, ℕ, List, Option, None, Some, refl, ⊎_elim}
use Rattle.std.specs.Io.KnownBytes.{Keeps}
use Rattle.heap_base.specs.declared.status.Status.{Status}
use Rattle.heap_base.specs.declared.status.Status.TheVariants.{Clean, Violated, TraceFault, ReadFault, WriteFault, NoMemory, Usage}
use Rattle.report_check.specs.declared.compared.Compared.{Compared}
use Rattle.report_check.specs.declared.compared.Compared.TheVariants.{Equal, Differs}
use Rattle.report_check.specs.Checked.{World, IsChecked, ChecksEnd}
use Rattle.report_check.specs.Reports.{TellsOfReports, Writes, comparison_status}

pub keeps-same : (held : Option (List ℕ)) → Keeps held held
keeps-same None = tt
keeps-same (Some bytes) = refl

-- a check whose comparison was written
pub written-checked : (paths : ℕ) (old new : World) (compared : Compared) (answer : Status) →
    TellsOfReports paths old.trace.bytes old.report.bytes compared → Writes compared old.sink new.sink answer → IsChecked paths old new answer
written-checked paths old new Equal Clean tells writes = ⊎_elim (λ whole. (tells, whole.1)) (λ part. absurd (let e = part.0 in cc)) writes
written-checked paths old new (Differs n) Clean tells writes = ⊎_elim (λ whole. absurd (let e = whole.0 in cc)) (λ part. absurd (let e = part.0 in cc)) writes
written-checked paths old new Equal Violated tells writes = ⊎_elim (λ whole. absurd (let e = whole.0 in cc)) (λ part. absurd (let e = part.0 in cc)) writes
written-checked paths old new (Differs n) Violated tells writes = ⊎_elim (λ whole. (n, (tells, whole.1))) (λ part. absurd (let e = part.0 in cc)) writes
written-checked paths old new Equal TraceFault tells writes = ⊎_elim (λ whole. let e = whole.0 in cc) (λ part. let e = part.0 in cc) writes
written-checked paths old new (Differs n) TraceFault tells writes = ⊎_elim (λ whole. let e = whole.0 in cc) (λ part. let e = part.0 in cc) writes
written-checked paths old new Equal ReadFault tells writes = ⊎_elim (λ whole. absurd (let e = whole.0 in cc)) (λ part. absurd (let e = part.0 in cc)) writes
written-checked paths old new (Differs n) ReadFault tells writes = ⊎_elim (λ whole. absurd (let e = whole.0 in cc)) (λ part. absurd (let e = part.0 in cc)) writes
written-checked paths old new compared WriteFault tells writes = ⊎_elim (λ whole. absurd (fault compared whole.0)) (λ part. (part.1, (compared, tells, part.2))) writes
  where
    fault : (compared : Compared) → WriteFault ≡ comparison_status compared → ⊥
    fault Equal e = cc
    fault (Differs n) e = cc
written-checked paths old new compared NoMemory tells writes = writes
written-checked paths old new Equal Usage tells writes = ⊎_elim (λ whole. let e = whole.0 in cc) (λ part. let e = part.0 in cc) writes
written-checked paths old new (Differs n) Usage tells writes = ⊎_elim (λ whole. let e = whole.0 in cc) (λ part. let e = part.0 in cc) writes

pub checks-end : ChecksEnd
checks-end paths old new Clean checked read other write = inl refl
checks-end paths old new Violated checked read other write = inr (inl refl)
checks-end paths old new TraceFault checked read other write = absurd checked
checks-end paths old new ReadFault checked read other write = absurd (⊎_elim read other checked.0)
checks-end paths old new WriteFault checked read other write = absurd (write checked.0)
checks-end paths old new NoMemory checked read other write = inr (inr refl)
checks-end paths old new Usage checked read other write = absurd checked
