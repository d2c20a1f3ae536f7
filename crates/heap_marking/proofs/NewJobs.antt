-- Jobs that were just made.
use Rattle.std.proofs.Common.{◌≡◌, ℕ, zero, suc, replicate, sym, refl, subst}
use Rattle.std.specs.Prelude.{slice_index}
use Rattle.std.proofs.lemmas.List.{length-replicate}
use Rattle.header_rule.specs.declared.pass.Pass.{Pass}
use Rattle.header_rule.specs.Passes.{IsFresh}
use Rattle.scan_job.specs.States.{ScanState, new_state}
use Rattle.heap_marking.specs.TracedCells.{IsNewFor}

pub zeros : (n k : ℕ) → slice_index (replicate n 0) k ≡ 0
zeros zero k = refl
zeros (suc n) zero = refl
zeros (suc n) (suc k) = zeros n k

pub new-for : (p : Pass) (cells kinds : ℕ) (j : ScanState) → IsFresh p → j ≡ new_state p cells kinds → IsNewFor cells kinds j
new-for p cells kinds j fresh made =
    subst (IsNewFor cells kinds) (sym made) (record {
      is_new = record { fresh = fresh; zero = λ kind. zeros kinds kind };
      cells_are = refl;
      kinds_are = length-replicate kinds 0;
    })
