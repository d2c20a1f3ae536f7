-- The tallies of the first jobs, added up, and of one job more.
use Rattle.std.proofs.Common.{◌≡◌, ℕ, ◌+◌, ◌≤◌, List, [], ◌∷◌, ◌++◌, take, sym, ap, ◌∙◌, arith}
use Rattle.std.specs.Prelude.{slice_index}
use Rattle.std.specs.List.{All}
use Rattle.std.proofs.lemmas.List.{take_more}
use Rattle.heap_base.proofs.Counting.{total-snoc}
use Rattle.scan_job.specs.States.{ScanState}
use Rattle.scan_job.proofs.Meetings.{JobAt, few-won}
use Rattle.heap_marking.specs.TracedCells.{all_tallies}

-- One of the jobs, with its tally.
pub record TallyBy (js : List ScanState) (i : ℕ) (j : ScanState) (tally : List ℕ) : Type 0 where
  pub job : JobAt js i j
  pub tally_is : tally ≡ j.tally

module _ (js : List ScanState) (i : ℕ) (j : ScanState) (tally : List ℕ) (p : TallyBy js i j tally) where
  pub tallies-more : (kind : ℕ) → all_tallies kind (take (i + 1) js) ≡ all_tallies kind (take i js) + slice_index tally kind
  tallies-more kind =
      ap (all_tallies kind) (take_more js i j p.job.within ∙ ap (λ z. take i js ++ z ∷ []) (sym p.job.is))
      ∙ total-snoc (λ (z : ScanState). slice_index z.tally kind) (take i js) j
      ∙ ap (λ t. all_tallies kind (take i js) + slice_index t kind) (sym p.tally_is)

  -- no tally counts more objects of a type than there are cells
  pub tally-few : (most : ℕ) → All (λ k. k.cells ≤ most) js → (kind : ℕ) → slice_index tally kind ≤ most
  tally-few most all kind =
      let few = few-won js i j p.job most all in
      let counted = p.job.won.tally kind in
      let same = ap (λ t. slice_index t kind) p.tally_is in
      omega arith
