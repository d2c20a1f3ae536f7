use Rattle.std.proofs.Common.{◌≡◌, ℕ, ◌*◌, ◌≤◌, length, take}
use Rattle.std.specs.Prelude.{slice_index}
use Rattle.heap_base.specs.declared.limits.TheConstants.{MOST_OBJECTS}
use Rattle.heap_marking.specs.TracedCells.{all_tallies}
use Rattle.heap_marking.proofs.gathering.merge_tallies.Given as goal

abbrev pub invariant-loop-job : goal.invariant-loop-job
invariant-loop-job l = record {
  kinds : length l.tally ≡ length l.fn.tally;
  sums : (kind : ℕ) → slice_index l.tally kind ≡ all_tallies kind (take l.job-index l.jobs);
  few : (kind : ℕ) → all_tallies kind (take l.job-index l.jobs) ≤ l.job-index * MOST_OBJECTS;
}
