use Rattle.std.proofs.Common.{◌≡◌, ℕ, ◌+◌, ◌<◌, ◌≤◌, length, slice_index}
use Rattle.instance_ledger.proofs.tally.Tally.merge.Given as goal

abbrev pub invariant-loop-kind : goal.invariant-loop-kind
invariant-loop-kind l = record {
  kinds : length l.self-inside.counts.items ≡ length l.fn.self;
  done : (n : ℕ) → n < l.kind → slice_index l.self-inside.counts.items n ≡ slice_index l.fn.self n + slice_index l.other n;
  rest : (n : ℕ) → l.kind ≤ n → slice_index l.self-inside.counts.items n ≡ slice_index l.fn.self n;
}
