use Rattle.std.proofs.Common.{◌≡◌, ℕ, ◌<◌}
use Rattle.std.specs.Prelude.{slice_index}
use Rattle.tests_audit.proofs.tests.agreements.agree_on_types.Given as goal

abbrev pub invariant-loop-kind : goal.invariant-loop-kind
invariant-loop-kind l = (kind : ℕ) → kind < l.kind → slice_index l.made.instances kind ≡ slice_index l.real.instances kind
