use Rattle.std.specs.Cmp.{booleans_Decides}
use Rattle.std.proofs.lemmas.Slice.Eq.{slice_eq-Decides}
use Rattle.tests_audit.proofs.tests.agreements.same_flags.Goals as goal

pub returns : goal.returns
returns c = (slice_eq-Decides booleans_Decides c.args.made.now c.args.real.now c.eq.result c.eq.ensures).0
