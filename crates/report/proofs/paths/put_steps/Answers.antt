use Rattle.std.proofs.Common.{arith}
use Rattle.std.proofs.lemmas.Grind.{common_steps}
use Rattle.report.proofs.Ranges.{slice_range_first, slice_range_rest}
use Rattle.report.proofs.paths.put_steps.Goals as goal

pub returns : goal.returns
returns c =
    let first = slice_range_first c.args.steps.now 32 in
    let rest = slice_range_rest c.args.steps.now 32 in
    grind (arith, common_steps, first, rest)
