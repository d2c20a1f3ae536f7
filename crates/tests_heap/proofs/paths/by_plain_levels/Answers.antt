use Rattle.std.proofs.Common.{◌<◌, [], length, get_or, ap, arith}
use Rattle.std.specs.Option.{option_map}
use Rattle.std.proofs.lemmas.Option.{slice_get-get_or}
use Rattle.tests_heap.proofs.paths.by_plain_levels.Goals as goal

pub reference_path-requires-clause-refers : goal.reference_path-requires-clause-refers
reference_path-requires-clause-refers c =
    let roots = c.args.table.now.table.roots in
    let within : c.in-Root.root < length roots = (let count = c.roots.ensures.count in let below = c.if-root-roots.true in omega arith) in
    ((get_or roots c.in-Root.root ([], 0)).1, ap (option_map (λ r. r.1)) (slice_get-get_or roots c.in-Root.root ([], 0) within))
