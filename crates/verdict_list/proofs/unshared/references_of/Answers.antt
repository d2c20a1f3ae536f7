use Rattle.std.proofs.Common.{◌<◌, ◌∙◌, subst, length, take}
use Rattle.std.proofs.lemmas.Option.{slice_get_within}
use Rattle.object_paths.specs.References.{AreFirstOf}
use Rattle.verdict_list.proofs.ByIds.{once_taken, take_get, IfOk-both}
use Rattle.verdict_list.proofs.unshared.references_of.Goals as goal

pub first_references-requires-clause-once : goal.first_references-requires-clause-once
first_references-requires-clause-once c = once_taken c.min-shown.result c.args.cells.now c.requires.once

pub returns-clause-first : goal.returns-clause-first
returns-clause-first c =
    IfOk-both c.first_references.result _ _ (λ found. (h : _) → _ → AreFirstOf c.args.traced.table.now h c.args.cells.now found.items)
    (λ found each first h known n cell f at here.
    let within : n < length (take c.min-shown.result c.args.cells.now) = subst (λ m. n < m) each (slice_get_within found.items n f here) in
    first h known n cell f (take_get c.min-shown.result c.args.cells.now n within ∙ at) here)
    c.first_references.ensures.each c.first_references.ensures.first
