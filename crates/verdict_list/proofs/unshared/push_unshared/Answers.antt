use Rattle.std.proofs.Common.{◌≡◌, ◌++◌, map, sym, ap, subst, ◌∙◌}
use Rattle.std.specs.Prelude.{Some, slice_get}
use Rattle.std.proofs.lemmas.List.{append_assoc, map-append}
use Rattle.graph_meaning.specs.Collecting.{first_with_paths}
use Rattle.object_paths.specs.References.{AreFirstOf}
use Rattle.verdict_list.specs.Listed.{unshared_at}
use Rattle.verdict_list.proofs.GoingOn.{slice_get-front}
use Rattle.verdict_list.proofs.unshared.push_unshared.Goals as goal

pub push_all-requires-clause-references : goal.push_all-requires-clause-references
push_all-requires-clause-references g c =
    let (h, first) = c.requires.references in (
      h,
      λ n cell f here found.
          first n cell f (subst (λ cells. slice_get cells n ≡ Some cell) (sym c.split_at.ensures.by_index.0) (slice_get-front c.split_at.result.0.now c.split_at.result.1.now n cell here)) found,
    )

pub returns-clause-verdicts : goal.returns-clause-verdicts
returns-clause-verdicts g c h r stand made first before same =
    let front = c.split_at.result.0.now in
    let back = c.split_at.result.1.now in
    let verdict = unshared_at c.args.paths.table.now (g.T.HeapCounts.counts c.args.traced.now) h in
    let front_first : AreFirstOf c.args.paths.table.now h c.split_at.result.0.now c.args.shared.references.now = λ n cell f here found.
    first n cell f (subst (λ cells. slice_get cells n ≡ Some cell) (sym c.split_at.ensures.by_index.0) (slice_get-front front back n cell here)) found in
    let shown = c.in_ok-push_all.ensures.verdicts h (record { roles = r; stand = stand; made = made }) front_first before same in
    let whole =
    c.in_ok-push_all-2.ensures.verdicts h (record { roles = r; stand = stand; made = tt }) (λ n cell f here found. absurd (cc)) (before ++ map verdict front) (c.reserve.ensures.same ∙ shown) in
    subst (λ vs. c.push_all-2.new.list ≡ first_with_paths c.args.paths.most vs)
    (append_assoc before (map verdict front) (map verdict back)
    ∙ ap (λ vs. before ++ vs) (sym (map-append verdict front back) ∙ ap (map verdict) (sym c.split_at.ensures.by_index.0))) whole
