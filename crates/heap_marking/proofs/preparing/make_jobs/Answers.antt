use Rattle.std.proofs.Common.{◌∷◌, [], ◌++◌, sym, ap, ◌∙◌, subst}
use Rattle.std.specs.List.{All}
use Rattle.std.proofs.lemmas.Iterator.Adapters.{YieldsList-from_vec}
use Rattle.std.proofs.lemmas.Iterator.Consumers.{YieldsList-turn}
use Rattle.std.proofs.lemmas.List.{map-append}
use Rattle.std.proofs.lemmas.List.Elements.{All-push}
use Rattle.header_rule.specs.Passes.{IsFresh}
use Rattle.scan_job.specs.States.{ScanState, passes_of}
use Rattle.heap_marking.specs.TracedCells.{IsNewFor}
use Rattle.heap_marking.proofs.NewJobs.{new-for}
use Rattle.heap_marking.proofs.preparing.make_jobs.Goals as goal

pub loop-pass-preserved : goal.loop-pass-preserved
loop-pass-preserved c =
    let it = c.into_iter-pass-iterator.ensures.into_iter_gives in
    let t =
    YieldsList-turn (YieldsList-from_vec {s = c.into_iter-pass-iterator.result} c.args.passes.items it.0 (it.1 ∙ c.args.passes.ok.0))
    c.loop-pass.yielded c.loop-pass.pass-iterator c.loop-pass.yielded_by c.next.result c.next.new.self c.in-Some.pass c.in-Some.is
    c.next.ensures.steps in
    let fresh : IsFresh c.in-Some.pass = subst IsFresh (sym t.1) (c.requires.fresh _ c.in-Some.pass t.0) in
    let made = c.in_ok-make.ensures.made in
    let j = c.in_ok-make.field-0 in
    record {
      passes =
          ap passes_of c.in_ok-push.ensures.items ∙ map-append (λ (k : ScanState). k.pass) c.loop-pass.jobs.items (j ∷ [])
          ∙ (λ i. c.loop-pass.invariant.passes i ++ (ap (λ (k : ScanState). k.pass) made i) ∷ []);
      are_new =
          subst (All (IsNewFor c.args.cells c.args.kinds)) (sym c.in_ok-push.ensures.items)
          (All-push (IsNewFor c.args.cells c.args.kinds) c.loop-pass.jobs.items j c.loop-pass.invariant.are_new
          (new-for c.in-Some.pass c.args.cells c.args.kinds j fresh made));
    }
