use Rattle.std.proofs.Common.{◌++◌, ◌∷◌, [], length, sym, ap, ◌∙◌, subst, arith, append_assoc, Some}
use Rattle.std.specs.List.{All}
use Rattle.std.proofs.lemmas.List.Elements.{All-pop}
use Rattle.header_rule.specs.Passes.{IsFresh, IsPassOf}
use Rattle.scan_job.specs.States.{ScanState, new_state, passes_of}
use Rattle.tests_marking.specs.NewJobs.{IsNewJob}
use Rattle.scan_job.proofs.Starting.{all-cons}
use Rattle.tests_marking.proofs.phases.start.Goals as goal

pub loop-pass-preserved : goal.loop-pass-preserved
loop-pass-preserved c =
    let t = c.args.table.now in
    let h = c.in_ok-headers.headers in
    let pass = c.in-Some.pass in
    let i = c.loop-pass.invariant in
    let old = c.loop-pass.passes.items in
    let rest = c.pop.new.self.items in
    let jobs = c.loop-pass.jobs.items in
    let fresh = All-pop IsFresh old rest (Some pass) c.in-Some.ensures.items i.fresh in
    let passes = All-pop (IsPassOf h) old rest (Some pass) c.in-Some.ensures.items i.passes in
    let made = c.in_ok-make.ensures.made ∙ (λ k. new_state pass (c.cells-in-Some.ensures.count k) (c.kinds.ensures.count k)) in
    let same = ap (λ (j : ScanState). j.pass) made in
    let new : IsNewJob t h c.in_ok-make.field-0 = record {
      is_new = made ∙ (λ k. new_state (sym same k) (length t.cells) (length t.table.kinds));
      fresh = subst IsFresh (sym same) fresh.1;
      pass = subst (IsPassOf h) (sym same) passes.1;
    } in
    let popped = c.in-Some.ensures.cases in
    let inserted = c.in_ok-insert.ensures.len in
    let count = i.count in
    record {
      all = ap (λ js. rest ++ passes_of js) c.in_ok-insert.ensures.items ∙ ap (λ p. rest ++ p ∷ passes_of jobs) same ∙
          sym (append_assoc rest (pass ∷ []) (passes_of jobs)) ∙ ap (λ ps. ps ++ passes_of jobs) (sym c.in-Some.ensures.items) ∙ i.all;
      fresh = fresh.0;
      passes = passes.0;
      count = (omega arith);
      each = subst (All (IsNewJob t h)) (sym c.in_ok-insert.ensures.items) (all-cons (IsNewJob t h) c.in_ok-make.field-0 jobs new i.each);
    }
