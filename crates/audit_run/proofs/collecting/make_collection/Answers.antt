use Rattle.std.proofs.Common.{Ok, IfOk, sym, subst}
use Rattle.trace_run.specs.Audits.{IsDue}
use Rattle.audit_run.specs.Auditors.{IsCollected}
use Rattle.audit_run.proofs.Collected.{rules-kept, one_more, takes-due}
use Rattle.audit_run.proofs.collecting.make_collection.Goals as goal

pub returns : goal.returns
returns g c =
    let old = c.args.auditor.now in
    let new = c.collect.new.arg2 in
    let collected : IsCollected old (Ok c.in_ok-collection.collection) new = c.requires.collects _ _ _ _ _ c.in_ok-collection.ensures in
    record {
      takes =
          λ rules by is. takes-due rules old new c.in_ok-collection.collection c.due_behind.result is collected
          (subst (λ r. IfOk c.due_behind.result (IsDue r c.in_ok-collection.collection)) (sym by) c.due_behind.ensures);
      rules = rules-kept old new c.in_ok-collection.collection collected;
      few = one_more old new c.in_ok-collection.collection collected;
    }
