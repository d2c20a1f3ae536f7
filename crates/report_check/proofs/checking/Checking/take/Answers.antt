use Rattle.std.proofs.Common.{refl, arith}
use Rattle.trace_run.proofs.Effects.{takes-applied, takes-refused}
use Rattle.report_check.specs.States.{checked_state}
use Rattle.report_check.proofs.Events.{collect-due, from_result_err}
use Rattle.report_check.proofs.checking.Checking.take.Goals as goal

pub returns-in-Ok-clause-takes : goal.returns-in-Ok-clause-takes
returns-in-Ok-clause-takes c =
    collect-due (checked_state c.args.self.now) (checked_state c.make_collection.new.self) c.args.event.now c.in-Ok.collection refl c.in-Collect.is c.in-Ok.ensures.next c.in-Ok.ensures.after

pub returns-in-Ok-apply : goal.returns-in-Ok-apply
returns-in-Ok-apply c = record {
  takes = takes-applied (checked_state c.args.self.now) c.args.event.now c.apply.new.self.heap c.in_default.not-Collect c.in-Ok-apply.ensures.applied;
  few = omega arith;
}

pub returns-in-Err-Refused : goal.returns-in-Err-Refused
returns-in-Err-Refused c =
    let refused = rw c.in-Err-Refused.field-0-is at c.in-Err-Refused.ensures.refused in
    record {
      takes = takes-refused (checked_state c.args.self.now) c.args.event.now c.in-Err-Refused.refusal c.in_default.not-Collect (from_result_err _ c.in-Err-Refused.refusal refused);
      few = omega arith;
    }
