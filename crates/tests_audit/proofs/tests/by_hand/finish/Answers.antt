use Rattle.std.proofs.Common.{sym, ◌∙◌, arith}
use Rattle.audit_core.specs.Audit.{Audit, audit_table}
use Rattle.tests_audit.proofs.Agreements.{trace_that_agrees}
use Rattle.tests_audit.proofs.tests.by_hand.finish.Goals as goal

pub finish_collect-requires-clause-trace : goal.finish_collect-requires-clause-trace
finish_collect-requires-clause-trace c =
    let a : Audit = c.args.auditor.now in
    let agree = c.if-not-agrees.false in
    let says = c.agrees.ensures in
    let cells = c.requires.real.0 in
    let kinds = c.requires.real.1 in
    trace_that_agrees (audit_table a) a.heap c.args.made.now c.args.real.now (record {
      cells = c.requires.made.0 ∙ sym cells;
      types = c.requires.made.1 ∙ sym kinds;
      kept = says.kept agree;
      traced = says.traced agree;
      instances = λ kind below. says.instances agree kind (omega (arith, below, kinds));
      many = λ cell below. says.many agree cell (omega (arith, below, cells));
      found = λ cell below. says.found agree cell (omega (arith, below, cells));
      met = λ cell below. says.met agree cell (omega (arith, below, cells));
    }) c.requires.trace
