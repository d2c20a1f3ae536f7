use Rattle.std.proofs.Common.{refl, arith}
use Rattle.trace_run.proofs.Progress.{begins_at, line_taken, line_within, lines_within, line_leaves_fewer}
use Rattle.trace_run.proofs.Endings.{finished, line_too_long, trace_too_long, line_ends, cut_short, nothing_written}
use Rattle.trace_run.proofs.running.TraceRun.run.Goals as goal

pub trace-init : goal.trace-init
trace-init g c =
    (begins_at g.P.Program.meaning c.args.self.limit _ _ _ c.in-Ok.ensures, (let new = c.requires.new in omega (arith, new)), c.requires.ready)

pub trace-smaller-then-given : goal.trace-smaller-then-given
trace-smaller-then-given g c =
    let ahead = c.in-Ok-take_ahead.ensures.takes _ _ _ _ c.trace.invariant.0 in
    let more = c.if-given.true in
    omega (arith, more, ahead.so_far.within, c.given.ensures, c.given-given.ensures)

pub take_line-requires-clause-few_lines : goal.take_line-requires-clause-few_lines
take_line-requires-clause-few_lines g c =
    let steps = rw c.in-Ok-Some.field-0-is at c.in-Ok-Some.ensures.1 in
    let within = line_within g.P.Program.meaning _ _ _ _ _ _ _ _ _ _ _ (c.in-Ok-take_ahead.ensures.takes _ _ _ _ c.trace.invariant.0) steps in
    omega (arith, within.0, c.requires.limit)

pub returns-in-Ends : goal.returns-in-Ends
returns-in-Ends g c =
    let steps = rw c.in-Ok-Some.field-0-is at c.in-Ok-Some.ensures.1 in
    line_ends g.P.Program.meaning _ _ _ _ _ _ _ _ _ _ _ _ _ (c.in-Ok-take_ahead.ensures.takes _ _ _ _ c.trace.invariant.0) steps c.line.ensures c.in-Ends.ensures.takes

pub trace-preserved : goal.trace-preserved
trace-preserved g c =
    let steps = rw c.in-Ok-Some.field-0-is at c.in-Ok-Some.ensures.1 in
    let taken = c.in-GoesOn.ensures.takes in
    let ahead = c.in-Ok-take_ahead.ensures.takes _ _ _ _ c.trace.invariant.0 in
    let within = line_within g.P.Program.meaning _ _ _ _ _ _ _ _ _ _ _ ahead steps in (
      line_taken g.P.Program.meaning _ _ _ _ _ _ _ _ _ _ _ _ _ _ ahead steps c.line.ensures taken.1 taken.2 c.take_line.ensures.later,
      (let before = c.in-Ok-take_ahead.ensures.few in let few = c.take_line.ensures.few in let next = within.1 in omega (arith, before, few, next)),
      c.take_line.ensures.ready,
    )

pub trace-smaller : goal.trace-smaller
trace-smaller g c =
    let ahead = c.in-Ok-take_ahead.ensures.takes _ _ _ _ c.trace.invariant.0 in
    let fewer = line_leaves_fewer g.P.Program.meaning _ _ _ _ _ _ _ _ _ _ _ ahead (rw c.in-Ok-Some.field-0-is at c.in-Ok-Some.ensures.1) in
    let grown = c.in-Ok-take_ahead.ensures.given in
    omega (arith, fewer, grown)

pub returns-in-Ok-None : goal.returns-in-Ok-None
returns-in-Ok-None g c =
    finished g.P.Program.meaning _ _ _ _ _ _ _ _ _ _ _ (c.in-Ok-take_ahead.ensures.takes _ _ _ _ c.trace.invariant.0) (rw c.in-Ok-None.field-0-is at c.in-Ok-None.ensures.1) c.finish.ensures.ends

pub returns-in-Err-ReadFault : goal.returns-in-Err-ReadFault
returns-in-Err-ReadFault g c =
    cut_short g.P.Program.meaning _ _ _ _ _ _ _ _ _ _ (c.in-Ok-take_ahead.ensures.takes _ _ _ _ c.trace.invariant.0) (rw c.in-Err-ReadFault.field-0-is at c.in-Err-ReadFault.ensures.1) refl

pub overflow_add-lines : goal.overflow_add-lines
overflow_add-lines g c =
    let few = lines_within g.P.Program.meaning _ _ _ _ _ _ _ (c.in-Ok-take_ahead.ensures.takes _ _ _ _ c.trace.invariant.0) in
    omega (arith, few, c.requires.limit)

pub returns-in-Err-LineTooLong : goal.returns-in-Err-LineTooLong
returns-in-Err-LineTooLong g c =
    line_too_long g.P.Program.meaning _ _ _ _ _ _ _ _ _ _ _ (c.in-Ok-take_ahead.ensures.takes _ _ _ _ c.trace.invariant.0)
    (rw c.in-Err-LineTooLong.field-0-is at c.in-Err-LineTooLong.ensures.1) c.refuse.ensures.ends

pub overflow_add-lines-in-Err-TraceTooLong : goal.overflow_add-lines-in-Err-TraceTooLong
overflow_add-lines-in-Err-TraceTooLong g c =
    let few = lines_within g.P.Program.meaning _ _ _ _ _ _ _ (c.in-Ok-take_ahead.ensures.takes _ _ _ _ c.trace.invariant.0) in
    omega (arith, few, c.requires.limit)

pub returns-in-Err-TraceTooLong : goal.returns-in-Err-TraceTooLong
returns-in-Err-TraceTooLong g c =
    trace_too_long g.P.Program.meaning _ _ _ _ _ _ _ _ _ _ _ (c.in-Ok-take_ahead.ensures.takes _ _ _ _ c.trace.invariant.0)
    (rw c.in-Err-TraceTooLong.field-0-is at c.in-Err-TraceTooLong.ensures.1) c.refuse-in-Err-TraceTooLong.ensures.ends

pub returns-in_default : goal.returns-in_default
returns-in_default g c = nothing_written _ _ _ refl
