use Rattle.std.proofs.Common.{◌+◌, arith}
use Rattle.std.proofs.lemmas.List.{take_all}
use Rattle.report.specs.Text.{verdict_line}
use Rattle.report.proofs.Pieces.{IsWritten-line, before_written, on_err_always, part_of_lines, part_written}
use Rattle.report.proofs.writing.write_verdicts.Goals as goal

pub returns-in_err-put_line-clause-part : goal.returns-in_err-put_line-clause-part
returns-in_err-put_line-clause-part g c = on_err_always c.from_residual.result (λ start text written.
    let before = before_written start _ _ _ (c.loop-place.invariant.0 start text written) in
    part_of_lines (verdict_line c.args.collection.now.number) start _ text c.args.collection.now.verdicts c.loop-place.place before)

pub returns-in_err-write_if_full-clause-part : goal.returns-in_err-write_if_full-clause-part
returns-in_err-write_if_full-clause-part g c = on_err_always c.from_residual-in_err-write_if_full.result (λ start text written.
    let line = verdict_line c.args.collection.now.number in
    let next = IsWritten-line line start _ _ _ text c.args.collection.now.verdicts c.loop-place.place c.at.result.now c.at.ensures c.in_ok-put_line.ensures
    (c.loop-place.invariant.0 start text written) in
    part_of_lines line start _ text c.args.collection.now.verdicts (c.loop-place.place + 1) (part_written start _ _ _ _ next c.in_err-write_if_full.ensures.part))

pub loop-place-preserved : goal.loop-place-preserved
loop-place-preserved g c = (
  λ start text written.
      let line = verdict_line c.args.collection.now.number in
      let next = IsWritten-line line start _ _ _ text c.args.collection.now.verdicts c.loop-place.place c.at.result.now c.at.ensures c.in_ok-put_line.ensures
      (c.loop-place.invariant.0 start text written) in
      c.in_ok-write_if_full.ensures.goes_on start _ next,
  omega (arith, c.loop-place.invariant.1, c.in_ok-write_if_full.ensures.cause.later),
)

pub returns-clause-verdicts : goal.returns-clause-verdicts
returns-clause-verdicts g c = λ start text written.
    let all = take_all c.loop-place.place c.args.collection.now.verdicts (omega (arith, c.loop-place-test.false, c.len-place-end.ensures)) in
    rw all at c.loop-place.invariant.0 start text written
