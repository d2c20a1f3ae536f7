use Rattle.report.specs.Text.{verdict_line}
use Rattle.report.proofs.Ranges.{flat_map_take_next}
use Rattle.report.proofs.verdicts.put_verdicts.Goals as goal

pub loop-place-preserved : goal.loop-place-preserved
loop-place-preserved c =
    let more = flat_map_take_next (verdict_line c.args.number) c.args.text.now.items c.args.verdicts.now c.loop-place.place c.at.result.now c.at.ensures in
    cc (more, c.in_ok-put_line.ensures)
