use Rattle.report.specs.Text.{step_text}
use Rattle.report.proofs.Ranges.{flat_map_range_next}
use Rattle.report.proofs.paths.put_steps_between.Goals as goal

pub loop-place-preserved : goal.loop-place-preserved
loop-place-preserved c =
    let more = flat_map_range_next step_text c.args.text.now.items c.args.steps.now c.args.start c.loop-place.place c.at.result.now c.loop-place.auto.place c.at.ensures in
    cc (more, c.in_ok-put_step.ensures)
