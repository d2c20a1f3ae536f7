use Rattle.std.proofs.Common.{◌≡◌, ◌++◌, slice_range}
use Rattle.std.specs.List.{flat_map}
use Rattle.report.specs.Text.{step_text}
use Rattle.report.proofs.paths.put_steps_between.Given as goal

-- the steps before this place are written
abbrev pub invariant-loop-place : goal.invariant-loop-place
invariant-loop-place l = l.text.items ≡ l.initial.text.items ++ flat_map step_text (slice_range l.steps l.start l.place)
