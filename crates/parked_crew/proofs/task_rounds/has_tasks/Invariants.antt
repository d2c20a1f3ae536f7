use Rattle.std.proofs.Common.{◌≡◌, [], take}
use Rattle.parked_crew.specs.Progress.{to_do}
use Rattle.parked_crew.proofs.task_rounds.has_tasks.Given as goal

abbrev pub invariant-loop-share : goal.invariant-loop-share
invariant-loop-share g l = to_do (take l.share-index l.shares) ≡ []
