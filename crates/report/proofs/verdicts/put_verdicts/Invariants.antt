use Rattle.std.proofs.Common.{◌≡◌, ◌++◌, take}
use Rattle.std.specs.List.{flat_map}
use Rattle.report.specs.Text.{verdict_line}
use Rattle.report.proofs.verdicts.put_verdicts.Given as goal

-- the lines of the verdicts before this place are written
abbrev pub invariant-loop-place : goal.invariant-loop-place
invariant-loop-place l = l.text.items ≡ l.initial.text.items ++ flat_map (verdict_line l.number) (take l.place l.verdicts)
