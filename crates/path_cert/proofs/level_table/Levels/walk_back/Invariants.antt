use Rattle.std.proofs.Common.{◌≡◌, List}
use Rattle.graph_meaning.specs.declared.paths.PathStep.{PathStep}
use Rattle.path_cert.specs.Levels.{Search, AreLevelsOf}
use Rattle.path_cert.specs.Trails.{HasShown}
use Rattle.path_cert.proofs.Walking.{HasWalked}
use Rattle.path_cert.proofs.level_table.Levels.walk_back.Given as goal

abbrev pub invariant-loop-left : goal.invariant-loop-left
invariant-loop-left l = record {
  total : l.trail.total ≡ l.fn.trail.total;
  walked : (s : Search) (after : List PathStep) → AreLevelsOf l.table s l.self → HasShown l.fn.trail l.fn.steps after →
      HasWalked (record { placed = l.table; search = s; levels = l.self; to = l.fn.to; after = after }) l.trail l.left l.cell;
}

abbrev pub decreases-loop-left : goal.decreases-loop-left
decreases-loop-left l = l.left
