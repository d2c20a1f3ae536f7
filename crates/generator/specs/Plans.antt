-- Which traces can be generated.
use Rattle.std.specs.Prelude.{◌≤◌}
use Rattle.generator.specs.declared.plan.GenPlan.{GenPlan}
use Rattle.generator.specs.declared.plan.TheConstants.{LEAST_SIZE, MOST_NUMBER, MOST_SIZE}

-- the number and the size are in their ranges
pub record IsPlan (plan : GenPlan) : Type 0 where
  pub number : plan.number ≤ MOST_NUMBER
  pub least : LEAST_SIZE ≤ plan.size
  pub most : plan.size ≤ MOST_SIZE
