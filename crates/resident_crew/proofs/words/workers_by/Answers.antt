use Rattle.std.proofs.Common.{ℕ, ◌<◌, ◌≤◌, Option, Some, None, IfSome, sym, subst, arith}
use Rattle.heap_base.specs.declared.limits.TheConstants.{MOST_WORKERS}
use Rattle.settings.specs.declared.numbers.TheConstants.{LEAST_WORKERS}
use Rattle.settings.proofs.Ranges.{taken_number}
use Rattle.resident_crew.proofs.words.workers_by.Goals as goal

some : (o : Option ℕ) → IfSome o (λ n. (LEAST_WORKERS ≤ n) × (n ≤ MOST_WORKERS)) → IfSome o (λ n. (0 < n) × (n ≤ MOST_WORKERS))
some None within = within
some (Some n) within = (let least = within.0 in omega arith, within.1)

pub returns-in-len3-clause-in_range : goal.returns-in-len3-clause-in_range
returns-in-len3-clause-in_range c =
    some c.number_by.result (subst (λ o. IfSome o (λ n. (LEAST_WORKERS ≤ n) × (n ≤ MOST_WORKERS))) (sym c.number_by.ensures) (taken_number LEAST_WORKERS MOST_WORKERS _))
