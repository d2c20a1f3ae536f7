-- The rule of one deque. Each worker has a hand on it: what the hand was told, and what it put and took. No value of a
-- hand is made; contracts alone speak of hands.
use Rattle.std.specs.Prelude.{◌≡◌, ℕ, ◌+◌, ◌<◌, ◌≤◌, false, true, List, []}
use mathlib.Core.Option.{some}
use lib.ListN.{get_elem?}
use Rattle.steal_pool.specs.declared.task.Task.{Task}
use Rattle.heap_base.specs.Counting.{bit, total}
use Rattle.steal_pool.specs.declared.hand.Hand.{Hand}
use Rattle.steal_pool.specs.Jobs.{AllFit}

-- weighs each task 1, so that a total is a number of tasks
abbrev pub one : Task → ℕ
one _ = 1

-- what is left of a hand that was joined into another
abbrev pub spent_hand : Hand
spent_hand = record { rights = 0; owner = false; fit = []; bound = 0; put = []; took = [] }

-- the first hand of a deque
abbrev pub first_hand : Hand
first_hand = record { rights = 16; owner = true; fit = []; bound = 0; put = []; took = [] }

-- What holds of a hand where the terms of the run are these: a hand without a right has nothing and is not the
-- owner's, only the owner's hand puts, and a hand with a right holds these terms.
pub record Fits (fit : List Task) (bound : ℕ) (v : Hand) : Type 0 where
  pub spent : v.rights ≡ 0 → (v.owner ≡ false) × (v.put ≡ []) × (v.took ≡ [])
  pub theirs : v.owner ≡ false → v.put ≡ []
  pub same_fit : 0 < v.rights → v.fit ≡ fit
  pub same_bound : 0 < v.rights → v.bound ≡ bound

-- The rule under these terms.
-- even: what was put is what the deque holds and what all hands took, each task as often
pub record IsBalancedBy (items : List Task) (hands : List Hand) (fit : List Task) (bound : ℕ) : Type 0 where
  pub rights : total (λ v. v.rights) hands ≡ 16
  pub owners : total (λ v. bit v.owner) hands ≡ 1
  pub fits : (port : ℕ) (v : Hand) → get_elem? hands port ≡ some v → Fits fit bound v
  pub even : (h : Task → ℕ) → total (λ v. total h v.put) hands ≡ total (λ v. total h v.took) hands + total h items
  pub few : total (λ v. total one v.put) hands ≤ bound
  pub are_fit : AllFit fit items

abbrev pub IsBalanced : List Task → List Hand → Type 0
IsBalanced items hands = (fit : List Task) × (bound : ℕ) × IsBalancedBy items hands fit bound
