-- What each step on a deque does to the hand that makes it.
use Rattle.std.specs.Prelude.{◌≡◌, ℕ, ◌+◌, ◌-◌, ◌≤◌, true, false, cond, List, [], ◌++◌}
use Rattle.steal_pool.specs.declared.task.Task.{Task}
use Rattle.heap_base.specs.Counting.{total}
use Rattle.steal_pool.specs.declared.hand.Hand.{Hand}
use Rattle.steal_pool.specs.Hands.{one}
use Rattle.steal_pool.specs.Jobs.{AllFit}

abbrev pub with_put : Hand → List Task → Hand
with_put v xs = record v { put = v.put ++ xs }

abbrev pub with_took : Hand → List Task → Hand
with_took v xs = record v { took = v.took ++ xs }

abbrev pub Puts : Hand → List Task → Hand → Type 0
Puts v xs w = w ≡ with_put v xs

-- The hand took xs: they are fit by its terms, it took no more tasks than the terms allow, and the owner no more than
-- it put.
pub record Takes (v : Hand) (xs : List Task) (w : Hand) : Type 0 where
  pub hand : w ≡ with_took v xs
  pub are_fit : AllFit v.fit xs
  pub few : total one w.took ≤ v.bound
  pub own : v.owner ≡ true → total one w.took ≤ total one w.put

-- with all the rights, all that was put was taken
abbrev pub IsEmptied : Hand → Type 0
IsEmptied v = v.rights ≡ 16 → (h : Task → ℕ) → total h v.put ≡ total h v.took

-- with all the rights, no more was taken than was put
abbrev pub HasSettled : Hand → List Task → Type 0
HasSettled v items = v.rights ≡ 16 → total one v.took ≤ total one v.put

-- the owner's hand at the beginning of a run, with these terms
abbrev pub renewed_hand : List Task → ℕ → Hand
renewed_hand fit bound = record { rights = 16; owner = true; fit = fit; bound = bound; put = []; took = [] }

-- the hand with one right less
abbrev pub one_less : Hand → Hand
one_less v = record v { rights = v.rights - 1 }

-- a hand on the same terms, with one right
abbrev pub lent_hand : Hand → Hand
lent_hand v = record { rights = 1; owner = false; fit = v.fit; bound = v.bound; put = []; took = [] }

abbrev pub joined_hand : Hand → Hand → Hand
joined_hand v w = record { rights = v.rights + w.rights; owner = cond v.owner true w.owner; fit = v.fit; bound = v.bound; put = v.put ++ w.put; took = v.took ++ w.took }
