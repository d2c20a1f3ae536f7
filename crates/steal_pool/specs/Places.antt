-- When the worker of a place may begin, when the caller may finish its work, and what that leaves.
use Rattle.std.specs.Prelude.{◌≡◌}
use Rattle.steal_pool.specs.declared.place.Place.{Place}
use Rattle.steal_pool.specs.Jobs.{Meaning}
use Rattle.steal_pool.specs.Lanes.{own_hand, HasTakenFew}
use Rattle.steal_pool.specs.Workers.{CanStart, EndsWork, HasNone}

pub record MayStart {J S : Type 0} (M : Meaning J S) (s : S) (p : Place J) : Type 0 where
  pub can : CanStart M s p
  pub few : HasTakenFew p.lane

-- all rights on the deque are there
pub record MayFinish {J S : Type 0} (M : Meaning J S) (s : S) (p : Place J) : Type 0 where
  pub can : CanStart M s p
  pub whole : (own_hand p.lane).rights ≡ 16

pub record FinishesWork {J S : Type 0} (M : Meaning J S) (s : S) (p q : Place J) : Type 0 where
  pub ended : EndsWork M s p q
  pub none : HasNone q
