-- What a run over the places of a crew needs, and what it leaves.
use Rattle.std.specs.Prelude.{◌≡◌, ℕ, ◌<◌, ◌≤◌, List, length}
use Rattle.std.specs.List.{All}
use Rattle.crossbeam_utils.specs.Padded.{padded_value}
use Rattle.crossbeam_utils.specs.declared.cache_padded.CachePadded.{CachePadded}
use Rattle.steal_pool.specs.declared.place.Place.{Place}
use Rattle.steal_pool.specs.Jobs.{Meaning, AllFit}
use Rattle.steal_pool.specs.Rests.{IsAtRest}
use Rattle.steal_pool.specs.Runs.{fit_tasks, most_tasks, AreReady, ShareFit, HaveRoom, HaveTurns, TurnsLast, Workload, Run}

-- What a run starts with: the places, how many tasks each has room for, and the workload.
pub record Start (J : Type 0) : Type 0 where
  pub places : List (CachePadded (Place J))
  pub room : ℕ
  pub load : Workload J

pub record CanRun {J S : Type 0} (M : Meaning J S) (s : S) (start : Start J) : Type 0 where
  pub some : 0 < length start.places
  pub few : length start.places ≤ 16
  pub rest : All (λ p. IsAtRest (length start.places) start.room (padded_value p)) start.places
  pub jobs : length start.load.jobs ≡ length start.places
  pub lists : length start.load.first ≡ length start.places
  pub ready : AreReady M s start.load.jobs
  pub same_fit : ShareFit M s (fit_tasks M s start.load.jobs) start.load.jobs
  pub fit : All (AllFit (fit_tasks M s start.load.jobs)) start.load.first
  pub room : HaveRoom M start.room start.load.jobs start.load.first
  pub turns : HaveTurns M (most_tasks M start.load.jobs start.load.first) start.load.jobs

-- the jobs after a run that started so, and the places, as many as before and with nothing left at them
pub record HasRun {J S : Type 0} (M : Meaning J S) (s : S) (start : Start J) (left : List J × List (CachePadded (Place J))) : Type 0 where
  pub ran : Run M s start.load left.0
  pub ready : AreReady M s left.0
  pub same_fit : ShareFit M s (fit_tasks M s start.load.jobs) left.0
  pub turns : TurnsLast M (most_tasks M start.load.jobs start.load.first) start.load.jobs left.0
  pub count : length left.1 ≡ length start.places
  pub rest : All (λ p. IsAtRest (length start.places) start.room (padded_value p)) left.1
