-- A place between two runs.
use Rattle.std.specs.Prelude.{◌≡◌, ℕ, ◌+◌, ◌≤◌, false, is_some, length, vec_len, vec_capacity}
use Rattle.std.specs.List.{All}
use Rattle.steal_pool.specs.declared.task.Task.{Task}
use Rattle.crossbeam_deque.specs.Handles.{worker_deque}
use Rattle.steal_pool.specs.declared.place.Place.{Place}
use Rattle.heap_base.specs.Counting.{total}
use Rattle.steal_pool.specs.Lanes.{own_hand}
use Rattle.steal_pool.specs.Loans.{IsThiefOf}

-- no job and no hand on others is there, and all rights on the deque are
abbrev pub IsAlone : {J : Type 0} → ℕ → Place J → Type 0
IsAlone n p =
    (is_some p.job ≡ false) × (vec_len p.others ≡ 0) × (n ≤ vec_capacity p.others + 1) × (vec_len p.spare + 1 ≡ n) × (n ≤ vec_capacity p.spare + 1)
    × All (IsThiefOf (worker_deque p.lane.owner)) p.spare.items × ((own_hand p.lane).rights ≡ 16)

-- no task waits, and all that was put into the deque was taken
abbrev pub IsEmpty : {J : Type 0} → Place J → Type 0
IsEmpty p = (length p.queue.tasks ≡ 0) × ((h : Task → ℕ) → total h (own_hand p.lane).put ≡ total h (own_hand p.lane).took)

-- a place of a crew of n workers with room for so many tasks
abbrev pub IsAtRest : {J : Type 0} → ℕ → ℕ → Place J → Type 0
IsAtRest n room p = IsAlone n p × IsEmpty p × (room ≤ p.queue.room)
