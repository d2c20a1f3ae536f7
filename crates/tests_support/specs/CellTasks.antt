-- The tasks of the tests: one for each cell below a number.
use Rattle.std.specs.Prelude.{ℕ, zero, suc, ◌≡◌, ◌≤◌, List, [], ◌∷◌, length, ⊤}
use Rattle.std.specs.List.{AllByRecursion}
use Rattle.steal_pool.specs.declared.task.Task.{Task}
use Rattle.steal_pool.specs.Jobs.{Meaning, AllFit}

abbrev pub tasks_below : ℕ → List Task
tasks_below zero = []
tasks_below (suc n) = record { cell = n; tag = 0 } ∷ tasks_below n

-- a job that is always ready for these tasks, where the shared value says how many cells there are
abbrev pub cells_meaning : {J S : Type 0} → (S → ℕ) → (J → ℕ) → (J → ℕ) → Meaning J S
cells_meaning count room turns = record { ready = λ _ _. ⊤; fit = λ _ s. tasks_below (count s); room = room; turns = turns; works = λ _ _ _ _. ⊤ }

-- a list of at most four fit tasks for each worker
abbrev pub AreFirstTasks : ℕ → ℕ → List (List Task) → Type 0
AreFirstTasks workers cells fs = (length fs ≡ workers) × AllByRecursion (λ f. (length f ≤ 4) × AllFit (tasks_below cells) f) fs
