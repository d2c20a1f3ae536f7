-- What a steal does to a hand on another deque, and to all of them.
use Rattle.std.specs.Prelude.{◌≡◌, ℕ, ◌⊎◌, List, [], ◌∷◌}
use Rattle.steal_pool.specs.declared.task.Task.{Task}
use Rattle.crossbeam_deque.specs.Handles.{view, stealer_deque}
use Rattle.steal_pool.specs.declared.victim.Victim.{Victim}
use Rattle.steal_pool.specs.declared.hand.Hand.{Hand}
use Rattle.heap_base.specs.Counting.{total}
use Rattle.steal_pool.specs.Steps.{Takes}

abbrev pub IsUntouched : Victim → Victim → Type 0
IsUntouched r s = (stealer_deque s.thief ≡ stealer_deque r.thief) × (view s.pass ≡ view r.pass)

abbrev pub StealsFrom : Victim → Task → Victim → Type 0
StealsFrom r t s = (stealer_deque s.thief ≡ stealer_deque r.thief) × Takes (view r.pass) (t ∷ []) (view s.pass)

-- each is untouched
abbrev pub AreUntouched : List Victim → List Victim → Type 0
AreUntouched [] [] = Unit {0}
AreUntouched [] (s ∷ ss) = ⊥
AreUntouched (r ∷ rs) [] = ⊥
AreUntouched (r ∷ rs) (s ∷ ss) = IsUntouched r s × AreUntouched rs ss

-- one of them gave the task, and the others are untouched
abbrev pub StealsFromOne : List Victim → Task → List Victim → Type 0
StealsFromOne [] t ss = ⊥
StealsFromOne (r ∷ rs) t [] = ⊥
StealsFromOne (r ∷ rs) t (s ∷ ss) = (StealsFrom r t s × AreUntouched rs ss) ⊎ (IsUntouched r s × StealsFromOne rs t ss)

abbrev pub total_took : (Task → ℕ) → List Victim → ℕ
total_took h rs = total (λ (r : Victim). let v : Hand = view r.pass in total h v.took) rs

abbrev pub total_bound : List Victim → ℕ
total_bound rs = total (λ (r : Victim). let v : Hand = view r.pass in v.bound) rs

-- all but what was taken is as it was
abbrev pub IsSameButTook : Victim → Victim → Type 0
IsSameButTook r s = (stealer_deque s.thief ≡ stealer_deque r.thief) × (let v : Hand = view r.pass in let w : Hand = view s.pass in w ≡ record v { took = w.took })

abbrev pub AreSameButTook : List Victim → List Victim → Type 0
AreSameButTook [] [] = Unit {0}
AreSameButTook [] (s ∷ ss) = ⊥
AreSameButTook (r ∷ rs) [] = ⊥
AreSameButTook (r ∷ rs) (s ∷ ss) = IsSameButTook r s × AreSameButTook rs ss

-- all are on these terms
abbrev pub AreOnTerms : List Task → List Victim → Type 0
AreOnTerms fit [] = Unit {0}
AreOnTerms fit (r ∷ rs) = (let v : Hand = view r.pass in v.fit ≡ fit) × AreOnTerms fit rs
