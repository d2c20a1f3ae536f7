use Rattle.std.proofs.Common.{arith, ◌≡◌, List, ◌++◌, take, set, ap, ◌∙◌}
use Rattle.std.proofs.lemmas.List.{take-append-drop}
use Rattle.std.proofs.lemmas.Result.{IfOk-weaker}
use Rattle.steal_pool.specs.declared.task.Task.{Task}
use Rattle.steal_pool.specs.Lists.{Pairs}
use Rattle.steal_pool.proofs.LoanLemmas.{IsSplit, headed}
use Rattle.parked_crew.specs.Shares.{IsBegun}
use Rattle.parked_crew.specs.Progress.{to_do}
use Rattle.parked_crew.proofs.task_dealing.+deal.Goals as goal
use Rattle.parked_crew.proofs.task_dealing.+deal.Goals.{After-split_at_mut-head, then-shares-eq1, else-shares-eq1}

-- the shares are the first and the rest
split : (g : _) (t : _) (c : After-split_at_mut-head g t) → IsSplit c.args.shares.now c.split_at_mut-head.result.0.now c.split_at_mut-head.result.1.now
split g t c = record { whole = c.split_at_mut-head.ensures.value; one = c.split_at_mut-head.ensures.front_len }

pub split_at-requires : goal.split_at-requires
split_at-requires g t c = elim c.if-shares-eq1.branch [
  | then-shares-eq1 w ↦ (let is = w.count-is in omega (arith, is))
  | else-shares-eq1 w ↦ (let is = w.count-is in let least = w.min-count.ensures in omega (arith, is, least))
]

pub returns-clause-dealt : goal.returns-clause-dealt
returns-clause-dealt g t c =
    let cut = split g t (goal.at.returns-clause-dealt g t c).After-split_at_mut-head in
    let x = c.index-head-0.result in
    let y = c.begin.new.self in
    let ys = c.deal.new.shares in
    IfOk-weaker c.deal.result (λ _. Pairs IsBegun c.split_at_mut-head.result.1.now ys)
    (λ _. Pairs IsBegun c.args.shares.now (set c.split_at_mut-head.result.0.now 0 y ++ ys))
    (λ _ rest. headed (Pairs IsBegun) cut x y ys (c.in_ok-begin.ensures.0, rest)) c.deal.ensures.dealt

pub returns-clause-tasks : goal.returns-clause-tasks
returns-clause-tasks g t c =
    let cut = split g t (goal.at.returns-clause-tasks g t c).After-split_at_mut-head in
    let x = c.index-head-0.result in
    let y = c.begin.new.self in
    let ys = c.deal.new.shares in
    let ts : List Task = c.args.tasks.now in
    let n = c.if-shares-eq1.count in
    let mine : y.list.items ≡ take n ts = c.in_ok-begin.ensures.1 ∙ c.split_at.ensures.front in
    IfOk-weaker c.deal.result (λ _. to_do ys ≡ c.split_at.result.1.now)
    (λ _. to_do (set c.split_at_mut-head.result.0.now 0 y ++ ys) ≡ ts)
    (λ _ rest. headed (λ _ zs. to_do zs ≡ ts) cut x y ys (
    ap (λ (z : List Task × List Task). z.0 ++ z.1) (λ i. (mine i, (rest ∙ c.split_at.ensures.back) i)) ∙ take-append-drop n ts)) c.deal.ensures.tasks
