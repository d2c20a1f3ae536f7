use Rattle.std.proofs.Common.{◌≡◌, ℕ, ◌+◌, ◌<◌, List, [], ◌∷◌, ◌++◌, length, take, get_or, sym, ap, refl, ◌∙◌}
use Rattle.std.proofs.lemmas.List.{take_all, take_more}
use Rattle.steal_pool.specs.declared.task.Task.{Task}
use Rattle.parked_crew.proofs.task_share.JobShare.begin.Goals as goal

-- one more of the list
pushed : (ts us xs : List Task) (i : ℕ) (d : Task) → ts ≡ us ++ get_or xs i d ∷ [] → us ≡ take i xs → i < length xs → ts ≡ take (i + 1) xs
pushed ts us xs i d more was within = more ∙ (ap (λ (z : List Task). z ++ get_or xs i d ∷ []) was ∙ sym (take_more xs i d within))

pub loop-task-init : goal.loop-task-init
loop-task-init g c = record {
  begun = record { job = refl; none_put = ap (λ o. o.tasks) c.clear.ensures; none_done = refl; shared = refl; out_room = ap (λ o. o.room) c.clear.ensures };
  dealt = c.clear-2.ensures.items;
}

pub loop-task-preserved : goal.loop-task-preserved
loop-task-preserved g c =
    let was = c.loop-task.invariant in
    let b = was.begun in
    record {
      begun = record { job = b.job; none_put = b.none_put; none_done = b.none_done; shared = b.shared; out_room = b.out_room };
      dealt = pushed c.push.new.self.items c.loop-task.self.list.items c.args.list.now c.loop-task.task-index _ c.in_ok-push.ensures.items was.dealt c.loop-task-test.true;
    }

pub returns : goal.returns
returns g c = (c.loop-task.invariant.begun, c.loop-task.invariant.dealt ∙ take_all c.loop-task.task-index c.args.list.now c.loop-task-test.false)
