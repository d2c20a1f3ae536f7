use Rattle.std.proofs.Common.{◌≡◌, ℕ, ◌+◌, ◌<◌, List, [], ◌∷◌, ◌++◌, length, take, get_or, sym, ap, subst, ◌∙◌, append_assoc, append-nil}
use Rattle.std.proofs.lemmas.Grind.{flat_map-append}
use Rattle.std.proofs.lemmas.List.{take_all, take_more}
use Rattle.steal_pool.specs.declared.task.Task.{Task}
use Rattle.parked_crew.specs.Shares.{left_in, HasDoneList}
use Rattle.parked_crew.specs.Progress.{all_left}
use Rattle.parked_crew.proofs.task_dealing.gather.Goals as goal

pub left-task-items-requires : goal.left-task-items-requires
left-task-items-requires g c = subst HasDoneList (sym c.share-item.is) (c.requires c.loop-share.share-index c.share-item.result c.loop-share-test.true)

-- one more of the list stands behind what was there
pushed : (ts us vs xs : List Task) (i : ℕ) (d : Task) → ts ≡ us ++ get_or xs i d ∷ [] → us ≡ vs ++ take i xs → i < length xs → ts ≡ vs ++ take (i + 1) xs
pushed ts us vs xs i d more was within =
    more ∙ (ap (λ (z : List Task). z ++ get_or xs i d ∷ []) was
    ∙ (append_assoc vs (take i xs) (get_or xs i d ∷ []) ∙ ap (λ (z : List Task). vs ++ z) (sym (take_more xs i d within))))

pub loop-task-preserved : goal.loop-task-preserved
loop-task-preserved g c =
    pushed c.push.new.self.items c.loop-task.tasks.items c.loop-share.tasks.items c.left-task-items.result.now c.loop-task.task-index _
    c.in_ok-push.ensures.items c.loop-task.invariant c.loop-task-test.true

pub loop-share-preserved : goal.loop-share-preserved
loop-share-preserved g c =
    let x = c.share-item.result in
    let i = c.loop-share.share-index in
    let ps = c.args.shares.now in
    let was : List Task = all_left (take i ps) in
    let more : all_left (take (i + 1) ps) ≡ was ++ left_in x =
    ap all_left (take_more ps i x c.loop-share-test.true ∙ ap (λ p. take i ps ++ p ∷ []) (sym c.share-item.is))
    ∙ (flat_map-append left_in (take i ps) (x ∷ []) ∙ ap (λ (ts : List Task). was ++ ts) (append-nil (left_in x))) in
    let all = take_all c.loop-task.task-index c.left-task-items.result.now c.loop-task-test.false ∙ c.left-task-items.ensures in
    c.loop-task.invariant ∙ (ap (λ (z : List Task × List Task). z.0 ++ z.1) (λ k. (c.loop-share.invariant k, all k))
    ∙ (append_assoc c.args.tasks.now.items was (left_in x) ∙ ap (λ (ts : List Task). c.args.tasks.now.items ++ ts) (sym more)))

pub returns : goal.returns
returns g c = c.loop-share.invariant ∙ ap (λ ps. c.args.tasks.now.items ++ all_left ps) (take_all c.loop-share.share-index c.args.shares.now c.loop-share-test.false)
