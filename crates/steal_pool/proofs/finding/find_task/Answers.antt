use Rattle.std.proofs.Common.{sym, ◌∙◌}
use Rattle.steal_pool.specs.Searches.{sources, FindsTask, FindsNone}
use Rattle.steal_pool.specs.Victims.{AreUntouched, StealsFromOne}
use Rattle.steal_pool.proofs.FoundTasks.{found_waiting, found_own, found_stolen}
use Rattle.steal_pool.proofs.VictimLists.{either_way}
use Rattle.steal_pool.proofs.finding.find_task.Goals as goal

pub returns-in-Some : goal.returns-in-Some
returns-in-Some c = found_waiting c.args.others.now c.in-Some.ensures.tasks c.in-Some.ensures.spare c.in-Some.ensures.room

pub returns-in-Some-take : goal.returns-in-Some-take
returns-in-Some-take c =
    let none = c.in_default.ensures in
    let some = c.in-Some-take.ensures in
    found_own c.args.others.now (record { old = none.tasks.0; new = none.tasks.1; spare = none.spare; room = none.room }) some.hand some.deque

pub returns-in-None : goal.returns-in-None
returns-in-None c =
    let q = c.args.queue.now in
    let r = c.take.new.self in
    let l = c.args.lane.now in
    let m = c.take-2.new.self in
    let rs = c.args.others.now in
    let ss = c.try_others.new.others in
    let waits = c.in_default.ensures in
    let none = c.in-None.ensures in
    either_way (AreUntouched rs ss) (FindsNone (sources q l rs) (sources r m ss)) (λ t. StealsFromOne rs t ss)
    (λ t. FindsTask (sources q l rs) t (sources r m ss)) c.try_others.result
    (λ a. record {
      none = waits.tasks.0;
      emptied = none.hand.1;
      queue = λ i. record { tasks = (waits.tasks.1 ∙ sym waits.tasks.0) i; spare = waits.spare i; room = waits.room i };
      hand = none.hand.0;
      deque = none.deque;
      others = a;
    })
    (λ t a. found_stolen rs ss (record { old = waits.tasks.0; new = waits.tasks.1; spare = waits.spare; room = waits.room }) (none.hand.0, none.deque) a)
    c.try_others.ensures
