use Rattle.std.proofs.Common.{◌≡◌, List, length, drop, Some, rules, refl, sym, ◌∙◌, subst, arith}
use Rattle.std.specs.Global.{Vec}
use Rattle.std.specs.Vec.{with_items}
use Rattle.steal_pool.specs.declared.lane.Lane.{Lane}
use Rattle.steal_pool.specs.declared.place.Place.{Place}
use Rattle.steal_pool.specs.declared.victim.Victim.{Victim}
use Rattle.steal_pool.specs.Jobs.{AllFit}
use Rattle.steal_pool.specs.Queues.{Waiting}
use Rattle.steal_pool.specs.Searches.{sources, FindsTask}
use Rattle.steal_pool.proofs.ListLemmas.{take_front}
use Rattle.steal_pool.proofs.PlaceTurns.{offers_none, with_others, finds_none, HasRested, none_ends, none_fewer, HasFound, has_turn, can_do, LeavesTurn, leaves_turn}
use Rattle.steal_pool.proofs.TurnLemmas.{DoesTask}
use Rattle.steal_pool.proofs.place.Place.turn.Given as given
use Rattle.steal_pool.proofs.place.Place.turn.Goals as goal
use Rattle.steal_pool.proofs.place.Place.turn.Goals.{In_default-find_task, In-Some-find_task, After-work}

items_are : (o : Vec Victim) (ss : List Victim) → length ss ≡ o.len → (with_items o ss).items ≡ ss
items_are o ss same = take_front o.len ss (drop (length ss) o.items) same

module _ (g : given.Over) where
  -- a task was found among the sources of the place
  found : (c : In-Some-find_task g)
      → HasFound g.J.Job.meaning c.args.shared.now c.args.self.now c.in-Some.job c.in-Some-find_task.task
      (sources c.find_task.new.queue c.find_task.new.lane c.find_task.new.others)
  found c =
      let p = c.args.self.now in
      let after = sources c.find_task.new.queue c.find_task.new.lane c.find_task.new.others in
      record {
        is = c.in-Some.is;
        can = c.requires.can;
        few = c.requires.few;
        finds =
            subst (λ us. FindsTask (sources p.queue p.lane us) c.in-Some-find_task.task after) c.as_mut_slice-others.ensures.value
            c.in-Some-find_task.ensures;
      }

  -- the job did it
  did : (c : After-work g)
      → DoesTask g.J.Job.meaning c.args.shared.now c.in-Some.job (sources c.find_task.new.queue c.find_task.new.lane c.find_task.new.others)
      c.in-Some-find_task.task c.work.new.job c.work.new.self
  did c =
      let w = c.work.ensures in
      record { puts = w.puts; spare = w.spare; room = w.room; ready = w.ready; same_fit = w.fit; turns = w.turns }

  -- no task was found
  rested : (c : In_default-find_task g)
      → HasRested g.J.Job.meaning c.args.shared.now c.args.self.now
      (record c.args.self.now {
        job = Some c.in-Some.job;
        queue = c.find_task.new.queue;
        lane = c.find_task.new.lane;
        others = with_items c.args.self.now.others c.find_task.new.others;
      })
  rested c =
      let p = c.args.self.now in
      let ss = c.find_task.new.others in
      let items = items_are p.others ss (c.find_task.auto.others ∙ c.as_mut_slice-others.ensures.len) in
      record {
        can = c.requires.can;
        job = sym c.in-Some.is;
        none = finds_none c.as_mut_slice-others.ensures.value items c.in_default-find_task.ensures;
        spare = refl;
        space = refl;
      }

pub returns-in_default-find_task-clause-went : goal.returns-in_default-find_task-clause-went
returns-in_default-find_task-clause-went g c = none_ends _ _ _ _ (rested g c)

pub returns-in_default-find_task-clause-fewer : goal.returns-in_default-find_task-clause-fewer
returns-in_default-find_task-clause-fewer g c = none_fewer _ _ _ _ (rested g c)

pub work-requires-clause-turns : goal.work-requires-clause-turns
work-requires-clause-turns g c κs within = has_turn _ _ (found g (goal.at.work-requires-clause-turns g c).In-Some-find_task)

pub offer-requires-clause-fit : goal.offer-requires-clause-fit
offer-requires-clause-fit g c =
    let at = goal.at.offer-requires-clause-fit g c in
    let can = can_do _ _ (found g at.In-Some-find_task) (did g at.After-work) in
    subst (λ fit. AllFit fit c.work.new.self.tasks) (sym can.terms) can.waiting

pub offer-requires-clause-bound : goal.offer-requires-clause-bound
offer-requires-clause-bound g c =
    let at = goal.at.offer-requires-clause-bound g c in
    omega (arith, (can_do _ _ (found g at.In-Some-find_task) (did g at.After-work)).bound)

-- the list of the others after the search, as it stands in the place
module _ (g : given.Over) (c : After-work g) where
  abbrev others : Vec Victim
  others = with_items c.args.self.now.others c.find_task.new.others

  others_are : others.items ≡ c.find_task.new.others
  others_are = items_are c.args.self.now.others c.find_task.new.others (c.find_task.auto.others ∙ c.as_mut_slice-others.ensures.len)

  -- a turn that did the task, where the tasks were offered with this queue and this lane
  abbrev left : Waiting → Lane → Place g.row.J.Denot
  left queue lane = record c.args.self.now { job = Some c.work.new.job; queue = queue; lane = lane; others = others; count = c.begin.new.self }

pub returns-then-not-is_empty : goal.returns-then-not-is_empty
returns-then-not-is_empty g c =
    let at = goal.at.returns-then-not-is_empty g c in
    let turn : LeavesTurn _ _ (found g at.In-Some-find_task) (did g at.After-work) (left g at.After-work c.offer.new.queue c.offer.new.lane) =
    leaves_turn _ _ _ _ (record { is = refl; offers = with_others (others_are g at.After-work) c.offer.ensures; spare = refl; space = refl }) in
    record { went = turn.went; few = turn.few; fewer = turn.fewer; none = search rules }

pub returns-else-not-is_empty : goal.returns-else-not-is_empty
returns-else-not-is_empty g c =
    let at = goal.at.returns-else-not-is_empty g c in
    let turn : LeavesTurn _ _ (found g at.In-Some-find_task) (did g at.After-work) (left g at.After-work c.work.new.self c.find_task.new.lane) =
    leaves_turn _ _ _ _ (record { is = refl; offers = with_others (others_are g at.After-work) (offers_none _); spare = refl; space = refl }) in
    record { went = turn.went; few = turn.few; fewer = turn.fewer; none = search rules }
