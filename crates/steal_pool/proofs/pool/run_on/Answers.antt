use Rattle.std.proofs.Common.{◌≡◌, List, [], length, ◌++◌, subst, sym, ◌∙◌, ap, arith}
use Rattle.steal_pool.specs.Needs.{Start, HasRun}
use Rattle.steal_pool.specs.Runs.{Workload}
use Rattle.steal_pool.proofs.WholeRun.{none_left, AreSeated, HaveHands, HaveStopped, AreWhole, seated_from, can_begin_all, begun_from, can_lend, handed_from}
use Rattle.steal_pool.proofs.WholeRun.{may_start, stopped_from, can_take, whole_from, finish_needs, done_from, have_jobs_all, has_run}
use Rattle.steal_pool.proofs.pool.run_on.Given as given
use Rattle.steal_pool.proofs.pool.run_on.Goals as goal
use Rattle.steal_pool.proofs.pool.run_on.Goals.{After-seat_jobs, After-busy, After-run_all, After-take_back_all}

module _ (g : given.Over) where
  -- each job is seated, and none is left
  none_unseated : (c : After-seat_jobs g) → length c.seat_jobs.new.jobs.items ≡ 0
  none_unseated c = omega (arith, c.requires.jobs, c.seat_jobs.ensures.count, c.seat_jobs.new.jobs.ok.0, c.args.jobs.now.ok.0)

  seated : (c : After-seat_jobs g) → AreSeated c.requires c.seat_jobs.new.places
  seated c = seated_from c.requires c.seat_jobs.new.jobs.items c.seat_jobs.new.places c.seat_jobs.ensures.moved (none_unseated c)

  -- the workers have hands on each other's deques, as they start
  handed : (c : After-busy g) → HaveHands c.requires c.lend_all.new.places
  handed c =
      let begun = begun_from c.requires c.begin_all.new.places (seated (goal.at.run_all-requires-clause-able g c).After-seat_jobs) c.begin_all.ensures in
      handed_from c.requires begun c.lend_all.ensures.each c.lend_all.ensures.rows

  stopped : (c : After-run_all g) → HaveHands c.requires c.lend_all.new.places
      → HaveStopped c.requires c.lend_all.new.places c.run_all.new.places
  stopped c hands = stopped_from c.requires c.run_all.new.places hands c.run_all.auto.places c.run_all.ensures

  -- each worker's hands are back
  whole : (c : After-take_back_all g) → HaveStopped c.requires c.lend_all.new.places c.run_all.new.places
      → AreWhole c.requires c.lend_all.new.places c.run_all.new.places c.take_back_all.new.places
  whole c stop = whole_from c.requires c.take_back_all.new.places stop c.take_back_all.ensures.each c.take_back_all.ensures.rows

pub begin_all-requires-clause-lists : goal.begin_all-requires-clause-lists
begin_all-requires-clause-lists g c κs w =
    omega (arith, (seated g (goal.at.begin_all-requires-clause-lists g c).After-seat_jobs).count, c.requires.lists)

pub begin_all-requires-clause-few : goal.begin_all-requires-clause-few
begin_all-requires-clause-few g c κs w = omega (arith, c.requires.lists, c.requires.few)

pub begin_all-requires-clause-can : goal.begin_all-requires-clause-can
begin_all-requires-clause-can g c κs w = can_begin_all c.requires (seated g (goal.at.begin_all-requires-clause-can g c).After-seat_jobs)

pub lend_all-requires : goal.lend_all-requires
lend_all-requires g c =
    let begun = begun_from c.requires c.begin_all.new.places (seated g (goal.at.lend_all-requires g c).After-seat_jobs) c.begin_all.ensures in
    let can = can_lend c.requires begun in
    record { give = can.0; get = can.1 }

pub run_all-requires-clause-able : goal.run_all-requires-clause-able
run_all-requires-clause-able g c κs w = may_start c.requires (handed g c)

pub take_back_all-requires : goal.take_back_all-requires
take_back_all-requires g c =
    let at = goal.at.take_back_all-requires g c in
    let stop = stopped g at.After-run_all (handed g at.After-busy) in
    record { join = can_take c.requires stop; rows = ([], stop.keys) }

pub finish_all-requires-after_bounds : goal.finish_all-requires-after_bounds
finish_all-requires-after_bounds g c κs w =
    let at = goal.at.finish_all-requires-after_bounds g c in
    finish_needs c.requires (whole g at.After-take_back_all (stopped g at.After-run_all (handed g at.After-busy)))

pub unseat_jobs-requires-clause-jobs : goal.unseat_jobs-requires-clause-jobs
unseat_jobs-requires-clause-jobs g c =
    let at = goal.at.unseat_jobs-requires-clause-jobs g c in
    let back = whole g at.After-take_back_all (stopped g at.After-run_all (handed g at.After-busy)) in
    have_jobs_all c.requires (done_from c.requires c.finish_all.new.places back c.finish_all.ensures)

pub returns : goal.returns
returns g c =
    let at = goal.at.returns g c in
    let back = whole g at.After-take_back_all (stopped g at.After-run_all (handed g at.After-busy)) in
    let done = done_from c.requires c.finish_all.new.places back c.finish_all.ensures in
    let load : Workload _ = record { jobs = c.args.jobs.now.items; first = c.args.first.now.lists } in
    let start : Start _ = record { places = c.args.places.now; room = c.args.context.now.room; load = load } in
    let last = c.unseat_jobs.ensures.0 in
    let left-is : c.unseat_jobs.new.jobs.items ≡ last = c.unseat_jobs.ensures.1 ∙ ap (λ xs. xs ++ last) (none_left _ (none_unseated g at.After-seat_jobs)) in
    subst (λ (xs : List _). HasRun g.J.Job.meaning c.args.context.now.shared.now start (xs, c.unseat_jobs.new.places)) (sym left-is)
    (has_run c.requires done c.unseat_jobs.ensures.2 c.take_back_all.ensures.sum)
