use Rattle.std.proofs.Common.{◌≡◌, ◌<◌, List, [], ◌++◌, drop, take, length, sym, ap, subst, refl, ◌∙◌, arith}
use Rattle.std.specs.Arc.{arc_value}
use Rattle.std.specs.List.{All}
use Rattle.steal_pool.proofs.ListLemmas.{take_front, each_length}
use Rattle.steal_pool.proofs.WholeRun.{rec_all}
use Rattle.steal_pool.specs.Runs.{AreReady, ShareFit, TurnsLast, Run, fit_tasks, most_tasks}
use Rattle.steal_pool.specs.Lists.{Pairs}
use Rattle.steal_pool.specs.declared.task.Task.{Task}
use Rattle.parked_crew.specs.Shares.{HasDoneList, IsBegun}
use Rattle.parked_crew.specs.Progress.{IsSeatOf, Progress, to_do, all_left, most_left}
use Rattle.parked_crew.proofs.Whole.{begins, all_can_work, have_done_lists, smaller, begun_length, zip_length, goes_further, has_run, are_ready, share_fit, turns_last}
use Rattle.parked_crew.proofs.residents.Residents.run.Goals as goal
use Rattle.parked_crew.proofs.residents.Residents.run.Goals.{In_ok-deal}

-- what was put in a round is dealt for the next
dealt : (g : _) (c : In_ok-deal g)
    → Pairs IsBegun c.in_ok-shares-2.shares.items c.deal.new.shares × (to_do c.deal.new.shares ≡ all_left c.in_ok-shares-2.shares.items)
dealt g c =
    let qs = c.in_ok-shares-2.shares.items in
    let left : c.gather.new.tasks.items ≡ all_left qs =
    c.in_ok-gather.ensures ∙ (ap (λ (ts : List Task). ts ++ all_left c.deref-in-loop-self.result.now) c.clear.ensures.items ∙ ap all_left c.deref-in-loop-self.ensures.value) in (
      subst (λ (xs : List _). Pairs IsBegun xs c.deal.new.shares) c.deref_mut.ensures.value c.in_ok-deal.ensures.dealt,
      c.in_ok-deal.ensures.tasks ∙ (c.deref-in-loop-self-2.ensures.value ∙ left),
    )

-- the shares after the round are those that were dealt
all_dealt : (g : _) (c : In_ok-deal g)
    → take c.in_ok-shares-2.shares.len (c.deal.new.shares ++ drop (length c.deal.new.shares) c.in_ok-shares-2.shares.items) ≡ c.deal.new.shares
all_dealt g c =
    let qs = c.in_ok-shares-2.shares.items in
    let rs = c.deal.new.shares in
    take_front c.in_ok-shares-2.shares.len rs (drop (length rs) qs)
    (begun_length g.J.Job.meaning (arc_value c.args.shared.now) qs rs (dealt g c).0 ∙ sym c.in_ok-shares-2.shares.ok.0)

pub loop-self-init : goal.loop-self-init
loop-self-init g c =
    let r = c.requires in
    let seats = each_length (IsSeatOf g.J.Job.meaning (arc_value c.args.shared.now)) c.args.jobs.items c.args.first.now.lists c.in_ok-shares.shares.items c.in_ok-shares.ensures in
    let jobs = c.args.jobs.ok.0 in
    let shares = c.in_ok-shares.shares.ok.0 in
    let many = r.jobs in
    record {
      gone = begins g.J.Job.meaning (arc_value c.args.shared.now) c.args.jobs.items c.args.first.now.lists c.in_ok-shares.shares.items c.in_ok-shares.ensures r.ready r.same_fit r.fit r.turns;
      count = omega arith;
      crew = refl;
    }

pub round-requires-clause-can_work : goal.round-requires-clause-can_work
round-requires-clause-can_work g c = all_can_work g.J.Job.meaning (arc_value c.args.shared.now) c.args.jobs.items c.args.first.now.lists c.loop-self.shares.items c.loop-self.invariant.gone

pub gather-requires : goal.gather-requires
gather-requires g c =
    let qs = c.in_ok-shares-2.shares.items in
    subst (λ (xs : List _). All HasDoneList xs) (sym c.deref-in-loop-self.ensures.value)
    (rec_all HasDoneList qs (have_done_lists g.J.Job.meaning (arc_value c.args.shared.now) c.loop-self.shares.items qs c.in_ok-shares-2.ensures.worked))

pub loop-self-smaller : goal.loop-self-smaller
loop-self-smaller g c =
    let M = g.J.Job.meaning in
    let s = arc_value c.args.shared.now in
    let at = (goal.at.loop-self-smaller g c).In_ok-deal in
    let ps = c.loop-self.shares.items in
    let deal = dealt g at in
    let some : 0 < length (to_do ps) = subst (λ (xs : List _). 0 < length (to_do xs)) c.deref.ensures.value c.loop-self-test.ensures in
    subst (λ (xs : List _). most_left M s xs < most_left M s ps) (sym (all_dealt g at))
    (smaller M s ps c.in_ok-shares-2.shares.items c.deal.new.shares c.in_ok-shares-2.ensures.worked deal.0 deal.1 some)

pub loop-self-preserved : goal.loop-self-preserved
loop-self-preserved g c =
    let was = c.loop-self.invariant in
    let many = was.count in
    let crew = was.crew in
    let ps = c.loop-self.shares.items in
    let old = c.loop-self.shares.ok.0 in
    let qs = c.in_ok-shares-2.shares.items in
    let len = c.in_ok-shares-2.shares.ok.0 in
    let z = c.in_ok-shares-2.ensures.worked in
    let workers = c.in_ok-shares-2.ensures.workers in
    let rs = c.deal.new.shares in
    let M = g.J.Job.meaning in
    let s = arc_value c.args.shared.now in
    let at = (goal.at.loop-self-preserved g c).In_ok-deal in
    let deal = dealt g at in
    let same = all_dealt g at in
    let b = begun_length M s qs rs deal.0 in
    let longer = zip_length M s ps qs z in
    record {
      gone =
          subst (λ (xs : List _). Progress M s (fit_tasks M s c.args.jobs.items) c.args.first.now.lists c.args.jobs.items xs) (sym same)
          (goes_further M s c.args.jobs.items c.args.first.now.lists ps qs rs was.gone z deal.0 deal.1);
      count = omega arith;
      crew = workers ∙ crew;
    }

pub returns-clause-ran : goal.returns-clause-ran
returns-clause-ran g c =
    let M = g.J.Job.meaning in
    let s = arc_value c.args.shared.now in
    let js = c.args.jobs.items in
    let fs = c.args.first.now.lists in
    let ps = c.loop-self.shares.items in
    let none : to_do ps ≡ [] = subst (λ (xs : List _). to_do xs ≡ []) c.deref.ensures.value c.loop-self-test.ensures in
    subst (λ (ks : List _). Run M s (record { jobs = js; first = fs }) ks) (sym c.in_ok-jobs.ensures) (has_run M s js fs ps c.loop-self.invariant.gone none)

pub returns-clause-ready : goal.returns-clause-ready
returns-clause-ready g c =
    let M = g.J.Job.meaning in
    let s = arc_value c.args.shared.now in
    subst (λ (ks : List _). AreReady M s ks) (sym c.in_ok-jobs.ensures) (are_ready M s c.args.jobs.items c.args.first.now.lists c.loop-self.shares.items c.loop-self.invariant.gone)

pub returns-clause-same_fit : goal.returns-clause-same_fit
returns-clause-same_fit g c =
    let M = g.J.Job.meaning in
    let s = arc_value c.args.shared.now in
    subst (λ (ks : List _). ShareFit M s (fit_tasks M s c.args.jobs.items) ks) (sym c.in_ok-jobs.ensures)
    (share_fit M s c.args.jobs.items c.args.first.now.lists c.loop-self.shares.items c.loop-self.invariant.gone)

pub returns-clause-turns : goal.returns-clause-turns
returns-clause-turns g c =
    let M = g.J.Job.meaning in
    let went = turns_last M (arc_value c.args.shared.now) c.args.jobs.items c.args.first.now.lists c.loop-self.shares.items c.loop-self.invariant.gone in
    subst (λ (ks : List _). TurnsLast M (most_tasks M c.args.jobs.items c.args.first.now.lists) c.args.jobs.items ks) (sym c.in_ok-jobs.ensures) went
