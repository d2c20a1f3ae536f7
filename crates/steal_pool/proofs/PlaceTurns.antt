-- The turns of the worker of a place.
use Rattle.std.proofs.Common.{◌≡◌, ◌+◌, ◌-◌, ◌<◌, ◌≤◌, List, [], sym, refl, ap, ◌∙◌, subst, arith, append-nil, Option, Some, None, vec_capacity}
use Rattle.steal_pool.specs.declared.task.Task.{Task}
use Rattle.crossbeam_deque.specs.Handles.{worker_deque}
use Rattle.steal_pool.specs.declared.lane.Lane.{Lane}
use Rattle.steal_pool.specs.declared.place.Place.{Place}
use Rattle.steal_pool.specs.declared.victim.Victim.{Victim}
use Rattle.steal_pool.specs.Hands.{one}
use Rattle.steal_pool.specs.Jobs.{Meaning}
use Rattle.steal_pool.specs.Lanes.{own_hand, HasTakenFew}
use Rattle.steal_pool.specs.Queues.{Waiting}
use Rattle.steal_pool.specs.Searches.{TaskSources, sources, total_taken, FindsTask, FindsNone, Offers}
use Rattle.steal_pool.specs.Workers.{most_left, CanWork, room_in, task_sources_of, tasks_left, CanStart, EndsWork, Advances}
use Rattle.steal_pool.proofs.TurnLemmas.{DoesTask, went_none, went_on, turn_left, none_can, none_went, none_left, done_can, done_went, done_left, offered_can, offered_went, offered_few, offered_left}

abbrev out : {J : Type 0} → J → Option J → J
out d (Some x) = x
out d None = d

pub same_job : {J : Type 0} (o : Option J) (i j : J) → o ≡ Some i → o ≡ Some j → i ≡ j
same_job o i j a b = ap (out i) (sym a ∙ b)

pub offers_none : (a : TaskSources) → Offers a a
offers_none a = record { moved = []; tasks = refl; queue = refl; hand = λ i. record (own_hand a.lane) { put = sym (append-nil (own_hand a.lane).put) i }; deque = refl; others = refl }

pub with_others : {q r : Waiting} {l m : Lane} {us vs : List Victim} → vs ≡ us → Offers (sources q l []) (sources r m [])
    → Offers (sources q l us) (sources r m vs)
with_others same o = record { moved = o.moved; tasks = o.tasks; queue = o.queue; hand = o.hand; deque = o.deque; others = same }

-- where no task was found, among the others' deques as the list gave them
pub finds_none : {q r : Waiting} {l m : Lane} {us vs rs ss : List Victim} → rs ≡ us → vs ≡ ss → FindsNone (sources q l rs) (sources r m ss)
    → FindsNone (sources q l us) (sources r m vs)
finds_none {q = q} {r = r} {l = l} {m = m} {us = us} {ss = ss} old new none =
    subst (λ os. FindsNone (sources q l us) (sources r m os)) (sym new) (subst (λ os. FindsNone (sources q l os) (sources r m ss)) old none)

module _ {J S : Type 0} (M : Meaning J S) (s : S) where
  -- the job of a place that may start
  pub can_at : (p : Place J) (j : J) → CanStart M s p → p.job ≡ Some j → CanWork M s j (task_sources_of p)
  can_at p j k e = subst (λ i. CanWork M s i (task_sources_of p)) (same_job p.job k.job j k.is e) k.can

  left_at : (p : Place J) (j : J) → p.job ≡ Some j → most_left (M.room j) (task_sources_of p) - total_taken one (task_sources_of p) ≡ tasks_left M p
  left_at p j e = ap (λ o. most_left (room_in M o) (task_sources_of p) - total_taken one (task_sources_of p)) (sym e)

  -- the worker of the place p found no task, and left the place as q
  pub record HasRested (p q : Place J) : Type 0 where
    pub can : CanStart M s p
    pub job : q.job ≡ p.job
    pub none : FindsNone (task_sources_of p) (task_sources_of q)
    pub spare : q.spare ≡ p.spare
    pub space : vec_capacity q.others ≡ vec_capacity p.others

  pub none_ends : (p q : Place J) → HasRested p q → EndsWork M s p q
  none_ends p q r =
      let j = r.can.job in
      record {
        old = j;
        new = j;
        was = r.can.is;
        is = r.job ∙ r.can.is;
        went = none_went M s j (task_sources_of p) (task_sources_of q) r.none;
        can = none_can M s j (task_sources_of p) (task_sources_of q) r.can.can r.none;
        spare = r.spare;
        space = r.space;
      }

  pub none_fewer : (p q : Place J) → HasRested p q → tasks_left M q + 0 ≤ tasks_left M p
  none_fewer p q r =
      let fewer = none_left M s (room_in M p.job) (task_sources_of p) (task_sources_of q) r.none in
      let same = ap (λ o. most_left (room_in M o) (task_sources_of q) - total_taken one (task_sources_of q)) r.job in
      omega (arith, fewer, same)

  -- the worker of the place p, whose job is j, found the task t, and then had the sources b
  pub record HasFound (p : Place J) (j : J) (t : Task) (b : TaskSources) : Type 0 where
    pub is : p.job ≡ Some j
    pub can : CanStart M s p
    pub few : HasTakenFew p.lane
    pub finds : FindsTask (task_sources_of p) t b

  pub has_turn : {p : Place J} {j : J} {t : Task} {b : TaskSources} → HasFound p j t b → 0 < M.turns j
  has_turn {p = p} {j = j} {t = t} {b = b} found = turn_left M s j (task_sources_of p) b t (can_at p j found.can found.is) found.few found.finds

  -- a turn that did a task: its job became k, and then it had the queue r
  module _ {p : Place J} {j k : J} {t : Task} {b : TaskSources} {r : Waiting} (found : HasFound p j t b) (did : DoesTask M s j b t k r) where
    pub can_do : CanWork M s k (sources r b.lane b.others)
    can_do = done_can M s j k (task_sources_of p) b t r (can_at p j found.can found.is) found.finds did

    -- some of its tasks were offered, and the place was left as q
    pub record HasOffered (q : Place J) : Type 0 where
      pub is : q.job ≡ Some k
      pub offers : Offers (sources r b.lane b.others) (task_sources_of q)
      pub spare : q.spare ≡ p.spare
      pub space : vec_capacity q.others ≡ vec_capacity p.others

    pub did_ends : {q : Place J} → HasOffered q → EndsWork M s p q
    did_ends {q = q} o =
        let done = done_went M s j k (task_sources_of p) b t r (can_at p j found.can found.is) found.finds did in
        let offered = offered_went M s k (sources r b.lane b.others) (task_sources_of q) o.offers in
        record {
          old = j;
          new = k;
          was = found.is;
          is = o.is;
          went = went_on M s (j, task_sources_of p) (k, sources r b.lane b.others) (k, task_sources_of q) done offered;
          can = offered_can M s k (sources r b.lane b.others) (task_sources_of q) can_do o.offers;
          spare = o.spare;
          space = o.space;
        }

    pub did_few : {q : Place J} → HasOffered q → HasTakenFew q.lane
    did_few {q = q} o = offered_few M s (sources r b.lane b.others) (task_sources_of q) o.offers (found.finds.few found.few)

    pub did_fewer : {q : Place J} → HasOffered q → tasks_left M q + 1 ≤ tasks_left M p
    did_fewer {q = q} o =
        let done = done_left M s j k (task_sources_of p) b t r found.few found.finds did in
        let offered = offered_left M s (M.room k) (sources r b.lane b.others) (task_sources_of q) o.offers in
        omega (arith, done, offered, left_at p j found.is, left_at q k o.is)

    -- what such a turn leaves
    pub record LeavesTurn (q : Place J) : Type 0 where
      pub went : EndsWork M s p q
      pub few : HasTakenFew q.lane
      pub fewer : tasks_left M q + 1 ≤ tasks_left M p

    pub leaves_turn : {q : Place J} → HasOffered q → LeavesTurn q
    leaves_turn o = record { went = did_ends o; few = did_few o; fewer = did_fewer o }

module _ {J S : Type 0} {M : Meaning J S} {s : S} where
  pub ends_none : {p : Place J} → CanStart M s p → EndsWork M s p p
  ends_none {p = p} k = record { old = k.job; new = k.job; was = k.is; is = k.is; went = went_none M s k.job (task_sources_of p); can = k.can; spare = refl; space = refl }

  pub ends_on : {p q r : Place J} → EndsWork M s p q → EndsWork M s q r → EndsWork M s p r
  ends_on {p = p} {q = q} {r = r} a b =
      let mid : b.old ≡ a.new = same_job q.job b.old a.new b.was a.is in
      record {
        old = a.old;
        new = b.new;
        was = a.was;
        is = b.is;
        went =
            went_on M s (a.old, task_sources_of p) (a.new, task_sources_of q) (b.new, task_sources_of r) a.went
            (subst (λ (j : J). Advances M s (j, task_sources_of q) (b.new, task_sources_of r)) mid b.went);
        can = b.can;
        spare = b.spare ∙ a.spare;
        space = b.space ∙ a.space;
      }

  pub starts_again : (p q : Place J) → EndsWork M s p q → CanStart M s q
  starts_again p q a = record { job = a.new; is = a.is; can = a.can }

  -- the deque was looked at
  pub ends_same : {p : Place J} (l : Lane) → CanStart M s p → own_hand l ≡ own_hand p.lane
      → worker_deque l.owner ≡ worker_deque p.lane.owner → EndsWork M s p (record p { lane = l })
  ends_same {p = p} l k e d =
      let none : Offers (task_sources_of p) (sources p.queue l p.others.items) = record {
        moved = [];
        tasks = refl;
        queue = refl;
        hand = e ∙ (λ i. record (own_hand p.lane) { put = sym (append-nil (own_hand p.lane).put) i });
        deque = d;
        others = refl;
      } in
      record {
        old = k.job;
        new = k.job;
        was = k.is;
        is = k.is;
        went = offered_went M s k.job (task_sources_of p) (sources p.queue l p.others.items) none;
        can = offered_can M s k.job (task_sources_of p) (sources p.queue l p.others.items) k.can none;
        spare = refl;
        space = refl;
      }
