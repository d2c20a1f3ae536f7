-- What a task that was found tells of the sources.
use Rattle.std.proofs.Common.{◌≡◌, List, [], ◌∷◌, sym, refl, ap, ◌∙◌, subst, ⊎_elim, arith}
use Rattle.std.specs.List.{Contains}
use Rattle.steal_pool.specs.declared.task.Task.{Task}
use Rattle.heap_base.specs.Counting.{total}
use Rattle.heap_base.proofs.Counting.{total-append}
use Rattle.crossbeam_deque.specs.Handles.{view, worker_deque}
use Rattle.steal_pool.specs.declared.hand.Hand.{Hand}
use Rattle.steal_pool.specs.declared.lane.Lane.{Lane}
use Rattle.steal_pool.specs.declared.victim.Victim.{Victim}
use Rattle.steal_pool.specs.Hands.{one}
use Rattle.steal_pool.specs.Jobs.{AllFit}
use Rattle.steal_pool.specs.Lanes.{own_hand}
use Rattle.steal_pool.specs.Queues.{Waiting}
use Rattle.steal_pool.specs.Searches.{sources, FindsTask}
use Rattle.steal_pool.specs.Steps.{Takes}
use Rattle.steal_pool.specs.Victims.{IsUntouched, StealsFrom, AreUntouched, StealsFromOne, IsSameButTook, AreSameButTook, AreOnTerms}
use Rattle.steal_pool.proofs.VictimLists.{all_untouched, gave_sum}

abbrev hand : Victim → Hand
hand r = view r.pass

same_from : (r s : Victim) → IsUntouched r s → IsSameButTook r s
same_from r s u = (u.0, u.1 ∙ (λ i. record (hand r) { took = (sym u.1 i).took }))

pub all_same_from : (rs ss : List Victim) → AreUntouched rs ss → AreSameButTook rs ss
all_same_from [] [] a = tt
all_same_from [] (s ∷ ss) a = absurd a
all_same_from (r ∷ rs) [] a = absurd a
all_same_from (r ∷ rs) (s ∷ ss) a = (same_from r s a.0, all_same_from rs ss a.1)

same_stolen : (r s : Victim) (t : Task) → StealsFrom r t s → IsSameButTook r s
same_stolen r s t b = (b.0, b.1.hand ∙ (λ i. record (hand r) { took = (sym b.1.hand i).took }))

gave_same : (rs ss : List Victim) (t : Task) → StealsFromOne rs t ss → AreSameButTook rs ss
gave_same [] ss t a = absurd a
gave_same (r ∷ rs) [] t a = absurd a
gave_same (r ∷ rs) (s ∷ ss) t a = ⊎_elim (λ b. (same_stolen r s t b.0, all_same_from rs ss b.1)) (λ b. (same_from r s b.0, gave_same rs ss t b.1)) a

gave_fit : (fit : List Task) (rs ss : List Victim) (t : Task) → AreOnTerms fit rs → StealsFromOne rs t ss → Contains fit t
gave_fit fit [] ss t on a = absurd a
gave_fit fit (r ∷ rs) [] t on a = absurd a
gave_fit fit (r ∷ rs) (s ∷ ss) t on a = ⊎_elim (λ b. subst (λ f. Contains f t) on.0 b.0.1.are_fit.0) (λ b. gave_fit fit rs ss t on.1 b.1) a

-- a task that waited
pub found_waiting : {q r : Waiting} {l : Lane} (rs : List Victim) {t : Task} → q.tasks ≡ t ∷ r.tasks → r.spare ≡ q.spare → r.room ≡ q.room
    → FindsTask (sources q l rs) t (sources r l rs)
found_waiting {r = r} rs is spare room =
    record {
      sum = λ h. (let a = ap (total h) is in omega arith);
      fewer = (let e = ap (total one) is in omega arith);
      is_fit = λ fit a e on. (subst (AllFit fit) is a).0;
      rest_fit = λ fit a. (subst (AllFit fit) is a).1;
      queue = λ i. record { tasks = r.tasks; spare = spare i; room = room i };
      hand = refl;
      few = λ f. f;
      deque = refl;
      others = all_same_from rs rs (all_untouched rs);
    }

-- no task waited at the queue, which is now r
pub record NoneWaits (q r : Waiting) : Type 0 where
  pub old : q.tasks ≡ []
  pub new : r.tasks ≡ []
  pub spare : r.spare ≡ q.spare
  pub room : r.room ≡ q.room

-- a task of the own deque
pub found_own : {q r : Waiting} {l m : Lane} (rs : List Victim) {t : Task} → NoneWaits q r → Takes (own_hand l) (t ∷ []) (own_hand m)
    → worker_deque m.owner ≡ worker_deque l.owner → FindsTask (sources q l rs) t (sources r m rs)
found_own {r = r} {l = l} rs {t = t} queue a deque =
    record {
      sum = λ h. (
          let took = ap (λ (v : Hand). total h v.took) a.hand ∙ total-append h (own_hand l).took (t ∷ []) in
          omega (arith, took, ap (total h) queue.old, ap (total h) queue.new));
      fewer = omega (arith, ap (total one) queue.new);
      is_fit = λ fit b e on. subst (λ f. Contains f t) e a.are_fit.0;
      rest_fit = λ fit b. subst (AllFit fit) (sym queue.new) tt;
      queue = λ i. record { tasks = r.tasks; spare = queue.spare i; room = queue.room i };
      hand = a.hand ∙ (λ i. record (own_hand l) { took = (sym a.hand i).took });
      few = λ f. a.own l.owns;
      deque = deque;
      others = all_same_from rs rs (all_untouched rs);
    }

-- a task of another deque
pub found_stolen : {q r : Waiting} {l m : Lane} (rs ss : List Victim) {t : Task} → NoneWaits q r
    → (own_hand m ≡ own_hand l) × (worker_deque m.owner ≡ worker_deque l.owner) → StealsFromOne rs t ss → FindsTask (sources q l rs) t (sources r m ss)
found_stolen {r = r} {l = l} rs ss {t = t} queue lane a =
    record {
      sum = λ h. omega (arith, ap (λ (v : Hand). total h v.took) lane.0, gave_sum h rs ss t a, ap (total h) queue.old, ap (total h) queue.new);
      fewer = omega (arith, ap (total one) queue.new);
      is_fit = λ fit b e on. gave_fit fit rs ss t on a;
      rest_fit = λ fit b. subst (AllFit fit) (sym queue.new) tt;
      queue = λ i. record { tasks = r.tasks; spare = queue.spare i; room = queue.room i };
      hand = lane.0 ∙ (λ i. record (own_hand l) { took = (sym lane.0 i).took });
      few = λ f. omega (arith, f, ap (λ (v : Hand). total one v.put) lane.0, ap (λ (v : Hand). total one v.took) lane.0);
      deque = lane.1;
      others = gave_same rs ss t a;
    }
