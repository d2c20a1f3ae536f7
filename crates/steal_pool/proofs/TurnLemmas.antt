-- What a turn leaves, and one turn after another.
use Rattle.std.proofs.Common.{◌≡◌, ℕ, ◌+◌, ◌-◌, ◌<◌, ◌≤◌, List, [], ◌∷◌, ◌++◌, length, sym, refl, ap, ◌∙◌, subst, arith, append-nil, length-append}
use Rattle.std.specs.List.{Contains, AllByRecursion}
use Rattle.steal_pool.specs.declared.task.Task.{Task}
use Rattle.heap_base.specs.Counting.{total}
use Rattle.heap_base.proofs.Counting.{total-append, total-ones}
use Rattle.crossbeam_deque.specs.Handles.{view, worker_deque}
use Rattle.steal_pool.specs.declared.hand.Hand.{Hand}
use Rattle.steal_pool.specs.declared.victim.Victim.{Victim}
use Rattle.steal_pool.specs.Hands.{one}
use Rattle.steal_pool.specs.Jobs.{Meaning, AllFit, Puts}
use Rattle.steal_pool.specs.Lanes.{own_hand, HasTakenFew}
use Rattle.steal_pool.specs.Queues.{Waiting}
use Rattle.steal_pool.specs.Searches.{TaskSources, sources, total_taken, FindsTask, FindsNone, Offers}
use Rattle.steal_pool.specs.Victims.{AreSameButTook, AreOnTerms, total_took, total_bound}
use Rattle.steal_pool.specs.Workers.{most_left, CanWork, Advances}
use Rattle.steal_pool.proofs.Elements.{all-front}
use Rattle.steal_pool.proofs.FoundTasks.{all_same_from}
use Rattle.steal_pool.proofs.ListLemmas.{does_append}
use Rattle.steal_pool.proofs.VictimLists.{all_untouched, untouched_sum}

bounds_same : (rs ss : List Victim) → AreSameButTook rs ss → total_bound ss ≡ total_bound rs
bounds_same [] [] a = refl
bounds_same [] (s ∷ ss) a = absurd a
bounds_same (r ∷ rs) [] a = absurd a
bounds_same (r ∷ rs) (s ∷ ss) a = let e = bounds_same rs ss a.1 in let f = ap (λ (v : Hand). v.bound) a.0.1 in omega arith

terms_same : (f : List Task) (rs ss : List Victim) → AreSameButTook rs ss → AreOnTerms f rs → AreOnTerms f ss
terms_same f [] [] a on = tt
terms_same f [] (s ∷ ss) a on = absurd a
terms_same f (r ∷ rs) [] a on = absurd a
terms_same f (r ∷ rs) (s ∷ ss) a on = (ap (λ (v : Hand). v.fit) a.0.1 ∙ on.0, terms_same f rs ss a.1 on.1)

same_twice : (rs ss us : List Victim) → AreSameButTook rs ss → AreSameButTook ss us → AreSameButTook rs us
same_twice [] [] [] a b = tt
same_twice [] [] (u ∷ us) a b = absurd b
same_twice [] (s ∷ ss) us a b = absurd a
same_twice (r ∷ rs) [] us a b = absurd a
same_twice (r ∷ rs) (s ∷ ss) [] a b = absurd b
same_twice (r ∷ rs) (s ∷ ss) (u ∷ us) a b = (
  (b.0.0 ∙ a.0.0, b.0.1 ∙ (λ i. record (a.0.1 i) { took = (let w : Hand = view u.pass in w.took) })),
  same_twice rs ss us a.1 b.1,
)

-- no more was taken from the others than their terms allow
pub few_all : (rs : List Victim) → total_took one rs ≤ total_bound rs
few_all [] = omega arith
few_all (r ∷ rs) = let e = few_all rs in let f = r.few in omega arith

pub all_append : {X : Type 0} (P : X → Type 0) (xs ys : List X) → AllByRecursion P xs → AllByRecursion P ys → AllByRecursion P (xs ++ ys)
all_append P [] ys a b = b
all_append P (x ∷ xs) ys a b = (a.0, all_append P xs ys a.1 b)

pub offers_fit : (a b : TaskSources) → Offers a b → AllFit (own_hand a.lane).fit a.queue.tasks → AllFit (own_hand b.lane).fit b.queue.tasks
offers_fit a b o f =
    let same : (own_hand b.lane).fit ≡ (own_hand a.lane).fit = ap (λ (v : Hand). v.fit) o.hand in
    subst (λ fit. AllFit fit b.queue.tasks) (sym same) (all-front (Contains (own_hand a.lane).fit) o.moved b.queue.tasks (subst (AllFit (own_hand a.lane).fit) o.tasks f)).1

-- what was offered is what the queue lost and the deque got
offers_sum : (a b : TaskSources) → Offers a b → (h : Task → ℕ)
    → total h (own_hand b.lane).put + total h b.queue.tasks ≡ total h (own_hand a.lane).put + total h a.queue.tasks
offers_sum a b o h =
    let p = ap (λ (v : Hand). total h v.put) o.hand ∙ total-append h (own_hand a.lane).put o.moved in
    let q = ap (total h) o.tasks ∙ total-append h o.moved b.queue.tasks in
    omega arith

pub offers_bound : (a b : TaskSources) → Offers a b → total one (own_hand a.lane).put + total one a.queue.tasks ≤ (own_hand a.lane).bound
    → total one (own_hand b.lane).put + total one b.queue.tasks ≤ (own_hand b.lane).bound
offers_bound a b o l =
    let s = offers_sum a b o one in
    let e : (own_hand b.lane).bound ≡ (own_hand a.lane).bound = ap (λ (v : Hand). v.bound) o.hand in
    omega arith

-- Tasks went among a worker's sources, and its job did nothing meanwhile.
record Moves (a b : TaskSources) : Type 0 where
  sum : (h : Task → ℕ) → total h b.queue.tasks + total h (own_hand b.lane).put + total_taken h a ≡ total h a.queue.tasks + total h (own_hand a.lane).put + total_taken h b
  room : b.queue.room ≡ a.queue.room
  hand : own_hand b.lane ≡ record (own_hand a.lane) { put = (own_hand b.lane).put; took = (own_hand b.lane).took }
  deque : worker_deque b.lane.owner ≡ worker_deque a.lane.owner
  others : AreSameButTook a.others b.others

module _ {J S : Type 0} (M : Meaning J S) (s : S) where
  idle_went : (j : J) (a b : TaskSources) → Moves a b → Advances M s (j, a) (j, b)
  idle_went j a b m =
      record {
        done = [];
        put = [];
        does = (refl, refl);
        are_fit = tt;
        same_fit = refl;
        falls = omega arith;
        turns = omega arith;
        sum = λ h. (let e = m.sum h in omega arith);
        room = m.room;
        hand = m.hand;
        deque = m.deque;
        others = m.others;
      }

  pub went_none : (j : J) (a : TaskSources) → Advances M s (j, a) (j, a)
  went_none j a =
      idle_went j a a (record { sum = λ h. refl; room = refl; hand = refl; deque = refl; others = all_same_from a.others a.others (all_untouched a.others) })

  pub went_on : (x y z : J × TaskSources) → Advances M s x y → Advances M s y z → Advances M s x z
  went_on x y z a b =
      record {
        done = a.done ++ b.done;
        put = a.put ++ b.put;
        does = does_append (M.works s) x.0 y.0 z.0 a.done b.done a.put b.put a.does b.does;
        are_fit = all_append (Contains (M.fit x.0 s)) a.done b.done a.are_fit (subst (λ f. AllFit f b.done) a.same_fit b.are_fit);
        same_fit = b.same_fit ∙ a.same_fit;
        falls = (let p = a.falls in let q = b.falls in let n = length-append a.put b.put in omega arith);
        turns = (let p = a.turns in let q = b.turns in let n = length-append a.done b.done in omega arith);
        sum = λ h. (let p = a.sum h in let q = b.sum h in let d = total-append h a.done b.done in let u = total-append h a.put b.put in omega arith);
        room = b.room ∙ a.room;
        hand = b.hand ∙ (λ i. record (a.hand i) { put = (own_hand z.1.lane).put; took = (own_hand z.1.lane).took });
        deque = b.deque ∙ a.deque;
        others = same_twice x.1.others y.1.others z.1.others a.others b.others;
      }

  -- a worker whose job did nothing meanwhile may go on
  still_can : (j : J) (a b : TaskSources) → CanWork M s j a → (own_hand b.lane).fit ≡ (own_hand a.lane).fit → AreOnTerms (M.fit j s) b.others → AllFit (M.fit j s) b.queue.tasks
      → M.room j ≤ b.queue.spare → total one (own_hand b.lane).put + total one b.queue.tasks + M.room j ≤ (own_hand b.lane).bound
      → most_left (M.room j) b ≤ M.turns j + total_taken one b → CanWork M s j b
  still_can j a b c same others waiting spare bound turns =
      record { ready = c.ready; terms = same ∙ c.terms; others = others; waiting = waiting; spare = spare; bound = bound; turns = turns }

  -- ---- a turn that finds no task

  pub none_can : (j : J) (a b : TaskSources) → CanWork M s j a → FindsNone a b → CanWork M s j b
  none_can j a b c f =
      let same = all_same_from a.others b.others f.others in
      let put : total one (own_hand b.lane).put ≡ total one (own_hand a.lane).put = ap (λ (v : Hand). total one v.put) f.hand in
      let took : total one (own_hand b.lane).took ≡ total one (own_hand a.lane).took = ap (λ (v : Hand). total one v.took) f.hand in
      let bound : (own_hand b.lane).bound ≡ (own_hand a.lane).bound = ap (λ (v : Hand). v.bound) f.hand in
      let tasks : total one b.queue.tasks ≡ total one a.queue.tasks = ap (λ (q : Waiting). total one q.tasks) f.queue in
      let spare : b.queue.spare ≡ a.queue.spare = ap (λ (q : Waiting). q.spare) f.queue in
      let bounds = bounds_same a.others b.others same in
      let sum = untouched_sum one a.others b.others f.others in
      let old-spare = c.spare in
      let old-bound = c.bound in
      let old-turns = c.turns in
      still_can j a b c (ap (λ (v : Hand). v.fit) f.hand) (terms_same (M.fit j s) a.others b.others same c.others)
      (subst (λ (q : Waiting). AllFit (M.fit j s) q.tasks) (sym f.queue) c.waiting) (omega arith) (omega arith) (omega arith)

  pub none_went : (j : J) (a b : TaskSources) → FindsNone a b → Advances M s (j, a) (j, b)
  none_went j a b f =
      idle_went j a b (record {
        sum = λ h. (
            let p = ap (λ (v : Hand). total h v.put) f.hand in
            let t = ap (λ (v : Hand). total h v.took) f.hand in
            let q = ap (λ (w : Waiting). total h w.tasks) f.queue in
            let u = untouched_sum h a.others b.others f.others in
            omega arith);
        room = ap (λ (q : Waiting). q.room) f.queue;
        hand = f.hand ∙ (λ i. record (own_hand a.lane) { put = (sym f.hand i).put; took = (sym f.hand i).took });
        deque = f.deque;
        others = all_same_from a.others b.others f.others;
      })

  pub none_few : (a b : TaskSources) → FindsNone a b → HasTakenFew a.lane → HasTakenFew b.lane
  none_few a b f l =
      let put : total one (own_hand b.lane).put ≡ total one (own_hand a.lane).put = ap (λ (v : Hand). total one v.put) f.hand in
      let took : total one (own_hand b.lane).took ≡ total one (own_hand a.lane).took = ap (λ (v : Hand). total one v.took) f.hand in
      omega arith

  pub none_left : (r : ℕ) (a b : TaskSources) → FindsNone a b → most_left r b - total_taken one b ≤ most_left r a - total_taken one a
  none_left r a b f =
      let put : total one (own_hand b.lane).put ≡ total one (own_hand a.lane).put = ap (λ (v : Hand). total one v.put) f.hand in
      let took : total one (own_hand b.lane).took ≡ total one (own_hand a.lane).took = ap (λ (v : Hand). total one v.took) f.hand in
      let tasks : total one b.queue.tasks ≡ total one a.queue.tasks = ap (λ (q : Waiting). total one q.tasks) f.queue in
      let bounds = bounds_same a.others b.others (all_same_from a.others b.others f.others) in
      let sum = untouched_sum one a.others b.others f.others in
      omega arith

  -- ---- a turn that does a task

  -- the job has a turn for a task that was found
  pub turn_left : (j : J) (a b : TaskSources) (t : Task) → CanWork M s j a → HasTakenFew a.lane → FindsTask a t b → 0 < M.turns j
  turn_left j a b t c l f =
      let few = f.few l in
      let put : total one (own_hand b.lane).put ≡ total one (own_hand a.lane).put = ap (λ (v : Hand). total one v.put) f.hand in
      let bounds = bounds_same a.others b.others f.others in
      let fews = few_all b.others in
      let sum = f.sum one in
      let turns = c.turns in
      omega arith

  -- the job k did the task that was found, and its puts wait in the queue q
  pub record DoesTask (j : J) (b : TaskSources) (t : Task) (k : J) (q : Waiting) : Type 0 where
    pub puts : Puts M s (record { job = j; task = t; outbox = b.queue.tasks }) (k, q.tasks)
    pub spare : length q.tasks + q.spare ≡ length b.queue.tasks + b.queue.spare
    pub room : q.room ≡ b.queue.room
    pub ready : M.ready k s
    pub same_fit : M.fit k s ≡ M.fit j s
    pub turns : M.turns j ≤ M.turns k + 1

  pub done_can : (j k : J) (a b : TaskSources) (t : Task) (q : Waiting) → CanWork M s j a → FindsTask a t b → DoesTask j b t k q
      → CanWork M s k (sources q b.lane b.others)
  done_can j k a b t q c f d =
      let put : total one (own_hand b.lane).put ≡ total one (own_hand a.lane).put = ap (λ (v : Hand). total one v.put) f.hand in
      let bound : (own_hand b.lane).bound ≡ (own_hand a.lane).bound = ap (λ (v : Hand). v.bound) f.hand in
      let spare : b.queue.spare ≡ a.queue.spare = ap (λ (w : Waiting). w.spare) f.queue in
      let bounds = bounds_same a.others b.others f.others in
      let sum = f.sum one in
      let tasks : total one q.tasks ≡ total one b.queue.tasks + total one d.puts.put = ap (total one) d.puts.tasks ∙ total-append one b.queue.tasks d.puts.put in
      let len : length q.tasks ≡ length b.queue.tasks + length d.puts.put = ap length d.puts.tasks ∙ length-append b.queue.tasks d.puts.put in
      let ones = total-ones d.puts.put in
      let falls = d.puts.room in
      let same = d.spare in
      let fall = d.turns in
      let old-spare = c.spare in
      let old-bound = c.bound in
      let old-turns = c.turns in
      let rest = f.rest_fit (M.fit j s) c.waiting in
      let waiting = subst (AllFit (M.fit j s)) (sym d.puts.tasks) (all_append (Contains (M.fit j s)) b.queue.tasks d.puts.put rest d.puts.are_fit) in
      let fewer = f.fewer in
      record {
        ready = d.ready;
        terms = ap (λ (v : Hand). v.fit) f.hand ∙ (c.terms ∙ sym d.same_fit);
        others = subst (λ fit. AreOnTerms fit b.others) (sym d.same_fit) (terms_same (M.fit j s) a.others b.others f.others c.others);
        waiting = subst (λ fit. AllFit fit q.tasks) (sym d.same_fit) waiting;
        spare = omega arith;
        bound = omega arith;
        turns = omega arith;
      }

  pub done_went : (j k : J) (a b : TaskSources) (t : Task) (q : Waiting) → CanWork M s j a → FindsTask a t b → DoesTask j b t k q
      → Advances M s (j, a) (k, sources q b.lane b.others)
  done_went j k a b t q c f d =
      record {
        done = t ∷ [];
        put = d.puts.put;
        does = (k, d.puts.put, [], d.puts.works, (refl, refl), sym (append-nil d.puts.put));
        are_fit = (f.is_fit (M.fit j s) c.waiting c.terms c.others, tt);
        same_fit = d.same_fit;
        falls = d.puts.room;
        turns = d.turns;
        sum = λ h. (
            let p = ap (λ (v : Hand). total h v.put) f.hand in
            let u = f.sum h in
            let w : total h q.tasks ≡ total h b.queue.tasks + total h d.puts.put = ap (total h) d.puts.tasks ∙ total-append h b.queue.tasks d.puts.put in
            omega arith);
        room = d.room ∙ ap (λ (w : Waiting). w.room) f.queue;
        hand = f.hand ∙ (λ i. record (own_hand a.lane) { put = (ap (λ (v : Hand). v.put) (sym f.hand) i); took = (own_hand b.lane).took });
        deque = f.deque;
        others = f.others;
      }

  pub done_left : (j k : J) (a b : TaskSources) (t : Task) (q : Waiting) → HasTakenFew a.lane → FindsTask a t b → DoesTask j b t k q
      → most_left (M.room k) (sources q b.lane b.others) - total_taken one (sources q b.lane b.others) + 1 ≤ most_left (M.room j) a - total_taken one a
  done_left j k a b t q l f d =
      let few = f.few l in
      let put : total one (own_hand b.lane).put ≡ total one (own_hand a.lane).put = ap (λ (v : Hand). total one v.put) f.hand in
      let bounds = bounds_same a.others b.others f.others in
      let fews = few_all b.others in
      let sum = f.sum one in
      let tasks : total one q.tasks ≡ total one b.queue.tasks + total one d.puts.put = ap (total one) d.puts.tasks ∙ total-append one b.queue.tasks d.puts.put in
      let ones = total-ones d.puts.put in
      let falls = d.puts.room in
      omega arith

  -- ---- tasks that were offered

  pub offered_can : (k : J) (a b : TaskSources) → CanWork M s k a → Offers a b → CanWork M s k b
  offered_can k a b c o =
      let sum = offers_sum a b o one in
      let bound : (own_hand b.lane).bound ≡ (own_hand a.lane).bound = ap (λ (v : Hand). v.bound) o.hand in
      let took : total one (own_hand b.lane).took ≡ total one (own_hand a.lane).took = ap (λ (v : Hand). total one v.took) o.hand in
      let spare : b.queue.spare ≡ a.queue.spare = ap (λ (w : Waiting). w.spare) o.queue in
      let bounds = ap total_bound o.others in
      let others = ap (total_took one) o.others in
      let old-spare = c.spare in
      let old-bound = c.bound in
      let old-turns = c.turns in
      let waiting = (all-front (Contains (M.fit k s)) o.moved b.queue.tasks (subst (AllFit (M.fit k s)) o.tasks c.waiting)).1 in
      still_can k a b c (ap (λ (v : Hand). v.fit) o.hand) (subst (AreOnTerms (M.fit k s)) (sym o.others) c.others) waiting (omega arith) (omega arith) (omega arith)

  pub offered_went : (k : J) (a b : TaskSources) → Offers a b → Advances M s (k, a) (k, b)
  offered_went k a b o =
      idle_went k a b (record {
        sum = λ h. (let u = offers_sum a b o h in let t = ap (λ (v : Hand). total h v.took) o.hand in let e = ap (total_took h) o.others in omega arith);
        room = ap (λ (w : Waiting). w.room) o.queue;
        hand = o.hand ∙ (λ i. record (own_hand a.lane) { put = (sym (ap (λ (v : Hand). v.put) o.hand) i); took = (sym (ap (λ (v : Hand). v.took) o.hand) i) });
        deque = o.deque;
        others = subst (AreSameButTook a.others) (sym o.others) (all_same_from a.others a.others (all_untouched a.others));
      })

  pub offered_few : (a b : TaskSources) → Offers a b → HasTakenFew a.lane → HasTakenFew b.lane
  offered_few a b o l =
      let p = ap (λ (v : Hand). total one v.put) o.hand ∙ total-append one (own_hand a.lane).put o.moved in
      let t = ap (λ (v : Hand). total one v.took) o.hand in
      omega arith

  pub offered_left : (r : ℕ) (a b : TaskSources) → Offers a b → most_left r b - total_taken one b ≤ most_left r a - total_taken one a
  offered_left r a b o =
      let sum = offers_sum a b o one in
      let t = ap (λ (v : Hand). total one v.took) o.hand in
      let e = ap (total_took one) o.others in
      let bounds = ap total_bound o.others in
      omega arith
