-- A run goes on by a round.
use Rattle.std.proofs.Common.{◌≡◌, ℕ, zero, suc, ◌+◌, ◌≤◌, List, [], ◌∷◌, ◌++◌, length, take, drop, sym, ap, ◌∙◌, subst, refl, length-append, arith}
use Rattle.std.specs.List.{Contains, AllByRecursion, AllZip}
use Rattle.std.specs.Arc.{arc_value}
use Rattle.std.specs.Global.{Vec}
use Rattle.std.proofs.lemmas.List.{take-append-drop, length-take-le}
use Rattle.steal_pool.specs.declared.task.Task.{Task}
use Rattle.heap_base.specs.Counting.{total}
use Rattle.heap_base.proofs.Counting.{total-append}
use Rattle.steal_pool.specs.Jobs.{Meaning, Does, AllFit}
use Rattle.steal_pool.specs.Lists.{Each, Pairs}
use Rattle.steal_pool.specs.Runs.{Work, all_done, all_put}
use Rattle.steal_pool.proofs.ListLemmas.{does_append}
use Rattle.steal_pool.proofs.TurnLemmas.{all_append}
use Rattle.parked_crew.specs.declared.task_share.JobShare.{JobShare}
use Rattle.parked_crew.specs.Shares.{shared_in, queue, done_in, left_in, IsBegun, CanWork, Goes, Worked}
use Rattle.parked_crew.specs.Progress.{to_do, all_left, most_left, HasGone}

all_take : {X : Type 0} (P : X → Type 0) (n : ℕ) (xs : List X) → AllByRecursion P xs → AllByRecursion P (take n xs)
all_take P zero xs a = tt
all_take P (suc n) [] a = tt
all_take P (suc n) (x ∷ xs) a = (a.0, all_take P n xs a.1)

all_drop : {X : Type 0} (P : X → Type 0) (n : ℕ) (xs : List X) → AllByRecursion P xs → AllByRecursion P (drop n xs)
all_drop P zero xs a = a
all_drop P (suc n) [] a = tt
all_drop P (suc n) (x ∷ xs) a = all_drop P n xs a.1

all_front : {X : Type 0} (P : X → Type 0) (xs ys : List X) → AllByRecursion P (xs ++ ys) → AllByRecursion P xs
all_front P [] ys a = tt
all_front P (x ∷ xs) ys a = (a.0, all_front P xs ys a.1)

all_back : {X : Type 0} (P : X → Type 0) (xs ys : List X) → AllByRecursion P (xs ++ ys) → AllByRecursion P ys
all_back P [] ys a = a
all_back P (x ∷ xs) ys a = all_back P xs ys a.1

module _ {S J G : Type 0} (M : Meaning J S) (s : S) (F : List Task) (N : ℕ) where
  -- what a job did and put, with what it did and put in the round
  abbrev later : Work → JobShare S J G → Work
  later w q = record { done = w.done ++ done_in q; put = w.put ++ q.out.tasks }

  queue_fit : (p q : JobShare S J G) → AllFit F p.list.items → M.fit p.job (shared_in p) ≡ F → Goes M p q → AllFit F (queue q)
  queue_fit p q list same g =
      all_append (Contains F) q.list.items q.out.tasks (subst (λ (v : Vec Task). AllFit F v.items) (sym g.list) list) (subst (λ (f : List Task). AllFit f q.out.tasks) same g.are_fit)

  step_one : (most most' : ℕ) (j : J) (w : Work) (p q r : JobShare S J G) → HasGone M s F N most j w p → Worked M p q → IsBegun q r →
      AllFit F r.list.items → most' + q.done ≤ most → HasGone M s F N most' j (later w q) r
  step_one most most' j w p q r g k b list less =
      let n = k.goes in
      let same : M.fit p.job (shared_in p) ≡ F = ap (λ (z : S). M.fit p.job z) g.shared ∙ g.same_fit in
      let does : Does (M.works s) p.job (done_in q) (record { job = r.job; put = q.out.tasks }) =
      subst (λ (z : S × J). Does (M.works z.0) p.job (done_in q) (record { job = z.1; put = q.out.tasks })) (λ i. (g.shared i, sym b.job i)) n.does in
      let room = n.room in
      let spare = g.spare in
      let out-room = n.out_room in
      let out-room' = b.out_room in
      let room' = ap M.room b.job in
      let turns = n.turns in
      let turns' = ap M.turns b.job in
      let most-now = g.turns in
      let spent = g.spent in
      record {
        does = does_append (M.works s) j p.job r.job w.done (done_in q) w.put q.out.tasks g.does does;
        done_fit = all_append (Contains F) w.done (done_in q) g.done_fit (all_take (Contains F) q.done (queue q) (queue_fit p q g.list_fit same n));
        list_fit = list;
        ready = subst (λ (z : S × J). M.ready z.1 z.0) (λ i. (g.shared i, sym b.job i)) n.ready;
        same_fit = ap (λ (z : J). M.fit z s) b.job ∙ (subst (λ (z : S). M.fit q.job z ≡ M.fit p.job z) g.shared n.same_fit ∙ g.same_fit);
        none_put = b.none_put;
        none_done = b.none_done;
        spare = omega arith;
        turns = omega arith;
        spent = omega arith;
        shared = ap arc_value b.shared ∙ (ap arc_value n.shared ∙ g.shared);
      }

  -- the same of all workers
  pub record Next (most' : ℕ) (js : List J) (ws : List Work) (ps qs rs : List (JobShare S J G)) : Type 0 where
    pub work : List Work
    pub each : Each (HasGone M s F N most') js work rs
    pub done_sum : (h : Task → ℕ) → total h (all_done work) ≡ total h (all_done ws) + total (λ (q : JobShare S J G). total h (done_in q)) qs
    pub put_sum : (h : Task → ℕ) → total h (all_put work) ≡ total h (all_put ws) + total (λ (q : JobShare S J G). total h q.out.tasks) qs

  pub steps : (most most' most_done : ℕ) (js : List J) (ws : List Work) (ps qs rs : List (JobShare S J G)) →
      Each (HasGone M s F N most) js ws ps → AllZip (Worked M) ps qs → Pairs IsBegun qs rs → AllFit F (to_do rs)
      → most' + most_done ≤ most → total (λ (q : JobShare S J G). q.done) qs ≤ most_done → Next most' js ws ps qs rs
  steps most most' d [] [] [] [] [] e z b f l m = record { work = []; each = (refl, refl); done_sum = λ h. refl; put_sum = λ h. refl }
  steps most most' d [] (w ∷ ws) ps qs rs e z b f l m = absurd (let n = ap length e.0 in omega arith)
  steps most most' d [] [] (p ∷ ps) qs rs e z b f l m = absurd (let n = ap length e.1 in omega arith)
  steps most most' d [] [] [] (q ∷ qs) rs e z b f l m = absurd z
  steps most most' d [] [] [] [] (r ∷ rs) e z b f l m = absurd (let n = ap length b in omega arith)
  steps most most' d (j ∷ js) [] ps qs rs e z b f l m = absurd e
  steps most most' d (j ∷ js) (w ∷ ws) [] qs rs e z b f l m = absurd e
  steps most most' d (j ∷ js) (w ∷ ws) (p ∷ ps) [] rs e z b f l m = absurd z
  steps most most' d (j ∷ js) (w ∷ ws) (p ∷ ps) (q ∷ qs) [] e z b f l m = absurd b
  steps most most' d (j ∷ js) (w ∷ ws) (p ∷ ps) (q ∷ qs) (r ∷ rs) e z b f l m =
      let a = steps most most' d js ws ps qs rs e.1 z.1 b.1 (all_back (Contains F) r.list.items (to_do rs) f) l (omega arith) in
      record {
        work = later w q ∷ a.work;
        each = (step_one most most' j w p q r e.0 z.0 b.0 (all_front (Contains F) r.list.items (to_do rs) f) (omega arith), a.each);
        done_sum =
            λ h.
            (let x = a.done_sum h in let y = total-append h w.done (done_in q) in let u = total-append h (w.done ++ done_in q) (all_done a.work) in
            let v = total-append h w.done (all_done ws) in omega arith);
        put_sum =
            λ h.
            (let x = a.put_sum h in let y = total-append h w.put q.out.tasks in let u = total-append h (w.put ++ q.out.tasks) (all_put a.work) in
            let v = total-append h w.put (all_put ws) in omega arith);
      }

  -- what is left is fit
  pub left_fit : (most : ℕ) (js : List J) (ws : List Work) (ps qs : List (JobShare S J G)) → Each (HasGone M s F N most) js ws ps → AllZip (Worked M) ps qs → AllFit F (all_left qs)
  left_fit most js ws ps [] e z = tt
  left_fit most js ws [] (q ∷ qs) e z = absurd z
  left_fit most [] ws (p ∷ ps) (q ∷ qs) e z = absurd (let n = ap length e.1 in omega arith)
  left_fit most (j ∷ js) [] (p ∷ ps) (q ∷ qs) e z = absurd e
  left_fit most (j ∷ js) (w ∷ ws) (p ∷ ps) (q ∷ qs) e z =
      let same : M.fit p.job (shared_in p) ≡ F = ap (λ (u : S). M.fit p.job u) e.0.shared ∙ e.0.same_fit in
      all_append (Contains F) (left_in q) (all_left qs) (all_drop (Contains F) q.done (queue q) (queue_fit p q e.0.list_fit same z.0.goes)) (left_fit most js ws ps qs e.1 z.1)

  -- whatever is added up over the tasks, what was done and what is left is what was to do and what was put
  pub round_sum : (h : Task → ℕ) (ps qs : List (JobShare S J G)) → AllZip (Worked M) ps qs
      → total (λ (q : JobShare S J G). total h (done_in q)) qs + total h (all_left qs) ≡ total h (to_do ps) + total (λ (q : JobShare S J G). total h q.out.tasks) qs
  round_sum h [] [] z = refl
  round_sum h [] (q ∷ qs) z = absurd z
  round_sum h (p ∷ ps) [] z = absurd z
  round_sum h (p ∷ ps) (q ∷ qs) z =
      let r = round_sum h ps qs z.1 in
      let a = total-append h (left_in q) (all_left qs) in
      let b = total-append h p.list.items (to_do ps) in
      let c = total-append h q.list.items q.out.tasks in
      let d = total-append h (done_in q) (left_in q) in
      let e = ap (total h) (take-append-drop q.done (queue q)) in
      let l = ap (λ (v : Vec Task). total h v.items) z.0.goes.list in
      omega arith

  -- what all may still do falls by what they did, and each did its list
  pub falls : (ps qs : List (JobShare S J G)) → AllZip (Worked M) ps qs
      → length (all_left qs) + total (λ (q : JobShare S J G). M.room q.job) qs + total (λ (q : JobShare S J G). q.done) qs ≤ most_left M s ps
  falls [] [] z = omega arith
  falls [] (q ∷ qs) z = absurd z
  falls (p ∷ ps) [] z = absurd z
  falls (p ∷ ps) (q ∷ qs) z =
      let r = falls ps qs z.1 in
      let g = z.0.goes in
      let room = g.room in
      let few = g.few in
      let a = length-append (left_in q) (all_left qs) in
      let b = length-append q.list.items q.out.tasks in
      let c = length-append (done_in q) (left_in q) in
      let e = ap length (take-append-drop q.done (queue q)) in
      let t = length-take-le q.done (queue q) few in
      let l = ap (λ (v : Vec Task). length v.items) g.list in
      omega arith

  pub did_lists : (ps qs : List (JobShare S J G)) → AllZip (Worked M) ps qs → length (to_do ps) ≤ total (λ (q : JobShare S J G). q.done) qs
  did_lists [] [] z = omega arith
  did_lists [] (q ∷ qs) z = absurd z
  did_lists (p ∷ ps) [] z = absurd z
  did_lists (p ∷ ps) (q ∷ qs) z =
      let r = did_lists ps qs z.1 in
      let a = length-append p.list.items (to_do ps) in
      let w = z.0.whole in
      let l = ap (λ (v : Vec Task). length v.items) z.0.goes.list in
      omega arith

  -- every share can be worked off
  pub can_work : (most : ℕ) (js : List J) (ws : List Work) (ps : List (JobShare S J G)) → Each (HasGone M s F N most) js ws ps → most_left M s ps ≤ most → AllByRecursion (CanWork M) ps
  can_work most js ws [] e l = tt
  can_work most [] ws (p ∷ ps) e l = absurd (let n = ap length e.1 in omega arith)
  can_work most (j ∷ js) [] (p ∷ ps) e l = absurd e
  can_work most (j ∷ js) (w ∷ ws) (p ∷ ps) e l =
      let g = e.0 in
      let turns = g.turns in (
        record {
          ready = subst (λ (z : S). M.ready p.job z) (sym g.shared) g.ready;
          are_fit = subst (λ (f : List Task). AllFit f p.list.items) (sym (ap (λ (z : S). M.fit p.job z) g.shared ∙ g.same_fit)) g.list_fit;
          none_put = g.none_put;
          none_done = g.none_done;
          spare = g.spare;
          turns = omega arith;
        },
        can_work most js ws ps e.1 (omega arith),
      )
