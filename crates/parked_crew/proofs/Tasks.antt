-- How a worker goes on by one task.
use Rattle.std.proofs.Common.{◌≡◌, ℕ, zero, suc, ◌+◌, ◌≤◌, List, [], ◌∷◌, ◌++◌, length, take, Some, sym, ap, ◌∙◌, subst, refl, append_assoc, append-nil, length-append, arith}
use Rattle.std.specs.Prelude.{slice_get}
use Rattle.std.specs.Global.{Vec}
use Rattle.std.specs.List.{Contains}
use Rattle.std.proofs.lemmas.Option.{slice_get_within}
use Rattle.std.specs.Arc.{arc_value}
use Rattle.steal_pool.specs.declared.task.Task.{Task}
use Rattle.steal_pool.specs.Jobs.{Meaning, Does, AllFit, Puts}
use Rattle.steal_pool.proofs.ListLemmas.{does_append}
use Rattle.steal_pool.proofs.TurnLemmas.{all_append}
use Rattle.parked_crew.specs.declared.task_share.JobShare.{JobShare}
use Rattle.parked_crew.specs.Shares.{shared_in, queue, done_in, IsNext, CanWork, Goes}

-- one more of the first elements, where more may stand behind the list
pub take_next : {X : Type 0} (n : ℕ) (xs ys : List X) (x : X) → slice_get xs n ≡ Some x → take (n + 1) (xs ++ ys) ≡ take n xs ++ x ∷ []
take_next n [] ys x e = let l = slice_get_within [] n x e in absurd (omega arith)
take_next zero (z ∷ xs) ys x e = grind (arith, e)
take_next (suc n) (z ∷ xs) ys x e = let r = take_next n xs ys x e in grind (arith, r)

module _ {S J G : Type 0} (M : Meaning J S) where
  -- nothing done yet
  pub goes_none : (p : JobShare S J G) → CanWork M p → Goes M p p
  goes_none p can =
      let none : done_in p ≡ [] = ap (λ (n : ℕ). take n (queue p)) can.none_done in
      record {
        does = (subst (λ (ts : List Task). Does (M.works (shared_in p)) p.job ts (record { job = p.job; put = p.out.tasks })) (sym none) (refl, can.none_put));
        are_fit = subst (λ (ts : List Task). AllFit (M.fit p.job (shared_in p)) ts) (sym can.none_put) tt;
        ready = can.ready;
        same_fit = refl;
        room = (let e = ap length can.none_put in omega arith);
        turns = omega arith;
        few = (let e = can.none_done in omega arith);
        list = refl;
        shared = refl;
        out_room = refl;
      }

  -- one task more
  pub goes_more : (p q r : JobShare S J G) (t : Task) → Goes M p q → slice_get (queue q) q.done ≡ Some t → r.done ≡ q.done + 1 → r.list ≡ q.list → r.shared ≡ q.shared → r.out.room ≡ q.out.room
      → Puts M (shared_in p) (record { job = q.job; task = t; outbox = q.out.tasks }) (r.job, r.out.tasks) → M.ready r.job (shared_in p) →
      M.fit r.job (shared_in p) ≡ M.fit q.job (shared_in p) → M.turns q.job ≤ M.turns r.job + 1 → Goes M p r
  goes_more p q r t g next done list shared room puts ready fit turns =
      let s : S = shared_in p in
      let put : List Task = puts.put in
      let out : r.out.tasks ≡ q.out.tasks ++ put = puts.tasks in
      let lengths : length r.out.tasks ≡ length q.out.tasks + length put = ap length out ∙ length-append q.out.tasks put in
      let longer : queue r ≡ queue q ++ put =
      ap (λ (z : List Task). z ++ r.out.tasks) (ap (λ (z : Vec Task). z.items) list) ∙ (ap (λ (z : List Task). q.list.items ++ z) out ∙ sym (append_assoc q.list.items q.out.tasks put)) in
      let lengths-now = ap length longer ∙ length-append (queue q) put in
      let before = slice_get_within (queue q) q.done t next in
      let more : done_in r ≡ done_in q ++ t ∷ [] = ap (λ (z : ℕ × List Task). take z.0 z.1) (λ i. (done i, longer i)) ∙ take_next q.done (queue q) put t next in
      let room-then = g.room in
      let room-now = puts.room in
      let turns-then = g.turns in
      record {
        does = subst (λ (z : List Task × List Task). Does (M.works s) p.job z.0 (record { job = r.job; put = z.1 })) (λ i. (sym more i, sym out i))
            (does_append (M.works s) p.job q.job r.job (done_in q) (t ∷ []) q.out.tasks put g.does (r.job, put, [], puts.works, (refl, refl), sym (append-nil put)));
        are_fit = subst (λ (ts : List Task). AllFit (M.fit p.job s) ts) (sym out)
            (all_append (Contains (M.fit p.job s)) q.out.tasks put g.are_fit (subst (λ (f : List Task). AllFit f put) g.same_fit puts.are_fit));
        ready = ready;
        same_fit = fit ∙ g.same_fit;
        room = omega arith;
        turns = omega arith;
        few = omega arith;
        list = list ∙ g.list;
        shared = shared ∙ g.shared;
        out_room = room ∙ g.out_room;
      }

  -- the same, where the task was taken up first
  pub goes_on : (p q u r : JobShare S J G) (s : S) (t : Task) → Goes M p q → IsNext q u t → s ≡ shared_in u → r.done ≡ u.done → r.list ≡ u.list → r.shared ≡ u.shared → r.out.room ≡ u.out.room
      → Puts M s (record { job = u.job; task = t; outbox = u.out.tasks }) (r.job, r.out.tasks) → M.ready r.job s → M.fit r.job s ≡ M.fit u.job s → M.turns u.job ≤ M.turns r.job + 1 → Goes M p r
  goes_on p q u r s t g next at done list shared room puts ready fit turns =
      let same : s ≡ shared_in p = at ∙ (ap (λ (z : JobShare S J G). shared_in z) next.0 ∙ ap arc_value g.shared) in
      goes_more p q r t g next.1 (done ∙ ap (λ (z : JobShare S J G). z.done) next.0) (list ∙ ap (λ (z : JobShare S J G). z.list) next.0)
      (shared ∙ ap (λ (z : JobShare S J G). z.shared) next.0) (room ∙ ap (λ (z : JobShare S J G). z.out.room) next.0)
      (subst (λ (z : S × JobShare S J G). Puts M z.0 (record { job = z.1.job; task = t; outbox = z.1.out.tasks }) (r.job, r.out.tasks)) (λ i. (same i, next.0 i)) puts)
      (subst (λ (z : S). M.ready r.job z) same ready) (subst (λ (z : S × JobShare S J G). M.fit r.job z.0 ≡ M.fit z.1.job z.0) (λ i. (same i, next.0 i)) fit)
      (subst (λ (z : JobShare S J G). M.turns z.job ≤ M.turns r.job + 1) next.0 turns)
