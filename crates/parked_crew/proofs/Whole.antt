-- A run from its beginning to its end.
use Rattle.std.proofs.Common.{◌≡◌, ℕ, ◌+◌, ◌<◌, ◌≤◌, List, [], ◌∷◌, ◌++◌, length, sym, ap, ◌∙◌, subst, refl, length-append, arith}
use Rattle.std.specs.List.{All, AllByRecursion, AllZip}
use Rattle.steal_pool.specs.declared.task.Task.{Task}
use Rattle.heap_base.specs.Counting.{total}
use Rattle.heap_base.proofs.Counting.{total-append}
use Rattle.steal_pool.specs.Jobs.{Meaning, Does, AllFit}
use Rattle.steal_pool.specs.Lists.{Each, Pairs}
use Rattle.steal_pool.specs.Runs.{Work, Run, fit_tasks, most_tasks, all_first, all_done, all_put}
use Rattle.steal_pool.proofs.WholeRun.{all_rec, rec_all}
use Rattle.parked_crew.specs.declared.task_share.JobShare.{JobShare}
use Rattle.parked_crew.specs.Shares.{IsBegun, CanWork, Worked, HasDoneList}
use Rattle.parked_crew.specs.Progress.{to_do, all_left, jobs_in, most_left, IsSeatOf, HasGone, Progress}
use Rattle.parked_crew.proofs.RoundsOfTasks.{steps, left_fit, round_sum, falls, did_lists, can_work}

module _ {S J : Type 0} (M : Meaning J S) (s : S) where
  -- the jobs ks are what a run leaves of the jobs js
  record Ended (F' : List Task) (N' : ℕ) (js' : List J) (ws : List Work) (ks : List J) : Type 0 where
    each : Each (λ j (w : Work) k. Does (M.works s) j w.done (record { job = k; put = w.put })) js' ws ks
    are_fit : AllByRecursion (λ (w : Work). AllFit F' w.done) ws
    ready : AllByRecursion (λ k. M.ready k s) ks
    same_fit : AllByRecursion (λ k. M.fit k s ≡ F') ks
    turns : Pairs (λ j k. M.turns j ≤ M.turns k + N') js' ks

module _ {S J G : Type 0} (M : Meaning J S) (s : S) where
  list_lengths : (ps : List (JobShare S J G)) → total (λ (p : JobShare S J G). length p.list.items) ps ≡ length (to_do ps)
  list_lengths [] = refl
  list_lengths (p ∷ ps) = let r = list_lengths ps in let a = length-append p.list.items (to_do ps) in omega arith

  pub begun_length : (qs rs : List (JobShare S J G)) → Pairs IsBegun qs rs → length rs ≡ length qs
  begun_length [] rs b = ap length b
  begun_length (q ∷ qs) [] b = absurd b
  begun_length (q ∷ qs) (r ∷ rs) b = let e = begun_length qs rs b.1 in omega arith

  pub zip_length : (ps qs : List (JobShare S J G)) → AllZip (Worked M) ps qs → length qs ≡ length ps
  zip_length [] [] z = refl
  zip_length [] (q ∷ qs) z = absurd z
  zip_length (p ∷ ps) [] z = absurd z
  zip_length (p ∷ ps) (q ∷ qs) z = let e = zip_length ps qs z.1 in omega arith

  same_rooms : (qs rs : List (JobShare S J G)) → Pairs IsBegun qs rs → total (λ (r : JobShare S J G). M.room r.job) rs ≡ total (λ (q : JobShare S J G). M.room q.job) qs
  same_rooms [] rs b = ap (total (λ (r : JobShare S J G). M.room r.job)) b
  same_rooms (q ∷ qs) [] b = absurd b
  same_rooms (q ∷ qs) (r ∷ rs) b = let e = same_rooms qs rs b.1 in let j = ap M.room b.0.job in omega arith

  -- all may do less after a round, by what they did in it
  less : (ps qs rs : List (JobShare S J G)) → AllZip (Worked M) ps qs → Pairs IsBegun qs rs → to_do rs ≡ all_left qs → most_left M s rs + total (λ (q : JobShare S J G). q.done) qs ≤ most_left M s ps
  less ps qs rs z b t =
      let a = falls M s (fit_tasks M s []) 0 ps qs z in
      let c = same_rooms qs rs b in
      let d = list_lengths rs in
      let e = ap length t in
      omega arith

  pub smaller : (ps qs rs : List (JobShare S J G)) → AllZip (Worked M) ps qs → Pairs IsBegun qs rs → to_do rs ≡ all_left qs → 0 < length (to_do ps) → most_left M s rs < most_left M s ps
  smaller ps qs rs z b t some = let a = less ps qs rs z b t in let d = did_lists M s (fit_tasks M s []) 0 ps qs z in omega arith

  pub have_done_lists : (ps qs : List (JobShare S J G)) → AllZip (Worked M) ps qs → AllByRecursion HasDoneList qs
  have_done_lists [] [] z = tt
  have_done_lists [] (q ∷ qs) z = absurd z
  have_done_lists (p ∷ ps) [] z = absurd z
  have_done_lists (p ∷ ps) (q ∷ qs) z = ((z.0.whole, z.0.goes.few), have_done_lists ps qs z.1)

  module _ (js : List J) (fs : List (List Task)) where
    pub all_can_work : (ps : List (JobShare S J G)) → Progress M s (fit_tasks M s js) fs js ps → All (CanWork M) ps
    all_can_work ps p = rec_all (CanWork M) ps (can_work M s (fit_tasks M s js) (most_tasks M js fs) (most_left M s ps) js p.work ps p.each (omega arith))

    pub goes_further : (ps qs rs : List (JobShare S J G)) → Progress M s (fit_tasks M s js) fs js ps → AllZip (Worked M) ps qs →
        Pairs IsBegun qs rs → to_do rs ≡ all_left qs → Progress M s (fit_tasks M s js) fs js rs
    goes_further ps qs rs p z b t =
        let fit : AllFit (fit_tasks M s js) (to_do rs) =
        subst (λ (ts : List Task). AllFit (fit_tasks M s js) ts) (sym t) (left_fit M s (fit_tasks M s js) (most_tasks M js fs) (most_left M s ps) js p.work ps qs p.each z) in
        let a =
        steps M s (fit_tasks M s js) (most_tasks M js fs) (most_left M s ps) (most_left M s rs) (total (λ (q : JobShare S J G). q.done) qs) js
        p.work ps qs rs p.each z b fit (less ps qs rs z b t) (omega arith) in
        record {
          work = a.work;
          each = a.each;
          as_often =
              λ h.
              (let d = a.done_sum h in let u = a.put_sum h in let o = p.as_often h in
              let r = round_sum M s (fit_tasks M s js) (most_tasks M js fs) h ps qs z in let e = ap (total h) t in omega arith);
        }

    -- ---- at the beginning

    record Begun (F' : List Task) (N' : ℕ) (js' : List J) (fs' : List (List Task)) (ps : List (JobShare S J G)) : Type 0 where
      work : List Work
      each : Each (HasGone M s F' N' N') js' work ps
      none_done : all_done work ≡ []
      none_put : all_put work ≡ []
      lists : to_do ps ≡ all_first fs'
      most : most_left M s ps ≡ most_tasks M js' fs'

    begun : (F' : List Task) (N' : ℕ) (js' : List J) (fs' : List (List Task)) (ps : List (JobShare S J G)) → Each (IsSeatOf M s) js' fs' ps →
        AllByRecursion (λ j. M.ready j s) js' → AllByRecursion (λ j. M.fit j s ≡ F') js'
        → AllByRecursion (AllFit F') fs' → AllByRecursion (λ j. N' ≤ M.turns j) js' → Begun F' N' js' fs' ps
    begun F' N' [] fs' ps e r f l t =
        record { work = []; each = (refl, e.1); none_done = refl; none_put = refl; lists = ap to_do e.1 ∙ sym (ap all_first e.0); most = ap (most_left M s) e.1 ∙ sym (ap (most_tasks M []) e.0) }
    begun F' N' (j ∷ js') [] ps e r f l t = absurd e
    begun F' N' (j ∷ js') (x ∷ fs') [] e r f l t = absurd e
    begun F' N' (j ∷ js') (x ∷ fs') (p ∷ ps) e r f l t =
        let a = begun F' N' js' fs' ps e.1 r.1 f.1 l.1 t.1 in
        let seat = e.0 in
        let job : p.job ≡ j = seat.job in
        let turns = ap M.turns job in
        let room = ap M.room job in
        let spare = seat.spare in
        let enough = t.0 in
        let most = a.most in
        let len = ap length seat.list in
        record {
          work = record { done = []; put = [] } ∷ a.work;
          each = (
            record {
              does = (job, refl);
              done_fit = tt;
              list_fit = subst (λ (ts : List Task). AllFit F' ts) (sym seat.list) l.0;
              ready = subst (λ (k : J). M.ready k s) (sym job) r.0;
              same_fit = ap (λ (k : J). M.fit k s) job ∙ f.0;
              none_put = seat.none_put;
              none_done = seat.none_done;
              spare = omega arith;
              turns = omega arith;
              spent = omega arith;
              shared = seat.shared;
            },
            a.each,
          );
          none_done = a.none_done;
          none_put = a.none_put;
          lists = ap (λ (z : List Task × List Task). z.0 ++ z.1) (λ i. (seat.list i, a.lists i));
          most = omega arith;
        }

    pub begins : (ps : List (JobShare S J G)) → Each (IsSeatOf M s) js fs ps → All (λ j. M.ready j s) js →
        All (λ j. M.fit j s ≡ (fit_tasks M s js)) js → All (AllFit (fit_tasks M s js)) fs → All (λ j. (most_tasks M js fs) ≤ M.turns j) js →
        Progress M s (fit_tasks M s js) fs js ps
    begins ps e r f l t =
        let a =
        begun (fit_tasks M s js) (most_tasks M js fs) js fs ps e (all_rec (λ j. M.ready j s) js r)
        (all_rec (λ j. M.fit j s ≡ (fit_tasks M s js)) js f) (all_rec (AllFit (fit_tasks M s js)) fs l)
        (all_rec (λ j. (most_tasks M js fs) ≤ M.turns j) js t) in
        record {
          work = a.work;
          each = subst (λ (n : ℕ). Each (HasGone M s (fit_tasks M s js) (most_tasks M js fs) n) js a.work ps) (sym a.most) a.each;
          as_often = λ h. (let d = ap (total h) a.none_done in let u = ap (total h) a.none_put in let o = ap (total h) a.lists in omega arith);
        }

    -- ---- at the end

    ended : (F' : List Task) (N' most : ℕ) (js' : List J) (ws : List Work) (ps : List (JobShare S J G)) → Each (HasGone M s F' N' most) js' ws ps → Ended M s F' N' js' ws (jobs_in ps)
    ended F' N' most [] [] [] e = record { each = (refl, refl); are_fit = tt; ready = tt; same_fit = tt; turns = refl }
    ended F' N' most [] (w ∷ ws) ps e = absurd (let n = ap length e.0 in omega arith)
    ended F' N' most [] [] (p ∷ ps) e = absurd (let n = ap length e.1 in omega arith)
    ended F' N' most (j ∷ js') [] ps e = absurd e
    ended F' N' most (j ∷ js') (w ∷ ws) [] e = absurd e
    ended F' N' most (j ∷ js') (w ∷ ws) (p ∷ ps) e =
        let a = ended F' N' most js' ws ps e.1 in
        let g = e.0 in
        let spent = g.spent in
        record {
          each = (g.does, a.each);
          are_fit = (g.done_fit, a.are_fit);
          ready = (g.ready, a.ready);
          same_fit = (g.same_fit, a.same_fit);
          turns = (omega arith, a.turns);
        }

    at_end : (ps : List (JobShare S J G)) (p : Progress M s (fit_tasks M s js) fs js ps) → Ended M s (fit_tasks M s js) (most_tasks M js fs) js p.work (jobs_in ps)
    at_end ps p = ended (fit_tasks M s js) (most_tasks M js fs) (most_left M s ps) js p.work ps p.each

    pub has_run : (ps : List (JobShare S J G)) → Progress M s (fit_tasks M s js) fs js ps → to_do ps ≡ [] → Run M s (record { jobs = js; first = fs }) (jobs_in ps)
    has_run ps p none = record {
      work = p.work;
      each = (at_end ps p).each;
      are_fit = rec_all (λ (w : Work). AllFit (fit_tasks M s js) w.done) p.work (at_end ps p).are_fit;
      as_often = λ h. (let o = p.as_often h in let e = ap (total h) none in let a = total-append h (all_first fs) (all_put p.work) in omega arith);
    }

    pub are_ready : (ps : List (JobShare S J G)) → Progress M s (fit_tasks M s js) fs js ps → All (λ k. M.ready k s) (jobs_in ps)
    are_ready ps p = rec_all (λ k. M.ready k s) (jobs_in ps) (at_end ps p).ready

    pub share_fit : (ps : List (JobShare S J G)) → Progress M s (fit_tasks M s js) fs js ps → All (λ k. M.fit k s ≡ (fit_tasks M s js)) (jobs_in ps)
    share_fit ps p = rec_all (λ k. M.fit k s ≡ (fit_tasks M s js)) (jobs_in ps) (at_end ps p).same_fit

    pub turns_last : (ps : List (JobShare S J G)) → Progress M s (fit_tasks M s js) fs js ps → Pairs (λ j k. M.turns j ≤ M.turns k + (most_tasks M js fs)) js (jobs_in ps)
    turns_last ps p = (at_end ps p).turns
