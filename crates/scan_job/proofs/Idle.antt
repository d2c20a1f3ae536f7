-- A run without a task.
use Rattle.std.proofs.Common.{◌≡◌, ℕ, zero, suc, List, [], ◌∷◌, ◌++◌, map, sym, refl, ap, ◌∙◌, arith}
use Rattle.std.specs.List.{All}
use Rattle.steal_pool.specs.declared.task.Task.{Task}
use Rattle.heap_base.specs.Counting.{total}
use Rattle.steal_pool.specs.Jobs.{Meaning, AllFit, Does}
use Rattle.steal_pool.specs.Lists.{Each}
use Rattle.steal_pool.specs.Runs.{Work, Run, TurnsLast, fit_tasks, all_first, all_done, all_put}

abbrev no_work : Work
no_work = record { done = []; put = [] }

module _ {J S : Type 0} (M : Meaning J S) (s : S) where
  each-idle : (js : List J) → Each (λ j (w : Work) k. Does (M.works s) j w.done (record { job = k; put = w.put })) js (map (λ _. no_work) js) js
  each-idle [] = (refl, refl)
  each-idle (j ∷ js) = ((refl, refl), each-idle js)

  none-done : (js : List J) → all_done (map (λ (_ : J). no_work) js) ≡ []
  none-done [] = refl
  none-done (j ∷ js) = none-done js

  none-put : (js : List J) → all_put (map (λ (_ : J). no_work) js) ≡ []
  none-put [] = refl
  none-put (j ∷ js) = none-put js

  none-first : (fs : List (List Task)) → All (λ f. f ≡ []) fs → all_first fs ≡ []
  none-first [] none = refl
  none-first (f ∷ fs) none =
      (λ i. none 0 f (omega arith) i ++ all_first fs) ∙ none-first fs (λ k d l. none (suc k) d (omega arith))

  all-idle : (fit : List Task) (js : List J) → All (λ (w : Work). AllFit fit w.done) (map (λ (_ : J). no_work) js)
  all-idle fit [] k d l = absurd (omega arith)
  all-idle fit (j ∷ js) zero d l = tt
  all-idle fit (j ∷ js) (suc k) d l = all-idle fit js k d (omega arith)

  -- where no list has a task, every job stays as it is
  pub idle-run : (fs : List (List Task)) (js : List J) → All (λ f. f ≡ []) fs → Run M s (record { jobs = js; first = fs }) js
  idle-run fs js none = record {
    work = map (λ _. no_work) js;
    each = each-idle js;
    are_fit = all-idle (fit_tasks M s js) js;
    as_often = λ f. ap (total f) (none-done js) ∙ sym (λ i. total f (none-first fs none i ++ none-put js i));
  }

  pub idle-turns : (n : ℕ) (js : List J) → TurnsLast M n js js
  idle-turns n [] = refl
  idle-turns n (j ∷ js) = (omega arith, idle-turns n js)
