use Rattle.std.proofs.Common.{◌≡◌, ℕ, suc, ◌<◌, List, [], ◌∷◌, length, drop, map, get_or, refl, ap, ◌∙◌, arith}
use Rattle.std.proofs.lemmas.List.{take_at}
use Rattle.scan_job.specs.Phases.{starting_in}
use Rattle.scan_job.proofs.phase.begin_phase.Goals as goal

-- a list is made by a function where each of its elements is
mapped : {X : Type 0} (f : X → X) (xs ys : List X) → length ys ≡ length xs → ((k : ℕ) (d : X) → k < length xs → get_or ys k d ≡ f (get_or xs k d)) → ys ≡ map f xs
mapped f [] [] e h = refl
mapped f [] (y ∷ ys) e h = absurd (omega arith)
mapped f (x ∷ xs) [] e h = absurd (omega arith)
mapped f (x ∷ xs) (y ∷ ys) e h = λ i. h 0 x (omega arith) i ∷ mapped f xs ys (omega arith) (λ k d l. h (suc k) d (omega arith)) i

pub returns : goal.returns
returns c =
    let js = c.args.jobs.now.items in
    let is = c.loop-job.job-items in
    let same = c.loop-job.invariant.same in
    let all = c.loop-job-test.false in
    let len = c.deref_mut-job-items.ensures.len in
    let value = ap length c.deref_mut-job-items.ensures.value in
    take_at is (drop (length is) js) c.args.jobs.now.len (omega arith)
    ∙ mapped (starting_in c.args.mode) js is same (λ k d l. c.loop-job.invariant.done k d (omega arith))
