-- First tasks that are dealt to the workers in turn.
use Rattle.std.proofs.Common.{◌≡◌, ℕ, zero, suc, ◌+◌, ◌*◌, ◌/◌, ◌%◌, ◌<◌, ◌≤◌, ⊎_elim, List, [], ◌∷◌, ◌++◌, length, get_or, replicate, sym, refl, ap, ◌∙◌, subst, arith, length-append}
use Rattle.std.specs.List.{All, AllByRecursion}
use Rattle.std.proofs.Math.Nat.{mul-le-mul_left}
use Rattle.std.proofs.lemmas.Bool.{cases_eq, cases_lt}
use Rattle.std.proofs.lemmas.List.{length-replicate, length-set, get_or-set_same, get_or-set_other, get_or-replicate, get_or_default}
use Rattle.steal_pool.specs.declared.task.Task.{Task}
use Rattle.heap_base.specs.Counting.{total, AsOften}
use Rattle.heap_base.proofs.Counting.{total-append, total-flat_map, total-ones, total-same}
use Rattle.steal_pool.specs.Runs.{all_first}
use Rattle.scan_job.specs.Phases.{put_last, deal, task_lists}

-- ---- one task more

pub length-deal : (n k : ℕ) (fs : List (List Task)) (ts : List Task) → length (deal n k fs ts) ≡ length fs
length-deal n k fs [] = refl
length-deal n k fs (t ∷ ts) =
    length-deal n (k + 1) (put_last fs (k % n) t) ts ∙ length-set fs (k % n) (get_or fs (k % n) [] ++ t ∷ [])

deal-snoc : (n k : ℕ) (fs : List (List Task)) (ts : List Task) (t : Task) → deal n k fs (ts ++ t ∷ []) ≡ put_last (deal n k fs ts) ((k + length ts) % n) t
deal-snoc n k fs [] t = ap (λ m. put_last fs (m % n) t) (let e : k ≡ k + 0 = omega arith in e)
deal-snoc n k fs (u ∷ ts) t =
    deal-snoc n (k + 1) (put_last fs (k % n) u) ts t
    ∙ ap (λ m. put_last (deal n (k + 1) (put_last fs (k % n) u) ts) (m % n) t) (let e : k + 1 + length ts ≡ k + suc (length ts) = omega arith in e)

-- a task that is put last in its list is dealt
pub dealt-snoc : (n number : ℕ) (fs gs : List (List Task)) (ts : List Task) (t : Task) → number ≡ length ts → fs ≡ task_lists n ts → gs ≡ put_last fs (number % n) t → gs ≡ task_lists n (ts ++ t ∷ [])
dealt-snoc n number fs gs ts t count e is =
    is
    ∙ ap (λ hs. put_last hs (number % n) t) e
    ∙ ap (λ m. put_last (task_lists n ts) (m % n) t) (let z : number ≡ 0 + length ts = omega arith in z)
    ∙ sym (deal-snoc n 0 (replicate n []) ts t)

pub length-dealt : (n : ℕ) (ts : List Task) → length (task_lists n ts) ≡ n
length-dealt n ts = length-deal n 0 (replicate n []) ts ∙ length-replicate n []

-- ---- what the lists hold together

put_last-total : (h : Task → ℕ) (fs : List (List Task)) (w : ℕ) (t : Task) → w < length fs → total h (all_first (put_last fs w t)) ≡ total h (all_first fs) + h t
put_last-total h [] w t within = absurd (omega arith)
put_last-total h (f ∷ fs) zero t within =
    let a = total-append h (f ++ t ∷ []) (all_first fs) in
    let b = total-append h f (t ∷ []) in
    let c = total-append h f (all_first fs) in
    omega arith
put_last-total h (f ∷ fs) (suc w) t within =
    let a = total-append h f (all_first fs) in
    let b = total-append h f (all_first (put_last fs w t)) in
    let r = put_last-total h fs w t (omega arith) in
    omega arith

deal-total : (h : Task → ℕ) (n k : ℕ) (fs : List (List Task)) (ts : List Task) → 0 < n → length fs ≡ n → total h (all_first (deal n k fs ts)) ≡ total h (all_first fs) + total h ts
deal-total h n k fs [] some e = omega arith
deal-total h n k fs (t ∷ ts) some e =
    let l = length-set fs (k % n) (get_or fs (k % n) [] ++ t ∷ []) in
    let r = deal-total h n (k + 1) (put_last fs (k % n) t) ts some (l ∙ e) in
    let p = put_last-total h fs (k % n) t (omega arith) in
    omega arith

none-first : (h : Task → ℕ) (n : ℕ) → total h (all_first (replicate n [])) ≡ 0
none-first h zero = refl
none-first h (suc n) = none-first h n

pub dealt-as_often : (n : ℕ) (ts : List Task) → 0 < n → AsOften (all_first (task_lists n ts)) ts
dealt-as_often n ts some h =
    let a = deal-total h n 0 (replicate n []) ts some (length-replicate n []) in
    let b = none-first h n in
    omega arith

-- how many there are in all lists
pub dealt-length : (n : ℕ) (ts : List Task) → 0 < n → total length (task_lists n ts) ≡ length ts
dealt-length n ts some =
    total-same length (λ f. total (λ _. 1) f) (λ f. sym (total-ones f)) (task_lists n ts)
    ∙ sym (total-flat_map (λ _. 1) (λ (f : List Task). f) (task_lists n ts))
    ∙ dealt-as_often n ts some (λ _. 1)
    ∙ total-ones ts

-- ---- what each list holds

put_last-all : (P : List Task → Type 0) (Q : Task → Type 0) → ((f : List Task) (t : Task) → P f → Q t → P (f ++ t ∷ [])) →
    (fs : List (List Task)) (w : ℕ) (t : Task) → All P fs → Q t → All P (put_last fs w t)
put_last-all P Q step fs w t all q k d within =
    let l = length-set fs w (get_or fs w [] ++ t ∷ []) in
    ⊎_elim
    (λ (e : k ≡ w).
    subst P (sym (ap (λ i. get_or (put_last fs w t) i d) e ∙ get_or-set_same fs w (get_or fs w [] ++ t ∷ []) d (omega arith)))
    (step (get_or fs w []) t (all w [] (omega arith)) q))
    (λ ne. subst P (sym (get_or-set_other fs w k (get_or fs w [] ++ t ∷ []) d ne)) (all k d (omega arith)))
    (cases_eq k w)

deal-all : (P : List Task → Type 0) (Q : Task → Type 0) → ((f : List Task) (t : Task) → P f → Q t → P (f ++ t ∷ [])) →
    (n k : ℕ) (fs : List (List Task)) (ts : List Task) → All P fs → AllByRecursion Q ts → All P (deal n k fs ts)
deal-all P Q step n k fs [] all each = all
deal-all P Q step n k fs (t ∷ ts) all each =
    deal-all P Q step n (k + 1) (put_last fs (k % n) t) ts (put_last-all P Q step fs (k % n) t all each.0) each.1

all-snoc : (Q : Task → Type 0) (f : List Task) (t : Task) → AllByRecursion Q f → Q t → AllByRecursion Q (f ++ t ∷ [])
all-snoc Q [] t all q = (q, tt)
all-snoc Q (u ∷ f) t all q = (all.0, all-snoc Q f t all.1 q)

-- what is so of each task is so of each in the lists
pub dealt-all : (Q : Task → Type 0) (n : ℕ) (ts : List Task) → AllByRecursion Q ts → All (AllByRecursion Q) (task_lists n ts)
dealt-all Q n ts each =
    deal-all (AllByRecursion Q) Q (all-snoc Q) n 0 (replicate n []) ts
    (λ k d within. subst (AllByRecursion Q) (sym (get_or-replicate n k [] d (let l = length-replicate {A = List Task} n [] in omega arith))) tt)
    each

-- ---- how long each list is

cancel : (n a b : ℕ) → n * a < n * (b + 1) → a ≤ b
cancel n a b l =
    ⊎_elim
    (λ (less : b < a). absurd (let m : b + 1 ≤ a = omega arith in let p = mul-le-mul_left n m in omega arith))
    (λ more. more)
    (cases_lt b a)

-- each of the n lists has its share of the first k tasks
abbrev HaveShares : ℕ → ℕ → List (List Task) → Type 0
HaveShares n k fs = (w : ℕ) → w < n → n * length (get_or fs w []) + w < k + n

shares-step : (n k : ℕ) (fs : List (List Task)) (t : Task) → 0 < n → length fs ≡ n → HaveShares n k fs → HaveShares n (k + 1) (put_last fs (k % n) t)
shares-step n k fs t some e shares w within =
    ⊎_elim
    (λ (same : w ≡ k % n).
    let list = get_or fs w [] in
    let s = shares w within in
    let c : length list ≤ k / n = cancel n (length list) (k / n) (omega arith) in
    let m = mul-le-mul_left n c in
    let is : get_or (put_last fs (k % n) t) w [] ≡ list ++ t ∷ [] =
    ap (λ i. get_or (put_last fs (k % n) t) i []) same ∙ get_or-set_same fs (k % n) (get_or fs (k % n) [] ++ t ∷ []) [] (omega arith) ∙ ap (λ i. get_or fs i [] ++ t ∷ []) (sym same) in
    let l = ap length is in
    let a = length-append list (t ∷ []) in
    let x : n * (length list + 1) ≡ n * length list + n = omega arith in
    let y : n * length (get_or (put_last fs (k % n) t) w []) ≡ n * (length list + 1) = ap (λ z. n * z) (l ∙ a) in
    omega arith)
    (λ ne.
    let s = shares w within in
    let y : n * length (get_or (put_last fs (k % n) t) w []) ≡ n * length (get_or fs w []) = ap (λ z. n * length z) (get_or-set_other fs (k % n) w (get_or fs (k % n) [] ++ t ∷ []) [] ne) in
    omega arith)
    (cases_eq w (k % n))

deal-shares : (n k : ℕ) (fs : List (List Task)) (ts : List Task) → 0 < n → length fs ≡ n → HaveShares n k fs → HaveShares n (k + length ts) (deal n k fs ts)
deal-shares n k fs [] some e shares w within = let s = shares w within in omega arith
deal-shares n k fs (t ∷ ts) some e shares w within =
    let r = deal-shares n (k + 1) (put_last fs (k % n) t) ts some (length-set fs (k % n) (get_or fs (k % n) [] ++ t ∷ []) ∙ e) (shares-step n k fs t some e shares) w within in
    omega arith

dealt-shares : (n : ℕ) (ts : List Task) → 0 < n → HaveShares n (length ts) (task_lists n ts)
dealt-shares n ts some w within =
    let none : HaveShares n 0 (replicate n []) =
    (λ v below. let z : n * length (get_or (replicate n []) v []) ≡ n * 0 = ap (λ (f : List Task). n * length f) (get_or-replicate n v [] [] below) in omega arith) in
    let r = deal-shares n 0 (replicate n []) ts some (length-replicate n []) none w within in
    omega arith

-- where there are at most n times c tasks, each of n lists has at most c
pub dealt-short : (n c : ℕ) (ts : List Task) → 0 < n → length ts ≤ n * c → All (λ f. length f ≤ c) (task_lists n ts)
dealt-short n c ts some few k d within =
    let l = length-dealt n ts in
    let s = dealt-shares n ts some k (omega arith) in
    let e = ap (λ (f : List Task). length f) (get_or_default (task_lists n ts) k [] d within) in
    let m = cancel n (length (get_or (task_lists n ts) k [])) c (omega arith) in
    omega arith

-- and where there are fewer, there is room for the next
pub dealt-room : (n c number : ℕ) (fs : List (List Task)) (ts : List Task) → 0 < n → number ≡ length ts → fs ≡ task_lists n ts → number < n * c →
    (number % n < length fs) × (length (get_or fs (number % n) []) < c)
dealt-room n c k fs ts some count e few =
    let l = length-dealt n ts in
    let len = ap length e in
    let s = dealt-shares n ts some (k % n) (omega arith) in
    let here = ap (λ (hs : List (List Task)). length (get_or hs (k % n) [])) e in
    let m : length (get_or (task_lists n ts) (k % n) []) ≤ k / n = cancel n (length (get_or (task_lists n ts) (k % n) [])) (k / n) (omega arith) in
    let below : k / n < c =
    ⊎_elim
    (λ less. less)
    (λ (more : c ≤ k / n). absurd (let p = mul-le-mul_left n more in omega arith))
    (cases_lt (k / n) c) in
    (omega arith, omega arith)
