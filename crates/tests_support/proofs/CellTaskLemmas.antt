-- The tests' jobs may run.
use Rattle.std.proofs.Common.{◌≡◌, ℕ, zero, suc, ◌+◌, ◌*◌, ◌^◌, ◌<◌, ◌≤◌, List, [], ◌∷◌, ◌++◌, length, get_or, set, replicate, slice_index_or, sym, refl, ◌∙◌, ⊎_elim, arith}
use Rattle.std.proofs.lemmas.Bool.{cases_eq}
use Rattle.std.specs.List.{All, AllByRecursion, Contains}
use Rattle.steal_pool.specs.declared.task.Task.{Task}
use Rattle.steal_pool.specs.Jobs.{AllFit}
use Rattle.steal_pool.specs.Runs.{HaveRoom, most_tasks}
use Rattle.tests_support.specs.CellTasks.{tasks_below, cells_meaning, AreFirstTasks}
use Rattle.steal_pool.proofs.Elements.{all-snoc}

abbrev pub task_of : ℕ → Task
task_of c = record { cell = c; tag = 0 }

pub below_fit : (n c : ℕ) → c < n → Contains (tasks_below n) (task_of c)
below_fit zero c l = absurd (omega arith)
below_fit (suc n) c l = ⊎_elim
    (λ (e : c ≡ n). (0, (omega arith), (λ i. record { cell = sym e i; tag = 0 })))
    (λ ne. let r = below_fit n c (omega arith) in (suc r.0, (let b = r.1 in omega arith), r.2))
    (cases_eq c n)

pub fit-append : (n : ℕ) (ts : List Task) (c : ℕ) → AllFit (tasks_below n) ts → c < n → AllFit (tasks_below n) (ts ++ task_of c ∷ [])
fit-append n ts c a l = all-snoc (Contains (tasks_below n)) ts (task_of c) a (below_fit n c l)

module _ {J S : Type 0} (count : S → ℕ) (room turns : J → ℕ) (cells : ℕ) where
  abbrev AreCounters : List J → Type 0
  AreCounters js = All (λ j. (room j ≡ cells) × (turns j ≡ 2 ^ 40)) js

  pub rooms : (n : ℕ) (js : List J) (fs : List (List Task)) → cells + 5 ≤ n → AreCounters js → AreFirstTasks (length js) cells fs → HaveRoom (cells_meaning {J = J} {S = S} count room turns) n js fs
  rooms n [] [] l a b = refl
  rooms n [] (f ∷ fs) l a b = absurd (let e = b.0 in omega arith)
  rooms n (j ∷ js) [] l a b = absurd (let e = b.0 in omega arith)
  rooms n (j ∷ js) (f ∷ fs) l a b =
      let here = (a 0 j (omega arith)).0 in
      let short = b.1.0.0 in
      let count-is = b.0 in
      (omega arith, rooms n js fs l (λ k d m. a (suc k) d (omega arith)) (omega arith, b.1.1))

  few : (js : List J) (fs : List (List Task)) → AreCounters js → AreFirstTasks (length js) cells fs → most_tasks (cells_meaning {J = J} {S = S} count room turns) js fs ≤ length js * (cells + 4)
  few [] [] a b = omega arith
  few [] (f ∷ fs) a b = absurd (let e = b.0 in omega arith)
  few (j ∷ js) [] a b = absurd (let e = b.0 in omega arith)
  few (j ∷ js) (f ∷ fs) a b =
      let here = (a 0 j (omega arith)).0 in
      let short = b.1.0.0 in
      let count-is = b.0 in
      let r = few js fs (λ k d m. a (suc k) d (omega arith)) (omega arith, b.1.1) in
      let m : suc (length js) * (cells + 4) ≡ length js * (cells + 4) + (cells + 4) = omega arith in
      omega arith

  le-mul_right : (a b c : ℕ) → a ≤ b → a * c ≤ b * c
  le-mul_right a b zero l = omega arith
  le-mul_right a b (suc c) l = let r = le-mul_right a b c l in let x : a * suc c ≡ a * c + a = omega arith in let y : b * suc c ≡ b * c + b = omega arith in omega arith

  pub enough_turns : (js : List J) (fs : List (List Task)) → length js ≤ 16 → cells < 2 ^ 32 → AreCounters js → AreFirstTasks (length js) cells fs →
      All (λ j. most_tasks (cells_meaning {J = J} {S = S} count room turns) js fs ≤ turns j) js
  enough_turns js fs l m a b k d n =
      let t = (a k d n).1 in
      let f = few js fs a b in
      let p = le-mul_right (length js) 16 (cells + 4) l in
      omega arith

pub first_none : (workers cells : ℕ) → AreFirstTasks workers cells (replicate workers [])
first_none zero cells = (refl, tt)
first_none (suc n) cells = let r = first_none n cells in ((let e = r.0 in omega arith), (((omega arith), tt), r.1))

all_set : {X : Type 0} (P : X → Type 0) (xs : List X) (i : ℕ) (x : X) → AllByRecursion P xs → P x → AllByRecursion P (set xs i x)
all_set P [] i x a p = tt
all_set P (y ∷ ys) zero x a p = (p, a.1)
all_set P (y ∷ ys) (suc i) x a p = (a.0, all_set P ys i x a.1 p)

at : {X : Type 0} (P : X → Type 0) (xs : List X) (i : ℕ) (d : X) → AllByRecursion P xs → i < length xs → P (get_or xs i d)
at P [] i d a l = absurd (omega arith)
at P (y ∷ ys) zero d a l = a.0
at P (y ∷ ys) (suc i) d a l = at P ys i d a.1 (omega arith)

pub first_more : (workers cells : ℕ) (fs : List (List Task)) (i c : ℕ) → AreFirstTasks workers cells fs → i < workers → c < cells →
    length (slice_index_or fs i []) < 4 → AreFirstTasks workers cells (set fs i (slice_index_or fs i [] ++ task_of c ∷ []))
first_more workers cells fs i c a l m few =
    let f = slice_index_or fs i [] in
    let P : List Task → Type 0 = λ g. (length g ≤ 4) × AllFit (tasks_below cells) g in
    let n = a.0 in
    let old = at P fs i [] a.1 (omega arith) in
    let len = length-snoc f (task_of c) in
    (length_set fs i (f ++ task_of c ∷ []) ∙ a.0, all_set P fs i (f ++ task_of c ∷ []) a.1 ((omega arith), fit-append cells f c old.1 m))
  where
    length-snoc : (ts : List Task) (t : Task) → length (ts ++ t ∷ []) ≡ length ts + 1
    length-snoc [] t = refl
    length-snoc (u ∷ us) t = let r = length-snoc us t in omega arith

    length_set : {X : Type 0} (xs : List X) (i : ℕ) (x : X) → length (set xs i x) ≡ length xs
    length_set [] i x = refl
    length_set (y ∷ ys) zero x = refl
    length_set (y ∷ ys) (suc i) x = let r = length_set ys i x in omega arith
