-- The list of fit tasks, and that what a fit task puts is fit.
use Rattle.std.proofs.Common.{◌≡◌, ℕ, zero, suc, ◌<◌, Bool, true, false, not, cond, ◌⊎◌, inl, inr, ⊎_elim, List, [], ◌∷◌, ◌++◌, length, get_or}
use Rattle.std.proofs.Common.{filter, map, sym, refl, ap, ◌∙◌, subst, arith, ◌↔◌, eqb-true, eq-eqb, eqb}
use Rattle.std.specs.List.{flat_map, AllByRecursion, Contains}
use Rattle.std.proofs.lemmas.Bool.{false≢true, or_cases, or_left, or_right, cases_Bool}
use Rattle.steal_pool.specs.declared.task.Task.{Task}
use Rattle.heap_base.specs.Counting.{bit, times}
use Rattle.graph_meaning.specs.Reach.{has_id, reached_nodes}
use Rattle.graph_meaning.proofs.Membership.{has_id-head}
use Rattle.graph_meaning.proofs.Reaching.{reached_nodes-closed, reached_nodes-in_nodes}
use Rattle.steal_pool.specs.Jobs.{AllFit}
use Rattle.scan_job.specs.declared.mode.Mode.{Mode}
use Rattle.scan_job.specs.declared.mode.Mode.TheVariants.{Owner, TakeUp, Root}
use Rattle.scan_job.specs.Graphs.{StoppedGraph, IsWhole, is_border, whole_graph, inner_graph, owners, all_targets, is_found_from}
use Rattle.scan_job.specs.Scans.{task_at, is_put, AreAmong, Scans}
use Rattle.scan_job.specs.Fit.{IsFit, owner_tasks, fit_tasks}
use Rattle.scan_job.specs.States.{ScanState}
use Rattle.scan_job.proofs.Reaching.{at-filter, filter-at, under-step, root-step}

-- whether a task stands in a list, by recursion
abbrev Within : Task → List Task → Type 0
Within t [] = ⊥
Within t (u ∷ us) = (u ≡ t) ⊎ Within t us

within-from : (t : Task) (us : List Task) → Contains us t → Within t us
within-from t us c = go us c.0 c.1 c.2
  where
    go : (us : List Task) (k : ℕ) → k < length us → get_or us k t ≡ t → Within t us
    go [] k l e = absurd (omega arith)
    go (u ∷ us) zero l e = inl e
    go (u ∷ us) (suc k) l e = inr (go us k (omega arith) e)

within-to : (t : Task) (us : List Task) → Within t us → Contains us t
within-to t [] at = absurd at
within-to t (u ∷ us) at =
    ⊎_elim
    (λ here. (0, omega arith, here))
    (λ later. let r = within-to t us later in (suc r.0, (let l = r.1 in omega arith), r.2))
    at

within-left : (t : Task) (us vs : List Task) → Within t us → Within t (us ++ vs)
within-left t [] vs at = absurd at
within-left t (u ∷ us) vs at = ⊎_elim (λ here. inl here) (λ later. inr (within-left t us vs later)) at

within-right : (t : Task) (us vs : List Task) → Within t vs → Within t (us ++ vs)
within-right t [] vs at = at
within-right t (u ∷ us) vs at = inr (within-right t us vs at)

within-parts : (t : Task) (us vs : List Task) → Within t (us ++ vs) → Within t us ⊎ Within t vs
within-parts t [] vs at = inr at
within-parts t (u ∷ us) vs at =
    ⊎_elim
    (λ here. inl (inl here))
    (λ later. ⊎_elim (λ l. inl (inr l)) (λ r. inr r) (within-parts t us vs later))
    at

within-tagged : (t : Task) (tag : ℕ) (xs : List ℕ) → Within t (map (task_at tag) xs) → (t.tag ≡ tag) × (has_id xs t.cell ≡ true)
within-tagged t tag [] at = absurd at
within-tagged t tag (x ∷ xs) at =
    ⊎_elim
    (λ (here : task_at tag x ≡ t). (ap (λ u. u.tag) (sym here), or_left _ _ (eq-eqb x t.cell (ap (λ u. u.cell) here))))
    (λ later. let r = within-tagged t tag xs later in (r.0, or_right _ _ r.1))
    at

tagged-within : (t : Task) (tag : ℕ) (xs : List ℕ) → t.tag ≡ tag → has_id xs t.cell ≡ true → Within t (map (task_at tag) xs)
tagged-within t tag [] same at = absurd (false≢true at)
tagged-within t tag (x ∷ xs) same at =
    ⊎_elim
    (λ here. inl (λ i. record { cell = eqb-true x t.cell here i; tag = sym same i }))
    (λ later. inr (tagged-within t tag xs same later))
    (or_cases _ _ at)

within-flat_map : (f : ℕ → List Task) (t : Task) (xs : List ℕ) → Within t (flat_map f xs) → (x : ℕ) × (has_id xs x ≡ true) × Within t (f x)
within-flat_map f t [] at = absurd at
within-flat_map f t (x ∷ xs) at =
    ⊎_elim
    (λ here. (x, has_id-head xs x, here))
    (λ later. let r = within-flat_map f t xs later in (r.0, or_right _ _ r.1, r.2))
    (within-parts t (f x) (flat_map f xs) at)

flat_map-within : (f : ℕ → List Task) (t : Task) (xs : List ℕ) (x : ℕ) → has_id xs x ≡ true → Within t (f x) → Within t (flat_map f xs)
flat_map-within f t [] x at within = absurd (false≢true at)
flat_map-within f t (y ∷ xs) x at within =
    ⊎_elim
    (λ here. within-left t (f y) (flat_map f xs) (subst (λ z. Within t (f z)) (sym (eqb-true y x here)) within))
    (λ later. within-right t (f y) (flat_map f xs) (flat_map-within f t xs x later within))
    (or_cases _ _ at)

module _ (g : StoppedGraph) (w : IsWhole g) where
  fit-is : (mode : Mode) (t : Task) → Within t (fit_tasks g mode) → IsFit g mode t
  unfolding fit_tasks
  fit-is Owner t at =
      let o = within-flat_map (owner_tasks g) t (owners g) at in
      let owner = (filter-at g.is_owner g.nodes o.0 o.1).0 in
      ⊎_elim
      (λ (here : task_at o.0 o.0 ≡ t). subst (IsFit g Owner) here (owner, inl refl))
      (λ later.
      let r = within-tagged t o.0 _ later in
      let free = filter-at (λ c. not (is_border g c)) (reached_nodes (inner_graph g) (g.targets o.0)) t.cell r.1 in
      (ap g.is_owner r.0 ∙ owner, inr (free.0, ap (λ z. is_found_from g z t.cell) r.0 ∙ free.1)))
      o.2
  fit-is TakeUp t at =
      let r = within-tagged t 0 _ at in let f = filter-at (λ c. not (g.is_owner c)) _ t.cell r.1 in (r.0, f.0, f.1)
  fit-is Root t at =
      let r = within-tagged t 0 _ at in let f = filter-at (λ c. not (g.is_owner c)) _ t.cell r.1 in (r.0, f.0, f.1)

  is-fit : (mode : Mode) (t : Task) → IsFit g mode t → Within t (fit_tasks g mode)
  unfolding fit_tasks
  is-fit Owner t fits =
      flat_map-within (owner_tasks g) t (owners g) t.tag (at-filter g.is_owner g.nodes t.tag fits.0 (w.owners t.tag fits.0))
      (⊎_elim
      (λ same. inl (λ i. record { cell = sym same i; tag = t.tag }))
      (λ free. inr (tagged-within t t.tag _ refl (at-filter (λ c. not (is_border g c)) (reached_nodes (inner_graph g) (g.targets t.tag)) t.cell free.0 free.1)))
      fits.1)
  is-fit TakeUp t fits = tagged-within t 0 _ fits.0 (at-filter (λ c. not (g.is_owner c)) _ t.cell fits.1 fits.2)
  is-fit Root t fits = tagged-within t 0 _ fits.0 (at-filter (λ c. not (g.is_owner c)) _ t.cell fits.1 fits.2)

  -- what a slot of a fit task's cell holds is found by the owner of its tag
  pub found-step : (t : Task) (y : ℕ) → IsFit g Owner t → has_id (g.targets t.cell) y ≡ true → is_found_from g t.tag y ≡ true
  found-step t y fits at =
      let closed = reached_nodes-closed (inner_graph g) (g.targets t.tag) in
      ⊎_elim
      (λ same. closed.from_sources y (ap (λ c. has_id (g.targets c) y) (sym same) ∙ at) (w.edges t.cell y at))
      (λ free. closed.along_edges t.cell y free.1 free.0 (at, w.edges t.cell y at))
      fits.1

  pub fit-step : (mode : Mode) (t : Task) (y : ℕ) → IsFit g mode t → has_id (g.targets t.cell) y ≡ true → is_put g mode y ≡ true → IsFit g mode (task_at t.tag y)
  fit-step Owner t y fits at goes = (fits.0, inr (goes, found-step t y fits at))
  fit-step TakeUp t y fits at goes = (fits.0, goes, under-step g w t.cell y fits.2 at)
  fit-step Root t y fits at goes = (fits.0, goes, root-step g w t.cell y fits.2 at)

  pub fit_tasks-is : (mode : Mode) (t : Task) → Contains (fit_tasks g mode) t ↔ IsFit g mode t
  fit_tasks-is mode t = (λ c. fit-is mode t (within-from t (fit_tasks g mode) c), λ fits. within-to t (fit_tasks g mode) (is-fit mode t fits))

  -- the cell of a fit task holds an object
  pub fit-node : (mode : Mode) (t : Task) → IsFit g mode t → has_id g.nodes t.cell ≡ true
  fit-node Owner t fits =
      ⊎_elim
      (λ same. ap (has_id g.nodes) same ∙ w.owners t.tag fits.0)
      (λ free. reached_nodes-in_nodes (inner_graph g) (g.targets t.tag) t.cell free.1)
      fits.1
  fit-node TakeUp t fits = reached_nodes-in_nodes (whole_graph g) (all_targets g (owners g)) t.cell fits.2
  fit-node Root t fits = reached_nodes-in_nodes (whole_graph g) g.roots t.cell fits.2

-- P of each task that is made of an element that passes
pub all-tagged : (P : Task → Type 0) (tag : ℕ) (p : ℕ → Bool) (xs : List ℕ) → ((x : ℕ) → has_id xs x ≡ true → p x ≡ true → P (task_at tag x)) → AllByRecursion P (map (task_at tag) (filter p xs))
all-tagged P tag p [] each = tt
all-tagged P tag p (x ∷ xs) each =
    go (p x) refl (all-tagged P tag p xs (λ y at passes. each y (or_right _ _ at) passes))
  where
    go : (b : Bool) → p x ≡ b → AllByRecursion P (map (task_at tag) (filter p xs)) → AllByRecursion P (map (task_at tag) (cond b (x ∷ filter p xs) (filter p xs)))
    go true e rest = (each x (has_id-head xs x) e, rest)
    go false e rest = rest

-- ---- what is among other cells

pub times-at : (x : ℕ) (xs : List ℕ) → has_id xs x ≡ true → 0 < times x xs
times-at x [] at = absurd (false≢true at)
times-at x (y ∷ ys) at =
    ⊎_elim
    (λ here. let o : bit (eqb y x) ≡ 1 = ap bit here in omega arith)
    (λ later. let r = times-at x ys later in omega arith)
    (or_cases _ _ at)

pub at-times : (x : ℕ) (xs : List ℕ) → 0 < times x xs → has_id xs x ≡ true
at-times x [] l = absurd (omega arith)
at-times x (y ∷ ys) l =
    ⊎_elim
    (λ e. or_left _ _ e)
    (λ (e : eqb y x ≡ false). or_right _ _ (at-times x ys (let z : bit (eqb y x) ≡ 0 = ap bit e in omega arith)))
    (cases_Bool (eqb y x))

pub among-at : (won met : List ℕ) → AreAmong won met → (x : ℕ) → has_id won x ≡ true → has_id met x ≡ true
among-at won met among x at = at-times x met (let l = times-at x won at in let a = among (λ y. bit (eqb y x)) in omega arith)

-- A fit task puts fit tasks.
pub puts-fit : (g : StoppedGraph) (j : ScanState) (t : Task) (k : ScanState) (put : List Task) → IsWhole g → Scans g j t (record { job = k; put = put }) →
    Contains (fit_tasks g j.mode) t → AllFit (fit_tasks g j.mode) put
puts-fit g j t k put w s fits =
    subst (AllByRecursion (Contains (fit_tasks g j.mode))) (sym s.puts)
    (all-tagged (Contains (fit_tasks g j.mode)) t.tag (is_put g j.mode) s.won
    (λ x at goes. (fit_tasks-is g w j.mode (task_at t.tag x)).1
    (fit-step g w j.mode t x ((fit_tasks-is g w j.mode t).0 fits) (among-at s.won (g.targets t.cell) s.meets.among x at) goes)))
