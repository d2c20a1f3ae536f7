-- What the jobs of a phase gain together.
use Rattle.std.proofs.Common.{◌≡◌, ℕ, ◌+◌, ◌<◌, ◌≤◌, Bool, true, false, ◌||◌, ◌&&◌, not, cond, ⊎_elim, List, [], ◌∷◌, ◌++◌, filter, map, sym, refl, ap, ◌∙◌, arith, IsTrue, eqb-true, eq-eqb, eqb}
use Rattle.std.specs.List.{flat_map, AllByRecursion, Contains}
use Rattle.std.proofs.lemmas.Bool.{cases_Bool, false≢true, or_cases, or_right, and_from, ne_eqb, cases_eq}
use Rattle.std.proofs.lemmas.List.{map-append}
use Rattle.std.proofs.lemmas.List.Elements.{filter-append}
use Rattle.steal_pool.specs.declared.task.Task.{Task}
use Rattle.heap_base.specs.Counting.{bit, is_positive, total, AsOften}
use Rattle.heap_base.proofs.Counting.{is_positive-from, is_positive-true, is_positive-false, total-append, total-same, total-zero, total-le, total-map, total-flat_map}
use Rattle.graph_meaning.specs.Reach.{has_id}
use Rattle.graph_meaning.proofs.Membership.{has_id-head, has_id-append}
use Rattle.header_rule.specs.declared.mark.Mark.{Mark}
use Rattle.header_rule.specs.declared.mark.Mark.TheVariants.{Found, Disputed, MetByRoots}
use Rattle.header_rule.specs.Views.{is_mark, times_marked}
use Rattle.steal_pool.specs.Jobs.{AllFit}
use Rattle.scan_job.specs.declared.mode.Mode.{Mode}
use Rattle.scan_job.specs.declared.mode.Mode.TheVariants.{Owner, TakeUp, Root}
use Rattle.scan_job.specs.Graphs.{StoppedGraph, IsWhole, owners, all_targets, is_found_from}
use Rattle.scan_job.specs.Fit.{IsFit, fit_tasks, no_owners}
use Rattle.scan_job.specs.Gains.{Gain, lists_mark}
use Rattle.scan_job.specs.Phases.{OwnerGains, TakeUpGains, RootGains}
use Rattle.scan_job.specs.Scans.{is_held, marks_on, AreAmong, task_at}
use Rattle.scan_job.proofs.Fitting.{found-step, fit_tasks-is, among-at, times-at, at-times}
use Rattle.scan_job.proofs.Reaching.{at-filter, under-step, root-reached, root-step, found-under}
use Rattle.scan_job.proofs.Scanned.{Scanned, task_marks, both_gains, adds-run}

-- ---- lists with a sum

-- where a list has a sum, so has an element of it
positive-at : {X : Type 0} (P : X → Type 0) (f : X → ℕ) (xs : List X) → AllByRecursion P xs → 0 < total f xs → (x : X) × P x × (0 < f x)
positive-at P f [] all l = absurd (omega arith)
positive-at P f (x ∷ xs) all l =
    ⊎_elim
    (λ (e : is_positive (f x) ≡ true). (x, all.0, is_positive-true _ e))
    (λ (e : is_positive (f x) ≡ false). let z = is_positive-false (f x) e in positive-at P f xs all.1 (omega arith))
    (cases_Bool (is_positive (f x)))

among-itself : (xs : List ℕ) → AllByRecursion (λ x. has_id xs x ≡ true) xs
among-itself xs = go xs (λ x at. at)
  where
    go : (ys : List ℕ) → ((x : ℕ) → has_id ys x ≡ true → has_id xs x ≡ true) → AllByRecursion (λ x. has_id xs x ≡ true) ys
    go [] within = tt
    go (y ∷ ys) within = (within y (has_id-head ys y), go ys (λ x at. within x (or_right _ _ at)))

-- an element adds at most the sum
le-total : (f : ℕ → ℕ) (x : ℕ) (xs : List ℕ) → has_id xs x ≡ true → f x ≤ total f xs
le-total f x [] at = absurd (false≢true at)
le-total f x (y ∷ ys) at =
    ⊎_elim
    (λ (e : y ≡ x). let s : f y ≡ f x = ap f e in omega arith)
    (λ ne. let r = le-total f x ys (ap (λ b. b || has_id ys x) (sym (ne_eqb y x ne)) ∙ at) in omega arith)
    (cases_eq y x)

flat_map-none : {X Y : Type 0} (f : X → List Y) → ((x : X) → f x ≡ []) → (xs : List X) → flat_map f xs ≡ []
flat_map-none f none [] = refl
flat_map-none f none (x ∷ xs) = (λ i. none x i ++ flat_map f xs) ∙ flat_map-none f none xs

filter-none : (xs : List ℕ) → filter (λ x. false) xs ≡ []
filter-none [] = refl
filter-none (x ∷ xs) = filter-none xs

-- ---- marks

abbrev one_mark : Mark → ℕ → ℕ × Mark → ℕ
one_mark m x p = bit (is_mark m p.1 && eqb p.0 x)

abbrev marks_in : StoppedGraph → Mode → ℕ → List ℕ → List (ℕ × Mark)
marks_in g mode tag xs = flat_map (marks_on g mode tag) xs

-- the mark of an ownee, by whether it is owned
abbrev owner_mark : ℕ → Bool → Bool → List (ℕ × Mark)
owner_mark x ownee owned = cond ownee (map (λ m. (x, m)) (cond owned (Found ∷ []) (Disputed ∷ []))) []

module _ (g : StoppedGraph) where
  -- a found mark is of an ownee that was met under its owner's tag
  found-of : (tag e x : ℕ) → 0 < times_marked Found e (marks_on g Owner tag x) → (x ≡ e) × (g.owns tag x ≡ true)
  found-of tag e x = go (g.is_ownee x) (g.owns tag x)
    where
      same : (b : Bool) → eqb x e ≡ b → 0 < bit b → x ≡ e
      same true at l = eqb-true x e at
      same false at l = absurd (omega arith)

      go : (b c : Bool) → 0 < times_marked Found e (owner_mark x b c) → (x ≡ e) × (c ≡ true)
      go false c l = absurd (omega arith)
      go true false l = absurd (omega arith)
      go true true l = (same (eqb x e) refl (omega (arith, l)), refl)

  found-in : (tag e : ℕ) (xs : List ℕ) → 0 < times_marked Found e (marks_in g Owner tag xs) → (has_id xs e ≡ true) × (g.owns tag e ≡ true)
  found-in tag e xs l =
      let f = total-flat_map (one_mark Found e) (marks_on g Owner tag) xs in
      let r = positive-at (λ x. has_id xs x ≡ true) (λ x. times_marked Found e (marks_on g Owner tag x)) xs (among-itself xs) (omega arith) in
      let s = found-of tag e r.0 r.2 in
      (ap (has_id xs) (sym s.0) ∙ r.1, ap (g.owns tag) (sym s.0) ∙ s.1)

  in-found : (tag e : ℕ) (xs : List ℕ) → g.is_ownee e ≡ true → g.owns tag e ≡ true → has_id xs e ≡ true → 0 < times_marked Found e (marks_in g Owner tag xs)
  in-found tag e xs ownee owns at =
      let f = total-flat_map (one_mark Found e) (marks_on g Owner tag) xs in
      let k = le-total (λ x. times_marked Found e (marks_on g Owner tag x)) e xs at in
      let one : times_marked Found e (marks_on g Owner tag e) ≡ 1 = (λ i. times_marked Found e (owner_mark e (ownee i) (owns i))) ∙ self in
      omega arith
    where
      self : times_marked Found e ((e, Found) ∷ []) ≡ 1
      self = ap (λ b. bit b + 0) (eq-eqb e e refl)

  unmet-in : (tag e : ℕ) (xs : List ℕ) → times_marked MetByRoots e (marks_in g Owner tag xs) ≡ 0
  unmet-in tag e xs =
      total-flat_map (one_mark MetByRoots e) (marks_on g Owner tag) xs ∙ total-same _ (λ x. 0) (λ x. none x (g.is_ownee x) (g.owns tag x)) xs ∙ total-zero xs
    where
      none : (x : ℕ) (b c : Bool) → times_marked MetByRoots e (owner_mark x b c) ≡ 0
      none x false c = refl
      none x true true = refl
      none x true false = refl

  abbrev as_met : ℕ → ℕ × Mark
  as_met e = (e, MetByRoots)

  root-marks : (tag : ℕ) (xs : List ℕ) → marks_in g Root tag xs ≡ map as_met (filter g.is_ownee xs)
  root-marks tag [] = refl
  root-marks tag (x ∷ xs) = go (g.is_ownee x) (root-marks tag xs)
    where
      go : (b : Bool) → marks_in g Root tag xs ≡ map as_met (filter g.is_ownee xs) →
          cond b (as_met x ∷ []) [] ++ marks_in g Root tag xs ≡ map as_met (cond b (x ∷ filter g.is_ownee xs) (filter g.is_ownee xs))
      go true rest = ap (λ ys. as_met x ∷ ys) rest
      go false rest = rest

  met-append : (xs ys : List ℕ) → map as_met (filter g.is_ownee (xs ++ ys)) ≡ map as_met (filter g.is_ownee xs) ++ map as_met (filter g.is_ownee ys)
  met-append xs ys = ap (map as_met) (filter-append g.is_ownee xs ys) ∙ map-append as_met (filter g.is_ownee xs) (filter g.is_ownee ys)

  root-marks-all : (ts : List Task) → task_marks g Root ts ≡ map as_met (filter g.is_ownee (flat_map (λ (t : Task). g.targets t.cell) ts))
  root-marks-all [] = refl
  root-marks-all (t ∷ ts) =
      (λ i. root-marks t.tag (g.targets t.cell) i ++ root-marks-all ts i) ∙ sym (met-append (g.targets t.cell) (flat_map (λ (t : Task). g.targets t.cell) ts))

-- ---- the wins

module _ (g : StoppedGraph) (w : IsWhole g) (mode : Mode) (done put : List Task) (a : Gain) (s : Scanned g mode done put a) (fits : AllFit (fit_tasks g mode) done) where
  -- each win of a run stands in a slot of the cell of a fit task
  win-at : (x : ℕ) → has_id a.wins x ≡ true → (t : Task) × IsFit g mode t × (has_id (g.targets t.cell) x ≡ true)
  win-at x at =
      let l = times-at x a.wins at in
      let m = s.among (λ y. bit (eqb y x)) in
      let e = ap (total (λ y. bit (eqb y x))) s.adds in
      let f = total-flat_map (λ y. bit (eqb y x)) (λ (t : Task). g.targets t.cell) done in
      let r = positive-at (Contains (fit_tasks g mode)) (λ t. total (λ y. bit (eqb y x)) (g.targets t.cell)) done fits (omega arith) in
      (r.0, (fit_tasks-is g w mode r.0).0 r.1, at-times x (g.targets (r.0).cell) r.2)

  marks-total : (m : Mark) (e : ℕ) → times_marked m e a.marks ≡ total (λ t. times_marked m e (marks_in g mode t.tag (g.targets t.cell))) done
  marks-total m e =
      ap (total (one_mark m e)) s.marks ∙ total-flat_map (one_mark m e) (λ (t : Task). marks_in g mode t.tag (g.targets t.cell)) done

-- ---- the scans from the owners

module _ (g : StoppedGraph) (w : IsWhole g) (done put first : List Task) (a : Gain) (s : Scanned g Owner done put a)
    (fits : AllFit (fit_tasks g Owner) done) (ran : AsOften done (first ++ put)) (begins : AsOften first (map (λ o. task_at o o) (owners g))) where
  found-by : (e : ℕ) → lists_mark Found e a.marks ≡ true → (o : ℕ) × IsTrue (g.owns o e) × IsTrue (is_found_from g o e)
  found-by e at =
      let l = is_positive-true _ at in
      let m = marks-total g w Owner done put a s fits Found e in
      let (t, is_in, has) = positive-at (Contains (fit_tasks g Owner)) (λ t. times_marked Found e (marks_in g Owner t.tag (g.targets t.cell))) done fits (omega arith) in
      let f = found-in g t.tag e (g.targets t.cell) has in
      (t.tag, f.1, found-step g w t e ((fit_tasks-is g w Owner t).0 is_in) f.0)

  -- the task of the owner o itself
  abbrev own_task : ℕ → Task → ℕ
  own_task o t = bit (eqb t.cell o && eqb t.tag o)

  own-marks : (o e : ℕ) → g.owns o e ≡ true → has_id (g.targets o) e ≡ true → (t : Task) → own_task o t ≤ times_marked Found e (marks_in g Owner t.tag (g.targets t.cell))
  own-marks o e owns at t = go (eqb t.cell o) (eqb t.tag o) refl refl
    where
      go : (b c : Bool) → eqb t.cell o ≡ b → eqb t.tag o ≡ c → bit (b && c) ≤ times_marked Found e (marks_in g Owner t.tag (g.targets t.cell))
      go false c p q = omega arith
      go true false p q = omega arith
      go true true p q =
          let l = in-found g o e (g.targets o) (w.owned o e owns).1 owns at in
          let same : times_marked Found e (marks_in g Owner t.tag (g.targets t.cell)) ≡ times_marked Found e (marks_in g Owner o (g.targets o)) =
          λ i. times_marked Found e (marks_in g Owner (eqb-true t.tag o q i) (g.targets (eqb-true t.cell o p i))) in
          omega arith

  -- each owner was scanned, so what it holds in a slot and owns is marked
  own-found : (o e : ℕ) → g.owns o e ≡ true → has_id (g.targets o) e ≡ true → lists_mark Found e a.marks ≡ true
  own-found o e owns at =
      is_positive-from _
      (let m = marks-total g w Owner done put a s fits Found e in
      let r = ran (own_task o) in
      let p = total-append (own_task o) first put in
      let b = begins (own_task o) in
      let c = total-map (own_task o) (λ z. task_at z z) (owners g) in
      let owner = (w.owned o e owns).0 in
      let k = le-total (λ z. own_task o (task_at z z)) o (owners g) (at-filter g.is_owner g.nodes o owner (w.owners o owner)) in
      let one : own_task o (task_at o o) ≡ 1 = ap bit (and_from _ _ (eq-eqb o o refl) (eq-eqb o o refl)) in
      let l = total-le (own_task o) (λ t. times_marked Found e (marks_in g Owner t.tag (g.targets t.cell))) (own-marks o e owns at) done in
      omega arith)

  pub owner-gains : OwnerGains g a
  owner-gains = record {
    adds = adds-run g Owner done put first a (λ o. o) (owners g) s ran begins;
    wins = λ x at. (let t = win-at g w Owner done put a s fits x at in found-under g w (t.0).tag x t.1.0 (found-step g w t.0 x t.1 t.2));
    held = λ f. ap (total f) s.held;
    found = found-by;
    marked = own-found;
    unmet = λ e. ap is_positive (marks-total g w Owner done put a s fits MetByRoots e ∙ total-same _ (λ t. 0) (λ t. unmet-in g t.tag e (g.targets t.cell)) done ∙ total-zero done);
  }

-- ---- the scans from what was held

pub take_up-gains : (g : StoppedGraph) (w : IsWhole g) (done put first : List Task) (a : Gain) (s : Scanned g TakeUp done put a)
    (fits : AllFit (fit_tasks g TakeUp) done) (ran : AsOften done (first ++ put)) (held : List ℕ) (begins : AsOften first (map (task_at 0) held)) →
    TakeUpGains g held a
take_up-gains g w done put first a s fits ran held begins = record {
  adds = adds-run g TakeUp done put first a (λ _. 0) held s ran begins;
  wins = λ x at. (let t = win-at g w TakeUp done put a s fits x at in under-step g w (t.0).cell x t.1.2 t.2);
  none_held = s.held ∙ filter-none a.wins;
  no_marks = s.marks ∙ flat_map-none _ (λ t. flat_map-none _ (λ x. unmarked (g.is_ownee x)) (g.targets t.cell)) done;
}
  where
    unmarked : (b : Bool) → cond {A = List (ℕ × Mark)} b [] [] ≡ []
    unmarked true = refl
    unmarked false = refl

-- ---- the scans from the roots, which were met before: b is what the scans gained

module _ (g : StoppedGraph) (w : IsWhole g) (done put first : List Task) (b : Gain) (s : Scanned g Root done put b)
    (fits : AllFit (fit_tasks g Root) done) (ran : AsOften done (first ++ put)) (won : List ℕ) (among : AreAmong won g.roots)
    (begins : AsOften first (map (task_at 0) (no_owners g won))) where
  -- what the meeting with the roots gained
  abbrev pub met_roots : Gain
  met_roots = record { adds = g.roots; wins = won; held = filter (is_held g Root) won; marks = marks_in g Root 0 g.roots }

  pub root-gains : RootGains g (both_gains met_roots b)
  root-gains = record {
    adds = λ h.
        (let f = λ (x : ℕ). total h (g.targets x) in
        let r1 = adds-run g Root done put first b (λ _. 0) (no_owners g won) s ran begins h in
        let r2 = total-append h (all_targets g (no_owners g won)) (all_targets g (no_owners g b.wins)) in
        let r3 = total-append h g.roots b.adds in
        let r4 = total-append h g.roots (all_targets g (no_owners g (won ++ b.wins))) in
        let r5 = total-flat_map h g.targets (no_owners g (won ++ b.wins)) in
        let r6 = ap (total f) (filter-append (λ x. not (g.is_owner x)) won b.wins) in
        let r7 = total-append f (no_owners g won) (no_owners g b.wins) in
        let r8 = total-flat_map h g.targets (no_owners g won) in
        let r9 = total-flat_map h g.targets (no_owners g b.wins) in
        omega arith);
    wins = λ x at.
        ⊎_elim
        (λ here. root-reached g w x (among-at won g.roots among x here))
        (λ later. (let t = win-at g w Root done put b s fits x later in root-step g w (t.0).cell x t.1.2 t.2))
        (or_cases _ _ (sym (has_id-append won b.wins x) ∙ at));
    none_held = λ n. filter-none won n ++ (s.held ∙ filter-none b.wins) n;
    marks =
        λ h. ap (total h) ((λ n. root-marks g 0 g.roots n ++ (s.marks ∙ root-marks-all g done ∙ ap (λ xs. map (as_met g) (filter g.is_ownee xs)) (sym s.adds)) n) ∙ sym (met-append g g.roots b.adds));
  }
