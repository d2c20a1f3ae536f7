-- A walk back that goes back over hidden steps at once.
use Rattle.std.proofs.Common.{◌≡◌, ℕ, zero, suc, ◌+◌, ◌-◌, ◌<◌, ◌≤◌, Bool, false, ◌||◌, cond, ⊎_elim, [], ◌∷◌, ◌++◌, sym, refl, ap, subst, ◌∙◌, arith, None, Some, add-zero}
use Rattle.std.specs.Prelude.{IsSome}
use Rattle.std.proofs.lemmas.Bool.{le-ltb, lt-leb}
use Rattle.heap_base.specs.declared.limits.TheConstants.{END_STEPS}
use Rattle.graph_meaning.specs.Roles.{id_at}
use Rattle.object_table.specs.Placed.{id_in}
use Rattle.path_cert.specs.declared.start.Start.{Start}
use Rattle.path_cert.specs.declared.start.Start.TheVariants.{Roots, Owners}
use Rattle.path_cert.specs.declared.level_table.Waypoint.{Waypoint}
use Rattle.path_cert.specs.declared.trail.Trail.{Trail}
use Rattle.path_cert.specs.Levels.{LevelTable, arrival_in, AreLevelsOf}
use Rattle.path_cert.specs.Ancestors.{back}
use Rattle.path_cert.specs.Skips.{HasSkipped, Skips}
use Rattle.path_cert.specs.Steps.{is_shown}
use Rattle.path_cert.specs.Trails.{path_steps}
use Rattle.path_cert.proofs.ShownSteps.{HasShown-more}
use Rattle.path_cert.proofs.Walking.{Walk, HasWalked, IsLevelOf, last_step, walk-back}

both_false : (a b : Bool) → a ≡ false → b ≡ false → (a || b) ≡ false
both_false a b x y = ap (λ c. c || b) x ∙ y

hidden-step : (n number : ℕ) → END_STEPS ≤ number → number + END_STEPS < n → is_shown n number ≡ false
hidden-step n number late early =
    let before : number < n - END_STEPS = omega arith in
    both_false _ _ (le-ltb number END_STEPS late) (lt-leb (n - END_STEPS) number before)

-- ---- how many steps are left, and the level

level-steps : (start : Start) (n k : ℕ) → IsLevelOf start (suc n) k → path_steps start k ≡ Some (suc n)
level-steps Roots n k is = ap (path_steps Roots) is
level-steps Owners n k is = ap (path_steps Owners) is

same_Some : {a b : ℕ} → Some a ≡ Some b → a ≡ b
same_Some e = cc

-- the level of an object is the number of steps that lead to it, or one more
pub steps-near : (start : Start) (k n : ℕ) → path_steps start k ≡ Some n → (n ≤ k) × (k ≤ n + 1)
steps-near start zero n is = absurd (let e : None ≡ Some n = is in cc)
steps-near Roots (suc k) n is = (let same : k ≡ n = same_Some is in (omega arith, omega arith))
steps-near Owners (suc k) n is = (let same : suc k ≡ n = same_Some is in (omega arith, omega arith))

module _ (k : Walk) (t : Trail) (levels : AreLevelsOf k.placed k.search k.levels) where
  pub steps-left : (left cell : ℕ) → 0 < left → HasWalked k t left cell → path_steps k.levels.start (arrival_in k.levels.arrivals cell).level ≡ Some left
  steps-left left cell some now =
      let one : left ≡ suc (left - 1) = omega arith in
      let at = subst (λ m. IsLevelOf k.search.start m (arrival_in k.levels.arrivals cell).level) one now.leads.level in
      ap (λ (st : Start). path_steps st (arrival_in k.levels.arrivals cell).level) levels.start
      ∙ level-steps k.search.start (left - 1) (arrival_in k.levels.arrivals cell).level at
      ∙ ap (λ m. Some m) (sym one)

  walk-hidden : (n left cell : ℕ) → END_STEPS ≤ left → left + n + END_STEPS ≤ t.total → HasWalked k t (left + n) cell → HasWalked k t left (back k.levels.arrivals n cell)
  walk-hidden zero left cell late early now = subst (λ m. HasWalked k t m cell) (add-zero left) now
  walk-hidden (suc n) left cell late early now =
      let one : left + suc n ≡ suc (left + n) = omega arith in
      let step = last_step k.placed k.levels cell (id_at k.placed.cells cell) in
      let hidden = hidden-step t.total (left + n) (omega arith) (omega arith) in
      let kept = sym (ap (λ b. cond b (t.shown.items ++ step ∷ []) t.shown.items) hidden) in
      walk-hidden n left (arrival_in k.levels.arrivals cell).from late (omega arith)
      (walk-back k t t (left + n) cell levels (subst (λ m. HasWalked k t m cell) one now) (λ after has. HasShown-more t t (left + n) step after refl kept has))

  -- a walk that has skipped steps
  pub walk-skipped : (before after : Waypoint) → HasSkipped k.levels t.total before after → HasWalked k t before.left before.cell → HasWalked k t after.left after.cell
  walk-skipped before after skips now =
      let left = skips.left in
      subst (λ c. HasWalked k t after.left c) (sym skips.cell)
      (⊎_elim
      (λ (none : skips.skipped ≡ 0).
      let same : before.left ≡ after.left = omega arith in
      subst (λ m. HasWalked k t after.left (back k.levels.arrivals m before.cell)) (sym none) (subst (λ m. HasWalked k t m before.cell) same now))
      (λ hidden.
      let late = hidden.0 in
      let early = hidden.1 in
      walk-hidden skips.skipped after.left before.cell late (omega arith) (subst (λ m. HasWalked k t m before.cell) (sym left) now))
      skips.hidden)

  -- it stands at an object
  pub skipped-held : (before after : Waypoint) → Skips k.levels t.total before after → HasWalked k t before.left before.cell → (id : ℕ) × (id_in k.placed after.cell ≡ Some id)
  skipped-held before after skips now =
      let skipped = skips k.placed k.search levels (subst IsSome (sym now.leads.held) refl) in
      let there = walk-skipped before after skipped now in (there.way.to, there.leads.held)

-- where steps were left, some are left still
pub skipped-some : (l : LevelTable) (total : ℕ) (before after : Waypoint) → HasSkipped l total before after → 0 < before.left → 0 < after.left
skipped-some l total before after skips some =
    let left = skips.left in
    ⊎_elim (λ (none : skips.skipped ≡ 0). omega arith) (λ hidden. (let late = hidden.0 in omega arith)) skips.hidden
