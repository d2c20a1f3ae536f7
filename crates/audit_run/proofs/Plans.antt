-- The words of the command line have one meaning.
use Rattle.std.proofs.Common.{◌≡◌, Option, None, Some, is_some, cond, refl, sym, ap, ◌∙◌, subst}
use Rattle.std.specs.Prelude.{option_and_then}
use Rattle.generator.specs.declared.plan.GenPlan.{GenPlan}
use Rattle.settings.specs.declared.settings.Settings.{Settings}
use Rattle.settings.specs.Settings.{without_plan}

-- what holds of the settings and the plan that were found holds of those that the words ask for
pub as_planned : (asked : Option Settings) (s found : Settings) (plan made : GenPlan) (Runs : Settings → GenPlan → Type 0) → asked ≡ Some s →
    asked ≡ Some found → s.plan ≡ Some plan → found.plan ≡ Some made → Runs found made → Runs s plan
as_planned asked s found plan made Runs is_s is_found is_plan is_made runs =
    let same : found ≡ s = cc in
    let same_plan : made ≡ plan = cc in
    subst (λ (x : Settings). Runs x plan) same (subst (λ (p : GenPlan). Runs found p) same_plan runs)

-- the settings of an audit that generates no trace are those that the words ask for, and ask for no generated trace
pub read_settings : (asked : Option Settings) (s : Settings) → option_and_then without_plan asked ≡ Some s → (asked ≡ Some s) × (s.plan ≡ None)
read_settings None s is = absurd cc
read_settings (Some found) s is = go found.plan refl is
  where
    go : (p : Option GenPlan) → found.plan ≡ p → cond (is_some p) None (Some found) ≡ Some s → (Some found ≡ Some s) × (s.plan ≡ None)
    go None none same = let equal : found ≡ s = cc in (same, sym (ap (λ (x : Settings). x.plan) equal) ∙ none)
    go (Some plan) some same = absurd cc
