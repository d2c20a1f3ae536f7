-- What settings that are taken say: each number is in its range.
use Rattle.std.proofs.Common.{◌≡◌, ◌≤◌, List, ℕ, Bool, true, false, Option, Some, None, cond, codes, refl, arith}
use Rattle.std.specs.Prelude.{◌&&◌, nat_le, IfSome, option_map, option_and_then}
use Rattle.std.specs.Str.Parse.{digits_value}
use Rattle.std.proofs.lemmas.Bool.{and_parts}
use Rattle.std.proofs.lemmas.Bool.Decides.{nat_tests}
use Rattle.heap_base.specs.declared.limits.TheConstants.{MOST_WORKERS, USUAL_PATHS}
use Rattle.generator.specs.declared.plan.GenPlan.{GenPlan}
use Rattle.generator.specs.declared.plan.TheConstants.{LEAST_SIZE, MOST_NUMBER, MOST_SIZE}
use Rattle.generator.specs.Plans.{IsPlan}
use Rattle.settings.specs.declared.numbers.TheConstants.{LEAST_WORKERS, USUAL_WORKERS, MOST_PATHS}
use Rattle.settings.specs.Numbers.{is_number, number_by}
use Rattle.settings.specs.Settings.{OptionValues, IsInRange, option_setting, paths_asked, plan_asked, plan_by, plan_of, react_asked, settings_from, workers_asked}

-- a number that is taken is from the least to the most
pub taken_number : (least most : ℕ) (text : List ℕ) → IfSome (number_by least most text) (λ n. (least ≤ n) × (n ≤ most))
unfolding number_by
taken_number least most text = go (is_number text && nat_le least (digits_value 10 text) && nat_le (digits_value 10 text) most) refl
  where
    go : (b : Bool) → (is_number text && nat_le least (digits_value 10 text) && nat_le (digits_value 10 text) most) ≡ b
        → IfSome (cond b (Some (digits_value 10 text)) None) (λ n. (least ≤ n) × (n ≤ most))
    go false is = tt
    go true is =
        let (lower, upper) = and_parts (is_number text && nat_le least (digits_value 10 text)) (nat_le (digits_value 10 text) most) is in
        let (number, above) = and_parts (is_number text) (nat_le least (digits_value 10 text)) lower in
        (grind (arith, above, nat_tests), grind (arith, upper, nat_tests))

-- and so is what is usual, where that is
asked_number : (usual least most : ℕ) (value : Option (List ℕ)) → least ≤ usual → usual ≤ most → IfSome (option_setting usual (number_by least most) value) (λ n. (least ≤ n) × (n ≤ most))
asked_number usual least most None low high = (low, high)
asked_number usual least most (Some text) low high = taken_number least most text

-- R holds of what is made of a value that may be missing, if it does for each value of which P holds
made_of : {X Z : Type 0} (P : X → Type 0) (R : Z → Type 0) (a : Option X) (f : X → Option Z) → IfSome a P → ((x : X) → P x → IfSome (f x) R)
    → IfSome (option_and_then f a) R
made_of P R None f p rest = tt
made_of P R (Some x) f p rest = rest x p

made_of_any : {X Z : Type 0} (R : Z → Type 0) (a : Option X) (f : X → Option Z) → ((x : X) → IfSome (f x) R) → IfSome (option_and_then f a) R
made_of_any R None f rest = tt
made_of_any R (Some x) f rest = rest x

made_of_last : {X Z : Type 0} (P : X → Type 0) (R : Z → Type 0) (a : Option X) (f : X → Z) → IfSome a P → ((x : X) → P x → R (f x))
    → IfSome (option_map f a) R
made_of_last P R None f p rest = tt
made_of_last P R (Some x) f p rest = rest x p

taken_plan : (number size : List ℕ) → IfSome (plan_by number size) IsPlan
taken_plan number size =
    made_of (λ n. (0 ≤ n) × (n ≤ MOST_NUMBER)) IsPlan (number_by 0 MOST_NUMBER number) _ (taken_number 0 MOST_NUMBER number) (λ n p.
    made_of_last (λ s. (LEAST_SIZE ≤ s) × (s ≤ MOST_SIZE)) IsPlan (number_by LEAST_SIZE MOST_SIZE size) _ (taken_number LEAST_SIZE MOST_SIZE size) (λ s q.
    record { number = p.1; least = q.0; most = q.1 }))

some_plan : (plan : Option GenPlan) → IfSome plan IsPlan → IfSome (option_map Some plan) (λ p. IfSome p IsPlan)
some_plan None is = tt
some_plan (Some plan) is = is

planned_plan : (number size : Option (List ℕ)) → IfSome (plan_of number size) (λ p. IfSome p IsPlan)
planned_plan None None = tt
planned_plan None (Some size) = tt
planned_plan (Some number) None = tt
planned_plan (Some number) (Some size) = some_plan (plan_by number size) (taken_plan number size)

pub settings_in_range : (given : OptionValues) → IfSome (settings_from given) IsInRange
unfolding settings_from
settings_in_range given =
    made_of (λ n. (LEAST_WORKERS ≤ n) × (n ≤ MOST_WORKERS)) IsInRange (workers_asked given) _
    (asked_number USUAL_WORKERS LEAST_WORKERS MOST_WORKERS (given (codes "workers")) (omega arith) (omega arith)) (λ workers w.
    made_of (λ n. (0 ≤ n) × (n ≤ MOST_PATHS)) IsInRange (paths_asked given) _
    (asked_number USUAL_PATHS 0 MOST_PATHS (given (codes "paths")) (omega arith) (omega arith)) (λ paths p.
    made_of_any IsInRange (react_asked given) _ (λ react.
    made_of_last (λ plan. IfSome plan IsPlan) IsInRange (plan_asked given) _
    (planned_plan (given (codes "gen")) (given (codes "size"))) (λ plan g.
    record { least_workers = w.0; workers = w.1; paths = p.1; plan = g }))))
