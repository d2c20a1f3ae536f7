-- Which words are taken, and what they ask for.
use Rattle.std.specs.Prelude.{ℕ, ◌≤◌, List, Bool, if◌then◌else◌, Option, None, Some, is_some, codes, option_map, option_and_then, IfSome}
use Rattle.std.specs.Str.{bytes_eq}
use Rattle.heap_base.specs.declared.limits.TheConstants.{MOST_WORKERS, USUAL_PATHS}
use Rattle.graph_meaning.specs.declared.reaction.React.{React}
use Rattle.graph_meaning.specs.declared.reaction.React.TheVariants.{Report, Halt, Force}
use Rattle.generator.specs.declared.plan.GenPlan.{GenPlan}
use Rattle.generator.specs.declared.plan.TheConstants.{LEAST_SIZE, MOST_NUMBER, MOST_SIZE}
use Rattle.generator.specs.Plans.{IsPlan}
use Rattle.settings.specs.declared.numbers.TheConstants.{LEAST_WORKERS, USUAL_WORKERS, MOST_PATHS}
use Rattle.settings.specs.declared.settings.Settings.{Settings}
use Rattle.settings.specs.Command.{is_well_formed, option_value}
use Rattle.settings.specs.Numbers.{number_by}

-- ---- the values of the options

-- what an option asks for: what is usual where it isn't there, or else what its value says
abbrev pub option_setting : {X : Type 0} → X → (List ℕ → Option X) → Option (List ℕ) → Option X
option_setting usual read None = Some usual
option_setting usual read (Some value) = read value

abbrev pub react_by : List ℕ → Option React
react_by value =
    if bytes_eq value (codes "report") then Some Report
    else (if bytes_eq value (codes "halt") then Some Halt
    else (if bytes_eq value (codes "force") then Some Force else None))

-- the plan of this number and this size, where both are numbers in their ranges
abbrev pub plan_by : List ℕ → List ℕ → Option GenPlan
plan_by number size =
    option_and_then (λ n. option_map (λ s. record { number = n; size = s }) (number_by LEAST_SIZE MOST_SIZE size)) (number_by 0 MOST_NUMBER number)

-- a plan has a number and a size; where there is neither, there is none
abbrev pub plan_of : Option (List ℕ) → Option (List ℕ) → Option (Option GenPlan)
plan_of None None = Some None
plan_of (Some number) (Some size) = option_map Some (plan_by number size)
plan_of _ _ = None

-- ---- the settings

-- the value that the words give an option by its name, where they do
abbrev pub OptionValues : Type 0
OptionValues = List ℕ → Option (List ℕ)

abbrev pub workers_asked : OptionValues → Option ℕ
workers_asked given = option_setting USUAL_WORKERS (number_by LEAST_WORKERS MOST_WORKERS) (given (codes "workers"))

abbrev pub paths_asked : OptionValues → Option ℕ
paths_asked given = option_setting USUAL_PATHS (number_by 0 MOST_PATHS) (given (codes "paths"))

abbrev pub react_asked : OptionValues → Option React
react_asked given = option_setting Report react_by (given (codes "react"))

abbrev pub plan_asked : OptionValues → Option (Option GenPlan)
plan_asked given = plan_of (given (codes "gen")) (given (codes "size"))

-- the settings that the options ask for, where the value of each is one that it may have
unfoldable pub settings_from : OptionValues → Option Settings
settings_from given =
    option_and_then (λ workers.
    option_and_then (λ paths.
    option_and_then (λ react.
    option_map (λ plan. record { workers = workers; paths = paths; react = react; plan = plan })
    (plan_asked given)) (react_asked given)) (paths_asked given)) (workers_asked given)

-- The settings that the words ask for, the program's name first, and none where the words are refused.
abbrev pub settings_by : List (List ℕ) → Option Settings
settings_by words = if is_well_formed words then settings_from (λ name. option_value name words) else None

abbrev pub are_accepted : List (List ℕ) → Bool
are_accepted words = is_some (settings_by words)

-- settings that ask for no generated trace
abbrev pub without_plan : Settings → Option Settings
without_plan s = if is_some s.plan then None else Some s

-- The settings that the words ask for of an audit that generates no trace: those of `settings_by`, and none where the words ask for a
-- generated trace.
abbrev pub large_settings_by : List (List ℕ) → Option Settings
large_settings_by words = option_and_then without_plan (settings_by words)

-- the numbers are in their ranges
pub record IsInRange (s : Settings) : Type 0 where
  pub least_workers : LEAST_WORKERS ≤ s.workers
  pub workers : s.workers ≤ MOST_WORKERS
  pub paths : s.paths ≤ MOST_PATHS
  pub plan : IfSome s.plan IsPlan
