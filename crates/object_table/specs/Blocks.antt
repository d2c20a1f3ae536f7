-- A list that stands in blocks, one after another.
use Rattle.std.specs.Prelude.{◌≡◌, ℕ, ◌+◌, ◌<◌, ◌≤◌, List, [], ◌∷◌, length, take, filter, All, Bool, false, not}
use Rattle.std.specs.List.{flat_map}
use Rattle.std.specs.Ordering.{is_gt}
use Rattle.graph_meaning.specs.Heap.{name_cmp}
use Rattle.object_table.specs.Located.{is_marked_id}

-- A run of the list: its entries, and the place of the first.
pub record EntryBlock (X : Type 0) : Type 0 where
  pub start : ℕ
  pub entries : List X

-- the list that the runs make
abbrev pub all_entries : {X : Type 0} → List (EntryBlock X) → List X
all_entries runs = flat_map (λ r. r.entries) runs

-- The first run starts at this place, each other where the one before it ends, and none is empty.
abbrev pub IsLaid : {X : Type 0} → ℕ → List (EntryBlock X) → Type 0
IsLaid start [] = Unit {0}
IsLaid start (r ∷ runs) = (r.start ≡ start) × (0 < length r.entries) × IsLaid (start + length r.entries) runs

-- The run that holds the place, and at the list's end the last run.
pub record IsRunOf {X : Type 0} (runs : List (EntryBlock X)) (place k : ℕ) : Type 0 where
  pub in_range : k < length runs
  pub begins : length (all_entries (take k runs)) ≤ place
  pub reaches : place ≤ length (all_entries (take (k + 1) runs))
  pub ends : place < length (all_entries runs) → place < length (all_entries (take (k + 1) runs))

-- no run is empty
abbrev pub NoneEmpty : {X : Type 0} → List (EntryBlock X) → Type 0
NoneEmpty runs = All (λ r. 0 < length r.entries) runs

-- the runs, where the first starts at this place and each other where the one before it ends
abbrev pub laid_from : {X : Type 0} → ℕ → List (EntryBlock X) → List (EntryBlock X)
laid_from start [] = []
laid_from start (r ∷ runs) = record { start = start; entries = r.entries } ∷ laid_from (start + length r.entries) runs

-- whether the first of these entries has a name above this one
abbrev pub begins_above : List ℕ → List (List ℕ × ℕ) → Bool
begins_above name [] = false
begins_above name (r ∷ entries) = is_gt (name_cmp r.0 name)

-- the roots that don't hold the object of a marked cell
abbrev pub roots_cleared : List (ℕ × ℕ) → List Bool → List (List ℕ × ℕ) → List (List ℕ × ℕ)
roots_cleared ids marked roots = filter (λ r. not (is_marked_id ids marked r.1)) roots

-- the run with those roots alone
abbrev pub run_cleared : List (ℕ × ℕ) → List Bool → EntryBlock (List ℕ × ℕ) → EntryBlock (List ℕ × ℕ)
run_cleared ids marked run = record run { entries = roots_cleared ids marked run.entries }
