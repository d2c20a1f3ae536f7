-- Entries by the bytes of their names.
use Rattle.std.specs.Prelude.{◌≡◌, ℕ, ◌≤◌, List, length, HoldsAt}
use Rattle.std.specs.List.{AllPairs}
use Rattle.std.specs.List.Sorted.{IsPartitionPoint}
use Rattle.std.specs.declared.cmp.Ordering.TheVariants.{Less, Equal, Greater}
use Rattle.object_table.specs.declared.block.TheConstants.{MOST_ENTRIES}
use Rattle.graph_meaning.specs.Heap.{name_cmp}

-- each name is below those after it
abbrev pub RisesByName : List (List ℕ × ℕ) → Type 0
RisesByName entries = AllPairs (λ a b. name_cmp a.0 b.0 ≡ Less) entries

-- Each name is below those after it, and there are no more than there may be.
pub record EntriesAreOrdered (entries : List (List ℕ × ℕ)) : Type 0 where
  pub rising : AllPairs (λ a b. name_cmp a.0 b.0 ≡ Less) entries
  pub few : length entries ≤ MOST_ENTRIES

-- the entry at this place has the name
abbrev pub IsNamedAt : List ℕ → List (List ℕ × ℕ) → ℕ → Type 0
IsNamedAt name entries place = HoldsAt (λ r. name_cmp name r.0 ≡ Equal) entries place

-- an entry with the name would stand at this place
abbrev pub IsGapFor : List ℕ → List (List ℕ × ℕ) → ℕ → Type 0
IsGapFor name entries place = IsPartitionPoint (λ r. name_cmp name r.0 ≡ Greater) (λ r. name_cmp name r.0 ≡ Less) entries place
