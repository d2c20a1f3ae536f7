-- How a table of roles keeps what it says of each cell, and which cells are owners and ownees.
use Rattle.std.specs.Prelude.{◌≡◌, ℕ, ◌-◌, ◌<◌, List, ◌++◌, length, replicate, sum_by, Bool, false, slice_index_or}
use Rattle.std.specs.List.{list_any}
use Rattle.heap_base.specs.Counting.{bit}
use Rattle.graph_meaning.specs.declared.roles.Border.{Border}
use Rattle.graph_meaning.specs.declared.roles.OwnerRole.{OwnerRole}
use Rattle.graph_meaning.specs.declared.roles.OwnerRole.TheVariants.{NotOwned}
use Rattle.graph_meaning.specs.Reach.{has_id}
use Rattle.graph_meaning.specs.Roles.{has_owner}

-- neither an owner nor an ownee
abbrev pub neither : Border
neither = record { owner = false; ownee = false }

-- what a cell is, by its role and by the cells of the owners
abbrev pub border_by : OwnerRole → List ℕ → ℕ → Border
border_by role owners cell = record { owner = has_id owners cell; ownee = has_owner role }

-- It is said of each cell whether it is among the owners, and whether its role is that of an ownee. There are as many owners as are said to be.
pub record HaveBorders (borders : List Border) (ownees : List OwnerRole) (owners : List ℕ) : Type 0 where
  pub each : (cell : ℕ) → cell < length borders → slice_index_or borders cell neither ≡ border_by (slice_index_or ownees cell NotOwned) owners cell
  pub many : length owners ≡ sum_by (λ b. bit b.owner) borders

-- a list with the value behind it until it has so many elements
abbrev pub with_padding : {X : Type 0} → List X → ℕ → X → List X
with_padding xs many x = xs ++ replicate (many - length xs) x

-- a flag is set
abbrev pub is_any_set : List Bool → Bool
is_any_set flags = list_any (λ flag. flag) flags
