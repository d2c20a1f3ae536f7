-- The way back over a path, from its end.
use Rattle.std.specs.Prelude.{◌≡◌, ◌<◌, ℕ, zero, suc, ◌+◌, List, ◌++◌, length, reverse, Option, None, Some, IsSome, IfSome, slice_get}
use Rattle.graph_meaning.specs.declared.paths.PathFrom.{PathFrom}
use Rattle.graph_meaning.specs.declared.paths.PathStep.{PathStep}
use Rattle.path_cert.specs.declared.start.Start.{Start}
use Rattle.path_cert.specs.declared.start.Start.TheVariants.{Roots, Owners}
use Rattle.path_cert.specs.declared.trail.Trail.{Trail}
use Rattle.graph_meaning.specs.Paths.{Way, root_way, owner_way}
use Rattle.graph_meaning.specs.Roles.{id_at}
use Rattle.object_table.specs.Placed.{PlacedTable, id_in}
use Rattle.path_cert.specs.Levels.{LevelTable, arrival_in}
use Rattle.path_cert.specs.Steps.{shown_from}

-- how many steps the path to an object of this level has, if it is one: from an owner the source reference is a step
abbrev pub path_steps : Start → ℕ → Option ℕ
path_steps start zero = None
path_steps Roots (suc n) = Some n
path_steps Owners (suc n) = Some (suc n)

-- These are the last steps of the path, from the one with this number on; those of them that are shown are kept, the last
-- first.
pub record HasShown (t : Trail) (number : ℕ) (after : List PathStep) : Type 0 where
  pub total : t.total ≡ number + length after
  pub shown : t.shown.items ≡ reverse (shown_from t.total number after)

-- the way with these steps after its own
abbrev pub with_steps : Way → List PathStep → Way
with_steps w after = record { from = w.from; steps = w.steps ++ after; to = w.to }

-- the one or the other, by where levels start
abbrev pub ByStart : Start → Type 0 → Type 0 → Type 0
ByStart Roots by_root by_owner = by_root
ByStart Owners by_root by_owner = by_owner

-- a root led to the object in the cell, or it is an owner
abbrev pub MayStartPath : PlacedTable → LevelTable → ℕ → Type 0
MayStartPath p l cell = ByStart l.start ((arrival_in l.arrivals cell).from < length p.table.roots) (IsSome (id_in p cell))

-- the path starts at that root, or at that owner
abbrev pub IsStart : PlacedTable → LevelTable → ℕ → PathFrom → Type 0
IsStart p l cell from =
    ByStart l.start (IfSome (slice_get p.table.roots (arrival_in l.arrivals cell).from) (λ r. from ≡ (root_way p.table r).from)) (from ≡ (owner_way p.table (id_at p.cells cell)).from)
