use Rattle.std.proofs.Common.{sym, subst}
use Rattle.object_table.specs.Placed.{PlacedTable, nothing_placed}
use Rattle.region_log.specs.Regions.{RegionTable}
use Rattle.assert_registry.specs.Assertions.{Assertions, no_assertions}
use Rattle.heap_parts.specs.Parts.{AreParts}
use Rattle.heap_parts.proofs.Stepping.{parts-nothing}
use Rattle.heap_parts.proofs.parts.HeapParts.make.Goals as goal

pub invariant_of-result : goal.invariant_of-result
invariant_of-result c =
    subst (λ (p : PlacedTable). AreParts (record { placed = p; assertions = c.in_ok-registry.registry; regions = c.in_ok-regions.regions })) (sym c.in_ok-table.ensures.empty)
    (subst (λ (a : Assertions). AreParts (record { placed = nothing_placed c.args.most; assertions = a; regions = c.in_ok-regions.regions })) (sym c.in_ok-registry.ensures)
    (subst (λ (r : RegionTable). AreParts (record { placed = nothing_placed c.args.most; assertions = no_assertions; regions = r })) (sym c.in_ok-regions.ensures) (parts-nothing c.args.most c.requires.possible)))
