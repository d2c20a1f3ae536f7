-- All ownees are those that may violate.
use Rattle.std.proofs.Common.{◌≡◌, ℕ, List, filter, ap, sym, ◌∙◌}
use Rattle.std.specs.Option.{is_some}
use Rattle.graph_meaning.specs.Heap.{Heap}
use Rattle.graph_meaning.specs.Roles.{RoleTable, owner_in, has_owner}
use Rattle.object_table.specs.Placed.{PlacedTable}
use Rattle.assert_registry.specs.Laws.{StandFor}
use Rattle.verdict_list.specs.Cells.{cells_by_id}
use Rattle.verdict_list.specs.Ownership.{AreDoubts}
use Rattle.verdict_list.proofs.OwnersOf.{ownee-found, owned-by_role}

module _ (p : PlacedTable) (r : RoleTable) (h : Heap) (stand : StandFor p r h) where
  pub ownees-doubted : (ownees : List ℕ) → ownees ≡ filter (λ cell. has_owner (owner_in r cell)) (cells_by_id p) → AreDoubts p h ownees
  ownees-doubted ownees listed = record {
    test = λ cell. has_owner (owner_in r cell);
    listed = listed;
    ownees = λ cell id held at. ownee-found h.owners id ∙ sym (owned-by_role p r h stand cell id held) ∙ at;
    lost = λ cell id owner held owned met lost. owned-by_role p r h stand cell id held ∙ ap is_some owned;
  }
