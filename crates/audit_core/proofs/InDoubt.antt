-- What the marks of a trace leave in doubt holds each ownee that violates.
use Rattle.std.proofs.Common.{◌≡◌, ℕ, true, false, not, ◌&&◌, List, filter, IsTrue, Some, ap, sym, ◌∙◌}
use Rattle.std.specs.Map.{keys_of}
use Rattle.std.specs.Option.{is_some}
use Rattle.std.proofs.lemmas.Bool.{false≢true, false_from_ne_true}
use Rattle.graph_meaning.specs.Assertions.{is_met, is_ownee, finds}
use Rattle.graph_meaning.specs.Heap.{Heap}
use Rattle.graph_meaning.specs.Roles.{RoleTable, owner_in, has_owner}
use Rattle.header_rule.specs.ClosedWords.{has_mark_in}
use Rattle.header_rule.specs.declared.mark.Mark.TheVariants.{Found, MetByRoots}
use Rattle.object_table.specs.Placed.{PlacedTable, id_in}
use Rattle.assert_registry.specs.Assertions.{owner_of}
use Rattle.assert_registry.specs.Laws.{StandFor}
use Rattle.assert_registry.proofs.Rising.{Rise, Rise-sorted}
use Rattle.assert_registry.proofs.RolesOfTable.{and_parts}
use Rattle.heap_marking.specs.Results.{TraceResult}
use Rattle.heap_marking.specs.Traces.{IsTraceOf}
use Rattle.verdict_list.specs.Cells.{cells_by_id}
use Rattle.verdict_list.specs.Ownership.{AreDoubts}
use Rattle.verdict_list.proofs.OwnersOf.{ownee-found, owner-of_pair, owned-by_role}
use Rattle.audit_core.specs.Cells.{is_in_doubt}

module _ (p : PlacedTable) (r : RoleTable) (h : Heap) (result : TraceResult) (stand : StandFor p r h) (trace : IsTraceOf p h result) where
  rise : Rise (keys_of h.owners)
  rise = Rise-sorted (keys_of h.owners) stand.ordered.owners

  module _ (cell id : ℕ) (held : id_in p cell ≡ Some id) where
    owned-is : has_owner (owner_in r cell) ≡ is_some (owner_of h.owners id)
    owned-is = owned-by_role p r h stand cell id held

    -- what is in doubt is an ownee
    doubted-owned : is_in_doubt r result.words cell ≡ true → IsTrue (is_ownee h id)
    doubted-owned doubted = ownee-found h.owners id ∙ sym owned-is ∙ (and_parts _ _ doubted).0

    -- whatever is marked found is found by its owner
    is_found : (owner : ℕ) → owner_of h.owners id ≡ Some owner → has_mark_in Found result.words cell ≡ true → finds h owner id ≡ true
    is_found owner owned marked =
        let by_mark = trace.found cell id held marked in
        let e : Some by_mark.0 ≡ Some owner = sym (owner-of_pair h.owners rise id by_mark.0 by_mark.1) ∙ owned in
        let same : by_mark.0 ≡ owner = cc in
        ap (λ x. finds h x id) (sym same) ∙ by_mark.2

    -- an ownee that is met and not found is in doubt
    lost-doubted : (owner : ℕ) → owner_of h.owners id ≡ Some owner → is_met h id ≡ true → finds h owner id ≡ false → is_in_doubt r result.words cell ≡ true
    lost-doubted owner owned met lost =
        let role : has_owner (owner_in r cell) ≡ true = owned-is ∙ ap is_some owned in
        let marked : has_mark_in MetByRoots result.words cell ≡ true = trace.met cell id held (ownee-found h.owners id ∙ ap is_some owned) met in
        let unmarked : has_mark_in Found result.words cell ≡ false = false_from_ne_true (has_mark_in Found result.words cell) (λ found. false≢true (sym lost ∙ is_found owner owned found)) in
        ap (λ b. b && (has_mark_in MetByRoots result.words cell && not (has_mark_in Found result.words cell))) role
        ∙ ap (λ b. b && not (has_mark_in Found result.words cell)) marked
        ∙ ap not unmarked

  pub doubts-are : (doubts : List ℕ) → doubts ≡ filter (is_in_doubt r result.words) (cells_by_id p) → AreDoubts p h doubts
  doubts-are doubts listed = record { test = is_in_doubt r result.words; listed = listed; ownees = doubted-owned; lost = λ cell id owner held. lost-doubted cell id held owner }
