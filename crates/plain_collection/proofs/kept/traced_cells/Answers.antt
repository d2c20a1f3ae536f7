use Rattle.std.proofs.Common.{◌≡◌, ℕ, ◌<◌, false, replicate, sym, ap, subst, ◌∙◌, arith}
use Rattle.std.proofs.lemmas.Grind.{common_steps}
use Rattle.std.proofs.lemmas.Result.{IfOk-weaker}
use Rattle.assert_registry.proofs.Marking.{get_or-replicate_same}
use Rattle.path_cert.proofs.HeldObjects.{held-within}
use Rattle.verdict_list.specs.Settling.{flag_of}
use Rattle.verdict_list.proofs.Owned.{agree-by-ids}
use Rattle.plain_collection.proofs.kept.traced_cells.Goals as goal

pub returns-clause-traced : goal.returns-clause-traced
returns-clause-traced c =
    let p = c.args.table.now in
    let r = c.args.roles.now in
    let nothing = c.as_slice-shut.result.now in
    let items : c.in_ok-nothing.nothing.items ≡ replicate c.cells-cells.result false = grind (arith, common_steps) in
    let none : (cell : ℕ) → flag_of c.as_slice-shut.result.now cell ≡ false =
    λ cell. ap (λ flags. flag_of flags cell) (c.as_slice-shut.ensures.value ∙ items) ∙ get_or-replicate_same c.cells-cells.result cell false in
    IfOk-weaker c.reached_cells.result _ _
    (λ kept reached h stand cell id held.
    reached cell (subst (λ n. cell < n) (sym c.cells-cells.ensures.count) (held-within p cell id held))
    ∙ (agree-by-ids p r h c.cells-cells.ensures.placed stand).traced nothing none c.in_ok-by_owners.by_owners c.in_ok-by_owners.ensures.levels
    c.in_ok-by_roots.by_roots c.in_ok-by_roots.ensures.levels cell id held)
    c.reached_cells.ensures.reached
