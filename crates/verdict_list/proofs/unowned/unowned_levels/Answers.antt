use Rattle.std.proofs.Common.{◌≡◌, ℕ, ◌<◌, length, false, replicate, sym, ap, subst, ◌∙◌, arith}
use Rattle.std.proofs.lemmas.Grind.{common_steps}
use Rattle.std.proofs.lemmas.Result.{IfOk-weaker}
use Rattle.graph_meaning.specs.Heap.{Heap}
use Rattle.assert_registry.specs.Laws.{StandFor}
use Rattle.assert_registry.proofs.Marking.{get_or-replicate_same}
use Rattle.path_cert.specs.Levels.{LevelTable, AreLevelsOf, AreLevelsIn, search_of}
use Rattle.path_cert.specs.declared.start.Start.TheVariants.{Roots}
use Rattle.verdict_list.specs.Cells.{is_owned_cell}
use Rattle.verdict_list.specs.Settling.{flag_of}
use Rattle.verdict_list.specs.Ownership.{unowned_search}
use Rattle.verdict_list.proofs.Owned.{agree-by-ids}
use Rattle.verdict_list.proofs.unowned.unowned_levels.Goals as goal

pub returns : goal.returns
returns c =
    let p = c.args.table.now in
    let r = c.args.roles.now in
    let nothing = c.as_slice.result.now in
    let items : c.in_ok-nothing.nothing.items ≡ replicate c.cells-cells.result false = grind (arith, common_steps) in
    let none : (cell : ℕ) → flag_of c.as_slice.result.now cell ≡ false =
    λ cell. ap (λ flags. flag_of flags cell) (c.as_slice.ensures.value ∙ items) ∙ get_or-replicate_same c.cells-cells.result cell false in
    let owned = c.as_slice-2.result.now in
    let flags : (cell : ℕ) → cell < length c.args.table.now.cells →
    flag_of c.as_slice-2.result.now cell ≡ is_owned_cell c.args.roles.now c.in_ok-under.under cell =
    λ cell within. ap (λ xs. flag_of xs cell) c.as_slice-2.ensures.value ∙ c.in_ok-owned.ensures.owned cell (subst (λ n. cell < n) (sym c.cells-cells.ensures.count) within) in
    record {
      levels = IfOk-weaker c.levels-2.result (AreLevelsOf p (search_of p r Roots owned)) (AreLevelsIn p) (λ l are. (search_of p r Roots owned, are)) c.levels-2.ensures.levels;
      unowned =
          IfOk-weaker c.levels-2.result (AreLevelsOf p (search_of p r Roots owned))
          (λ (l : LevelTable). (h : Heap) → StandFor p r h → AreLevelsOf p (unowned_search h) l)
          (λ l are h stand. (agree-by-ids p r h c.cells-cells.ensures.placed stand).unowned nothing none c.in_ok-under.under
          c.in_ok-under.ensures.levels owned flags l are) c.levels-2.ensures.levels;
    }
