use Rattle.std.proofs.Common.{◌≡◌, ◌<◌, ℕ, ◌&&◌, filter, get_or, rules, sym, ap, subst, ◌∙◌}
use Rattle.std.specs.Prelude.{ltb}
use Rattle.std.proofs.lemmas.Bool.{lt-ltb}
use Rattle.std.proofs.lemmas.Fn.{filter_same}
use Rattle.graph_meaning.specs.Roles.{owner_in, has_owner, id_at}
use Rattle.graph_meaning.proofs.Membership.{filter_agree_all}
use Rattle.path_cert.proofs.HeldObjects.{held-id, held-within}
use Rattle.verdict_list.specs.Cells.{cells_by_id}
use Rattle.verdict_list.proofs.CellsById.{cells-held}
use Rattle.verdict_list.proofs.ViolatingOwnees.{filter-both}
use Rattle.audit_core.specs.Cells.{is_in_doubt, is_marked_lost}
use Rattle.audit_core.proofs.doubts.doubtful_ownees.Goals as goal

pub returns-clause-doubts : goal.returns-clause-doubts
returns-clause-doubts c =
    let p = c.args.table.now in
    let r = c.args.roles.now in
    let w = c.args.words.now in
    let owned = λ (x : ℕ). has_owner (owner_in r x) in
    let test = λ (x : ℕ). ltb x c.cells-cells.result && is_marked_lost w x in
    let kept : c.retain.new.self.items ≡ filter test c.in_ok-doubts.doubts.items = filter_same _ test _ (λ x b f' called. search rules) _ _ c.retain.ensures.filtered in
    kept ∙ ap (filter test) c.in_ok-doubts.ensures.ownees
    ∙ filter-both owned test (cells_by_id p)
    ∙ filter_agree_all (λ x. owned x && test x) (is_in_doubt r w) (cells_by_id p) (λ k d within.
    let x = get_or (cells_by_id p) k d in
    let in_table = held-within p x (id_at p.cells x) (held-id p x (cells-held p c.cells-cells.ensures.placed k d within)) in
    let is = lt-ltb x c.cells-cells.result (subst (λ n. x < n) (sym c.cells-cells.ensures.count) in_table) in
    ap (λ b. owned x && (b && is_marked_lost w x)) is)
