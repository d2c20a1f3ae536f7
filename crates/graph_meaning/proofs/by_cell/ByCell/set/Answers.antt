use Rattle.std.proofs.Common.{◌<◌, length, set, ap, ◌∙◌, arith}
use Rattle.graph_meaning.specs.Owners.{with_padding}
use Rattle.graph_meaning.proofs.Padding.{length-padded, set-padded}
use Rattle.graph_meaning.proofs.by_cell.ByCell.set.Goals as goal

pub returns : goal.returns
returns g c =
    let b = c.self.inside in
    let many = ap length c.self.view_is in
    let all = length-padded b.front.items b.cells b.rest c.self.invariant.0 in
    let within : c.args.cell < b.cells = omega (arith, many, all, c.requires) in
    ap (λ xs. with_padding (set xs c.args.cell c.args.value) b.cells b.rest) c.pad.ensures.items
    ∙ set-padded b.front.items b.cells c.args.cell b.rest c.args.value c.self.invariant.0 within
    ∙ ap (λ xs. set xs c.args.cell c.args.value) c.self.view_is
