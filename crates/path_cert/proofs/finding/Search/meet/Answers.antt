use Rattle.std.proofs.Common.{◌≡◌, false, ◌∷◌, [], length, get_or, length-append, ap, ◌∙◌, ◌==◌, arith}
use Rattle.std.proofs.lemmas.Grind.{common_steps}
use Rattle.graph_meaning.specs.Roles.{cells_of}
use Rattle.path_cert.proofs.MetCells.{fewer-left}
use Rattle.path_cert.proofs.finding.Search.meet.Goals as goal

pub returns-in_ok-push-clause-remaining : goal.returns-in_ok-push-clause-remaining
returns-in_ok-push-clause-remaining c =
    let new : (get_or c.args.self.now.met_in.items c.args.cell 0 == c.args.self.now.round) ≡ false = grind (arith, common_steps) in
    let count = fewer-left c.args.self.now.met_in.items c.args.self.now.round c.args.cell (cells_of c.args.roles.now) (omega arith) new c.requires.cell in
    let work = ap length c.in_ok-push.ensures.items ∙ length-append c.args.self.now.work.items (c.args.cell ∷ []) in
    omega (arith, count, work)

pub returns-else-not-is_border-clause-remaining : goal.returns-else-not-is_border-clause-remaining
returns-else-not-is_border-clause-remaining c =
    let new : (get_or c.args.self.now.met_in.items c.args.cell 0 == c.args.self.now.round) ≡ false = grind (arith, common_steps) in
    let count = fewer-left c.args.self.now.met_in.items c.args.self.now.round c.args.cell (cells_of c.args.roles.now) (omega arith) new c.requires.cell in
    omega (arith, count)
