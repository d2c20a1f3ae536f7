use Rattle.std.proofs.Common.{cond, [], ◌∷◌, ◌++◌, length, sym, ap, ◌∙◌, arith, length-append}
use Rattle.graph_meaning.specs.Reach.{has_id}
use Rattle.header_rule.specs.Passes.{wins}
use Rattle.scan_job.specs.States.{ScanState}
use Rattle.scan_job.proofs.Numbers.{few-below}
use Rattle.scan_job.proofs.Placing.{held-below}
use Rattle.scan_job.proofs.Meetings.{below-won, few-wins}
use Rattle.scan_job.proofs.job.ScanJob.meet.Goals as goal

pub overflow_add-self : goal.overflow_add-self
overflow_add-self c =
    let few = few-wins _ c.self.invariant.2 in
    let won = c.self.invariant.0 in
    let cells = ap (λ (j : ScanState). j.cells) c.self.view_is in
    let is = c.requires.ready.cells in
    let most = c.requires.ready.placed.few in
    omega arith

pub push_reserved-requires : goal.push_reserved-requires
push_reserved-requires c =
    let i = c.self.inside in
    let within = c.self.invariant.2 in
    let cells = ap (λ (j : ScanState). j.cells) c.self.view_is in
    let is = c.requires.ready.cells in
    let low = held-below c.args.shared.now.table.now c.args.cell c.requires.cell in
    let below = below-won (wins i.pass) i.cells c.args.cell c.meet-won.result within.below (omega arith) in
    let few = few-below i.cells (wins c.meet-won.new.pass) c.meet-won.ensures.once (λ x at. below x (ap (λ ws. has_id ws x) (sym c.meet-won.ensures.wins) ∙ at)) in
    let more = ap length (c.meet-won.ensures.wins ∙ ap (λ b. cond b (wins i.pass ++ c.args.cell ∷ []) (wins i.pass)) c.if-won.true) in
    let sum = length-append (wins i.pass) (c.args.cell ∷ []) in
    let held = within.held in
    let space = c.self.invariant.1 in
    omega arith
