use Rattle.std.proofs.Common.{◌≡◌, ◌<◌, sym, subst}
use Rattle.path_cert.specs.declared.ancestors.TheConstants.{ANCESTOR_LEVEL}
use Rattle.path_cert.specs.declared.arrival.Arrival.{Arrival}
use Rattle.path_cert.specs.declared.arrival.TheConstants.{NOWHERE}
use Rattle.path_cert.specs.Ancestors.{AncestorOf}
use Rattle.path_cert.specs.Levels.{arrival_in}
use Rattle.path_cert.proofs.AncestorSteps.{ancestor-next}
use Rattle.path_cert.proofs.ancestors.ancestor_of.Goals as goal

pub returns-then-arrival-gt-ANCESTOR_LEVEL : goal.returns-then-arrival-gt-ANCESTOR_LEVEL
returns-then-arrival-gt-ANCESTOR_LEVEL c are =
    let arrivals = c.args.arrivals.now in
    let from = c.get-arrival.result.from in
    let read : c.get-arrival.result ≡ arrival_in c.args.arrivals.now c.args.cell = c.get-arrival.ensures NOWHERE in
    let beyond = subst (λ (a : Arrival). ANCESTOR_LEVEL < a.level) read c.if-arrival-gt-ANCESTOR_LEVEL.true in
    let known = subst (AncestorOf c.args.arrivals.now c.get-arrival.result.from) (sym c.known_ancestor.ensures) (are from) in
    ancestor-next arrivals c.args.cell c.known_ancestor.result beyond (subst (λ (a : Arrival). AncestorOf arrivals a.from c.known_ancestor.result) read known)
