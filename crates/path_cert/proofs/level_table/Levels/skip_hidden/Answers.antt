use Rattle.std.proofs.Common.{◌≡◌, ◌-◌, inr, ap, ◌∙◌, arith}
use Rattle.graph_meaning.specs.Roles.{id_at}
use Rattle.path_cert.specs.declared.arrival.Arrival.{Arrival}
use Rattle.path_cert.specs.declared.arrival.TheConstants.{NOWHERE}
use Rattle.path_cert.specs.declared.ancestors.TheConstants.{ANCESTOR_LEVEL}
use Rattle.path_cert.specs.Levels.{LevelTable, arrival_in}
use Rattle.path_cert.proofs.HeldObjects.{held-id}
use Rattle.path_cert.proofs.Skipping.{steps-near}
use Rattle.path_cert.proofs.level_table.Levels.skip_hidden.Goals as goal

pub returns-in-Some : goal.returns-in-Some
returns-in-Some c p s levels held =
    let l = c.args.self.now in
    let cell = c.args.waypoint.cell in
    let a = arrival_in c.args.self.now.arrivals c.args.waypoint.cell in
    let read = c.get-level.ensures NOWHERE ∙ ap (λ (l : LevelTable). arrival_in l.arrivals cell) c.self.view_is in
    let level : c.get-level.result.level ≡ (arrival_in c.args.self.now.arrivals c.args.waypoint.cell).level = ap (λ (a : Arrival). a.level) read in
    let ancestor = c.ancestor.ensures p s l.start (id_at p.cells cell) c.in-Some.ancestor levels (held-id p cell held) c.in-Some.is in
    let near = steps-near l.start a.level c.args.waypoint.left c.requires.left in
    let above = ancestor.above in
    let some = near.0 in
    let few = near.1 in
    let end = c.if-saturating_sub.false in
    let sub = c.saturating_sub.ensures in
    record {
      skipped = a.level - ANCESTOR_LEVEL;
      cell = ancestor.is;
      left = omega (arith, level, above, some, few);
      hidden = inr (omega (arith, level, above, some, few), omega (arith, level, above, some, few, end, sub));
    }
