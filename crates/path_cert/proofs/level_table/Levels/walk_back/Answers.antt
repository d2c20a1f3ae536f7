use Rattle.std.proofs.Common.{◌≡◌, suc, ◌+◌, ◌-◌, ◌<◌, List, ◌∷◌, ◌++◌, length, sym, ap, refl, subst, ◌∙◌, arith}
use Rattle.std.specs.Prelude.{IsSome}
use Rattle.graph_meaning.specs.declared.paths.PathStep.{PathStep}
use Rattle.std.specs.Prelude.{Result, Ok, Err, IfOk}
use Rattle.std.specs.Option.{IfSome}
use Rattle.heap_base.specs.declared.errors.OutOfMemory.{OutOfMemory}
use Rattle.graph_meaning.specs.declared.paths.PathView.{PathView}
use Rattle.graph_meaning.specs.Paths.{Way, view_of}
use Rattle.graph_meaning.specs.Roles.{id_at}
use Rattle.path_cert.specs.declared.arrival.Arrival.{Arrival}
use Rattle.path_cert.specs.declared.arrival.TheConstants.{NOWHERE}
use Rattle.path_cert.specs.declared.level_table.Waypoint.{Waypoint}
use Rattle.path_cert.specs.Steps.{step_to}
use Rattle.path_cert.specs.Levels.{Search, LevelTable, arrival_in, way_in, AreLevelsOf}
use Rattle.path_cert.specs.Trails.{HasShown, with_steps}
use Rattle.path_cert.proofs.HeldObjects.{held-within}
use Rattle.path_cert.proofs.Skipping.{steps-left, walk-skipped, skipped-held, skipped-some}
use Rattle.path_cert.proofs.Walking.{Walk, HasWalked, walk-begins, walk-back, may-start, walk-ends}
use Rattle.path_cert.proofs.level_table.Levels.walk_back.Goals as goal

pub loop-left-init : goal.loop-left-init
loop-left-init c = record {
  total = refl;
  walked = λ s after levels has.
      let k : Walk = record { placed = c.args.table.now; search = s; levels = c.args.self.now; to = c.args.to; after = after } in
      walk-begins k c.args.trail c.args.steps levels c.requires.cell c.requires.steps has;
}

pub skip_hidden-waypoint-requires-clause-cell : goal.skip_hidden-waypoint-requires-clause-cell
skip_hidden-waypoint-requires-clause-cell c =
    let now = c.loop-left.invariant.walked c.requires.table.0 c.requires.shown.0 c.requires.table.1 c.requires.shown.1 in
    let within : c.loop-left.cell < length c.args.table.now.cells = held-within c.args.table.now c.loop-left.cell now.way.to now.leads.held in
    let each = c.requires.table.1.each in
    omega (arith, within, each)

pub skip_hidden-waypoint-requires-clause-left : goal.skip_hidden-waypoint-requires-clause-left
skip_hidden-waypoint-requires-clause-left c =
    let k : Walk = record { placed = c.args.table.now; search = c.requires.table.0; levels = c.args.self.now; to = c.args.to; after = c.requires.shown.0 } in
    let now = c.loop-left.invariant.walked c.requires.table.0 c.requires.shown.0 c.requires.table.1 c.requires.shown.1 in
    steps-left k c.loop-left.trail c.requires.table.1 c.loop-left.left c.loop-left.cell (omega arith) now

pub overflow_sub-left : goal.overflow_sub-left
overflow_sub-left c =
    let now = c.loop-left.invariant.walked c.requires.table.0 c.requires.shown.0 c.requires.table.1 c.requires.shown.1 in
    let before : Waypoint = record { cell = c.loop-left.cell; left = c.loop-left.left } in
    let skips = c.skip_hidden-waypoint.ensures c.args.table.now c.requires.table.0 c.requires.table.1 (subst IsSome (sym now.leads.held) refl) in
    let some = skipped-some c.args.self.now c.loop-left.trail.total before c.skip_hidden-waypoint.result skips (omega arith) in
    omega (arith, some)

pub loop-left-smaller : goal.loop-left-smaller
loop-left-smaller c =
    let now = c.loop-left.invariant.walked c.requires.table.0 c.requires.shown.0 c.requires.table.1 c.requires.shown.1 in
    let before : Waypoint = record { cell = c.loop-left.cell; left = c.loop-left.left } in
    let skips = c.skip_hidden-waypoint.ensures c.args.table.now c.requires.table.0 c.requires.table.1 (subst IsSome (sym now.leads.held) refl) in
    let some = skipped-some c.args.self.now c.loop-left.trail.total before c.skip_hidden-waypoint.result skips (omega arith) in
    let fewer = skips.left in
    omega (arith, some, fewer)

pub get-arrival-requires : goal.get-arrival-requires
get-arrival-requires c =
    let levels = c.requires.table.1 in
    let k : Walk = record { placed = c.args.table.now; search = c.requires.table.0; levels = c.args.self.now; to = c.args.to; after = c.requires.shown.0 } in
    let before : Waypoint = record { cell = c.loop-left.cell; left = c.loop-left.left } in
    let now = c.loop-left.invariant.walked c.requires.table.0 c.requires.shown.0 levels c.requires.shown.1 in
    let held = skipped-held k c.loop-left.trail levels before c.skip_hidden-waypoint.result c.skip_hidden-waypoint.ensures now in
    let within : c.skip_hidden-waypoint.result.cell < length c.args.table.now.cells = held-within c.args.table.now c.skip_hidden-waypoint.result.cell held.0 held.1 in
    let each = levels.each in
    let many = ap (λ (l : LevelTable). length l.arrivals) c.self.view_is in
    omega (arith, within, each, many)

pub take-requires : goal.take-requires
take-requires c =
    let k : Walk = record { placed = c.args.table.now; search = c.requires.table.0; levels = c.args.self.now; to = c.args.to; after = c.requires.shown.0 } in
    let before : Waypoint = record { cell = c.loop-left.cell; left = c.loop-left.left } in
    let now = c.loop-left.invariant.walked c.requires.table.0 c.requires.shown.0 c.requires.table.1 c.requires.shown.1 in
    let held = skipped-held k c.loop-left.trail c.requires.table.1 before c.skip_hidden-waypoint.result c.skip_hidden-waypoint.ensures now in
    subst IsSome (sym held.1) refl

pub loop-left-preserved : goal.loop-left-preserved
loop-left-preserved c =
    let p = c.args.table.now in
    let cell = c.skip_hidden-waypoint.result.cell in
    let left = c.skip_hidden-waypoint.result.left in
    let before : Waypoint = record { cell = c.loop-left.cell; left = c.loop-left.left } in
    let first = c.loop-left.invariant.walked c.requires.table.0 c.requires.shown.0 c.requires.table.1 c.requires.shown.1 in
    let held_before = subst IsSome (sym first.leads.held) refl in
    let skips = c.skip_hidden-waypoint.ensures p c.requires.table.0 c.requires.table.1 held_before in
    let start : Walk = record { placed = c.args.table.now; search = c.requires.table.0; levels = c.args.self.now; to = c.args.to; after = c.requires.shown.0 } in
    let there = walk-skipped start c.loop-left.trail c.requires.table.1 before c.skip_hidden-waypoint.result skips first in
    let read = c.get-arrival.ensures NOWHERE ∙ ap (λ (l : LevelTable). arrival_in l.arrivals cell) c.self.view_is in
    let some = skipped-some c.args.self.now c.loop-left.trail.total before c.skip_hidden-waypoint.result skips (omega arith) in
    let one : c.skip_hidden-waypoint.result.left ≡ suc (c.skip_hidden-waypoint.result.left - 1) = omega (arith, some) in
    record {
      total = c.take.ensures.total ∙ c.loop-left.invariant.total;
      walked = λ s after levels has.
          let k : Walk = record { placed = c.args.table.now; search = s; levels = c.args.self.now; to = c.args.to; after = after } in
          let skipped =
          walk-skipped k c.loop-left.trail levels before c.skip_hidden-waypoint.result (c.skip_hidden-waypoint.ensures p s levels held_before) (c.loop-left.invariant.walked s after levels has) in
          let now = subst (λ n. HasWalked k c.loop-left.trail n cell) one skipped in
          let taken =
          subst (λ (a : Arrival). (rest : List PathStep) → HasShown c.loop-left.trail ((c.skip_hidden-waypoint.result.left - 1) + 1) rest →
          HasShown c.take.new.self (c.skip_hidden-waypoint.result.left - 1) (step_to p.table (a.slot, id_at p.cells cell) ∷ rest)) read
          c.in_ok-take.ensures.taken in
          subst (λ (a : Arrival). HasWalked k c.take.new.self (c.skip_hidden-waypoint.result.left - 1) a.from) (sym read)
          (walk-back k c.loop-left.trail c.take.new.self (left - 1) cell levels now taken);
    }

pub start_at-requires-clause-cell : goal.start_at-requires-clause-cell
start_at-requires-clause-cell c =
    let now = c.loop-left.invariant.walked c.requires.table.0 c.requires.shown.0 c.requires.table.1 c.requires.shown.1 in
    let within : c.loop-left.cell < length c.args.table.now.cells = held-within c.args.table.now c.loop-left.cell now.way.to now.leads.held in
    subst (λ n. c.loop-left.cell < n) (sym c.requires.table.1.each) within

pub start_at-requires-clause-start : goal.start_at-requires-clause-start
start_at-requires-clause-start c =
    let p = c.args.table.now in
    let s = c.requires.table.0 in
    let k : Walk = record { placed = c.args.table.now; search = c.requires.table.0; levels = c.args.self.now; to = c.args.to; after = c.requires.shown.0 } in
    let over : c.loop-left.left ≡ 0 = omega arith in
    let now = subst (λ n. HasWalked k c.loop-left.trail n c.loop-left.cell) over (c.loop-left.invariant.walked s c.requires.shown.0 c.requires.table.1 c.requires.shown.1) in
    may-start p s c.args.self.now c.requires.table.1 c.loop-left.cell now.way now.leads

pub into_view-requires-clause-all : goal.into_view-requires-clause-all
into_view-requires-clause-all c =
    let s = c.requires.table.0 in
    let after = c.requires.shown.0 in
    let k : Walk = record { placed = c.args.table.now; search = c.requires.table.0; levels = c.args.self.now; to = c.args.to; after = c.requires.shown.0 } in
    let over : c.loop-left.left ≡ 0 = omega arith in
    let now = subst (λ n. HasWalked k c.loop-left.trail n c.loop-left.cell) over (c.loop-left.invariant.walked s after c.requires.table.1 c.requires.shown.1) in
    (now.rest ++ after, now.shown)

pub returns-clause-path : goal.returns-clause-path
returns-clause-path c = go c.into_view.result c.into_view.ensures.view
  where
    go : (result : Result PathView OutOfMemory) →
        IfOk result (λ v. (w : Way) → w.from ≡ c.in_ok-from.from → HasShown c.loop-left.trail 0 w.steps → v ≡ view_of w) →
        IfOk result
        (λ v. (s : Search) (after : List PathStep) → AreLevelsOf c.args.table.now s c.args.self.now → HasShown c.args.trail c.args.steps after →
        IfSome (way_in c.args.table.now s c.args.to) (λ w. v ≡ view_of (with_steps w after)))
    go (Err e) view = view
    go (Ok v) view = λ s after levels has.
        let k : Walk = record { placed = c.args.table.now; search = s; levels = c.args.self.now; to = c.args.to; after = after } in
        let over : c.loop-left.left ≡ 0 = omega arith in
        let now = subst (λ n. HasWalked k c.loop-left.trail n c.loop-left.cell) over (c.loop-left.invariant.walked s after levels has) in
        walk-ends k c.loop-left.trail c.args.steps c.loop-left.cell c.in_ok-from.from v levels c.requires.cell c.requires.steps now c.in_ok-from.ensures view
