use Rattle.std.proofs.Common.{◌≡◌, ◌<◌, length, refl, sym, ap, ◌∙◌, arith}
use Rattle.std.proofs.lemmas.List.{length-replicate}
use Rattle.scan_job.specs.Shared.{shared_behind}
use Rattle.scan_job.proofs.Placing.{is-whole, root-there, held-from_node}
use Rattle.root_phase.specs.Roots.{JobAndLists}
use Rattle.root_phase.proofs.RootMeetings.{NextRoot, meets-no_roots, left-for-root, passed-by, below, has-room, goes-on}
use Rattle.root_phase.proofs.meeting.meet_roots.Goals as goal
use Rattle.root_phase.proofs.meeting.meet_roots.Goals.{After-meet_one, then-meet_one, else-meet_one}

-- the job and the lists before the first root
abbrev at_first : After-meet_one → JobAndLists
at_first c = record { job = c.args.job.now; lists = c.args.first.now.lists }

-- the job and the lists before this root
abbrev so_far : After-meet_one → JobAndLists
so_far c = record { job = c.loop-root.job; lists = c.loop-root.first.lists }

as_many : (c : After-meet_one) → c.args.workers ≡ length c.args.first.now.lists
as_many c = sym (ap length c.requires.lists ∙ length-replicate c.args.workers _)

-- this root is met
next : (c : After-meet_one) → NextRoot (shared_behind c.args.shared.now) c.loop-root.root c.root_cell-cell.result c.meet_one.result c.loop-root.job c.meet_one.new.job
next c = record {
  within = (let e = c.roots-root-end.ensures.count in let l = c.loop-root-test.true in omega arith);
  names = c.root_cell-cell.ensures.cell;
  meets = c.meet_one.ensures.meets;
  ready = c.meet_one.ensures.ready;
  within_wins = c.meet_one.ensures.within_wins;
}

pub loop-root-init : goal.loop-root-init
loop-root-init c =
    let first = meets-no_roots (shared_behind c.args.shared.now) c.args.workers c.args.job.now c.args.first.now.lists c.requires.lists in
    record { met = first.0; number = first.1; ready = c.requires.ready; room = refl }

pub meet_one-requires-clause-left : goal.meet_one-requires-clause-left
meet_one-requires-clause-left c =
    let roots = c.requires.ready.sound.limits.roots in
    let count = c.roots-root-end.ensures.count in
    let within = c.loop-root-test.true in
    left-for-root (shared_behind c.args.shared.now) c.loop-root.root (record { job = c.args.job.now; lists = c.args.first.now.lists })
    (record { job = c.loop-root.job; lists = c.loop-root.first.lists }) c.loop-root.invariant.met (omega arith) c.requires.left

pub meet_one-requires-clause-cell : goal.meet_one-requires-clause-cell
meet_one-requires-clause-cell c =
    let p = c.args.shared.now.table.now in
    let r = c.args.shared.now.roles.now in
    let within : c.loop-root.root < length p.table.roots = (let e = c.roots-root-end.ensures.count in let l = c.loop-root-test.true in omega arith) in
    let there = root-there p r c.loop-root.root c.root_cell-cell.result c.requires.ready.placed within c.root_cell-cell.ensures.cell in
    held-from_node p r c.root_cell-cell.result ((is-whole p r c.requires.ready.roles).named c.root_cell-cell.result there)

pub add-requires-clause-worker : goal.add-requires-clause-worker
add-requires-clause-worker c =
    let at = (goal.at.add-requires-clause-worker c).After-meet_one in
    (has-room _ _ _ _ (at_first at) (so_far at) _ c.loop-root.invariant.met (next at) _ _ (as_many at) c.loop-root.invariant.number
    c.if-meet_one.true c.args.first.now.room c.requires.some c.requires.room).0

pub add-requires-clause-room : goal.add-requires-clause-room
add-requires-clause-room c =
    let at = (goal.at.add-requires-clause-room c).After-meet_one in
    let r =
    (has-room _ _ _ _ (at_first at) (so_far at) _ c.loop-root.invariant.met (next at) _ _ (as_many at) c.loop-root.invariant.number c.if-meet_one.true c.args.first.now.room c.requires.some
    c.requires.room).1 in
    let e = c.loop-root.invariant.room in
    omega arith

pub overflow_add-number : goal.overflow_add-number
overflow_add-number c =
    let at = (goal.at.overflow_add-number c).After-meet_one in
    let l =
    below _ _ _ _ (at_first at) (so_far at) _ c.loop-root.invariant.met (next at) _ _ (as_many at) c.loop-root.invariant.number c.if-meet_one.true in
    let few = c.requires.ready.placed.few in
    omega arith

pub loop-root-preserved : goal.loop-root-preserved
loop-root-preserved c =
    let at = (goal.at.loop-root-preserved c).After-meet_one in
    elim c.if-meet_one.branch [
      | then-meet_one w ↦
          let r =
          goes-on _ _ _ _ (at_first at) (so_far at) _ c.loop-root.invariant.met (next at) _ _ (as_many at) c.loop-root.invariant.number w.if-meet_one.true w.add.new.self.lists w.add.ensures.lists in
          rw (w.first-is, w.number-is) (record { met = r.0; number = r.1; ready = c.meet_one.ensures.ready; room = w.add.ensures.room ∙ c.loop-root.invariant.room })
      | else-meet_one w ↦
          let r =
          passed-by _ _ _ _ (at_first at) (so_far at) _ c.loop-root.invariant.met (next at) _ _ (as_many at) c.loop-root.invariant.number w.if-meet_one.false in
          rw (w.first-is, w.number-is) (record { met = r.0; number = r.1; ready = c.meet_one.ensures.ready; room = c.loop-root.invariant.room })
    ]
