use Rattle.std.proofs.Common.{length, ap, ◌∙◌}
use Rattle.steal_pool.specs.Runs.{workers_of}
use Rattle.scan_job.specs.Jobs.{shared_graph}
use Rattle.scan_job.specs.Phases.{owner_firsts, held_firsts, all_held, from_owners, from_held}
use Rattle.scan_job.proofs.Dealing.{length-dealt}
use Rattle.scan_job.proofs.Gaining.{held-under}
use Rattle.heap_marking.proofs.NextPhase.{next-scans}
use Rattle.heap_marking.proofs.phases.run_phases.Goals as goal

pub take_up-requires-clause-scan : goal.take_up-requires-clause-scan
take_up-requires-clause-scan g c κs within =
    let s = c.args.context.shared.now in
    let went = c.owner_phase.ensures in
    next-scans s from_owners c.args.jobs.now.items c.owner_phase.new.jobs.items c.args.crew.now c.owner_phase.new.crew c.args.first.now c.owner_phase.new.first
    c.requires c.in_ok-owner_phase.ensures.done
    (ap length went.first ∙ length-dealt (workers_of c.args.crew.now) (owner_firsts s.roles.now)) went.first_room went.room went.workers

pub take_up-requires-clause-held : goal.take_up-requires-clause-held
take_up-requires-clause-held g c κs within =
    held-under (shared_graph c.args.context.shared.now) c.args.jobs.now.items c.owner_phase.new.jobs.items c.in_ok-owner_phase.ensures.done.gains

pub root_phase-requires-after_bounds : goal.root_phase-requires-after_bounds
root_phase-requires-after_bounds g c κs within =
    let s = c.args.context.shared.now in
    let ks = c.owner_phase.new.jobs.items in
    let crew = c.owner_phase.new.crew in
    let went = c.owner_phase.ensures in
    let then = c.take_up.ensures in
    let can =
    next-scans s from_owners c.args.jobs.now.items ks c.args.crew.now crew c.args.first.now c.owner_phase.new.first c.requires c.in_ok-owner_phase.ensures.done
    (ap length went.first ∙ length-dealt (workers_of c.args.crew.now) (owner_firsts s.roles.now)) went.first_room went.room went.workers in
    next-scans s (from_held (all_held ks)) ks c.take_up.new.jobs.items crew c.take_up.new.crew c.owner_phase.new.first c.take_up.new.first
    can c.in_ok-take_up.ensures.done
    (ap length then.first ∙ length-dealt (workers_of crew) (held_firsts ks)) then.first_room then.room then.workers

pub returns : goal.returns
returns g c = record {
  phases = record {
    owned = c.owner_phase.new.jobs.items;
    taken_up = c.take_up.new.jobs.items;
    owner_phase = c.in_ok-owner_phase.ensures.done.gains;
    take_up = c.in_ok-take_up.ensures.done.gains;
    root_phase = c.in_ok-root_phase.ensures.done.gains;
  };
  ready = c.in_ok-root_phase.ensures.done.ready;
}
