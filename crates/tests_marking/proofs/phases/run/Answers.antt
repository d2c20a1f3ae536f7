use Rattle.std.proofs.Common.{length, ap, ◌∙◌, arith}
use Rattle.steal_pool.specs.Runs.{workers_of}
use Rattle.scan_job.specs.Jobs.{shared_graph}
use Rattle.scan_job.specs.Phases.{owner_firsts}
use Rattle.scan_job.proofs.Dealing.{length-dealt}
use Rattle.scan_job.proofs.Gaining.{held-under}
use Rattle.tests_marking.proofs.PhaseRuns.{HasRoom, begin-scan, scan-again, passes-after}
use Rattle.tests_marking.proofs.phases.run.Goals as goal

pub root_phase-requires-after_bounds : goal.root_phase-requires-after_bounds
root_phase-requires-after_bounds g c κs within =
    let cells = c.cells-cells in
    begin-scan _ _ cells.result _ _ _ c.requires.jobs c.requires.roles cells.ensures.placed cells.ensures.sound cells.ensures.count
    c.in_ok-crew.ensures.workers c.in_ok-crew.ensures.room c.in_ok-first.ensures.lists c.in_ok-first.ensures.room

pub owner_phase-requires-after_bounds : goal.owner_phase-requires-after_bounds
owner_phase-requires-after_bounds g c κs within =
    let cells = c.cells-cells in
    begin-scan _ _ cells.result _ _ _ c.requires.jobs c.requires.roles cells.ensures.placed cells.ensures.sound cells.ensures.count
    c.in_ok-crew.ensures.workers c.in_ok-crew.ensures.room c.in_ok-first.ensures.lists c.in_ok-first.ensures.room

pub take_up-requires-clause-scan : goal.take_up-requires-clause-scan
take_up-requires-clause-scan g c κs within =
    let s = c.args.shared.now in
    let n = c.args.plan.workers in
    let js = c.args.jobs.now.items in
    let ks = c.owner_phase.new.jobs.items in
    let crew = c.owner_phase.new.crew in
    let first = c.owner_phase.new.first in
    let cells = c.cells-cells.ensures in
    let left = c.owner_phase.ensures in
    let room : HasRoom s n crew first = record {
      count = left.workers ∙ c.in_ok-crew.ensures.workers;
      room = (let a = cells.count in let b = c.in_ok-crew.ensures.room in let e = left.room in omega arith);
      lists = ap length left.first ∙ length-dealt (workers_of c.in_ok-crew.crew) (owner_firsts s.roles.now) ∙ c.in_ok-crew.ensures.workers;
      list_room = (let a = cells.count in let b = c.in_ok-first.ensures.room in let e = left.first_room in omega arith);
    } in
    scan-again s n js ks crew first c.requires.jobs room c.in_ok-owner_phase.ensures.done

pub take_up-requires-clause-held : goal.take_up-requires-clause-held
take_up-requires-clause-held g c κs within =
    held-under (shared_graph c.args.shared.now) c.args.jobs.now.items c.owner_phase.new.jobs.items c.in_ok-owner_phase.ensures.done.gains

pub returns-in-Roots-clause-passes : goal.returns-in-Roots-clause-passes
returns-in-Roots-clause-passes g c =
    let s = c.args.shared.now in
    let left = c.in_ok-root_phase.ensures.done in
    passes-after s (shared_graph s) c.args.jobs.now.items left.gains.gains c.root_phase.new.jobs.items left.gains.each left.ready c.requires.jobs.passes

pub returns-in-Owners : goal.returns-in-Owners
returns-in-Owners g c =
    let s = c.args.shared.now in
    let left = c.in_ok-owner_phase.ensures.done in
    record {
      passes = passes-after s (shared_graph s) c.args.jobs.now.items left.gains.gains c.owner_phase.new.jobs.items left.gains.each left.ready c.requires.jobs.passes;
      kinds = λ k d at. (left.ready k d at).kinds;
    }

pub returns : goal.returns
returns g c =
    let s = c.args.shared.now in
    let ks = c.owner_phase.new.jobs.items in
    let left = c.in_ok-owner_phase.ensures.done in
    let then = c.in_ok-take_up.ensures.done in
    record {
      passes = passes-after s (shared_graph s) ks then.gains.gains c.take_up.new.jobs.items then.gains.each then.ready
          (passes-after s (shared_graph s) c.args.jobs.now.items left.gains.gains ks left.gains.each left.ready c.requires.jobs.passes);
      kinds = λ k d at. (then.ready k d at).kinds;
    }
