use Rattle.std.proofs.Common.{arith}
use Rattle.scan_job.specs.Shared.{shared_behind}
use Rattle.scan_job.proofs.PhaseRuns.{take_up-start, take_up-begun}
use Rattle.scan_job.proofs.Starting.{ready-cells}
use Rattle.owner_phase.proofs.Dealt.{dealt-held, few-held}
use Rattle.owner_phase.proofs.held.begin_take_up.Goals as goal

pub returns-clause-begun : goal.returns-clause-begun
returns-clause-begun c =
    let s = shared_behind c.args.shared.now in
    let js = c.args.jobs.now.items in
    let can = c.requires.begin in
    let few = few-held c.add_held.ensures.few c.as_slice.ensures.value (ready-cells s js can.ready) in
    take_up-begun s js c.args.first.now can (record {
      start = take_up-start s js c.args.first.now can c.requires.held few;
      load = record { jobs = c.begin_phase.new.jobs.items; first = c.add_held.new.first.lists };
      are_begun = c.begin_phase.ensures;
      lists = dealt-held c.add_held.ensures.lists (let e = c.len.ensures in let v = c.args.jobs.now.ok in omega arith) c.as_slice.ensures.value;
    })
