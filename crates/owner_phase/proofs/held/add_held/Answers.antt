use Rattle.std.proofs.Common.{◌≡◌, length, map, ap, ◌∙◌, arith}
use Rattle.scan_job.specs.Phases.{task_lists}
use Rattle.scan_job.specs.Scans.{task_at}
use Rattle.owner_phase.proofs.HeldCells.{HeldBy, held-more, few-more, few-so_far, length-more, has-room, dealt-more}
use Rattle.owner_phase.proofs.held.add_held.Goals as goal
use Rattle.heap_base.specs.declared.limits.TheConstants.{MOST_OBJECTS}

pub add-requires-clause-worker : goal.add-requires-clause-worker
add-requires-clause-worker c =
    let p : HeldBy c.args.jobs.now c.loop-job.job-index c.job-item.result c.held-cell-items.result.now =
    record { job = record { within = c.loop-job-test.true; is = c.job-item.is; won = c.held-cell-items.ensures.within_wins }; held = c.held-cell-items.ensures.held } in
    (has-room c.args.jobs.now c.loop-job.job-index c.job-item.result c.held-cell-items.result.now p c.loop-cell.cell-index c.loop-cell-test.true
    c.args.workers c.loop-cell.number c.loop-cell.first.lists c.requires.some c.loop-cell.invariant.number c.loop-cell.invariant.lists
    c.args.first.now.room c.requires.jobs c.requires.room (c.loop-job.invariant.few c.args.first.now.room c.requires.room)).0

pub add-requires-clause-room : goal.add-requires-clause-room
add-requires-clause-room c =
    let p : HeldBy c.args.jobs.now c.loop-job.job-index c.job-item.result c.held-cell-items.result.now =
    record { job = record { within = c.loop-job-test.true; is = c.job-item.is; won = c.held-cell-items.ensures.within_wins }; held = c.held-cell-items.ensures.held } in
    let r =
    (has-room c.args.jobs.now c.loop-job.job-index c.job-item.result c.held-cell-items.result.now p c.loop-cell.cell-index c.loop-cell-test.true
    c.args.workers c.loop-cell.number c.loop-cell.first.lists c.requires.some c.loop-cell.invariant.number c.loop-cell.invariant.lists
    c.args.first.now.room c.requires.jobs c.requires.room (c.loop-job.invariant.few c.args.first.now.room c.requires.room)).1 in
    let e = c.loop-cell.invariant.room in
    omega arith

pub overflow_add-number : goal.overflow_add-number
overflow_add-number c =
    let p : HeldBy c.args.jobs.now c.loop-job.job-index c.job-item.result c.held-cell-items.result.now =
    record { job = record { within = c.loop-job-test.true; is = c.job-item.is; won = c.held-cell-items.ensures.within_wins }; held = c.held-cell-items.ensures.held } in
    let l =
    few-so_far c.args.jobs.now c.loop-job.job-index c.job-item.result c.held-cell-items.result.now p c.loop-cell.cell-index
    c.loop-cell-test.true MOST_OBJECTS c.requires.cells (c.loop-job.invariant.few MOST_OBJECTS c.requires.cells) in
    let n = c.loop-cell.invariant.number in
    let jobs = c.requires.jobs in
    let few = c.requires.few in
    omega arith

pub loop-cell-preserved : goal.loop-cell-preserved
loop-cell-preserved c =
    let p : HeldBy c.args.jobs.now c.loop-job.job-index c.job-item.result c.held-cell-items.result.now =
    record { job = record { within = c.loop-job-test.true; is = c.job-item.is; won = c.held-cell-items.ensures.within_wins }; held = c.held-cell-items.ensures.held } in
    record {
      lists =
          dealt-more c.args.jobs.now c.loop-job.job-index c.job-item.result c.held-cell-items.result.now p c.loop-cell.cell-index
          c.loop-cell-test.true c.args.workers c.loop-cell.number c.loop-cell.first.lists c.requires.some c.loop-cell.invariant.number
          c.loop-cell.invariant.lists c.add.new.self.lists c.add.ensures.lists;
      number =
          length-more c.args.jobs.now c.loop-job.job-index c.job-item.result c.held-cell-items.result.now p c.loop-cell.cell-index
          c.loop-cell-test.true c.loop-cell.number c.loop-cell.invariant.number;
      room = c.add.ensures.room ∙ c.loop-cell.invariant.room;
    }

pub loop-job-preserved : goal.loop-job-preserved
loop-job-preserved c =
    let p : HeldBy c.args.jobs.now c.loop-job.job-index c.job-item.result c.held-cell-items.result.now =
    record { job = record { within = c.loop-job-test.true; is = c.job-item.is; won = c.held-cell-items.ensures.within_wins }; held = c.held-cell-items.ensures.held } in
    let all : c.loop-cell.cell-index ≡ length c.held-cell-items.result.now = (let a = c.loop-cell-test.false in let b = c.loop-cell.auto.cell-index-end in omega arith) in
    let more = held-more c.args.jobs.now c.loop-job.job-index c.job-item.result c.held-cell-items.result.now p c.loop-cell.cell-index all in
    record {
      lists = c.loop-cell.invariant.lists ∙ ap (λ xs. task_lists c.args.workers (map (task_at 0) xs)) more;
      number = c.loop-cell.invariant.number ∙ ap length more;
      room = c.loop-cell.invariant.room;
      few = λ most each. few-more c.args.jobs.now c.loop-job.job-index c.job-item.result c.held-cell-items.result.now p most each (c.loop-job.invariant.few most each);
    }
