use Rattle.std.proofs.Common.{◌∙◌, arith}
use Rattle.heap_marking.proofs.MergedTallies.{TallyBy, tallies-more, tally-few}
use Rattle.heap_marking.proofs.gathering.merge_tallies.Goals as goal
use Rattle.heap_base.specs.declared.limits.TheConstants.{MOST_OBJECTS}

pub merge-requires-clause-below : goal.merge-requires-clause-below
merge-requires-clause-below c kind =
    let p : TallyBy c.args.jobs.now c.loop-job.job-index c.job-item.result c.tally.result.now =
    record { job = record { within = c.loop-job-test.true; is = c.job-item.is; won = c.tally.ensures.within_wins }; tally_is = c.tally.ensures.tally } in
    let one = tally-few c.args.jobs.now c.loop-job.job-index c.job-item.result c.tally.result.now p MOST_OBJECTS c.requires.cells kind in
    let before = c.loop-job.invariant.few kind in
    let sum = c.loop-job.invariant.sums kind in
    let few = c.requires.few in
    let within = c.loop-job-test.true in
    omega arith

pub loop-job-preserved : goal.loop-job-preserved
loop-job-preserved c =
    let p : TallyBy c.args.jobs.now c.loop-job.job-index c.job-item.result c.tally.result.now =
    record { job = record { within = c.loop-job-test.true; is = c.job-item.is; won = c.tally.ensures.within_wins }; tally_is = c.tally.ensures.tally } in
    let more = tallies-more c.args.jobs.now c.loop-job.job-index c.job-item.result c.tally.result.now p in
    record {
      kinds = c.merge.ensures.kinds ∙ c.loop-job.invariant.kinds;
      sums = λ kind. (let a = c.merge.ensures.sums kind in let b = c.loop-job.invariant.sums kind in let d = more kind in omega arith);
      few = λ kind.
          (let one = tally-few c.args.jobs.now c.loop-job.job-index c.job-item.result c.tally.result.now p MOST_OBJECTS c.requires.cells kind in
          let before = c.loop-job.invariant.few kind in
          let d = more kind in
          omega arith);
    }
