use Rattle.std.proofs.Common.{sym, subst}
use Rattle.std.proofs.iter.Serving.{serving}
use Rattle.crossbeam_utils.specs.Padded.{padded_value}
use Rattle.steal_pool.specs.Places.{MayStart}
use Rattle.steal_pool.proofs.running.run_all.Goals as goal

pub for_each_mut-requires-clause-accepts : goal.for_each_mut-requires-clause-accepts
for_each_mut-requires-clause-accepts g c κs within = λ i p l e. (
  (subst (λ q. MayStart g.J.Job.meaning c.args.context.now.shared.now (padded_value q)) (sym e) (c.requires.able i p.now l), c.requires.threads),
  grind serving,
)
