use Rattle.std.proofs.Common.{[]}
use Rattle.steal_pool.specs.Searches.{sources}
use Rattle.steal_pool.proofs.TurnLemmas.{offers_fit, offers_bound}
use Rattle.steal_pool.proofs.offering.offer.Goals as goal

pub offer_one-requires-clause-fit : goal.offer_one-requires-clause-fit
offer_one-requires-clause-fit c = offers_fit (sources c.args.queue.now c.args.lane.now []) (sources c.loop.queue c.loop.lane []) c.loop.invariant.offers c.requires.fit

pub offer_one-requires-clause-bound : goal.offer_one-requires-clause-bound
offer_one-requires-clause-bound c = offers_bound (sources c.args.queue.now c.args.lane.now []) (sources c.loop.queue c.loop.lane []) c.loop.invariant.offers c.requires.bound
