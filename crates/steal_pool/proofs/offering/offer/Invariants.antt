use Rattle.std.proofs.Common.{[]}
use Rattle.steal_pool.specs.Searches.{sources, Offers}
use Rattle.steal_pool.proofs.offering.offer.Given as goal

abbrev pub invariant-loop : goal.invariant-loop
invariant-loop l = record { offers : Offers (sources l.fn.queue l.fn.lane []) (sources l.queue l.lane []) }
