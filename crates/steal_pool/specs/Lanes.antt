-- What contracts say of a worker's own deque.
use Rattle.std.specs.Prelude.{◌≤◌}
use Rattle.crossbeam_deque.specs.Handles.{worker_view}
use Rattle.heap_base.specs.Counting.{total}
use Rattle.steal_pool.specs.declared.hand.Hand.{Hand}
use Rattle.steal_pool.specs.declared.lane.Lane.{Lane}
use Rattle.steal_pool.specs.Hands.{one}

-- the worker's own hand
abbrev pub own_hand : Lane → Hand
own_hand l = worker_view l.owner

-- its hand took no more tasks than it put
abbrev pub HasTakenFew : Lane → Type 0
HasTakenFew l = total one (own_hand l).took ≤ total one (own_hand l).put
