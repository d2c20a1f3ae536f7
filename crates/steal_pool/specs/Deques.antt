-- What stays of a deque.
use Rattle.std.specs.Prelude.{◌≡◌}
use Rattle.std.specs.declared.alloc.Global.{Global}
use Rattle.steal_pool.specs.declared.task.Task.{Task}
use Rattle.crossbeam_deque.specs.Handles.{worker_deque, worker_flavor}
use Rattle.crossbeam_deque.specs.declared.handles.Worker.{Worker}
use Rattle.steal_pool.specs.declared.hand.DequeRule.{DequeRule}
use Rattle.steal_pool.specs.declared.hand.Hand.{Hand}

-- it is the same deque, and its owner takes at the same end
abbrev pub IsSameDeque : Worker Task Global Hand DequeRule → Worker Task Global Hand DequeRule → Type 0
IsSameDeque old new = (worker_deque new ≡ worker_deque old) × (worker_flavor new ≡ worker_flavor old)
