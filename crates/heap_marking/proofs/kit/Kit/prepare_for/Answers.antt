use Rattle.std.proofs.Common.{◌∙◌, sym, arith}
use Rattle.heap_marking.proofs.kit.Kit.prepare_for.Goals as goal

pub invariant_of-result : goal.invariant_of-result
invariant_of-result c =
    let memory = c.in_ok-memory.ensures in
    let crew = c.in_ok-crew.ensures in
    let room = crew.room in
    let cells = memory.cells in
    let space = c.in_ok-kept.ensures.capacity in
    record {
      job_each = memory.workers ∙ sym crew.workers;
      crew_room = omega arith;
      none_kept = c.in_ok-kept.ensures.items;
      kept_room = omega arith;
    }
