use Rattle.std.proofs.Common.{[], length, sym, ap, ◌∙◌, subst, arith}
use Rattle.std.specs.List.{All}
use Rattle.std.specs.Prelude.{slice_index}
use Rattle.std.proofs.lemmas.List.{length-map, length-replicate}
use Rattle.header_rule.specs.Passes.{ArePassesOf}
use Rattle.scan_job.specs.States.{ScanState}
use Rattle.heap_marking.specs.TracedCells.{IsNewFor}
use Rattle.heap_marking.proofs.NewJobs.{zeros}
use Rattle.heap_marking.proofs.memory.TraceMemory.take.Goals as goal

pub invariant_of-result : goal.invariant_of-result
invariant_of-result c =
    let headers = c.in_ok-headers.headers in
    let jobs = c.in_ok-jobs.jobs.items in
    let tally = c.in_ok-tally.tally in
    let cells = c.in_ok-headers.ensures.cells in
    let kinds = ap length c.in_ok-tally.ensures ∙ length-replicate c.args.kinds 0 in
    let mapped = length-map jobs (λ (j : ScanState). j.pass) in
    let passes = ap length c.in_ok-jobs.ensures.passes in
    let count = c.in_ok-headers.ensures.count in
    let first = c.in_ok-first.ensures.room in
    let lists = ap length c.in_ok-first.ensures.lists ∙ length-replicate c.args.workers [] in
    let some = c.requires.workers.0 in
    let few = c.requires.workers.1 in
    let small = c.requires.cells in
    let room = c.in_ok-passes.ensures.capacity in
    record {
      pass_each = subst (ArePassesOf headers) (sym c.in_ok-jobs.ensures.passes) c.in_ok-headers.ensures.passes;
      new_jobs = subst (λ n. All (IsNewFor n (length tally)) jobs) (sym cells) (subst (λ m. All (IsNewFor c.args.cells m) jobs) (sym kinds) c.in_ok-jobs.ensures.new);
      some_jobs = omega arith;
      few_jobs = omega arith;
      few_cells = omega arith;
      list_each = omega arith;
      list_room = omega arith;
      no_passes = c.in_ok-passes.ensures.items;
      pass_room = omega arith;
      zero = λ kind. ap (λ t. slice_index t kind) c.in_ok-tally.ensures ∙ zeros c.args.kinds kind;
    }
