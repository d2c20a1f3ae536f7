use Rattle.std.proofs.Common.{arith, ◌≡◌, length, sym, ◌∙◌, subst}
use Rattle.tests_support.specs.declared.counters.Cells.{Cells}
use Rattle.tests_support.specs.declared.counters.Counter.{Counter}
use Rattle.tests_support.specs.CellTasks.{AreFirstTasks}
use Rattle.tests_support.proofs.CellTaskLemmas.{rooms, enough_turns}
use Rattle.tests_marking.proofs.tests.counters.run_cells.Goals as goal

pub run-requires-clause-room : goal.run-requires-clause-room
run-requires-clause-room g c κs within =
    let js = c.in_ok-jobs.jobs in
    let n : length js.items ≡ c.workers.result = sym js.ok.0 ∙ c.in_ok-jobs.ensures.count in
    let same : c.workers-2.result ≡ c.workers.result = c.workers-2.ensures ∙ sym c.workers.ensures in
    rooms (λ (s : Cells). s.count) (λ (j : Counter). j.room) (λ (j : Counter). j.turns) c.args.work.cells.now.count _ js.items c.in_ok-first.first.lists c.requires c.in_ok-jobs.ensures.each
    (subst (λ k. AreFirstTasks k c.args.work.cells.now.count c.in_ok-first.first.lists) (same ∙ sym n) c.in_ok-first.ensures)

pub run-requires-clause-turns : goal.run-requires-clause-turns
run-requires-clause-turns g c κs within =
    let js = c.in_ok-jobs.jobs in
    let n : length js.items ≡ c.workers.result = sym js.ok.0 ∙ c.in_ok-jobs.ensures.count in
    let same : c.workers-2.result ≡ c.workers.result = c.workers-2.ensures ∙ sym c.workers.ensures in
    let few = c.args.crew.now.few in
    let is = c.workers.ensures in
    enough_turns (λ (s : Cells). s.count) (λ (j : Counter). j.room) (λ (j : Counter). j.turns) c.args.work.cells.now.count js.items
    c.in_ok-first.first.lists (omega arith) c.in_ok-jobs.ensures.range c.in_ok-jobs.ensures.each
    (subst (λ k. AreFirstTasks k c.args.work.cells.now.count c.in_ok-first.first.lists) (same ∙ sym n) c.in_ok-first.ensures)
