use Rattle.std.proofs.Common.{arith, ◌≡◌, ℕ, length, sym, ◌∙◌, subst}
use Rattle.tests_support.specs.declared.counters.Cells.{Cells}
use Rattle.tests_support.specs.declared.counters.Counter.{Counter}
use Rattle.tests_support.specs.CellTasks.{AreFirstTasks}
use Rattle.tests_support.proofs.CellTaskLemmas.{enough_turns}
use Rattle.tests_audit.proofs.residents.runs.run_cells.Goals as goal

pub run-requires-clause-turns : goal.run-requires-clause-turns
run-requires-clause-turns g c κs within =
    let js = c.in_ok-jobs.jobs in
    let cells = c.deref.result.now.count in
    let n : length js.items ≡ c.workers-workers.result = sym js.ok.0 ∙ c.in_ok-jobs.ensures.count in
    let few = c.workers-workers.ensures.few in
    let same : c.deref-2.result.now ≡ c.deref.result.now = c.deref-2.ensures ∙ sym c.deref.ensures in
    let first = subst (λ (s : Cells). AreFirstTasks c.workers-workers.result s.count c.in_ok-first.first.lists) same c.in_ok-first.ensures in
    enough_turns (λ (s : Cells). s.count) (λ (j : Counter). j.room) (λ (j : Counter). j.turns) cells js.items c.in_ok-first.first.lists
    (omega arith) c.in_ok-jobs.ensures.range c.in_ok-jobs.ensures.each
    (subst (λ (k : ℕ). AreFirstTasks k cells c.in_ok-first.first.lists) (sym n) first)
