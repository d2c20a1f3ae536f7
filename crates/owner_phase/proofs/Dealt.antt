-- What was dealt, in the words of a phase's contract.
use Rattle.std.proofs.Common.{◌≡◌, ℕ, ◌*◌, ◌≤◌, List, length, map, sym, ◌∙◌, subst}
use Rattle.std.specs.List.{All}
use Rattle.steal_pool.specs.declared.task.Task.{Task}
use Rattle.graph_meaning.specs.Roles.{RoleTable}
use Rattle.scan_job.specs.Phases.{all_held, task_lists, owner_firsts, held_firsts}
use Rattle.scan_job.specs.Scans.{task_at}
use Rattle.scan_job.specs.States.{ScanState}

pub dealt-owners : (r : RoleTable) {fs : List (List Task)} {n m : ℕ} {owners : List ℕ} → fs ≡ task_lists n (map (λ o. task_at o o) owners) →
    n ≡ m → owners ≡ r.owners → fs ≡ task_lists m (owner_firsts r)
dealt-owners r lists workers same = lists ∙ (λ i. task_lists (workers i) (map (λ o. task_at o o) (same i)))

pub dealt-held : {fs : List (List Task)} {n m : ℕ} {js is : List ScanState} → fs ≡ task_lists n (held_firsts is) → n ≡ m → is ≡ js → fs ≡ task_lists m (held_firsts js)
dealt-held lists workers same = lists ∙ (λ i. task_lists (workers i) (held_firsts (same i)))

pub few-held : {js is : List ScanState} {most : ℕ} → ((cells : ℕ) → All (λ j. j.cells ≤ cells) is → length (all_held is) ≤ length is * cells) →
    is ≡ js → All (λ j. j.cells ≤ most) js → length (all_held js) ≤ length js * most
few-held {most = most} few same each =
    subst (λ ks. length (all_held ks) ≤ length ks * most) same (few most (subst (λ ks. All (λ j. j.cells ≤ most) ks) (sym same) each))
