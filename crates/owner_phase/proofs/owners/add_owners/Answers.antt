use Rattle.std.proofs.Common.{◌≡◌, ℕ, ◌+◌, ◌%◌, ◌<◌, ◌≤◌, List, [], ◌∷◌, length, map, take, get_or, sym, ap, ◌∙◌, arith, length-take}
use Rattle.std.proofs.lemmas.List.{length-map, map-append, take_more}
use Rattle.steal_pool.specs.declared.task.Task.{Task}
use Rattle.scan_job.specs.Phases.{put_last, task_lists}
use Rattle.scan_job.specs.Scans.{task_at}
use Rattle.scan_job.proofs.Dealing.{dealt-room, dealt-snoc}
use Rattle.scan_job.proofs.PhaseRuns.{le-times}
use Rattle.owner_phase.proofs.owners.add_owners.Goals as goal

-- the tasks of the first owners
abbrev firsts : List ℕ → ℕ → List Task
firsts owners i = map (λ o. task_at o o) (take i owners)

module _ (n i : ℕ) (owners : List ℕ) (fs : List (List Task)) (some : 0 < n) (within : i < length owners) (lists : fs ≡ task_lists n (firsts owners i)) where
  count : i ≡ length (firsts owners i)
  count = let a = length-map (take i owners) (λ o. task_at o o) in let b = length-take i owners in omega arith

  has-room : (room : ℕ) → length owners ≤ room → (i % n < length fs) × (length (get_or fs (i % n) []) < room)
  has-room room enough =
      let l = le-times n room some in dealt-room n room i fs (firsts owners i) some count lists (omega arith)

  one-more : (gs : List (List Task)) → gs ≡ put_last fs (i % n) (let o = get_or owners i 0 in task_at o o) → gs ≡ task_lists n (firsts owners (i + 1))
  one-more gs is =
      dealt-snoc n i fs gs (firsts owners i) (let o = get_or owners i 0 in task_at o o) count lists is
      ∙ ap (task_lists n) (sym (ap (map (λ o. task_at o o)) (take_more owners i 0 within) ∙ map-append (λ o. task_at o o) (take i owners) (get_or owners i 0 ∷ [])))

pub add-requires-clause-worker : goal.add-requires-clause-worker
add-requires-clause-worker c =
    (has-room c.args.workers c.loop-number.number c.args.owners.now c.loop-number.first.lists c.requires.some c.loop-number-test.true
    c.loop-number.invariant.lists c.args.first.now.room c.requires.room).0

pub add-requires-clause-room : goal.add-requires-clause-room
add-requires-clause-room c =
    let r =
    (has-room c.args.workers c.loop-number.number c.args.owners.now c.loop-number.first.lists c.requires.some c.loop-number-test.true
    c.loop-number.invariant.lists c.args.first.now.room c.requires.room).1 in
    let e = c.loop-number.invariant.room in
    omega arith

pub loop-number-preserved : goal.loop-number-preserved
loop-number-preserved c = record {
  lists =
      one-more c.args.workers c.loop-number.number c.args.owners.now c.loop-number.first.lists c.requires.some c.loop-number-test.true
      c.loop-number.invariant.lists c.add.new.self.lists c.add.ensures.lists;
  room = c.add.ensures.room ∙ c.loop-number.invariant.room;
}
