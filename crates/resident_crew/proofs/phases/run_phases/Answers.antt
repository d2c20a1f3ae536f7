use Rattle.std.proofs.Common.{sym, ◌∙◌, subst, arith}
use Rattle.std.specs.Arc.{arc_value}
use Rattle.scan_job.specs.Jobs.{graph_in}
use Rattle.scan_job.specs.Phases.{CanBeginPhase, HasBegun, AreUnderOwners, all_held, owner_firsts, held_firsts, from_owners, from_held, from_roots}
use Rattle.scan_job.proofs.Gaining.{held-under}
use Rattle.resident_crew.specs.Scans.{shared_by_scan}
use Rattle.resident_crew.proofs.Went.{Begun, can-run, gained, as-many, goes-on}
use Rattle.resident_crew.proofs.phases.run_phases.Given as given
use Rattle.resident_crew.proofs.phases.run_phases.Goals as goal
use Rattle.resident_crew.proofs.phases.run_phases.Goals.{After-begin_owner_phase, After-begin_take_up, After-begin_root_phase}

-- how the scans from the owners began
owners : (g : given.Over) (c : After-begin_owner_phase g)
    → Begun from_owners c.lend.ensures c.args.jobs.items c.begin_owner_phase.new.jobs.items c.args.first c.begin_owner_phase.new.first
owners g c =
    let e = c.begin_owner_phase.ensures in
    record { firsts = owner_firsts c.lend.result.roles.now; begun = e.begun; lists = e.first; first_room = e.first_room }

-- and those from what was held then
taken_up : (g : given.Over) (c : After-begin_take_up g)
    → Begun (from_held (all_held c.in_ok-after_owners.after_owners.items)) c.lend-2.ensures c.in_ok-after_owners.after_owners.items c.begin_take_up.new.jobs.items
    c.begin_owner_phase.new.first c.begin_take_up.new.first
taken_up g c =
    let e = c.begin_take_up.ensures in
    record { firsts = held_firsts c.in_ok-after_owners.after_owners.items; begun = e.begun; lists = e.first; first_room = e.first_room }

-- and those from the roots, over what is owned
roots : (g : given.Over) (c : After-begin_root_phase g)
    → HasBegun (shared_by_scan (arc_value c.args.context.now.shared.now)) from_roots c.in_ok-after_take_up.after_take_up.items
    (record { jobs = c.begin_root_phase.new.jobs.items; first = c.begin_root_phase.new.first.lists })
roots g c =
    let bs = c.begin_root_phase.new.jobs.items in
    let fs = c.begin_root_phase.new.first.lists in
    subst (λ x. HasBegun x from_roots c.in_ok-after_take_up.after_take_up.items (record { jobs = bs; first = fs })) c.lend-3.ensures c.begin_root_phase.ensures.begun

pub run_jobs-requires-clause-can : goal.run_jobs-requires-clause-can
run_jobs-requires-clause-can g c κs within =
    can-run from_owners c.lend.ensures (owners g (goal.at.run_jobs-requires-clause-can g c).After-begin_owner_phase)

pub begin_take_up-requires-clause-begin : goal.begin_take_up-requires-clause-begin
begin_take_up-requires-clause-begin g c =
    let b = owners g (goal.at.begin_take_up-requires-clause-begin g c).After-begin_owner_phase in
    subst (λ x. CanBeginPhase x c.in_ok-after_owners.after_owners.items c.begin_owner_phase.new.first) (sym c.lend-2.ensures)
    (goes-on from_owners c.lend.ensures b c.in_ok-after_owners.ensures.ran c.in_ok-after_owners.ensures.left c.requires.begin)

pub begin_take_up-requires-clause-held : goal.begin_take_up-requires-clause-held
begin_take_up-requires-clause-held g c =
    let s = shared_by_scan (arc_value c.args.context.now.shared.now) in
    let b = owners g (goal.at.begin_take_up-requires-clause-held g c).After-begin_owner_phase in
    let ks = c.in_ok-after_owners.after_owners.items in
    subst (λ x. AreUnderOwners (graph_in x) (all_held ks)) (sym c.lend-2.ensures)
    (held-under (graph_in s) c.args.jobs.items ks (gained from_owners c.lend.ensures b c.in_ok-after_owners.ensures.ran c.in_ok-after_owners.ensures.left))

pub run_jobs-requires-2-clause-can : goal.run_jobs-requires-2-clause-can
run_jobs-requires-2-clause-can g c κs within =
    let held = all_held c.in_ok-after_owners.after_owners.items in
    can-run (from_held held) c.lend-2.ensures (taken_up g (goal.at.run_jobs-requires-2-clause-can g c).After-begin_take_up)

pub run_jobs-requires-2-clause-jobs : goal.run_jobs-requires-2-clause-jobs
run_jobs-requires-2-clause-jobs g c κs within =
    let b = owners g (goal.at.run_jobs-requires-2-clause-jobs g c).After-begin_owner_phase in
    c.begin_take_up.ensures.begun.many ∙ as-many from_owners c.lend.ensures b c.in_ok-after_owners.ensures.ran c.in_ok-after_owners.ensures.left ∙ c.requires.jobs ∙ sym c.run_jobs.ensures.workers

pub begin_root_phase-requires : goal.begin_root_phase-requires
begin_root_phase-requires g c =
    let at = goal.at.begin_root_phase-requires g c in
    let held = all_held c.in_ok-after_owners.after_owners.items in
    let went = goes-on from_owners c.lend.ensures (owners g at.After-begin_owner_phase) c.in_ok-after_owners.ensures.ran c.in_ok-after_owners.ensures.left c.requires.begin in
    subst (λ x. CanBeginPhase x c.in_ok-after_take_up.after_take_up.items c.begin_take_up.new.first) (sym c.lend-3.ensures)
    (goes-on (from_held held) c.lend-2.ensures (taken_up g at.After-begin_take_up) c.in_ok-after_take_up.ensures.ran c.in_ok-after_take_up.ensures.left went)

pub run_jobs-requires-3-clause-can : goal.run_jobs-requires-3-clause-can
run_jobs-requires-3-clause-can g c κs within = (roots g (goal.at.run_jobs-requires-3-clause-can g c).After-begin_root_phase).can_run _ (omega arith)

pub run_jobs-requires-3-clause-jobs : goal.run_jobs-requires-3-clause-jobs
run_jobs-requires-3-clause-jobs g c κs within =
    let at = goal.at.run_jobs-requires-3-clause-jobs g c in
    let held = all_held c.in_ok-after_owners.after_owners.items in
    c.begin_root_phase.ensures.begun.many
    ∙ as-many (from_held held) c.lend-2.ensures (taken_up g at.After-begin_take_up) c.in_ok-after_take_up.ensures.ran c.in_ok-after_take_up.ensures.left
    ∙ as-many from_owners c.lend.ensures (owners g at.After-begin_owner_phase) c.in_ok-after_owners.ensures.ran c.in_ok-after_owners.ensures.left
    ∙ c.requires.jobs
    ∙ sym (c.run_jobs-2.ensures.workers ∙ c.run_jobs.ensures.workers)

pub returns-clause-phases : goal.returns-clause-phases
returns-clause-phases g c =
    let at = goal.at.returns-clause-phases g c in
    let owned_jobs = c.in_ok-after_owners.after_owners.items in
    let begun = roots g at.After-begin_root_phase in
    record {
      owned = owned_jobs;
      taken_up = c.in_ok-after_take_up.after_take_up.items;
      owner_phase = gained from_owners c.lend.ensures (owners g at.After-begin_owner_phase) c.in_ok-after_owners.ensures.ran c.in_ok-after_owners.ensures.left;
      take_up = gained (from_held (all_held owned_jobs)) c.lend-2.ensures (taken_up g at.After-begin_take_up) c.in_ok-after_take_up.ensures.ran c.in_ok-after_take_up.ensures.left;
      root_phase = (begun.done c.in_ok-after_roots.after_roots.items c.in_ok-after_roots.ensures.ran c.in_ok-after_roots.ensures.left).gains;
    }
