-- The worked examples, by computation.
use Rattle.std.proofs.Common.{refl, ℕ}
use Rattle.std.specs.Fmt.{digits}
use Rattle.graph_meaning.specs.Reach.{within, reached_nodes, level, distance, predecessor}
use Rattle.graph_meaning.specs.Assertions.{found_from, under_owners, root_traced, traced_ids, is_met, references}
use Rattle.graph_meaning.specs.Paths.{way_at, canonical_way, plain_way, unowned_way, view_of}
use Rattle.graph_meaning.specs.Collecting.{violating_dead, instances, violating_kinds, violating_unshared, violating_ownees, all_verdicts, first_with_paths}
use Rattle.graph_meaning.specs.Collecting.{with_only, after_sweep, after_collection, collection_counted}
use Rattle.graph_meaning.specs.Step.{alloc_refusal, store_refusal, root_refusal, with_object, with_changed_slot, with_root, step}
use Rattle.report.specs.Text.{path_text, verdict_line, summary_line, cleared_line, collection_text, fault_text, halt_text, end_text}
use Rattle.report.specs.Run.{turn, run, run_status}
use Rattle.report.specs.Report.{report_text}
use Rattle.report.specs.Examples.{Nothing, OneCollection, DeadAndNamed, CycleIsFreed, RegionsNest, OwnershipIsLost, ArrayIsLetGo, FreedIsNotLive}
use Rattle.report.specs.Examples.{LeastPredecessor, PathsFromAnOwner, OnePathIsShown, DeadIsCutOff, ViolationHalts, LaterViolationsHalt, NothingHalts}

-- opens the definitions that the examples compute with
all_definitions : ℕ
unfolding within reached_nodes level distance predecessor found_from under_owners root_traced traced_ids is_met references way_at canonical_way plain_way
    unowned_way view_of violating_dead instances violating_kinds violating_unshared violating_ownees all_verdicts first_with_paths with_only after_sweep
    after_collection collection_counted alloc_refusal store_refusal root_refusal with_object with_changed_slot with_root step path_text verdict_line
    summary_line cleared_line collection_text fault_text halt_text end_text turn run report_text run_status digits
all_definitions = 0

pub nothing : Nothing
unfolding all_definitions
nothing = (refl, refl)

pub one_collection : OneCollection
unfolding all_definitions
one_collection = (refl, refl)

pub dead_and_named : DeadAndNamed
unfolding all_definitions
dead_and_named = (refl, refl)

pub cycle_is_freed : CycleIsFreed
unfolding all_definitions
cycle_is_freed = (refl, refl)

pub regions_nest : RegionsNest
unfolding all_definitions
regions_nest = (refl, refl)

pub ownership_is_lost : OwnershipIsLost
unfolding all_definitions
ownership_is_lost = (refl, refl)

pub array_is_let_go : ArrayIsLetGo
unfolding all_definitions
array_is_let_go = (refl, refl)

pub freed_is_not_live : FreedIsNotLive
unfolding all_definitions
freed_is_not_live = (refl, refl)

pub least_predecessor : LeastPredecessor
unfolding all_definitions
least_predecessor = (refl, refl)

pub paths_from_an_owner : PathsFromAnOwner
unfolding all_definitions
paths_from_an_owner = (refl, refl)

pub one_path_is_shown : OnePathIsShown
unfolding all_definitions
one_path_is_shown = (refl, refl)

pub dead_is_cut_off : DeadIsCutOff
unfolding all_definitions
dead_is_cut_off = (refl, refl)

pub violation_halts : ViolationHalts
unfolding all_definitions
violation_halts = (refl, refl)

pub later_violations_halt : LaterViolationsHalt
unfolding all_definitions
later_violations_halt = (refl, refl)

pub nothing_halts : NothingHalts
unfolding all_definitions
nothing_halts = (refl, refl)
