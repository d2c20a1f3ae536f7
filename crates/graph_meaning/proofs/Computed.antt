-- The worked examples, by computation.
use Rattle.std.proofs.Common.{refl, ℕ}
use Rattle.graph_meaning.specs.Reach.{within, reached_nodes, level, distance, predecessor}
use Rattle.graph_meaning.specs.Assertions.{found_from, under_owners, root_traced, traced_ids, is_met, references}
use Rattle.graph_meaning.specs.Paths.{way_at, canonical_way, plain_way, unowned_way, view_of}
use Rattle.graph_meaning.specs.Collecting.{violating_dead, instances, violating_kinds, violating_unshared, violating_ownees, all_verdicts, first_with_paths}
use Rattle.graph_meaning.specs.Collecting.{with_only, after_sweep, after_collection, collection_counted}
use Rattle.graph_meaning.specs.Step.{alloc_refusal, store_refusal, root_refusal, with_object, with_changed_slot, with_root, step}
use Rattle.graph_meaning.specs.Examples.{DeadAndNamed, CycleIsFreed, FreedIsNotLive, RegionsNest, InstancesAreCounted, SharedIsFound, DeadIsCutOff, Refusals}
use Rattle.graph_meaning.specs.Examples.{OwnershipIsKept, OwnershipIsLost, OwnerIsGone, OwneesInAList, PathsFromAnOwner, OwnerIsReplaced, OwnersDoNotMeet}
use Rattle.graph_meaning.specs.Examples.{EdgesBackCount, ArrayIsShared, ArrayIsLetGo, LeastPredecessor, OnePathIsShown, WeakKeepsNothing, WeakFindsNothing}
use Rattle.graph_meaning.specs.Examples.{ServicesDay, GeneratedTrace, FreedIsNotCounted, SearchStopsAtOwners, LongPathIsCut, WeakIsKept, ForceClearsWhatStays}
use Rattle.graph_meaning.specs.Examples.{UnownedPathIsLonger}

-- what opens the definitions that the examples compute with: of what is reached, of paths, of operations, of collections
reach_definitions : ℕ
unfolding within reached_nodes level distance predecessor found_from under_owners root_traced traced_ids is_met references
reach_definitions = 0

path_definitions : ℕ
unfolding way_at canonical_way plain_way unowned_way view_of
path_definitions = 0

step_definitions : ℕ
unfolding alloc_refusal store_refusal root_refusal with_object with_changed_slot with_root step
step_definitions = 0

verdict_definitions : ℕ
unfolding violating_dead instances violating_kinds violating_unshared violating_ownees all_verdicts first_with_paths
verdict_definitions = 0

collection_definitions : ℕ
unfolding with_only after_sweep after_collection collection_counted
collection_definitions = 0

all_definitions : ℕ
unfolding reach_definitions path_definitions step_definitions verdict_definitions collection_definitions
all_definitions = 0

pub dead_and_named : DeadAndNamed
unfolding all_definitions
dead_and_named = refl

pub cycle_is_freed : CycleIsFreed
unfolding all_definitions
cycle_is_freed = refl

pub freed_is_not_live : FreedIsNotLive
unfolding all_definitions
freed_is_not_live = refl

pub regions_nest : RegionsNest
unfolding all_definitions
regions_nest = refl

pub instances_are_counted : InstancesAreCounted
unfolding all_definitions
instances_are_counted = refl

pub shared_is_found : SharedIsFound
unfolding all_definitions
shared_is_found = refl

pub ownership_is_kept : OwnershipIsKept
unfolding all_definitions
ownership_is_kept = refl

pub ownership_is_lost : OwnershipIsLost
unfolding all_definitions
ownership_is_lost = refl

pub owner_is_gone : OwnerIsGone
unfolding all_definitions
owner_is_gone = (refl, refl)

pub edges_back_count : EdgesBackCount
unfolding all_definitions
edges_back_count = refl

pub array_is_shared : ArrayIsShared
unfolding all_definitions
array_is_shared = refl

pub array_is_let_go : ArrayIsLetGo
unfolding all_definitions
array_is_let_go = refl

pub ownees_in_a_list : OwneesInAList
unfolding all_definitions
ownees_in_a_list = refl

pub least_predecessor : LeastPredecessor
unfolding all_definitions
least_predecessor = refl

pub paths_from_an_owner : PathsFromAnOwner
unfolding all_definitions
paths_from_an_owner = refl

pub owner_is_replaced : OwnerIsReplaced
unfolding all_definitions
owner_is_replaced = refl

pub one_path_is_shown : OnePathIsShown
unfolding all_definitions
one_path_is_shown = refl

pub weak_keeps_nothing : WeakKeepsNothing
unfolding all_definitions
weak_keeps_nothing = refl

pub weak_finds_nothing : WeakFindsNothing
unfolding all_definitions
weak_finds_nothing = refl

pub dead_is_cut_off : DeadIsCutOff
unfolding all_definitions
dead_is_cut_off = refl

pub refusals : Refusals
unfolding all_definitions
refusals = (refl, refl, refl, refl, refl, refl)

pub services_day : ServicesDay
unfolding all_definitions
services_day = refl

pub generated : GeneratedTrace
unfolding all_definitions
generated = refl

pub freed_is_not_counted : FreedIsNotCounted
unfolding all_definitions
freed_is_not_counted = refl

pub search_stops_at_owners : SearchStopsAtOwners
unfolding all_definitions
search_stops_at_owners = refl

pub owners_do_not_meet : OwnersDoNotMeet
unfolding all_definitions
owners_do_not_meet = refl

pub long_path_is_cut : LongPathIsCut
unfolding all_definitions
long_path_is_cut = (refl, refl)

pub weak_is_kept : WeakIsKept
unfolding all_definitions
weak_is_kept = (refl, refl)

pub force_clears_what_stays : ForceClearsWhatStays
unfolding all_definitions
force_clears_what_stays = (refl, refl)

pub unowned_path_is_longer : UnownedPathIsLonger
unfolding all_definitions
unowned_path_is_longer = (refl, refl)
