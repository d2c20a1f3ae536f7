-- Worked examples: the whole report on a short trace, and the status that it ends with.
use Rattle.std.specs.Prelude.{◌≡◌, ℕ, List, [], ◌∷◌, ◌++◌, map, codes, None}
use Rattle.heap_base.specs.Limits.{usual_limits}
use Rattle.heap_base.specs.declared.status.Status.{Status}
use Rattle.heap_base.specs.declared.status.Status.TheVariants.{Clean, Violated, TraceFault}
use Rattle.graph_meaning.specs.declared.event.Event.{Event}
use Rattle.graph_meaning.specs.declared.event.Event.TheVariants.{Store, StartRegion, AssertDead, AssertAllDead, AssertUnshared, AssertOwnedBy, Collect}
use Rattle.graph_meaning.specs.declared.reaction.React.TheVariants as react
use Rattle.graph_meaning.specs.Examples.{alloc, root, store, order, cycle, cart, cached_entry, pools}
use Rattle.trace_reader.specs.Meaning.{event}
use Rattle.report.specs.Run.{RunRules, status_of}
use Rattle.report.specs.Report.{report_of}

-- These operations have this report by these rules, and end with this status.
abbrev pub Reports : RunRules → List Event → List ℕ → Status → Type 0
Reports rules events text status =
    let items = map event events in (report_of rules items ≡ text) × (status_of rules items ≡ status)

-- violations are reported, and a hundred paths are shown
abbrev pub plain : RunRules
plain = record { paths = 100; react = react.Report; most = usual_limits }

-- the same, and the run halts at a violation
abbrev pub halting : RunRules
halting = record { paths = 100; react = react.Halt; most = usual_limits }

abbrev pub Nothing : Type 0
Nothing = Reports plain [] (codes "end gcs 0 violations 0\n") Clean

abbrev pub OneCollection : Type 0
OneCollection =
    Reports plain (Collect ∷ [])
    (codes "gc 1 live 0 traced 0 freed 0\n" ++ codes "end gcs 1 violations 0\n")
    Clean

-- an object that is asserted dead and that a root names
abbrev pub DeadAndNamed : Type 0
DeadAndNamed =
    Reports plain (order ++ Collect ∷ [])
    (codes "gc 1 live 1 traced 1 freed 0\n" ++ codes "gc 1 dead 7 Order: root a -> 7 Order\n" ++ codes "end gcs 1 violations 1\n")
    Violated

-- two objects that hold each other and that no root leads to
abbrev pub CycleIsFreed : Type 0
CycleIsFreed =
    Reports plain (cycle ++ Collect ∷ [])
    (codes "gc 1 live 2 traced 0 freed 2\n" ++ codes "end gcs 1 violations 0\n")
    Clean

-- a region within a region; in the end no region is open
abbrev pub RegionsNest : Type 0
RegionsNest =
    Reports plain
    (StartRegion 0 ∷ alloc 1 (codes "Conn") 0 ∷ StartRegion 0 ∷ alloc 2 (codes "Buf") 0 ∷ root (codes "c") 1 ∷ root (codes "b") 2 ∷ AssertAllDead 0 ∷
    Collect ∷ AssertAllDead 0 ∷ Collect ∷ AssertAllDead 0 ∷ [])
    (codes "gc 1 live 2 traced 2 freed 0\n"
    ++ codes "gc 1 dead 2 Buf: root b -> 2 Buf\n"
    ++ codes "gc 2 live 2 traced 2 freed 0\n"
    ++ codes "gc 2 dead 1 Conn: root c -> 1 Conn\n"
    ++ codes "gc 2 dead 2 Buf: root b -> 2 Buf\n"
    ++ codes "fault line 11: NoRegion 0\n")
    TraceFault

-- an entry of a map that a cache holds too, once it is taken out of the map
abbrev pub OwnershipIsLost : Type 0
OwnershipIsLost =
    Reports plain (cached_entry ++ Store 1 0 None ∷ Collect ∷ [])
    (codes "gc 1 live 3 traced 3 freed 0\n"
    ++ codes "gc 2 live 3 traced 3 freed 0\n"
    ++ codes "gc 2 ownedby 3 Entry owner 1: root c -> 2 Cache [0] -> 3 Entry\n"
    ++ codes "end gcs 2 violations 1\n")
    Violated

-- two owners share an array, and one of them lets it go
abbrev pub ArrayIsLetGo : Type 0
ArrayIsLetGo =
    Reports plain (pools ++ Store 2 0 None ∷ Collect ∷ [])
    (codes "gc 1 live 5 traced 5 freed 0\n" ++ codes "gc 1 ownedby 4 Job owner 2: root x -> 4 Job\n" ++ codes "end gcs 1 violations 1\n")
    Violated

-- an object that was freed is to be stored
abbrev pub FreedIsNotLive : Type 0
FreedIsNotLive =
    Reports plain (cart ++ Collect ∷ store 8 0 7 ∷ [])
    (codes "gc 1 live 2 traced 1 freed 1\n" ++ codes "fault line 5: NotLive 7\n")
    TraceFault

-- of two ways of one length the path takes the one through the least object
abbrev pub LeastPredecessor : Type 0
LeastPredecessor =
    Reports plain
    (alloc 1 (codes "Top") 2 ∷ alloc 2 (codes "Mid") 2 ∷ alloc 3 (codes "Mid") 2 ∷ alloc 4 (codes "End") 0 ∷ root (codes "r") 1 ∷ store 1 0 3 ∷ store
    1 1 2 ∷ store 3 0 4 ∷ store 2 1 4 ∷ AssertDead 4 ∷ Collect ∷ [])
    (codes "gc 1 live 4 traced 4 freed 0\n"
    ++ codes "gc 1 dead 4 End: root r -> 1 Top [1] -> 2 Mid [1] -> 4 End\n"
    ++ codes "end gcs 1 violations 1\n")
    Violated

-- paths from an owner that isn't traced
abbrev pub PathsFromAnOwner : Type 0
PathsFromAnOwner =
    Reports plain (alloc 3 (codes "Book") 2 ∷ alloc 5 (codes "Order") 0 ∷ store 3 0 5 ∷ store 3 1 5 ∷ AssertOwnedBy 3 5 ∷ AssertDead 5 ∷ AssertUnshared 5 ∷ Collect ∷ [])
    (codes "gc 1 live 2 traced 1 freed 1\n"
    ++ codes "gc 1 dead 5 Order: owner 3 Book [0] -> 5 Order\n"
    ++ codes "gc 1 unshared 5 Order refs 2: owner 3 Book [0] -> 5 Order | owner 3 Book [1] -> 5 Order\n"
    ++ codes "end gcs 1 violations 2\n")
    Violated

-- one path is shown, and the next is left out
abbrev pub OnePathIsShown : Type 0
OnePathIsShown =
    Reports (record plain { paths = 1 }) (alloc 1 (codes "A") 0 ∷ alloc 2 (codes "A") 0 ∷ root (codes "a") 1 ∷ root (codes "b") 2 ∷ AssertDead 1 ∷ AssertDead 2 ∷ Collect ∷ [])
    (codes "gc 1 live 2 traced 2 freed 0\n"
    ++ codes "gc 1 dead 1 A: root a -> 1 A\n"
    ++ codes "gc 1 dead 2 A: path left out\n"
    ++ codes "end gcs 1 violations 2\n")
    Violated

-- by force what is asserted dead is cut off, and the next collection frees it
abbrev pub DeadIsCutOff : Type 0
DeadIsCutOff =
    Reports (record plain { react = react.Force }) (order ++ Collect ∷ Collect ∷ [])
    (codes "gc 1 live 1 traced 1 freed 0\n"
    ++ codes "gc 1 dead 7 Order: root a -> 7 Order\n"
    ++ codes "gc 1 cleared 1\n"
    ++ codes "gc 2 live 1 traced 0 freed 1\n"
    ++ codes "end gcs 2 violations 1\n")
    Violated

-- the first collection has a violation, at which the run halts; the second is not made
abbrev pub ViolationHalts : Type 0
ViolationHalts =
    Reports halting (order ++ Collect ∷ Collect ∷ [])
    (codes "gc 1 live 1 traced 1 freed 0\n" ++ codes "gc 1 dead 7 Order: root a -> 7 Order\n" ++ codes "halt gc 1 violations 1\n")
    Violated

-- a run halts at the second collection, which has two violations, after a first that has none; what follows, which
-- would be refused, is not looked at
abbrev pub LaterViolationsHalt : Type 0
LaterViolationsHalt =
    Reports halting (alloc 1 (codes "A") 0 ∷ alloc 2 (codes "A") 0 ∷ root (codes "a") 1 ∷ root (codes "b") 2 ∷ Collect ∷ AssertDead 1 ∷ AssertDead 2 ∷ Collect ∷ store 9 0 9 ∷ [])
    (codes "gc 1 live 2 traced 2 freed 0\n"
    ++ codes "gc 2 live 2 traced 2 freed 0\n"
    ++ codes "gc 2 dead 1 A: root a -> 1 A\n"
    ++ codes "gc 2 dead 2 A: root b -> 2 A\n"
    ++ codes "halt gc 2 violations 2\n")
    Violated

-- where no collection has a violation, a run that would halt goes on to the end
abbrev pub NothingHalts : Type 0
NothingHalts =
    Reports halting (cart ++ Collect ∷ Collect ∷ [])
    (codes "gc 1 live 2 traced 1 freed 1\n" ++ codes "gc 2 live 1 traced 1 freed 0\n" ++ codes "end gcs 2 violations 0\n")
    Clean
