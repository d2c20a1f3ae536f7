-- The lines of a report, byte for byte. Numbers are decimal; names are written as their bytes; each line ends with a newline.
use Rattle.std.specs.Prelude.{ℕ, ◌==◌, List, [], ◌++◌, take, drop, Bool, true, false, nat_lt, if◌then◌else◌, codes, decimal}
use Rattle.std.specs.List.{flat_map}
use Rattle.heap_base.specs.declared.limits.TheConstants.{END_STEPS}
use Rattle.graph_meaning.specs.declared.collection.Collection.{Collection}
use Rattle.graph_meaning.specs.declared.collection.Verdict.{Verdict}
use Rattle.graph_meaning.specs.declared.collection.Verdict.TheVariants.{Dead, Instances, Unshared, OwnedBy}
use Rattle.graph_meaning.specs.declared.paths.PathFrom.{PathFrom}
use Rattle.graph_meaning.specs.declared.paths.PathFrom.TheVariants.{Root, Owner}
use Rattle.graph_meaning.specs.declared.paths.PathStep.{PathStep}
use Rattle.graph_meaning.specs.declared.paths.PathView.{PathView}
use Rattle.graph_meaning.specs.declared.paths.Shown.{Shown}
use Rattle.graph_meaning.specs.declared.paths.Shown.TheVariants.{LeftOut, Path}
use Rattle.graph_meaning.specs.declared.refusal.Refusal.{Refusal}
use Rattle.graph_meaning.specs.declared.refusal.Refusal.TheVariants.{LineTooLong, TraceTooLong, NotJson, NotObject, UnknownOp, MissingField}
use Rattle.graph_meaning.specs.declared.refusal.Refusal.TheVariants.{BadField, IdNotRising, TooManyObjects, TooManySlots, NotLive, BadSlot}
use Rattle.graph_meaning.specs.declared.refusal.Refusal.TheVariants.{TooManyRoots, TooManyTypes, TooDeep, NoRegion, SelfOwned}
use Rattle.trace_reader.specs.Meaning.{field_text}

-- an object: its id and the name of its type
abbrev pub object_text : ℕ → List ℕ → List ℕ
object_text id kind = decimal id ++ codes " " ++ kind

-- ---- paths

-- where a path starts
abbrev pub start_text : PathFrom → List ℕ
start_text (Root name id kind) = codes "root " ++ name ++ codes " -> " ++ object_text id kind
start_text (Owner id kind) = codes "owner " ++ object_text id kind

-- by a slot to an object
abbrev pub step_text : PathStep → List ℕ
step_text s = codes " [" ++ decimal s.slot ++ codes "] -> " ++ object_text s.id s.kind

-- the steps, with how many are left out behind the first `END_STEPS`, where any are
abbrev pub steps_text : List PathStep → ℕ → List ℕ
steps_text steps left_out =
    if left_out == 0 then flat_map step_text steps
    else flat_map step_text (take END_STEPS steps) ++ codes " ... " ++ decimal left_out ++ codes " steps ..." ++ flat_map step_text (drop END_STEPS steps)

unfoldable pub path_text : PathView → List ℕ
path_text p = start_text p.from ++ steps_text p.steps p.left_out

abbrev pub left_out_text : List ℕ
left_out_text = codes "path left out"

abbrev pub shown_text : Shown → List ℕ
shown_text LeftOut = left_out_text
shown_text (Path p) = path_text p

-- two paths with a bar between them; where one is left out, that alone is said, and once
abbrev pub both_text : Shown → Shown → List ℕ
both_text LeftOut second = left_out_text
both_text (Path p) LeftOut = left_out_text
both_text (Path p) (Path q) = path_text p ++ codes " | " ++ path_text q

-- ---- a collection

abbrev pub gone_text : Bool → List ℕ
gone_text true = codes " gone"
gone_text false = []

-- what a verdict says before its paths
abbrev pub verdict_head : Verdict → List ℕ
verdict_head (Dead id kind path) = codes "dead " ++ object_text id kind
verdict_head (Instances kind limit found path) = codes "instances " ++ kind ++ codes " limit " ++ decimal limit ++ codes " found " ++ decimal found
verdict_head (Unshared id kind refs first second) = codes "unshared " ++ object_text id kind ++ codes " refs " ++ decimal refs
verdict_head (OwnedBy id kind owner gone path) = codes "ownedby " ++ object_text id kind ++ codes " owner " ++ decimal owner ++ gone_text gone

-- its paths
abbrev pub paths_text : Verdict → List ℕ
paths_text (Dead id kind path) = shown_text path
paths_text (Instances kind limit found path) = shown_text path
paths_text (Unshared id kind refs first second) = both_text first second
paths_text (OwnedBy id kind owner gone path) = shown_text path

-- what a verdict says, after the number of its collection
abbrev pub verdict_text : Verdict → List ℕ
verdict_text v = verdict_head v ++ codes ": " ++ paths_text v

-- `gc` and the number of the collection
abbrev pub gc_text : ℕ → List ℕ
gc_text number = codes "gc " ++ decimal number ++ codes " "

unfoldable pub verdict_line : ℕ → Verdict → List ℕ
verdict_line number v = gc_text number ++ verdict_text v ++ codes "\n"

unfoldable pub summary_line : Collection → List ℕ
summary_line c =
    gc_text c.number ++ codes "live " ++ decimal c.live ++ codes " traced " ++ decimal c.traced ++ codes " freed " ++ decimal c.freed ++ codes "\n"

-- how many slots and roots were cleared, where any were
unfoldable pub cleared_line : Collection → List ℕ
cleared_line c = if nat_lt 0 c.cleared then gc_text c.number ++ codes "cleared " ++ decimal c.cleared ++ codes "\n" else []

-- the line that sums a collection up, a line for each verdict, and what was cleared
unfoldable pub collection_text : Collection → List ℕ
collection_text c = summary_line c ++ flat_map (verdict_line c.number) c.verdicts ++ cleared_line c

-- ---- the last line

-- the name of a refusal, and its detail where it has one
abbrev pub refusal_text : Refusal → List ℕ
refusal_text LineTooLong = codes "LineTooLong"
refusal_text TraceTooLong = codes "TraceTooLong"
refusal_text NotJson = codes "NotJson"
refusal_text NotObject = codes "NotObject"
refusal_text UnknownOp = codes "UnknownOp"
refusal_text (MissingField field) = codes "MissingField " ++ field_text field
refusal_text (BadField field) = codes "BadField " ++ field_text field
refusal_text (IdNotRising id) = codes "IdNotRising " ++ decimal id
refusal_text TooManyObjects = codes "TooManyObjects"
refusal_text TooManySlots = codes "TooManySlots"
refusal_text (NotLive id) = codes "NotLive " ++ decimal id
refusal_text (BadSlot slot) = codes "BadSlot " ++ decimal slot
refusal_text TooManyRoots = codes "TooManyRoots"
refusal_text TooManyTypes = codes "TooManyTypes"
refusal_text (TooDeep thread) = codes "TooDeep " ++ decimal thread
refusal_text (NoRegion thread) = codes "NoRegion " ++ decimal thread
refusal_text (SelfOwned id) = codes "SelfOwned " ++ decimal id

-- the last line where a line of the trace was refused
unfoldable pub fault_text : ℕ → Refusal → List ℕ
fault_text line refusal = codes "fault line " ++ decimal line ++ codes ": " ++ refusal_text refusal ++ codes "\n"

-- the last line where the run halted behind this collection, with its number of violations
unfoldable pub halt_text : ℕ → ℕ → List ℕ
halt_text collection violations = codes "halt gc " ++ decimal collection ++ codes " violations " ++ decimal violations ++ codes "\n"

-- the last line where the trace was read to its end
unfoldable pub end_text : ℕ → ℕ → List ℕ
end_text collections violations = codes "end gcs " ++ decimal collections ++ codes " violations " ++ decimal violations ++ codes "\n"
