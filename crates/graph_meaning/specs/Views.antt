-- A heap as it is shown, and when a shown path leads through it.
use Rattle.std.specs.Prelude.{ℕ, ◌==◌, List, [], ◌∷◌, map, take, drop, find, Bool, true, false, ◌&&◌, if◌then◌else◌, Option, None, slice_index_or}
use Rattle.std.specs.List.{list_any}
use Rattle.std.specs.Option.{option_map_or}
use Rattle.std.specs.Str.{bytes_eq}
use Rattle.heap_base.specs.declared.limits.TheConstants.{END_STEPS}
use Rattle.graph_meaning.specs.declared.paths.PathFrom.{PathFrom}
use Rattle.graph_meaning.specs.declared.paths.PathFrom.TheVariants.{Root, Owner}
use Rattle.graph_meaning.specs.declared.paths.PathStep.{PathStep}
use Rattle.graph_meaning.specs.declared.paths.PathView.{PathView}
use Rattle.graph_meaning.specs.declared.views.ObjectView.{ObjectView}
use Rattle.graph_meaning.specs.declared.views.HeapView.{HeapView}
use Rattle.graph_meaning.specs.Heap.{Object, Table, edge_of}
use Rattle.graph_meaning.specs.Paths.{start_of}

-- ---- what is shown of a heap

-- an object with what its edges lead to; a weak slot is shown as an empty one
abbrev pub object_view : Object → ObjectView
object_view o = record { id = o.id; kind = o.kind; slots = map edge_of o.slots }

-- the objects by id, and the roots by name
abbrev pub heap_view : Table → HeapView
heap_view t = record { objects = map object_view t.objects; roots = t.roots }

-- ---- paths through what is shown

-- the object with this id
abbrev pub shown_object : HeapView → ℕ → Option ObjectView
shown_object v id = find (λ o. o.id == id) v.objects

-- whether the view has an object with this id and this type
abbrev pub has_object : HeapView → ℕ → List ℕ → Bool
has_object v id kind = option_map_or (λ o. bytes_eq o.kind kind) (shown_object v id) false

-- whether the slot of the object x holds the object y
abbrev pub holds : HeapView → ℕ → ℕ → ℕ → Bool
holds v x slot y = option_map_or (λ o. option_map_or (λ id. id == y) (slice_index_or o.slots slot None) false) (shown_object v x) false

-- whether a path may start so: at a root of the view and what it names, or at an object of the view
abbrev pub has_start : HeapView → PathFrom → Bool
has_start v (Root name id kind) = list_any (λ r. bytes_eq r.0 name && (r.1 == id)) v.roots && has_object v id kind
has_start v (Owner id kind) = has_object v id kind

-- whether the step goes by a slot of the object x to an object of the view
abbrev pub goes_by : HeapView → ℕ → PathStep → Bool
goes_by v x s = holds v x s.slot s.id && has_object v s.id s.kind

-- whether these steps lead on from the object x, each by a slot of the object before it
unfoldable pub leads_on : HeapView → ℕ → List PathStep → Bool
leads_on v x [] = true
leads_on v x (s ∷ steps) = goes_by v x s && leads_on v s.id steps

-- the same for the steps after those that are left out: which object holds the first is not known
unfoldable pub leads_to_end : HeapView → List PathStep → Bool
leads_to_end v [] = true
leads_to_end v (s ∷ steps) = has_object v s.id s.kind && leads_on v s.id steps

-- Whether a path leads through the view: it starts in it, and each step that is shown goes by an edge from the object
-- before it to an object of the type that it names. Where steps are left out after the first `END_STEPS`, the object
-- before the next one isn't known.
unfoldable pub is_path : HeapView → PathView → Bool
is_path v p =
    has_start v p.from
    && (if p.left_out == 0 then leads_on v (start_of p.from) p.steps
    else leads_on v (start_of p.from) (take END_STEPS p.steps) && leads_to_end v (drop END_STEPS p.steps))
