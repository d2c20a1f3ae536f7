-- What is shown of a table is that of its parts.
use Rattle.std.proofs.Common.{◌≡◌, ℕ, ◌+◌, ◌<◌, List, [], ◌∷◌, ◌++◌, length, map, take, get_or, slice_get, Option, Some, IfSome, unwrap_or, sym, ◌∙◌, ap}
use Rattle.std.proofs.lemmas.List.{map_more, take_more}
use Rattle.std.proofs.lemmas.Option.{slice_get-get_or, get_or_from_slice_get}
use Rattle.std.proofs.lemmas.Simd.{map-map}
use Rattle.graph_meaning.specs.declared.views.ObjectView.{ObjectView}
use Rattle.graph_meaning.specs.declared.views.HeapView.{HeapView}
use Rattle.graph_meaning.specs.Heap.{edge_of}
use Rattle.graph_meaning.specs.Views.{object_view, heap_view}
use Rattle.object_table.specs.Residents.{Resident, held_at}
use Rattle.object_table.specs.Parts.{TableParts, slot_of, object_of, nobody, object_at_cell, placed_of}
use Rattle.object_table.proofs.Tables.{place_cell}

-- one more item of a list is shown
pub item_more : {X Y : Type 0} (f : X → Y) (xs : List X) (views later : List Y) (i : ℕ) (d : X) (y : Y) → i < length xs →
    y ≡ f (get_or xs i d) → views ≡ map f (take i xs) → later ≡ views ++ y ∷ [] → later ≡ map f (take (i + 1) xs)
item_more f xs views later i d y h is so_far pushed = let more = map_more f xs i d h in cc

pub root_more : (roots views later : List (List ℕ × ℕ)) (i id : ℕ) (name : List ℕ) → i < length roots →
    IfSome (slice_get roots i) (λ r. name ≡ r.0) → IfSome (slice_get roots i) (λ r. id ≡ r.1) → views ≡ take i roots →
    later ≡ views ++ (name, id) ∷ [] → later ≡ take (i + 1) roots
root_more roots views later i id name h named held so_far pushed =
    let d : List ℕ × ℕ = ([], 0) in
    let same_name : name ≡ (get_or roots i d).0 = rw (slice_get-get_or roots i d h) at named in
    let same_id : id ≡ (get_or roots i d).1 = rw (slice_get-get_or roots i d h) at held in
    let pair : ◌≡◌ {A = List ℕ × ℕ} (name, id) (get_or roots i d) = ap (λ (n : List ℕ). (n, id)) same_name ∙ ap (λ (k : ℕ). ((get_or roots i d).0, k)) same_id in
    let more = take_more roots i d h in
    cc

-- an object, by what is read of it
pub object_shown : (kinds : List (List ℕ)) (cells : List (Option Resident)) (o : Resident) (id : ℕ) (kind : List ℕ) (slots : List (Option ℕ)) →
    id ≡ o.id → slice_get kinds o.kind ≡ Some kind → slots ≡ map (λ s. edge_of (slot_of cells s)) o.slots →
    ◌≡◌ {A = ObjectView} (record { id = id; kind = kind; slots = slots }) (object_view (object_of kinds cells o))
object_shown kinds cells o id kind slots same named shown =
    let with_id : ℕ → ObjectView = λ i. record { id = i; kind = kind; slots = slots } in
    let with_kind : List ℕ → ObjectView = λ n. record { id = o.id; kind = n; slots = slots } in
    let with_slots : List (Option ℕ) → ObjectView = λ l. record { id = o.id; kind = get_or kinds o.kind []; slots = l } in
    ap with_id same
    ∙ ap with_kind (sym (get_or_from_slice_get kinds o.kind kind [] named))
    ∙ ap with_slots (shown ∙ sym (map-map edge_of (slot_of cells) o.slots))

-- the object in the cell of an id
pub placed_shown : (kinds : List (List ℕ)) (cells : List (Option Resident)) (ids : List (ℕ × ℕ)) (place cell : ℕ) (o : Resident) (d : ℕ × ℕ) →
    place < length ids → IfSome (slice_get ids place) (λ e. cell ≡ e.1) → held_at cells cell ≡ Some o →
    object_view (object_of kinds cells o) ≡ object_view (object_at_cell kinds cells (get_or ids place d).1)
placed_shown kinds cells ids place cell o d h is held =
    ap (λ (q : Option Resident). object_view (object_of kinds cells (unwrap_or q nobody))) (sym held)
    ∙ ap (λ c. object_view (object_at_cell kinds cells c)) (place_cell cells ids place cell h is d)

pub table_shown : (p : TableParts) (objects : List ObjectView) (roots : List (List ℕ × ℕ)) →
    objects ≡ map (λ e. object_view (object_at_cell p.kinds p.cells e.1)) p.ids → roots ≡ p.roots →
    ◌≡◌ {A = HeapView} (record { objects = objects; roots = roots }) (heap_view (placed_of p).table)
table_shown p objects roots shown named =
    let with_objects : List ObjectView → HeapView = λ l. record { objects = l; roots = roots } in
    let with_roots : List (List ℕ × ℕ) → HeapView = λ r. record { objects = map object_view (placed_of p).table.objects; roots = r } in
    ap with_objects (shown ∙ sym (map-map object_view (λ (e : ℕ × ℕ). object_at_cell p.kinds p.cells e.1) p.ids)) ∙ ap with_roots named
