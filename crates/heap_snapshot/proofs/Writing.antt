-- How the text that is written of a list grows by an element.
use Rattle.std.proofs.Common.{◌≡◌, ℕ, ◌+◌, ◌<◌, List, [], ◌∷◌, ◌++◌, length, take, get_or, map, Option, Some, sym, refl, ap, ◌∙◌, arith, append_assoc, append-nil, slice_get, length-take-le, zero-add}
use Rattle.std.proofs.lemmas.List.{take_more, map-append}
use Rattle.std.proofs.lemmas.Option.{slice_get_within, get_or_from_slice_get}
use Rattle.std.proofs.lemmas.Grind.{flat_map-append}
use Rattle.std.specs.List.{flat_map}
use Rattle.graph_meaning.specs.declared.views.ObjectView.{ObjectView}
use Rattle.heap_snapshot.specs.declared.line.Line.{Line}
use Rattle.heap_snapshot.specs.Lines.{line_bytes}
use Rattle.heap_snapshot.specs.Text.{lines_of_object, line_of_root, slot_line, lines_of_slots}

take_next : {X : Type 0} (xs : List X) (i : ℕ) (x : X) → slice_get xs i ≡ Some x → take (i + 1) xs ≡ take i xs ++ x ∷ []
take_next xs i x is =
    let within : i < length xs = slice_get_within xs i x is in
    let same : get_or xs i x ≡ x = get_or_from_slice_get xs i x x is in
    rw (take_more xs i x within, same) refl

-- the lines of two lists of slots, one behind the other
pub slot_lines-append : (slot : ℕ) (xs ys : List (Option ℕ)) → lines_of_slots slot (xs ++ ys) ≡ lines_of_slots slot xs ++ lines_of_slots (slot + length xs) ys
slot_lines-append slot [] ys = ap (λ n. lines_of_slots n ys) (omega arith)
slot_lines-append slot (x ∷ xs) ys =
    ap (λ (ls : List Line). slot_line slot x ++ ls) (slot_lines-append (slot + 1) xs ys)
    ∙ sym (append_assoc (slot_line slot x) (lines_of_slots (slot + 1) xs) (lines_of_slots (slot + 1 + length xs) ys))
    ∙ ap (λ n. (slot_line slot x ++ lines_of_slots (slot + 1) xs) ++ lines_of_slots n ys) (omega arith)

-- the text of some lines, and then of others
pub more_lines : (text : List ℕ) (xs ys zs : List Line) → zs ≡ xs ++ ys → (text ++ flat_map line_bytes xs) ++ flat_map line_bytes ys ≡ text ++ flat_map line_bytes zs
more_lines text xs ys zs is =
    append_assoc text (flat_map line_bytes xs) (flat_map line_bytes ys)
    ∙ ap (λ (t : List ℕ). text ++ t) (sym (flat_map-append line_bytes xs ys) ∙ ap (flat_map line_bytes) (sym is))

pub next_object : (objects : List ObjectView) (i : ℕ) (o : ObjectView) → slice_get objects i ≡ Some o →
    flat_map lines_of_object (take (i + 1) objects) ≡ flat_map lines_of_object (take i objects) ++ lines_of_object o
next_object objects i o is =
    ap (flat_map lines_of_object) (take_next objects i o is) ∙ flat_map-append lines_of_object (take i objects) (o ∷ [])
    ∙ ap (λ (ls : List Line). flat_map lines_of_object (take i objects) ++ ls) (append-nil (lines_of_object o))

pub next_slot : (slots : List (Option ℕ)) (i : ℕ) (held : Option ℕ) → slice_get slots i ≡ Some held → lines_of_slots 0 (take (i + 1) slots) ≡ lines_of_slots 0 (take i slots) ++ slot_line i held
next_slot slots i held is =
    let within : i < length slots = slice_get_within slots i held is in
    let count : length (take i slots) ≡ i = length-take-le i slots (omega arith) in
    ap (lines_of_slots 0) (take_next slots i held is) ∙ slot_lines-append 0 (take i slots) (held ∷ [])
    ∙ ap (λ n. lines_of_slots 0 (take i slots) ++ lines_of_slots n (held ∷ [])) (zero-add (length (take i slots)) ∙ count)
    ∙ ap (λ (ls : List Line). lines_of_slots 0 (take i slots) ++ ls) (append-nil (slot_line i held))

pub next_root : (roots : List (List ℕ × ℕ)) (i : ℕ) (r : List ℕ × ℕ) → slice_get roots i ≡ Some r → map line_of_root (take (i + 1) roots) ≡ map line_of_root (take i roots) ++ line_of_root r ∷ []
next_root roots i r is = ap (map line_of_root) (take_next roots i r is) ∙ map-append line_of_root (take i roots) (r ∷ [])
