-- How what is written of a list grows by an element.
use Rattle.std.proofs.Common.{◌≡◌, ℕ, ◌+◌, ◌<◌, List, [], ◌∷◌, ◌++◌, length, take, get_or, Option, Some, sym, refl, ap, ◌∙◌, arith, append_assoc, append-nil, slice_get, length-take-le, zero-add}
use Rattle.std.proofs.lemmas.List.{take_more, flat_map_more}
use Rattle.std.proofs.lemmas.Option.{slice_get_within, get_or_from_slice_get}
use Rattle.std.specs.List.{flat_map}
use Rattle.heap_snapshot.specs.Trace.{slot_lines, store_line}

take_next : {X : Type 0} (xs : List X) (i : ℕ) (x : X) → slice_get xs i ≡ Some x → take (i + 1) xs ≡ take i xs ++ x ∷ []
take_next xs i x is =
    let within : i < length xs = slice_get_within xs i x is in
    let same : get_or xs i x ≡ x = get_or_from_slice_get xs i x x is in
    rw (take_more xs i x within, same) refl

pub flat_map_take_next : {X A : Type 0} (f : X → List A) (before : List A) (xs : List X) (i : ℕ) (x : X) → slice_get xs i ≡ Some x →
    (before ++ flat_map f (take i xs)) ++ f x ≡ before ++ flat_map f (take (i + 1) xs)
flat_map_take_next f before xs i x is = rw (take_next xs i x is) (flat_map_more f before (take i xs) x)

slot_lines-append : (at slot : ℕ) (xs ys : List (Option ℕ)) → slot_lines at slot (xs ++ ys) ≡ slot_lines at slot xs ++ slot_lines at (slot + length xs) ys
slot_lines-append at slot [] ys = ap (λ n. slot_lines at n ys) (omega arith)
slot_lines-append at slot (x ∷ xs) ys =
    ap (λ t. store_line at slot x ++ t) (slot_lines-append at (slot + 1) xs ys)
    ∙ sym (append_assoc (store_line at slot x) (slot_lines at (slot + 1) xs) (slot_lines at (slot + 1 + length xs) ys))
    ∙ ap (λ n. (store_line at slot x ++ slot_lines at (slot + 1) xs) ++ slot_lines at n ys) (omega arith)

pub slot_lines_take_next : (at : ℕ) (before : List ℕ) (slots : List (Option ℕ)) (i : ℕ) (held : Option ℕ) → slice_get slots i ≡ Some held
    → (before ++ slot_lines at 0 (take i slots)) ++ store_line at i held ≡ before ++ slot_lines at 0 (take (i + 1) slots)
slot_lines_take_next at before slots i held is =
    let within : i < length slots = slice_get_within slots i held is in
    let count : length (take i slots) ≡ i = length-take-le i slots (omega arith) in
    append_assoc before (slot_lines at 0 (take i slots)) (store_line at i held)
    ∙ ap (λ t. before ++ t)
    (sym
    (ap (slot_lines at 0) (take_next slots i held is) ∙ slot_lines-append at 0 (take i slots) (held ∷ [])
    ∙ ap (λ n. slot_lines at 0 (take i slots) ++ slot_lines at n (held ∷ [])) (zero-add (length (take i slots)) ∙ count)
    ∙ ap (λ t. slot_lines at 0 (take i slots) ++ t) (append-nil (store_line at i held))))
