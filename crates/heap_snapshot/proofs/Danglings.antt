-- Where a search for references to objects that aren't there goes on.
use Rattle.std.proofs.Common.{◌≡◌, ℕ, ◌+◌, ◌<◌, ◌≤◌, eqb, true, false, List, [], ◌∷◌, ◌++◌, length, take, drop, get_or, map, Option, None, Some}
use Rattle.std.proofs.Common.{Result, Ok, Err, sym, refl, ap, ◌∙◌, subst, arith, add-one, append_assoc, drop-cons, slice_get, AllPairs, MatchResult}
use Rattle.std.proofs.Common.{IfOk, suc, inl, inr, ⊎_elim, ◌⊎◌}
use Rattle.std.specs.Bool.{⊤}
use Rattle.std.specs.List.{flat_map}
use Rattle.std.specs.Ordering.{nat_cmp}
use Rattle.std.specs.List.Sorted.{IsBinarySearchResult}
use Rattle.std.proofs.lemmas.Bool.{ne_eqb, or_from, cases_lt}
use Rattle.std.proofs.lemmas.Option.{slice_get_within, get_or_from_slice_get}
use Rattle.std.proofs.lemmas.List.{take_more, map-append}
use Rattle.std.proofs.lemmas.List.Sorted.{searched}
use Rattle.graph_meaning.specs.declared.views.HeapView.{HeapView}
use Rattle.graph_meaning.specs.declared.views.ObjectView.{ObjectView}
use Rattle.graph_meaning.specs.Reach.{has_id}
use Rattle.graph_meaning.proofs.Membership.{All-has_id}
use Rattle.heap_snapshot.specs.declared.dangling.DanglingReference.{DanglingReference}
use Rattle.heap_snapshot.specs.declared.line.Line.{Line}
use Rattle.heap_snapshot.specs.declared.line.Line.TheVariants.{Head, Object, Slot, End}
use Rattle.heap_snapshot.specs.Text.{lines_of, lines_within, lines_of_object, line_of_root, slot_line, lines_of_slots}
use Rattle.heap_snapshot.specs.Dangling.{first_of, target_in, dangling_at, dangling_from, Passes, FindsDangling}

-- what stands from a place on
pub drop_at : {X : Type 0} (xs : List X) (i : ℕ) (x : X) → slice_get xs i ≡ Some x → drop i xs ≡ x ∷ drop (i + 1) xs
drop_at xs i x is =
    let within : i < length xs = slice_get_within xs i x is in
    let same : get_or xs i x ≡ x = get_or_from_slice_get xs i x x is in
    rw (add-one, drop-cons xs i x within, same) refl

-- what is made of one element more
pub map_take_next : {X Y : Type 0} (f : X → Y) (xs : List X) (i : ℕ) (x : X) → slice_get xs i ≡ Some x → map f (take (i + 1) xs) ≡ map f (take i xs) ++ f x ∷ []
map_take_next f xs i x is =
    let within : i < length xs = slice_get_within xs i x is in
    let same : get_or xs i x ≡ x = get_or_from_slice_get xs i x x is in
    rw (take_more xs i x within, same) (map-append f (take i xs) (x ∷ []))

-- ---- ids

below_or_at : (i j : ℕ) → i ≤ j → (i ≡ j) ⊎ (i < j)
below_or_at i j le = ⊎_elim (λ (less : i < j). inr less) (λ (ge : j ≤ i). inl (omega arith)) (cases_lt i j)

absent : (xs : List ℕ) (x : ℕ) → ((k : ℕ) → k < length xs → get_or xs k 0 ≡ x → ⊥) → has_id xs x ≡ false
absent [] x never = refl
absent (y ∷ xs) x never =
    or_from (eqb y x) (has_id xs x) (ne_eqb y x (never 0 (omega arith)))
    (absent xs x (λ k within. never (suc k) (omega arith)))

rises_at : (xs : List ℕ) → AllPairs (λ x y. x < y) xs → (i j : ℕ) → i ≤ j → j < length xs → get_or xs i 0 ≤ get_or xs j 0
rises_at xs rising i j le within =
    ⊎_elim (λ (same : i ≡ j). omega (arith, ap (λ k. get_or xs k 0) same)) (λ (less : i < j). let low = rising i j 0 less within in omega arith) (below_or_at i j le)

-- what `binary_search` answers among ids that rise
pub has_id-searched : (xs : List ℕ) (x : ℕ) (r : Result ℕ ℕ) → IsBinarySearchResult (λ y. nat_cmp y x) xs r → AllPairs (λ x y. x < y) xs
    → MatchResult r (λ i. has_id xs x ≡ true) (λ i. has_id xs x ≡ false)
has_id-searched xs x (Ok i) is rising =
    let found = searched xs x (Ok i) is (λ i j le within. rises_at xs rising i j le within) in
    subst (λ y. has_id xs y ≡ true) found.1 (All-has_id xs i 0 found.0)
has_id-searched xs x (Err i) is rising =
    let parts = searched xs x (Err i) is (λ i j le within. rises_at xs rising i j le within) in
    absent xs x (λ k within same. ⊎_elim (λ (low : k < i). let below = parts.1 k low in omega arith) (λ (high : i ≤ k). let above = parts.2 k high within in omega arith) (cases_lt k i))

-- ---- a line

pub dangling-end : (ids : List ℕ) (line : ℕ) → dangling_from ids line (End ∷ []) ≡ None
unfolding dangling_from
dangling-end ids line = refl

pub dangling-nothing : (ids : List ℕ) (line : ℕ) (l : Line) (lines : List Line) → target_in l ≡ None → dangling_from ids line (l ∷ lines) ≡ dangling_from ids (line + 1) lines
unfolding dangling_from
dangling-nothing ids line l lines none = ap (λ (t : Option ℕ). first_of (dangling_at ids line t) (dangling_from ids (line + 1) lines)) none

pub dangling-live : (ids : List ℕ) (line : ℕ) (l : Line) (lines : List Line) → dangling_at ids line (target_in l) ≡ None → dangling_from ids line (l ∷ lines) ≡ dangling_from ids (line + 1) lines
unfolding dangling_from
dangling-live ids line l lines none = ap (λ (o : Option (ℕ × ℕ)). first_of o (dangling_from ids (line + 1) lines)) none

pub dangling-here : (ids : List ℕ) (line : ℕ) (l : Line) (lines : List Line) (found : ℕ × ℕ) → dangling_at ids line (target_in l) ≡ Some found → dangling_from ids line (l ∷ lines) ≡ Some found
unfolding dangling_from
dangling-here ids line l lines found is = ap (λ (o : Option (ℕ × ℕ)). first_of o (dangling_from ids (line + 1) lines)) is

-- ---- at a place of a list

module _ (ids : List ℕ) (line : ℕ) where
  pub at_slot : (slots : List (Option ℕ)) (place : ℕ) (held : Option ℕ) (rest : List Line) → slice_get slots place ≡ Some held
      → dangling_from ids line (lines_of_slots place (drop place slots) ++ rest) ≡ dangling_from ids line (slot_line place held ++ (lines_of_slots (place + 1) (drop (place + 1) slots) ++ rest))
  at_slot slots place held rest is =
      ap (λ (xs : List (Option ℕ)). dangling_from ids line (lines_of_slots place xs ++ rest)) (drop_at slots place held is)
      ∙ ap (dangling_from ids line) (append_assoc (slot_line place held) (lines_of_slots (place + 1) (drop (place + 1) slots)) rest)

  pub at_object : (objects : List ObjectView) (place : ℕ) (o : ObjectView) (rest : List Line) → slice_get objects place ≡ Some o
      →
      dangling_from ids line (flat_map lines_of_object (drop place objects) ++ rest)
      ≡ dangling_from ids (line + 1) (lines_of_slots 0 o.slots ++ (flat_map lines_of_object (drop (place + 1) objects) ++ rest))
  at_object objects place o rest is =
      ap (λ (xs : List ObjectView). dangling_from ids line (flat_map lines_of_object xs ++ rest)) (drop_at objects place o is)
      ∙ ap (dangling_from ids line) (append_assoc (lines_of_object o) (flat_map lines_of_object (drop (place + 1) objects)) rest)
      ∙ dangling-nothing ids line (Object o.id (length o.slots) o.kind) (lines_of_slots 0 o.slots ++ (flat_map lines_of_object (drop (place + 1) objects) ++ rest)) refl

  pub at_root : (roots : List (List ℕ × ℕ)) (place : ℕ) (r : List ℕ × ℕ) → slice_get roots place ≡ Some r
      → dangling_from ids line (map line_of_root (drop place roots) ++ End ∷ []) ≡ dangling_from ids line (line_of_root r ∷ (map line_of_root (drop (place + 1) roots) ++ End ∷ []))
  at_root roots place r is = ap (λ (xs : List (List ℕ × ℕ)). dangling_from ids line (map line_of_root xs ++ End ∷ [])) (drop_at roots place r is)

-- ---- the answers

-- a slot that holds an object
pub passes_slot : (ids : List ℕ) (line to : ℕ) (r : Result ℕ DanglingReference) → Passes r (dangling_at ids line (Some to)) (λ next. None) → IfOk r (λ next. next ≡ line + 1)
    → (place : ℕ) (rest : List Line) → Passes r (dangling_from ids line (slot_line place (Some to) ++ rest)) (λ next. dangling_from ids next rest)
passes_slot ids line to (Ok next) found is place rest =
    dangling-live ids line (Slot place to) rest found ∙ ap (λ n. dangling_from ids n rest) (sym is)
passes_slot ids line to (Err d) found is place rest = dangling-here ids line (Slot place to) rest (d.line, d.to) found

-- from the objects on
pub in_view : (ids : List ℕ) (v : HeapView) → dangling_from ids 1 (lines_of v) ≡ dangling_from ids 2 (flat_map lines_of_object v.objects ++ (map line_of_root v.roots ++ End ∷ []))
in_view ids v =
    dangling-nothing ids 1 Head (lines_within v.objects v.roots ++ End ∷ []) refl
    ∙ ap (dangling_from ids 2) (append_assoc (flat_map lines_of_object v.objects) (map line_of_root v.roots) (End ∷ []))

pub finds_in_roots : (ids : List ℕ) (v : HeapView) (line : ℕ) (r : Result ⊤ DanglingReference) →
    ((rest : List Line) → dangling_from ids 2 (flat_map lines_of_object v.objects ++ rest) ≡ dangling_from ids line rest)
    → FindsDangling r (dangling_from ids line (map line_of_root v.roots ++ End ∷ [])) → FindsDangling r (dangling_from ids 1 (lines_of v))
finds_in_roots ids v line (Ok all) passed found = in_view ids v ∙ passed (map line_of_root v.roots ++ End ∷ []) ∙ found
finds_in_roots ids v line (Err d) passed found = in_view ids v ∙ passed (map line_of_root v.roots ++ End ∷ []) ∙ found
