-- A lawful view is well formed.
use Rattle.std.proofs.Common.{◌≡◌, ℕ, ◌+◌, ◌-◌, ◌≤◌, Bool, true, false, IsTrue, cond, List, [], ◌∷◌, ◌++◌, length, map, replicate, Option, None}
use Rattle.std.proofs.Common.{Some, IfSome, Result, Ok, All, sym, refl, ap, ◌∙◌, subst, arith, append-nil, length-append, slice_get, suc}
use Rattle.std.specs.Prelude.{sum_by}
use Rattle.std.specs.List.{flat_map}
use Rattle.std.specs.List.Sorted.{IsStrictlySortedBy}
use Rattle.std.specs.Map.{keys_of}
use Rattle.std.specs.Option.{option_map_or}
use Rattle.std.specs.Ordering.{is_lt}
use Rattle.std.specs.declared.cmp.Ordering.{Ordering}
use Rattle.std.specs.declared.cmp.Ordering.TheVariants.{Less, Equal, Greater}
use Rattle.std.proofs.lemmas.Bool.{false≢true, and_parts}
use Rattle.std.proofs.lemmas.Cmp.{nat_list_cmp_total}
use Rattle.std.proofs.lemmas.List.{length-replicate, map-append}
use Rattle.std.proofs.lemmas.List.Elements.{All-nil, All-cons, All-head, All-tail, All-push, All-from_recursion, recursion_from_All}
use Rattle.std.proofs.lemmas.List.Sums.{sum_by-append}
use Rattle.std.proofs.lemmas.Map.Keys.{sorted_head, sorted_tail}
use Rattle.std.proofs.lemmas.Option.{cond_some, none-some}
use Rattle.graph_meaning.specs.Heap.{name_cmp}
use Rattle.graph_meaning.specs.Reach.{has_id}
use Rattle.graph_meaning.specs.declared.views.ObjectView.{ObjectView}
use Rattle.graph_meaning.specs.declared.views.HeapView.{HeapView}
use Rattle.heap_snapshot.specs.declared.line.Line.{Line}
use Rattle.heap_snapshot.specs.declared.line.Line.TheVariants.{Head, Object, Slot, Root, End}
use Rattle.heap_snapshot.specs.declared.stage.OpenObject.{OpenObject}
use Rattle.heap_snapshot.specs.declared.stage.Stage.{Stage}
use Rattle.heap_snapshot.specs.declared.stage.Stage.TheVariants.{Empty, Begun, InObject, InRoots, Ended}
use Rattle.heap_snapshot.specs.Bounds.{IsWithin, IsBounded}
use Rattle.heap_snapshot.specs.Dangling.{object_ids, target_in, dangling_at, dangling_from, first_of, first_dangling}
use Rattle.heap_snapshot.specs.Formed.{IsWellFormed, LawfulIsWellFormed, kind_names}
use Rattle.heap_snapshot.specs.Reading.{Refusal, unless_dangling, view_read}
use Rattle.heap_snapshot.specs.Table.{Reading, nothing_read, whole_object, open_objects, objects_read, is_empty, is_ended, is_under_way, may_add}
use Rattle.heap_snapshot.specs.Table.{after_object_line, may_fill, after_slot_line, take_slot, last_name, may_root, after_root_line, closed_reading, take_line}
use Rattle.heap_snapshot.specs.Text.{lines_of, lines_within, lines_of_object, lines_of_slots, line_of_root}
use Rattle.heap_snapshot.proofs.Bounded.{bounded_nothing, bounded_more, ended_objects, ended_few, ended_rising}
use Rattle.heap_snapshot.proofs.Legal.{Legal, IsLegalObject, legal_nothing, legal_more}
use Rattle.heap_snapshot.proofs.Texts.{IsSaid, by_reading_text}
use Rattle.heap_base.specs.declared.limits.TheConstants.{MOST_KINDS}

-- ---- what each line keeps

abbrev pub slot_total : List ObjectView → ℕ
slot_total objects = sum_by (λ (o : ObjectView). length o.slots) objects

abbrev open_count : Stage → ℕ
open_count Empty = 0
open_count Begun = 0
open_count (InObject o) = o.slots
open_count InRoots = 0
open_count Ended = 0

-- the slots are counted, and the names of the roots rise
record Keeps (r : Reading) : Type 0 where
  bounded : IsBounded r
  counted : r.slots ≡ slot_total r.objects + open_count r.stage
  names : IsStrictlySortedBy name_cmp (keys_of r.roots)
  legal : Legal r

-- ---- slots

whole_count : (o : OpenObject) → length o.filled ≤ o.slots → length (o.filled ++ replicate (o.slots - length o.filled) None) ≡ o.slots
whole_count o within = omega (arith, length-append o.filled (replicate (o.slots - length o.filled) None), length-replicate {A = Option ℕ} (o.slots - length o.filled) None)

total_read : (objects : List ObjectView) (stage : Stage) → IsWithin stage → slot_total (objects ++ open_objects stage) ≡ slot_total objects + open_count stage
total_read objects Empty within = ap slot_total (append-nil objects) ∙ omega arith
total_read objects Begun within = ap slot_total (append-nil objects) ∙ omega arith
total_read objects (InObject o) within =
    sum_by-append (λ (x : ObjectView). length x.slots) objects (whole_object o ∷ []) ∙ omega (arith, whole_count o within)
total_read objects InRoots within = ap slot_total (append-nil objects) ∙ omega arith
total_read objects Ended within = ap slot_total (append-nil objects) ∙ omega arith

-- the slots of all that was read
total : (r : Reading) → Keeps r → slot_total (objects_read r) ≡ r.slots
total r keeps = total_read r.objects r.stage keeps.bounded.filled ∙ sym keeps.counted

-- ---- names

less_from : (o : Ordering) → is_lt o ≡ true → o ≡ Less
less_from Less is = refl
less_from Equal is = absurd (false≢true is)
less_from Greater is = absurd (false≢true is)

sorted_cons : (name : List ℕ) (names : List (List ℕ)) → All (λ y. name_cmp name y ≡ Less) names → IsStrictlySortedBy name_cmp names → IsStrictlySortedBy name_cmp (name ∷ names)
unfolding IsStrictlySortedBy
sorted_cons name names below sorted = (recursion_from_All (λ y. name_cmp name y ≡ Less) names below, sorted)

sorted_nil : IsStrictlySortedBy name_cmp []
unfolding IsStrictlySortedBy
sorted_nil = tt

pub below_all : (name : List ℕ) (names : List (List ℕ)) → IsStrictlySortedBy name_cmp (name ∷ names) → All (λ y. name_cmp name y ≡ Less) names
below_all name names sorted = All-from_recursion (λ y. name_cmp name y ≡ Less) names (sorted_head name_cmp name names sorted)

pub last_more : (r q : List ℕ × ℕ) (roots : List (List ℕ × ℕ)) → last_name (r ∷ q ∷ roots) ≡ last_name (q ∷ roots)
last_more r q roots =
    let all : length (r ∷ q ∷ roots) - 1 ≡ suc (length roots) = omega arith in
    let later : length (q ∷ roots) - 1 ≡ length roots = omega arith in
    ap (λ i. option_map_or (λ (e : List ℕ × ℕ). e.0) (slice_get (r ∷ q ∷ roots) i) []) all
    ∙ sym (ap (λ i. option_map_or (λ (e : List ℕ × ℕ). e.0) (slice_get (q ∷ roots) i) []) later)

-- a name above the last
sorted_more : (roots : List (List ℕ × ℕ)) (name : List ℕ) → IsStrictlySortedBy name_cmp (keys_of roots) →
    is_lt (name_cmp (last_name roots) name) ≡ true →
    IsStrictlySortedBy name_cmp (keys_of roots ++ name ∷ []) × All (λ y. name_cmp y name ≡ Less) (keys_of roots)
sorted_more [] name sorted above = (sorted_cons name [] (All-nil _) sorted_nil, All-nil _)
sorted_more (r ∷ []) name sorted above =
    let less : name_cmp r.0 name ≡ Less = less_from (name_cmp r.0 name) above in (
      sorted_cons r.0 (name ∷ []) (All-cons (λ y. name_cmp r.0 y ≡ Less) name [] less (All-nil _)) (sorted_cons name [] (All-nil _) sorted_nil),
      All-cons (λ y. name_cmp y name ≡ Less) r.0 [] less (All-nil _),
    )
sorted_more (r ∷ q ∷ roots) name sorted above =
    let later = sorted_more (q ∷ roots) name (sorted_tail name_cmp r.0 (keys_of (q ∷ roots)) sorted) (ap (λ (n : List ℕ). is_lt (name_cmp n name)) (sym (last_more r q roots)) ∙ above) in
    let first = below_all r.0 (keys_of (q ∷ roots)) sorted in
    let next : name_cmp q.0 name ≡ Less = All-head (λ y. name_cmp y name ≡ Less) q.0 (keys_of roots) later.1 in
    let less : name_cmp r.0 name ≡ Less = nat_list_cmp_total.trans r.0 q.0 name (All-head (λ y. name_cmp r.0 y ≡ Less) q.0 (keys_of roots) first) next in (
      sorted_cons r.0 (keys_of (q ∷ roots) ++ name ∷ []) (All-push (λ y. name_cmp r.0 y ≡ Less) (keys_of (q ∷ roots)) name first less) later.0,
      All-cons (λ y. name_cmp y name ≡ Less) r.0 (keys_of (q ∷ roots)) less later.1,
    )

-- ---- each line

empty_count : (stage : Stage) → is_empty stage ≡ true → open_count stage ≡ 0
empty_count Empty is = refl
empty_count Begun is = absurd (false≢true is)
empty_count (InObject o) is = absurd (false≢true is)
empty_count InRoots is = absurd (false≢true is)
empty_count Ended is = absurd (false≢true is)

slot_keeps : (r : Reading) (slot to : ℕ) (stage : Stage) (s : Reading) → r.stage ≡ stage → take_slot r slot to stage ≡ Some s →
    r.slots ≡ slot_total r.objects + open_count r.stage → IsStrictlySortedBy name_cmp (keys_of r.roots)
    → (s.slots ≡ slot_total s.objects + open_count s.stage) × IsStrictlySortedBy name_cmp (keys_of s.roots)
slot_keeps r slot to Empty s at taken counted names = absurd (none-some s taken)
slot_keeps r slot to Begun s at taken counted names = absurd (none-some s taken)
slot_keeps r slot to (InObject o) s at taken counted names =
    let parts = cond_some (may_fill o slot) (record r { stage = InObject (after_slot_line o slot to) }) s taken in
    let same : r.slots ≡ slot_total r.objects + o.slots = counted ∙ ap (λ (t : Stage). slot_total r.objects + open_count t) at in
    subst (λ (x : Reading). (x.slots ≡ slot_total x.objects + open_count x.stage) × IsStrictlySortedBy name_cmp (keys_of x.roots)) parts.1 (same, names)
slot_keeps r slot to InRoots s at taken counted names = absurd (none-some s taken)
slot_keeps r slot to Ended s at taken counted names = absurd (none-some s taken)

above_of : (r : Reading) (name : List ℕ) → may_root r name ≡ true → is_lt (name_cmp (last_name r.roots) name) ≡ true
unfolding may_root
above_of r name may = (and_parts _ _ (and_parts _ _ may).0).1

counts_more : (r : Reading) (line : Line) (s : Reading) → take_line r line ≡ Some s → Keeps r → (s.slots ≡ slot_total s.objects + open_count s.stage) × IsStrictlySortedBy name_cmp (keys_of s.roots)
unfolding take_line
counts_more r Head s taken keeps =
    let parts = cond_some (is_empty r.stage) (record r { stage = Begun }) s taken in
    subst (λ (x : Reading). (x.slots ≡ slot_total x.objects + open_count x.stage) × IsStrictlySortedBy name_cmp (keys_of x.roots)) parts.1
    (keeps.counted ∙ ap (λ n. slot_total r.objects + n) (empty_count r.stage parts.0), keeps.names)
counts_more r (Object id slots kind) s taken keeps =
    let parts = cond_some (may_add r id slots kind) (after_object_line r id slots kind) s taken in
    subst (λ (x : Reading). (x.slots ≡ slot_total x.objects + open_count x.stage) × IsStrictlySortedBy name_cmp (keys_of x.roots)) parts.1
    (ap (λ n. n + slots) (sym (total r keeps)), keeps.names)
counts_more r (Slot slot to) s taken keeps = slot_keeps r slot to r.stage s refl taken keeps.counted keeps.names
counts_more r (Root to name) s taken keeps =
    let parts = cond_some (may_root r name) (after_root_line r name to) s taken in
    let keys : keys_of (r.roots ++ (name, to) ∷ []) ≡ keys_of r.roots ++ name ∷ [] = map-append (λ (e : List ℕ × ℕ). e.0) r.roots ((name, to) ∷ []) in
    subst (λ (x : Reading). (x.slots ≡ slot_total x.objects + open_count x.stage) × IsStrictlySortedBy name_cmp (keys_of x.roots)) parts.1
    (omega (arith, total r keeps), subst (IsStrictlySortedBy name_cmp) (sym keys) (sorted_more r.roots name keeps.names (above_of r name parts.0)).0)
counts_more r End s taken keeps =
    let parts = cond_some (is_under_way r.stage) (closed_reading r) s taken in
    subst (λ (x : Reading). (x.slots ≡ slot_total x.objects + open_count x.stage) × IsStrictlySortedBy name_cmp (keys_of x.roots)) parts.1
    (omega (arith, total r keeps), keeps.names)

keeps_more : (r : Reading) (line : Line) (s : Reading) → IsSaid line → take_line r line ≡ Some s → Keeps r → Keeps s
keeps_more r line s said taken keeps =
    let counts = counts_more r line s taken keeps in
    record {
      bounded = bounded_more r line s taken keeps.bounded;
      counted = counts.0;
      names = counts.1;
      legal = legal_more r line s said taken keeps.legal;
    }

keeps_nothing : Keeps nothing_read
keeps_nothing = record { bounded = bounded_nothing; counted = refl; names = sorted_nil; legal = legal_nothing }

-- ---- what is referred to

abbrev Refers : List ℕ → Option ℕ → Type 0
Refers ids held = IfSome held (λ to. IsTrue (has_id ids to))

live_at : (ids : List ℕ) (line : ℕ) (held : Option ℕ) → dangling_at ids line held ≡ None → Refers ids held
live_at ids line None none = tt
live_at ids line (Some to) none = by (has_id ids to) (line, to) none
  where
    by : (b : Bool) (found : ℕ × ℕ) → cond b None (Some found) ≡ None → IsTrue b
    by true found none = refl
    by false found none = absurd (none-some found (sym none))

none_first : {A : Type 0} (first second : Option A) → first_of first second ≡ None → (first ≡ None) × (second ≡ None)
none_first None second none = (refl, none)
none_first (Some x) second none = absurd (none-some x (sym none))

none_dangles : (ids : List ℕ) (line : ℕ) (lines : List Line) → dangling_from ids line lines ≡ None → All (λ l. Refers ids (target_in l)) lines
unfolding dangling_from
none_dangles ids line [] none = All-nil _
none_dangles ids line (l ∷ lines) none =
    let parts = none_first (dangling_at ids line (target_in l)) (dangling_from ids (line + 1) lines) none in
    All-cons (λ (l : Line). Refers ids (target_in l)) l lines (live_at ids line (target_in l) parts.0) (none_dangles ids (line + 1) lines parts.1)

-- both parts of a list
pub All-parts : {X : Type 0} (Q : X → Type 0) (xs ys : List X) → All Q (xs ++ ys) → All Q xs × All Q ys
All-parts Q [] ys all = (All-nil Q, all)
All-parts Q (x ∷ xs) ys all =
    let later = All-parts Q xs ys (All-tail Q x (xs ++ ys) all) in (All-cons Q x xs (All-head Q x (xs ++ ys) all) later.0, later.1)

slots_refer : (ids : List ℕ) (slot : ℕ) (slots : List (Option ℕ)) → All (λ l. Refers ids (target_in l)) (lines_of_slots slot slots) → All (Refers ids) slots
slots_refer ids slot [] all = All-nil _
slots_refer ids slot (None ∷ slots) all = All-cons (Refers ids) None slots tt (slots_refer ids (slot + 1) slots all)
slots_refer ids slot (Some to ∷ slots) all =
    All-cons (Refers ids) (Some to) slots (All-head (λ l. Refers ids (target_in l)) (Slot slot to) (lines_of_slots (slot + 1) slots) all)
    (slots_refer ids (slot + 1) slots (All-tail (λ l. Refers ids (target_in l)) (Slot slot to) (lines_of_slots (slot + 1) slots) all))

objects_refer : (ids : List ℕ) (objects : List ObjectView) → All (λ l. Refers ids (target_in l)) (flat_map lines_of_object objects) → All (λ (o : ObjectView). All (Refers ids) o.slots) objects
objects_refer ids [] all = All-nil _
objects_refer ids (o ∷ objects) all =
    let parts = All-parts (λ l. Refers ids (target_in l)) (lines_of_object o) (flat_map lines_of_object objects) all in
    All-cons (λ (o : ObjectView). All (Refers ids) o.slots) o objects
    (slots_refer ids 0 o.slots (All-tail (λ l. Refers ids (target_in l)) (Object o.id (length o.slots) o.kind) (lines_of_slots 0 o.slots) parts.0))
    (objects_refer ids objects parts.1)

roots_refer : (ids : List ℕ) (roots : List (List ℕ × ℕ)) → All (λ l. Refers ids (target_in l)) (map line_of_root roots) → All (λ (r : List ℕ × ℕ). IsTrue (has_id ids r.1)) roots
roots_refer ids [] all = All-nil _
roots_refer ids (r ∷ roots) all =
    All-cons (λ (r : List ℕ × ℕ). IsTrue (has_id ids r.1)) r roots (All-head (λ l. Refers ids (target_in l)) (line_of_root r) (map line_of_root roots) all)
    (roots_refer ids roots (All-tail (λ l. Refers ids (target_in l)) (line_of_root r) (map line_of_root roots) all))

-- ---- the view

ended_count : (stage : Stage) → is_ended stage ≡ true → open_count stage ≡ 0
ended_count Empty is = absurd (false≢true is)
ended_count Begun is = absurd (false≢true is)
ended_count (InObject o) is = absurd (false≢true is)
ended_count InRoots is = absurd (false≢true is)
ended_count Ended is = refl

formed : (r : Reading) → Keeps r → is_ended r.stage ≡ true → first_dangling (view_read r) ≡ None → IsWellFormed (view_read r)
formed r keeps end none =
    let ids : List ℕ = object_ids r.objects in
    let all = All-tail (λ l. Refers ids (target_in l)) Head (lines_within r.objects r.roots ++ End ∷ []) (none_dangles ids 1 (lines_of (view_read r)) none) in
    let within = (All-parts (λ l. Refers ids (target_in l)) (lines_within r.objects r.roots) (End ∷ []) all).0 in
    let parts = All-parts (λ l. Refers ids (target_in l)) (flat_map lines_of_object r.objects) (map line_of_root r.roots) within in
    let closed : objects_read r ≡ r.objects = ended_objects r r.stage refl end in
    let counted : r.slots ≡ slot_total r.objects + 0 = keeps.counted ∙ ap (λ n. slot_total r.objects + n) (ended_count r.stage end) in
    record {
      few_objects = ended_few r end keeps.bounded;
      few_slots = omega (arith, counted, keeps.bounded.few_slots);
      few_roots = keeps.bounded.few_roots;
      few_kinds = subst (λ (ks : List (List ℕ)). length ks ≤ MOST_KINDS) (keeps.legal.kinds ∙ ap kind_names closed) keeps.legal.few_kinds;
      objects = subst (All IsLegalObject) closed keeps.legal.objects;
      root_names = keeps.legal.roots;
      ids = ended_rising r end keeps.bounded;
      names = keeps.names;
      slots = objects_refer ids r.objects parts.0;
      roots = roots_refer ids r.roots parts.1;
    }

formed_by : (v w : HeapView) (found : Option (ℕ × ℕ)) → (found ≡ None → IsWellFormed w) → unless_dangling w found ≡ Ok v → IsWellFormed v
formed_by v w None is read = subst IsWellFormed (ok_same w v read) (is refl)
  where
    ok_same : (v w : HeapView) → ◌≡◌ {A = Result HeapView Refusal} (Ok v) (Ok w) → v ≡ w
    ok_same v w is = cc
formed_by v w (Some d) is read = absurd (cc)

pub lawful_is_well_formed : LawfulIsWellFormed
lawful_is_well_formed v lawful =
    by_reading_text lawful.0 Keeps keeps_nothing keeps_more (λ found. found ≡ Ok v → IsWellFormed v) (λ line is. absurd (cc)) (λ line is. absurd (cc))
    (λ r keeps end same. formed_by v (view_read r) (first_dangling (view_read r)) (formed r keeps end)) lawful.1
