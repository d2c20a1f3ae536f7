-- The lines of a well-formed view may stand where they stand.
use Rattle.std.proofs.Common.{◌≡◌, ℕ, ◌+◌, ◌-◌, ◌<◌, ◌≤◌, ◌||◌, Bool, true, false, cond, ltb, leb, IsTrue, List, [], ◌∷◌, ◌++◌, length, map, replicate}
use Rattle.std.proofs.Common.{get_or, fold, Option, None, Some, All, AllPairs, sym, refl, ap, ◌∙◌, subst, arith, suc, append_assoc, append-nil, length-append}
use Rattle.std.specs.Prelude.{option_and_then}
use Rattle.std.specs.List.{flat_map}
use Rattle.std.specs.List.Sorted.{IsStrictlySortedBy}
use Rattle.std.specs.Map.{keys_of}
use Rattle.std.specs.Ordering.{is_lt}
use Rattle.std.specs.declared.cmp.Ordering.TheVariants.{Less}
use Rattle.std.proofs.lemmas.Bool.{and_from, cond-true, lt-ltb, le-leb}
use Rattle.std.proofs.lemmas.List.{map-append, replicate-append-replicate}
use Rattle.std.proofs.lemmas.List.Elements.{All-nil, All-cons, All-head, All-tail}
use Rattle.std.proofs.lemmas.List.Sums.{sum_by-append, fold-append}
use Rattle.std.proofs.lemmas.Map.Keys.{sorted_tail}
use Rattle.heap_base.specs.Names.{is_name}
use Rattle.heap_base.specs.declared.limits.TheConstants.{USUAL_OBJECTS, USUAL_SLOTS, USUAL_ROOTS, MOST_KINDS}
use Rattle.graph_meaning.specs.Heap.{name_cmp, is_seen}
use Rattle.graph_meaning.specs.Step.{with_kind}
use Rattle.graph_meaning.specs.declared.views.HeapView.{HeapView}
use Rattle.graph_meaning.specs.declared.views.ObjectView.{ObjectView}
use Rattle.heap_snapshot.specs.declared.line.Line.{Line}
use Rattle.heap_snapshot.specs.declared.line.Line.TheVariants.{Head, Object, Slot, End}
use Rattle.heap_snapshot.specs.declared.stage.OpenObject.{OpenObject}
use Rattle.heap_snapshot.specs.declared.stage.Stage.TheVariants.{Begun, InObject}
use Rattle.heap_snapshot.specs.Dangling.{object_ids}
use Rattle.heap_snapshot.specs.Formed.{IsWellFormed, kind_names}
use Rattle.heap_snapshot.specs.Reading.{view_read}
use Rattle.heap_snapshot.specs.Table.{Reading, nothing_read, whole_object, objects_read, is_ended, is_before_roots, is_under_way, may_add}
use Rattle.heap_snapshot.specs.Table.{after_object_line, may_fill, after_slot_line, last_name, may_root, after_root_line, closed_reading, take_line}
use Rattle.heap_snapshot.specs.Text.{lines_of, lines_within, lines_of_object, lines_of_slots, line_of_root}
use Rattle.heap_snapshot.proofs.Formed.{slot_total, below_all, last_more, All-parts}
use Rattle.heap_snapshot.proofs.Legal.{IsLegalObject, IsLegalRoot, kinds-push}
use Rattle.heap_snapshot.proofs.Remaking.{more_kinds, seen}
use Rattle.heap_snapshot.proofs.Roots.{above_nothing}
use Rattle.heap_snapshot.proofs.Sound.{under_way}
use Rattle.heap_snapshot.proofs.WrittenLines.{take_all}

-- ---- slots

-- the filled slots, and empty ones behind them, are these
record Fills (o : OpenObject) (done : List (Option ℕ)) : Type 0 where
  within : length o.filled ≤ length done
  whole : o.filled ++ replicate (length done - length o.filled) None ≡ done

abbrev open_at : Reading → OpenObject → Reading
open_at r o = record r { stage = InObject o }

fills-none : (o : OpenObject) (done : List (Option ℕ)) → Fills o done → Fills o (done ++ None ∷ [])
fills-none o done fills =
    let within = fills.within in
    let count = length-append done (None ∷ []) in
    let gap : ℕ = length done - length o.filled in
    let more : length (done ++ None ∷ []) - length o.filled ≡ gap + 1 = omega (arith, within, count) in
    record {
      within = omega (arith, within, count);
      whole =
          ap (λ n. o.filled ++ replicate n None) more
          ∙ ap (λ (xs : List (Option ℕ)). o.filled ++ xs) (sym (replicate-append-replicate gap 1 None))
          ∙ sym (append_assoc o.filled (replicate gap None) (None ∷ []))
          ∙ ap (λ (xs : List (Option ℕ)). xs ++ None ∷ []) fills.whole;
    }

fills-some : (o : OpenObject) (done : List (Option ℕ)) (to : ℕ) → Fills o done → Fills (after_slot_line o (length done) to) (done ++ Some to ∷ [])
fills-some o done to fills =
    let same : (after_slot_line o (length done) to).filled ≡ done ++ Some to ∷ [] = ap (λ (xs : List (Option ℕ)). xs ++ Some to ∷ []) fills.whole in
    let count = ap (λ (xs : List (Option ℕ)). length xs) same in
    let none : length (done ++ Some to ∷ []) - length (after_slot_line o (length done) to).filled ≡ 0 = omega (arith, count) in
    record {
      within = omega (arith, count);
      whole = ap (λ n. (after_slot_line o (length done) to).filled ++ replicate n None) none ∙ append-nil (after_slot_line o (length done) to).filled ∙ same;
    }

-- the lines of an open object were taken, and its slots are all of these
record Filled (r : Reading) (o : OpenObject) (all : List (Option ℕ)) (lines later : List Line) : Type 0 where
  last : OpenObject
  fills : Fills last all
  id : last.id ≡ o.id
  kind : last.kind ≡ o.kind
  slots : last.slots ≡ o.slots
  taken : take_all (open_at r o) lines ≡ take_all (open_at r last) later

slot_taken : (r : Reading) (o : OpenObject) (slot to : ℕ) → may_fill o slot ≡ true → take_line (open_at r o) (Slot slot to) ≡ Some (open_at r (after_slot_line o slot to))
unfolding take_line
slot_taken r o slot to may = cond-true (may_fill o slot) (Some (open_at r (after_slot_line o slot to))) None may

slots_taken : (r : Reading) (o : OpenObject) (done rest : List (Option ℕ)) (later : List Line) → Fills o done → o.slots ≡ length done + length rest
    → Filled r o (done ++ rest) (lines_of_slots (length done) rest ++ later) later
slots_taken r o done [] later fills many =
    record { last = o; fills = subst (Fills o) (sym (append-nil done)) fills; id = refl; kind = refl; slots = refl; taken = refl }
slots_taken r o done (None ∷ rest) later fills many =
    let count = length-append done (None ∷ []) in
    let more = slots_taken r o (done ++ None ∷ []) rest later (fills-none o done fills) (omega (arith, many, count)) in
    record {
      last = more.last;
      fills = subst (Fills more.last) (append_assoc done (None ∷ []) rest) more.fills;
      id = more.id;
      kind = more.kind;
      slots = more.slots;
      taken = ap (λ n. take_all (open_at r o) (lines_of_slots n rest ++ later)) (sym count) ∙ more.taken;
    }
slots_taken r o done (Some to ∷ rest) later fills many =
    let slot : ℕ = length done in
    let count = length-append done (Some to ∷ []) in
    let within = fills.within in
    let next : OpenObject = after_slot_line o slot to in
    let may : may_fill o slot ≡ true = and_from (ltb slot o.slots) (leb (length o.filled) slot) (lt-ltb slot o.slots (omega (arith, many))) (le-leb (length o.filled) slot within) in
    let more = slots_taken r next (done ++ Some to ∷ []) rest later (fills-some o done to fills) (omega (arith, many, count)) in
    record {
      last = more.last;
      fills = subst (Fills more.last) (append_assoc done (Some to ∷ []) rest) more.fills;
      id = more.id;
      kind = more.kind;
      slots = more.slots;
      taken =
          ap (λ (s : Option Reading). option_and_then (λ (t : Reading). take_all t (lines_of_slots (slot + 1) rest ++ later)) s) (slot_taken r o slot to may)
          ∙ ap (λ n. take_all (open_at r next) (lines_of_slots n rest ++ later)) (sym count)
          ∙ more.taken;
    }

-- ---- objects

-- The objects that were read, where an object line may follow.
record HasObjects (r : Reading) (done : List ObjectView) : Type 0 where
  before : is_before_roots r.stage ≡ true
  objects : objects_read r ≡ done
  roots : r.roots ≡ []
  kinds : r.kinds ≡ kind_names done
  slots : r.slots ≡ slot_total done
  low : (x : ℕ) → 0 < x → All (λ id. id < x) (object_ids done) → r.greatest < x

-- the object may be added to those that were read
record MayAdd (done : List ObjectView) (o : ObjectView) : Type 0 where
  positive : 0 < o.id
  above : All (λ id. id < o.id) (object_ids done)
  few : length done < USUAL_OBJECTS
  room : slot_total done + length o.slots ≤ USUAL_SLOTS
  kinds : length (with_kind (kind_names done) o.kind) ≤ MOST_KINDS

kind_may : (kinds : List (List ℕ)) (kind : List ℕ) → length (with_kind kinds kind) ≤ MOST_KINDS → (is_seen kinds kind || ltb (length kinds) MOST_KINDS) ≡ true
kind_may kinds kind few = go (is_seen kinds kind) few
  where
    go : (b : Bool) → length (cond b kinds (kinds ++ kind ∷ [])) ≤ MOST_KINDS → (b || ltb (length kinds) MOST_KINDS) ≡ true
    go true few = refl
    go false few = lt-ltb (length kinds) MOST_KINDS (omega (arith, few, length-append kinds (kind ∷ [])))

may_be_added : (r : Reading) (done : List ObjectView) (o : ObjectView) → HasObjects r done → MayAdd done o → may_add r o.id (length o.slots) o.kind ≡ true
unfolding may_add
may_be_added r done o has may =
    let low = lt-ltb r.greatest o.id (has.low o.id may.positive may.above) in
    let few = lt-ltb (length (objects_read r)) USUAL_OBJECTS (subst (λ (xs : List ObjectView). length xs < USUAL_OBJECTS) (sym has.objects) may.few) in
    let room = le-leb (r.slots + length o.slots) USUAL_SLOTS (subst (λ n. n + length o.slots ≤ USUAL_SLOTS) (sym has.slots) may.room) in
    let kinds = kind_may r.kinds o.kind (subst (λ (ks : List (List ℕ)). length (with_kind ks o.kind) ≤ MOST_KINDS) (sym has.kinds) may.kinds) in
    and_from _ _ (and_from _ _ (and_from _ _ (and_from _ _ has.before low) few) room) kinds

object_taken : (r : Reading) (o : ObjectView) → may_add r o.id (length o.slots) o.kind ≡ true →
    take_line r (Object o.id (length o.slots) o.kind) ≡ Some (after_object_line r o.id (length o.slots) o.kind)
unfolding take_line
object_taken r o may = cond-true (may_add r o.id (length o.slots) o.kind) (Some (after_object_line r o.id (length o.slots) o.kind)) None may

-- an open object whose slots are all there is the object
is_whole : (p : OpenObject) (o : ObjectView) → p.id ≡ o.id → p.kind ≡ o.kind → p.slots ≡ length o.slots → Fills p o.slots → whole_object p ≡ o
is_whole p o id kind slots fills =
    let all : p.filled ++ replicate (p.slots - length p.filled) None ≡ o.slots = ap (λ n. p.filled ++ replicate (n - length p.filled) None) slots ∙ fills.whole in
    λ i. record { id = id i; kind = kind i; slots = all i }

-- a reading behind these lines
record ReadsObjects (r : Reading) (all : List ObjectView) (lines later : List Line) : Type 0 where
  next : Reading
  has : HasObjects next all
  taken : take_all r lines ≡ take_all next later

one_object : (r : Reading) (done : List ObjectView) (o : ObjectView) (later : List Line) → HasObjects r done → MayAdd done o
    → ReadsObjects r (done ++ o ∷ []) (lines_of_object o ++ later) later
one_object r done o later has may =
    let s : Reading = after_object_line r o.id (length o.slots) o.kind in
    let first : OpenObject = record { id = o.id; slots = length o.slots; kind = o.kind; filled = [] } in
    let filled = slots_taken s first [] o.slots later (record { within = omega arith; whole = refl }) (omega arith) in
    let whole : whole_object filled.last ≡ o = is_whole filled.last o filled.id filled.kind filled.slots filled.fills in
    record {
      next = open_at s filled.last;
      has = record {
        before = refl;
        objects = ap (λ (x : ObjectView). objects_read r ++ x ∷ []) whole ∙ ap (λ (xs : List ObjectView). xs ++ o ∷ []) has.objects;
        roots = has.roots;
        kinds = ap (λ (ks : List (List ℕ)). with_kind ks o.kind) has.kinds ∙ sym (kinds-push done o);
        slots = ap (λ n. n + length o.slots) has.slots ∙ sym (sum_by-append (λ (x : ObjectView). length x.slots) done (o ∷ []) ∙ omega arith);
        low = λ x positive above. last_of (λ id. id < x) done o above;
      };
      taken = ap (λ (n : Option Reading). option_and_then (λ (t : Reading). take_all t (lines_of_slots 0 o.slots ++ later)) n) (object_taken r o (may_be_added r done o has may)) ∙ filled.taken;
    }
  where
    last_of : (P : ℕ → Type 0) (xs : List ObjectView) (y : ObjectView) → All P (object_ids (xs ++ y ∷ [])) → P y.id
    last_of P [] y all = All-head P y.id [] all
    last_of P (x ∷ xs) y all = last_of P xs y (All-tail P x.id (object_ids (xs ++ y ∷ [])) all)

-- what comes before an id of ids that rise is below it
below_it : (xs : List ObjectView) (y : ObjectView) (ys : List ObjectView) → AllPairs (λ (a b : ℕ). a < b) (object_ids (xs ++ y ∷ ys)) → All (λ id. id < y.id) (object_ids xs)
below_it [] y ys rising = All-nil _
below_it (x ∷ xs) y ys rising =
    All-cons (λ id. id < y.id) x.id (object_ids xs) (at (object_ids (xs ++ y ∷ ys)) y.id (place xs) (λ k d within. rising 0 (suc k) d (omega arith) (omega arith)))
    (below_it xs y ys (λ i j d less within. rising (suc i) (suc j) d (omega arith) (omega arith)))
  where
    place : (zs : List ObjectView) → (k : ℕ) × (k < length (object_ids (zs ++ y ∷ ys))) × (get_or (object_ids (zs ++ y ∷ ys)) k 0 ≡ y.id)
    place [] = (0, omega arith, refl)
    place (z ∷ zs) = let p = place zs in (suc p.0, omega (arith, p.1), p.2)

    at : (ids : List ℕ) (id : ℕ) → (k : ℕ) × (k < length ids) × (get_or ids k 0 ≡ id) → All (λ b. x.id < b) ids → x.id < id
    at ids id p all = subst (λ b. x.id < b) p.2 (all p.0 0 p.1)

module _ (v : HeapView) (formed : IsWellFormed v) where
  abbrev Whole : List ObjectView → List ObjectView → Type 0
  Whole done rest = done ++ rest ≡ v.objects

  may_be_next : (done : List ObjectView) (o : ObjectView) (rest : List ObjectView) → Whole done (o ∷ rest) → All IsLegalObject (o ∷ rest) → MayAdd done o
  may_be_next done o rest same legal =
      let total : slot_total (done ++ o ∷ rest) ≡ slot_total done + slot_total (o ∷ rest) = sum_by-append (λ (x : ObjectView). length x.slots) done (o ∷ rest) in
      let split : slot_total ((o ∷ []) ++ rest) ≡ slot_total (o ∷ []) + slot_total rest = sum_by-append (λ (x : ObjectView). length x.slots) (o ∷ []) rest in
      let one : slot_total (o ∷ []) ≡ length o.slots = omega arith in
      let room : slot_total (done ++ o ∷ rest) ≤ USUAL_SLOTS = subst (λ (xs : List ObjectView). slot_total xs ≤ USUAL_SLOTS) (sym same) formed.few_slots in
      let count : length (done ++ o ∷ rest) ≤ USUAL_OBJECTS = subst (λ (xs : List ObjectView). length xs ≤ USUAL_OBJECTS) (sym same) formed.few_objects in
      let now : List ObjectView = done ++ o ∷ [] in
      let all : now ++ rest ≡ v.objects = append_assoc done (o ∷ []) rest ∙ same in
      let kinds : length (kind_names (now ++ rest)) ≤ MOST_KINDS = subst (λ (xs : List ObjectView). length (kind_names xs) ≤ MOST_KINDS) (sym all) formed.few_kinds in
      let grown : length (kind_names (now ++ rest)) ≡ length (fold seen (kind_names now) rest) = ap (λ (ks : List (List ℕ)). length ks) (fold-append seen [] now rest) in
      let fewer : length (kind_names now) ≤ MOST_KINDS = omega (arith, kinds, grown, more_kinds (kind_names now) rest) in
      record {
        positive = (All-head IsLegalObject o rest legal).0.0;
        above = below_it done o rest (subst (λ (xs : List ObjectView). AllPairs (λ (a b : ℕ). a < b) (object_ids xs)) (sym same) formed.ids);
        few = omega (arith, count, length-append done (o ∷ rest));
        room = omega (arith, room, total, split, one);
        kinds = subst (λ (ks : List (List ℕ)). length ks ≤ MOST_KINDS) (kinds-push done o) fewer;
      }

  objects_taken : (r : Reading) (done rest : List ObjectView) (later : List Line) → HasObjects r done → Whole done rest → All IsLegalObject rest
      → ReadsObjects r v.objects (flat_map lines_of_object rest ++ later) later
  objects_taken r done [] later has same legal = record { next = r; has = subst (HasObjects r) (sym (append-nil done) ∙ same) has; taken = refl }
  objects_taken r done (o ∷ rest) later has same legal =
      let lines : List Line = flat_map lines_of_object rest ++ later in
      let one = one_object r done o lines has (may_be_next done o rest same legal) in
      let more = objects_taken one.next (done ++ o ∷ []) rest later one.has (append_assoc done (o ∷ []) rest ∙ same) (All-tail IsLegalObject o rest legal) in
      record {
        next = more.next;
        has = more.has;
        taken = ap (take_all r) (append_assoc (lines_of_object o) (flat_map lines_of_object rest) later) ∙ one.taken ∙ more.taken;
      }

  -- ---- roots

  -- The objects and the roots that were read, where a root line may follow.
  record HasRoots (r : Reading) (done : List (List ℕ × ℕ)) : Type 0 where
    way : is_under_way r.stage ≡ true
    objects : objects_read r ≡ v.objects
    roots : r.roots ≡ done

  abbrev AllRoots : List (List ℕ × ℕ) → List (List ℕ × ℕ) → Type 0
  AllRoots done rest = done ++ rest ≡ v.roots

  -- what comes before a name of names that rise is below it
  lower : (xs : List (List ℕ)) (y : List ℕ) (ys : List (List ℕ)) → IsStrictlySortedBy name_cmp (xs ++ y ∷ ys) → All (λ x. name_cmp x y ≡ Less) xs
  lower [] y ys sorted = All-nil _
  lower (x ∷ xs) y ys sorted =
      let behind = (All-parts (λ z. name_cmp x z ≡ Less) xs (y ∷ ys) (below_all x (xs ++ y ∷ ys) sorted)).1 in
      All-cons (λ z. name_cmp z y ≡ Less) x xs (All-head (λ z. name_cmp x z ≡ Less) y ys behind) (lower xs y ys (sorted_tail name_cmp x (xs ++ y ∷ ys) sorted))

  above_last : (done : List (List ℕ × ℕ)) (name : List ℕ) → All (λ x. name_cmp x name ≡ Less) (keys_of done) → IsTrue (is_name name) → is_lt (name_cmp (last_name done) name) ≡ true
  above_last [] name below is = sym (above_nothing [] name refl is)
  above_last (r ∷ []) name below is = ap is_lt (All-head (λ x. name_cmp x name ≡ Less) r.0 [] below)
  above_last (r ∷ q ∷ roots) name below is =
      ap (λ (n : List ℕ). is_lt (name_cmp n name)) (last_more r q roots)
      ∙ above_last (q ∷ roots) name (All-tail (λ x. name_cmp x name ≡ Less) r.0 (keys_of (q ∷ roots)) below) is

  root_may : (r : Reading) (done : List (List ℕ × ℕ)) (q : List ℕ × ℕ) (rest : List (List ℕ × ℕ)) → HasRoots r done → AllRoots done (q ∷ rest) → IsLegalRoot q → may_root r q.0 ≡ true
  unfolding may_root
  root_may r done q rest has same legal =
      let keys : keys_of v.roots ≡ keys_of done ++ q.0 ∷ keys_of rest = ap keys_of (sym same) ∙ map-append (λ (e : List ℕ × ℕ). e.0) done (q ∷ rest) in
      let below = lower (keys_of done) q.0 (keys_of rest) (subst (IsStrictlySortedBy name_cmp) keys formed.names) in
      let above = ap (λ (roots : List (List ℕ × ℕ)). is_lt (name_cmp (last_name roots) q.0)) has.roots ∙ above_last done q.0 below legal.0 in
      let count : length (done ++ q ∷ rest) ≤ USUAL_ROOTS = subst (λ (xs : List (List ℕ × ℕ)). length xs ≤ USUAL_ROOTS) (sym same) formed.few_roots in
      let few = lt-ltb (length r.roots) USUAL_ROOTS (subst (λ (xs : List (List ℕ × ℕ)). length xs < USUAL_ROOTS) (sym has.roots) (omega (arith, count, length-append done (q ∷ rest)))) in
      and_from _ _ (and_from _ _ has.way above) few

  root_taken : (r : Reading) (q : List ℕ × ℕ) → may_root r q.0 ≡ true → take_line r (line_of_root q) ≡ Some (after_root_line r q.0 q.1)
  unfolding take_line
  root_taken r q may = cond-true (may_root r q.0) (Some (after_root_line r q.0 q.1)) None may

  roots_taken : (r : Reading) (done rest : List (List ℕ × ℕ)) (later : List Line) → HasRoots r done → AllRoots done rest → All IsLegalRoot rest
      → (s : Reading) × HasRoots s v.roots × (take_all r (map line_of_root rest ++ later) ≡ take_all s later)
  roots_taken r done [] later has same legal = (r, subst (HasRoots r) (sym (append-nil done) ∙ same) has, refl)
  roots_taken r done (q ∷ rest) later has same legal =
      let next : Reading = after_root_line r q.0 q.1 in
      let may = root_may r done q rest has same (All-head IsLegalRoot q rest legal) in
      let more = roots_taken next (done ++ q ∷ []) rest later
      (record { way = refl; objects = append-nil (objects_read r) ∙ has.objects; roots = ap (λ (xs : List (List ℕ × ℕ)). xs ++ q ∷ []) has.roots })
      (append_assoc done (q ∷ []) rest ∙ same) (All-tail IsLegalRoot q rest legal) in (
        more.0,
        more.1,
        ap (λ (s : Option Reading). option_and_then (λ (t : Reading). take_all t (map line_of_root rest ++ later)) s) (root_taken r q may) ∙ more.2,
      )

  -- ---- all lines

  end_taken : (r : Reading) → is_under_way r.stage ≡ true → take_line r End ≡ Some (closed_reading r)
  unfolding take_line
  end_taken r way = cond-true (is_under_way r.stage) (Some (closed_reading r)) None way

  head_taken : take_line nothing_read Head ≡ Some (record nothing_read { stage = Begun })
  unfolding take_line
  head_taken = refl

  pub lines_taken : (r : Reading) × (take_all nothing_read (lines_of v) ≡ Some r) × (is_ended r.stage ≡ true) × (view_read r ≡ v)
  lines_taken =
      let begun : Reading = record nothing_read { stage = Begun } in
      let behind : List Line = map line_of_root v.roots ++ End ∷ [] in
      let none : HasObjects begun [] = record { before = refl; objects = refl; roots = refl; kinds = refl; slots = refl; low = λ x positive above. positive } in
      let objects = objects_taken begun [] v.objects behind none refl formed.objects in
      let first : HasRoots objects.next [] = record { way = under_way objects.next.stage objects.has.before; objects = objects.has.objects; roots = objects.has.roots } in
      let roots = roots_taken objects.next [] v.roots (End ∷ []) first refl formed.root_names in
      let s : Reading = roots.0 in
      let is : HasRoots s v.roots = roots.1 in (
        closed_reading s,
        ap (λ (n : Option Reading). option_and_then (λ (t : Reading). take_all t (lines_within v.objects v.roots ++ End ∷ [])) n) head_taken
            ∙ ap (take_all begun) (append_assoc (flat_map lines_of_object v.objects) (map line_of_root v.roots) (End ∷ []))
            ∙ objects.taken ∙ roots.2
            ∙ ap (λ (n : Option Reading). option_and_then (λ (t : Reading). take_all t []) n) (end_taken s is.way),
        refl,
        λ i. record { objects = is.objects i; roots = is.roots i },
      )
