-- A nursery with one object more.
use Rattle.std.proofs.Common.{◌≡◌, ◌⊎◌, inl, inr, ◌==◌, ℕ, ◌+◌, ◌<◌, ◌≤◌, List, [], ◌∷◌, ◌++◌, length, filter, replicate, get_or, Bool, true, false, not, ◌&&◌, cond}
use Rattle.std.proofs.Common.{IsTrue, IsSome, Option, None, Some, refl, sym, ◌∙◌, ap, subst, eqb-true, ⊎_elim, arith}
use Rattle.std.specs.List.{list_any, count_by}
use Rattle.std.specs.Option.{is_some, option_map_or, option_or}
use Rattle.std.proofs.lemmas.Bool.{false≢true, lt-ltb, or_cases, cases_eq, cases_lt}
use Rattle.std.proofs.lemmas.List.{append-nil, length_push}
use Rattle.std.proofs.lemmas.Option.{none-some, same_Some}
use Rattle.std.proofs.lemmas.List.Elements.{All-push, All-replicate, All-weaker, filter-append}
use Rattle.graph_meaning.specs.Heap.{Object, Table, empty_slot, ids, object_at, is_live, targets}
use Rattle.graph_meaning.specs.Reach.{has_id}
use Rattle.graph_meaning.specs.Step.{alloc_refusal, with_object}
use Rattle.graph_meaning.proofs.HeapLemmas.{has_id-ids, is_live-with_object, object_at-with_object}
use Rattle.graph_meaning.proofs.Membership.{All-has_id, filter_agree_all}
use Rattle.graph_meaning.proofs.Rising.{ids-with_object}
use Rattle.object_table.specs.Placed.{PlacedTable, id_in, IsPlaced, TakesCell, NoneEmptyBelow, cells_for_one_more}
use Rattle.object_table.proofs.Refusals.{alloc_fits}
use Rattle.minor_gc.specs.Generations.{Generations, is_young, is_old, holds_young, remembered_set}
use Rattle.minor_gc.specs.Nurseries.{NurseryParts, generations_of, young_count, NoneWeak, IsNursery}
use Rattle.minor_gc.proofs.Inside.{IsSoundNursery}
use Rattle.minor_gc.proofs.Keeping.{all_has}
use Rattle.minor_gc.proofs.Remembered.{remembers}
use Rattle.minor_gc.proofs.Targets.{IsStrong, AllStrong, ends_at}

-- two tests that agree on the list let the same through
pub same_filter : (p q : ℕ → Bool) (xs : List ℕ) → ((x : ℕ) → IsTrue (has_id xs x) → p x ≡ q x) → filter p xs ≡ filter q xs
same_filter p q xs same =
    filter_agree_all p q xs (All-weaker (λ x. IsTrue (has_id xs x)) (λ x. p x ≡ q x) same xs (All-has_id xs))

-- one cell more at the most
pub one_more : (p : PlacedTable) → (length p.cells ≤ cells_for_one_more p) × (cells_for_one_more p ≤ length p.cells + 1)
one_more p = go (length p.cells == length p.table.objects)
  where
    go : (b : Bool) → (length p.cells ≤ cond b (length p.cells + 1) (length p.cells)) × (cond b (length p.cells + 1) (length p.cells) ≤ length p.cells + 1)
    go true = (omega arith, omega arith)
    go false = (omega arith, omega arith)

-- ---- an object more

pub record NewObject : Type 0 where
  pub id : ℕ
  pub kind : List ℕ
  pub slots : ℕ

abbrev pub table_with : NewObject → Table → Table
table_with o t = with_object t o.id o.kind o.slots

abbrev CanAdd : NewObject → Table → Type 0
CanAdd o t = alloc_refusal t o.id o.kind o.slots ≡ None

module _ (o : NewObject) (t : Table) where
  strong-with : NoneWeak t → NoneWeak (table_with o t)
  unfolding with_object
  strong-with strong = All-push AllStrong t.objects _ strong (All-replicate IsStrong o.slots empty_slot refl)

  greatest-with : (table_with o t).greatest ≡ o.id
  unfolding with_object
  greatest-with = refl

  length-with : length (table_with o t).objects ≡ length t.objects + 1
  unfolding with_object
  length-with = length_push t.objects (record { id = o.id; kind = o.kind; slots = replicate o.slots empty_slot })

-- it is younger than what is old
above_old : {n : NurseryParts} (o : NewObject) → IsNursery n → CanAdd o n.placed.table → n.old_up_to < o.id
above_old {n} o is allowed = omega (arith, (alloc_fits n.placed.table o.id o.kind o.slots allowed).above, is.old, is.greatest)

pub young_then : {n : NurseryParts} (o : NewObject) → IsNursery n → CanAdd o n.placed.table → is_young (record { table = table_with o n.placed.table; old_up_to = n.old_up_to }) o.id ≡ true
young_then {n} o is allowed = lt-ltb n.old_up_to o.id (above_old o is allowed)

-- The parts that an object more changes.
pub record AddedParts : Type 0 where
  pub placed : PlacedTable
  pub marks : List Bool
  pub work : List ℕ
  pub counts : List ℕ
  pub remembered : List ℕ
  pub room : ℕ

abbrev pub parts_with : NurseryParts → NewObject → AddedParts → NurseryParts
parts_with n o a = record {
  placed = a.placed;
  old_up_to = n.old_up_to;
  greatest = o.id;
  marks = a.marks;
  work = a.work;
  counts = a.counts;
  remembered = a.remembered;
  room = a.room;
}

-- The object takes a cell with no empty one below it, which isn't marked and whose count is 0; there is room for one more.
pub record Adds (n : NurseryParts) (o : NewObject) (a : AddedParts) : Type 0 where
  pub before : IsSoundNursery n
  pub allowed : alloc_refusal n.placed.table o.id o.kind o.slots ≡ None
  pub placed : IsPlaced a.placed
  pub table : a.placed.table ≡ table_with o n.placed.table
  pub takes : TakesCell n.placed a.placed o.id
  pub lowest : NoneEmptyBelow a.placed o.id
  pub each_mark : length a.marks ≡ length a.placed.cells
  pub marks : (cell : ℕ) → get_or a.marks cell false ≡ get_or n.marks cell false
  pub work : a.work ≡ n.work
  pub each_count : length a.counts ≡ length a.placed.cells
  pub counts : (cell : ℕ) → get_or a.counts cell 0 ≡ get_or n.counts cell 0
  pub remembered : a.remembered ≡ n.remembered
  pub room : length n.placed.table.objects + 1 ≤ a.room

module _ {n : NurseryParts} {o : NewObject} {a : AddedParts} (adds : Adds n o a) where
  abbrev p : PlacedTable
  p = n.placed

  abbrev t : Table
  t = n.placed.table

  abbrev g : Generations
  g = generations_of n

  abbrev g' : Generations
  g' = generations_of (parts_with n o a)

  above : n.old_up_to < o.id
  above = above_old o adds.before.nursery adds.allowed

  is_young_one : is_young g' o.id ≡ true
  is_young_one = lt-ltb n.old_up_to o.id above

  below_it : (x : ℕ) → IsTrue (is_live t x) → x < o.id
  below_it x live =
      let within = all_has (λ y. y ≤ t.greatest) (ids t) adds.before.sound.ids.within x (has_id-ids t x ∙ live) in
      omega (arith, within, (alloc_fits t o.id o.kind o.slots adds.allowed).above)

  -- ---- cells

  -- an object in a cell is the new one, or stood there
  was_there : (cell x : ℕ) → id_in a.placed cell ≡ Some x → (x ≡ o.id) ⊎ (id_in p cell ≡ Some x)
  was_there cell x at =
      ⊎_elim
      (λ old.
      let there = adds.before.placed.somewhere x old in
      inr (ap (id_in p) (adds.placed.once cell there.0 x at (adds.takes.others there.0 x there.1)) ∙ there.1))
      (λ new. inl (sym (eqb-true o.id x new)))
      (or_cases _ _ (sym (is_live-with_object t o.id o.kind o.slots x) ∙ ap (λ (u : Table). is_live u x) (sym adds.table) ∙ adds.placed.live cell x at))

  abbrev SameOrNew : ℕ → Type 0
  SameOrNew cell = ((id_in a.placed cell ≡ Some o.id) × (id_in p cell ≡ None)) ⊎ (id_in a.placed cell ≡ id_in p cell)

  same_or_new : (cell : ℕ) → SameOrNew cell
  same_or_new cell = go (id_in p cell) refl (id_in a.placed cell) refl
    where
      go : (before : Option ℕ) → id_in p cell ≡ before → (now : Option ℕ) → id_in a.placed cell ≡ now → SameOrNew cell
      go (Some y) before now is = inr (adds.takes.others cell y before ∙ sym before)
      go None before None is = inr (is ∙ sym before)
      go None before (Some x) is = ⊎_elim
          (λ same. inl (is ∙ ap Some same, before))
          (λ there. absurd (none-some x (sym before ∙ there)))
          (was_there cell x is)

  none_below : (x : ℕ) → n.old_up_to < x → NoneEmptyBelow a.placed x
  none_below x young cell lower at below =
      ⊎_elim
      (λ same. adds.lowest cell lower (at ∙ ap Some same) below)
      (λ there. some_still lower (adds.before.nursery.stacked.full x young cell lower there below))
      (was_there cell x at)
    where
      some_still : (c : ℕ) → IsSome (id_in p c) → IsSome (id_in a.placed c)
      some_still c some = go (id_in p c) refl some
        where
          go : (held : Option ℕ) → id_in p c ≡ held → IsSome held → IsSome (id_in a.placed c)
          go None e some = absurd cc
          go (Some y) e some = subst IsSome (sym (adds.takes.others c y e)) refl

  rising : (cell other x later : ℕ) → id_in a.placed cell ≡ Some x → id_in a.placed other ≡ Some later → n.old_up_to < x → x < later → cell < other
  rising cell other x later at there young less =
      ⊎_elim
      (λ (first : x ≡ o.id). absurd (not_last first (was_there other later there)))
      (λ first. ⊎_elim (λ last. before first last) (λ old. adds.before.nursery.stacked.rising cell other x later first old young less) (was_there other later there))
      (was_there cell x at)
    where
      none_of : (held : Option ℕ) → held ≡ None → IsSome held → ⊥
      none_of None e s = absurd cc
      none_of (Some y) e s = absurd cc

      some_of : (held : Option ℕ) → IsSome held → (y : ℕ) × (held ≡ Some y)
      some_of None s = absurd cc
      some_of (Some y) s = (y, refl)

      -- no object is later than the new one
      not_last : x ≡ o.id → (later ≡ o.id) ⊎ (id_in p other ≡ Some later) → ⊥
      not_last first (inl last) = omega arith
      not_last first (inr old) = let low = below_it later (adds.before.placed.live other later old) in omega arith

      -- the new object's cell was empty
      empty_other : later ≡ o.id → IsSome (id_in p other) → ⊥
      empty_other last some = ⊎_elim
          (λ new. none_of (id_in p other) new.1 some)
          (λ same.
          let (y, held) = some_of (id_in p other) some in
          let low = below_it later (adds.before.placed.live other later (sym same ∙ there)) in
          absurd (omega arith))
          (same_or_new other)

      before : id_in p cell ≡ Some x → later ≡ o.id → cell < other
      before first last = ⊎_elim
          (λ less. less)
          (λ le. ⊎_elim
          (λ (same : other ≡ cell). absurd (omega (arith, same_Some later x (sym there ∙ ap (id_in a.placed) same ∙ at))))
          (λ apart. absurd (empty_other last (adds.before.nursery.stacked.full x young cell other first (omega arith))))
          (cases_eq other cell))
          (cases_lt cell other)

  -- ---- counts and the list

  targets_same : (x : ℕ) → IsTrue (is_live t x) → targets a.placed.table x ≡ targets t x
  targets_same x live =
      ap (λ (u : Table). targets u x) adds.table ∙ ap ends_at (object_at-with_object t o.id o.kind o.slots x) ∙ go (object_at t.objects x) live
    where
      new : Object
      new = record { id = o.id; kind = o.kind; slots = replicate o.slots empty_slot }

      go : (u : Option Object) → is_some u ≡ true → ends_at (option_or u (cond (o.id == x) (Some new) None)) ≡ ends_at u
      go None live = absurd (false≢true live)
      go (Some u) live = refl

  counts_then : (cell : ℕ) → get_or a.counts cell 0 ≡ young_count g' (id_in a.placed cell)
  counts_then cell = adds.counts cell ∙ adds.before.nursery.counts cell ∙ ⊎_elim
      (λ new. ap (young_count g) new.1 ∙ sym (ap (young_count g') new.0 ∙ ap (λ b. cond b 0 (count_by (is_young g') (targets a.placed.table o.id))) is_young_one))
      (λ same. stays (id_in p cell) refl ∙ ap (young_count g') (sym same))
      (same_or_new cell)
    where
      stays : (held : Option ℕ) → id_in p cell ≡ held → young_count g (id_in p cell) ≡ young_count g' (id_in p cell)
      stays None e = ap (young_count g) e ∙ sym (ap (young_count g') e)
      stays (Some x) e =
          let same = sym (targets_same x (adds.before.placed.live cell x e)) in
          ap (young_count g) e ∙ ap (λ l. cond (is_young g x) 0 (count_by (is_young g) l)) same ∙ sym (ap (young_count g') e)

  remembered_then : a.remembered ≡ remembered_set g'
  unfolding remembered_set
  remembered_then =
      adds.remembered
      ∙ adds.before.nursery.remembered
      ∙ same_filter (remembers g) (remembers g') (ids t) same
      ∙ sym (append-nil (filter (remembers g') (ids t)))
      ∙ ap (λ l. filter (remembers g') (ids t) ++ l) (sym (ap (λ b. cond (not b && holds_young g' o.id) (o.id ∷ []) []) is_young_one))
      ∙ sym (filter-append (remembers g') (ids t) (o.id ∷ []))
      ∙ ap (filter (remembers g')) (sym (ap ids adds.table ∙ ids-with_object t o.id o.kind o.slots))
    where
      same : (x : ℕ) → IsTrue (has_id (ids t) x) → remembers g x ≡ remembers g' x
      same x has = ap (λ l. is_old g x && list_any (is_young g) l) (sym (targets_same x (sym (has_id-ids t x) ∙ has)))

  pub added : IsNursery (parts_with n o a)
  added = record {
    greatest = sym (ap (λ (u : Table). u.greatest) adds.table ∙ greatest-with o t);
    old = omega (arith, above);
    strong = subst NoneWeak (sym adds.table) (strong-with o t adds.before.nursery.strong);
    stacked = record { full = none_below; rising = rising };
    each_mark = adds.each_mark;
    marks = λ cell. adds.marks cell ∙ adds.before.nursery.marks cell ∙ ⊎_elim
        (λ new. ap (λ h. option_map_or (is_old g) h false) new.1 ∙ sym (ap (λ h. option_map_or (is_old g') h false) new.0 ∙ ap not is_young_one))
        (λ same. ap (λ h. option_map_or (is_old g) h false) (sym same))
        (same_or_new cell);
    idle = adds.work ∙ adds.before.nursery.idle;
    each_count = adds.each_count;
    counts = counts_then;
    remembered = remembered_then;
    room = omega (arith, adds.room, ap (λ (u : Table). length u.objects) adds.table, length-with o t);
  }
