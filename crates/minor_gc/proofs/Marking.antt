-- Cells that are marked one by one, and the search that goes on from them.
use Rattle.std.proofs.Common.{◌≡◌, ◌≢◌, ◌⊎◌, inl, inr, ◌==◌, ℕ, ◌+◌, ◌<◌, List, [], ◌∷◌, ◌++◌, length, take, set, get_or, Bool, true, false, not, ◌||◌, ◌&&◌, cond}
use Rattle.std.proofs.Common.{IsTrue, IsSome, Option, None, Some, refl, sym, ◌∙◌, ap, subst, eqb-true, eq-eqb, ne_eqb, ⊎_elim, arith}
use Rattle.std.specs.List.{flat_map}
use Rattle.std.proofs.lemmas.Grind.{flat_map-append}
use Rattle.std.proofs.Math.Bool.{or-false, or-true, or_assoc}
use Rattle.std.proofs.lemmas.Bool.{false≢true, not-true, cases_eq, or_left, or_right, or_cases, and_parts}
use Rattle.std.proofs.lemmas.List.{take_more, append-nil, length-set, get_or-set_same, get_or-set_other}
use Rattle.std.proofs.lemmas.Option.{none-some, same_Some}
use Rattle.graph_meaning.specs.Heap.{targets}
use Rattle.graph_meaning.specs.Reach.{has_id, IsPath, IsReachable, reached_nodes}
use Rattle.graph_meaning.proofs.Membership.{has_id-append}
use Rattle.graph_meaning.proofs.Reaching.{IsReachable-source, IsReachable-step, reached_is_reachable}
use Rattle.object_table.specs.Placed.{PlacedTable, id_in, IsPlaced}
use Rattle.object_table.proofs.ObjectsByCell.{held-within}
use Rattle.minor_gc.specs.Marks.{Marks, is_marked, MarksAll, MarkSearch, IsMarkSearch, IsScanned, IsMarking}

and_not : (b : Bool) → (b && not b) ≡ false
and_not true = refl
and_not false = refl

none_more : (w m : Bool) → w ≡ (w || (m && not m))
none_more w m = sym (ap (λ b. w || b) (and_not m) ∙ or-false w)

-- one element more of a list of which each gives a list
pub flat_map_last : {X : Type 0} (f : X → List ℕ) (xs : List X) (i : ℕ) (x : X) → i < length xs → x ≡ get_or xs i x → flat_map f (take (i + 1) xs) ≡ flat_map f (take i xs) ++ f x
flat_map_last f xs i x h is =
    ap (flat_map f) (take_more xs i x h ∙ ap (λ y. take i xs ++ y ∷ []) (sym is))
    ∙ flat_map-append f (take i xs) (x ∷ [])
    ∙ ap (λ l. flat_map f (take i xs) ++ l) (append-nil (f x))

-- ---- cells that are marked

pub Meets-none : (p : PlacedTable) (m : Marks) → MarksAll p [] m m
Meets-none p m = record {
  each = refl;
  marked = λ cell id at. sym (or-false (is_marked m cell));
  unheld = λ cell at. refl;
  work = λ cell. none_more (has_id m.work cell) (is_marked m cell);
}

module _ {p : PlacedTable} {ids : List ℕ} {a b : Marks} (meets : MarksAll p ids a b) where
  -- what was marked is so still
  pub Meets-stays : (cell : ℕ) → is_marked a cell ≡ true → is_marked b cell ≡ true
  Meets-stays cell was = go (id_in p cell) refl
    where
      go : (o : Option ℕ) → id_in p cell ≡ o → is_marked b cell ≡ true
      go None at = meets.unheld cell at ∙ was
      go (Some id) at = meets.marked cell id at ∙ ap (λ m. m || has_id ids id) was

  -- the cells of the worklist hold objects still
  pub Meets-held : ((cell : ℕ) → IsTrue (has_id a.work cell) → IsSome (id_in p cell)) → (cell : ℕ) → IsTrue (has_id b.work cell) → IsSome (id_in p cell)
  Meets-held before cell waits = go (id_in p cell) refl
    where
      go : (o : Option ℕ) → id_in p cell ≡ o → IsSome (id_in p cell)
      go (Some id) at = subst IsSome (sym at) refl
      go None at =
          let none = ap (λ m. m && not (is_marked a cell)) (meets.unheld cell at) ∙ and_not (is_marked a cell) in
          before cell (sym (or-false (has_id a.work cell)) ∙ ap (λ m. has_id a.work cell || m) (sym none) ∙ sym (meets.work cell) ∙ waits)

work_both : (w a b c : Bool) → (a ≡ true → b ≡ true) → (b ≡ true → c ≡ true) → ((w || (b && not a)) || (c && not b)) ≡ (w || (c && not a))
work_both true a b c h k = refl
work_both false true true true h k = refl
work_both false true true false h k = absurd (false≢true (k refl))
work_both false true false c h k = absurd (false≢true (h refl))
work_both false false true true h k = refl
work_both false false true false h k = absurd (false≢true (k refl))
work_both false false false c h k = refl

pub Meets-join : {p : PlacedTable} {xs ys : List ℕ} {a b c : Marks} → MarksAll p xs a b → MarksAll p ys b c → MarksAll p (xs ++ ys) a c
Meets-join {p} {xs} {ys} {a} {b} {c} first next = record {
  each = next.each ∙ first.each;
  marked = λ cell id at.
      next.marked cell id at
      ∙ ap (λ m. m || has_id ys id) (first.marked cell id at)
      ∙ or_assoc (is_marked a cell) (has_id xs id) (has_id ys id)
      ∙ ap (λ m. is_marked a cell || m) (sym (has_id-append xs ys id));
  unheld = λ cell at. next.unheld cell at ∙ first.unheld cell at;
  work = λ cell.
      next.work cell
      ∙ ap (λ w. w || (is_marked c cell && not (is_marked b cell))) (first.work cell)
      ∙ work_both (has_id a.work cell) (is_marked a cell) (is_marked b cell) (is_marked c cell) (Meets-stays first cell) (Meets-stays next cell);
}

-- The cell of an object is met: it is marked, and goes on the worklist where it wasn't.
pub record MeetsCell (p : PlacedTable) (cell id : ℕ) (b c : Marks) : Type 0 where
  pub held : id_in p cell ≡ Some id
  pub each : length b.marks ≡ length p.cells
  pub marks : c.marks ≡ set b.marks cell true
  pub work : c.work ≡ cond (is_marked b cell) b.work (b.work ++ cell ∷ [])

module _ {p : PlacedTable} {cell id : ℕ} {b c : Marks} (placed : IsPlaced p) (met : MeetsCell p cell id b c) where
  at_cell : is_marked c cell ≡ true
  at_cell =
      let within : cell < length b.marks = omega (arith, held-within p cell id met.held, met.each) in
      ap (λ l. get_or l cell false) met.marks ∙ get_or-set_same b.marks cell true false within

  elsewhere : (x : ℕ) → x ≢ cell → is_marked c x ≡ is_marked b x
  elsewhere x apart = ap (λ l. get_or l x false) met.marks ∙ get_or-set_other b.marks cell x true false apart

  -- a cell that is no other than this one, or is another
  marked_or : (x y : ℕ) → id_in p x ≡ Some y → (x ≡ cell) ⊎ (x ≢ cell) → is_marked c x ≡ (is_marked b x || ((id == y) || false))
  marked_or x y at (inl same) =
      let its : id ≡ y = same_Some id y (sym met.held ∙ ap (id_in p) (sym same) ∙ at) in
      ap (is_marked c) same ∙ at_cell ∙ sym (or-true (is_marked b x)) ∙ ap (λ e. is_marked b x || (e || false)) (sym (eq-eqb id y its))
  marked_or x y at (inr apart) =
      let other : id ≢ y = λ same. apart (placed.once x cell y at (met.held ∙ ap Some same)) in
      elsewhere x apart ∙ sym (or-false (is_marked b x)) ∙ ap (λ e. is_marked b x || (e || false)) (sym (ne_eqb id y other))

  -- what is new on the worklist
  abbrev is_new : ℕ → Bool
  is_new x = is_marked c x && not (is_marked b x)

  Meets-one : MarksAll p (id ∷ []) b c
  Meets-one = record {
    each = ap length met.marks ∙ length-set b.marks cell true;
    marked = λ x y at. marked_or x y at (cases_eq x cell);
    unheld = λ x at. elsewhere x (λ same. none-some id (sym at ∙ ap (id_in p) same ∙ met.held));
    work = λ x. go x (is_marked b cell) refl (cases_eq x cell);
  }
    where
      go : (x : ℕ) (was : Bool) → is_marked b cell ≡ was → (x ≡ cell) ⊎ (x ≢ cell) → has_id c.work x ≡ (has_id b.work x || is_new x)
      go x true was which =
          let same_marks : is_marked c x ≡ is_marked b x = ⊎_elim (λ same. ap (is_marked c) same ∙ at_cell ∙ sym (ap (is_marked b) same ∙ was)) (elsewhere x) which in
          ap (λ l. has_id l x) (met.work ∙ ap (λ w. cond w b.work (b.work ++ cell ∷ [])) was)
          ∙ none_more (has_id b.work x) (is_marked b x)
          ∙ ap (λ m. has_id b.work x || (m && not (is_marked b x))) (sym same_marks)
      go x false was which =
          ap (λ l. has_id l x) (met.work ∙ ap (λ w. cond w b.work (b.work ++ cell ∷ [])) was)
          ∙ has_id-append b.work (cell ∷ []) x
          ∙ ap (λ e. has_id b.work x || e) (⊎_elim here there which)
        where
          here : x ≡ cell → ((cell == x) || false) ≡ is_new x
          here same =
              let fresh = ap (λ m. m && not (is_marked b x)) (ap (is_marked c) same ∙ at_cell) ∙ ap not (ap (is_marked b) same ∙ was) in
              ap (λ e. e || false) (eq-eqb cell x (sym same)) ∙ sym fresh

          there : x ≢ cell → ((cell == x) || false) ≡ is_new x
          there apart =
              let old = ap (λ m. m && not (is_marked b x)) (elsewhere x apart) ∙ and_not (is_marked b x) in
              ap (λ e. e || false) (ne_eqb cell x (λ same. apart (sym same))) ∙ sym old

-- one cell more is met
pub Meets-more : {p : PlacedTable} {ids : List ℕ} {cell id : ℕ} {a b c : Marks} → IsPlaced p → MarksAll p ids a b → MeetsCell p cell id b c → MarksAll p (ids ++ id ∷ []) a c
Meets-more placed before met = Meets-join before (Meets-one placed met)

-- ---- a worklist

pub is_last : (xs ys : List ℕ) (x : ℕ) → xs ≡ ys ++ x ∷ [] → has_id xs x ≡ true
is_last xs ys x is = ap (λ l. has_id l x) is ∙ has_id-append ys (x ∷ []) x ∙ or_right _ _ (or_left _ _ (eq-eqb x x refl))

pub in_front : (xs ys : List ℕ) (x y : ℕ) → xs ≡ ys ++ x ∷ [] → has_id ys y ≡ true → has_id xs y ≡ true
in_front xs ys x y is has = ap (λ l. has_id l y) is ∙ has_id-append ys (x ∷ []) y ∙ or_left _ _ has

-- ---- the search

-- A cell was taken from the worklist, and what its object holds was met.
pub record Follows (p : PlacedTable) (cell id : ℕ) (s m : Marks) : Type 0 where
  pub taken : Marks
  pub held : id_in p cell ≡ Some id
  pub marks : taken.marks ≡ s.marks
  pub work : s.work ≡ taken.work ++ cell ∷ []
  pub meets : MarksAll p (targets p.table id) taken m

module _ (q : MarkSearch) (placed : IsPlaced q.placed) (is : IsMarkSearch q) where
  abbrev p : PlacedTable
  p = q.placed

  node : (cell id : ℕ) → id_in p cell ≡ Some id → is_marked q.before cell ≡ false → IsTrue (has_id q.graph.nodes id)
  node cell id held fresh = is.nodes cell id held ∙ ap not fresh

  -- what the sources name is marked first: of the nodes, those with these ids
  pub searching-begin : (ids : List ℕ) → ((id : ℕ) → IsTrue (has_id q.graph.nodes id) → has_id ids id ≡ has_id q.sources id) →
      (m : Marks) → q.before.work ≡ [] → MarksAll p ids q.before m → IsMarking q m
  searching-begin ids agree m idle meets = record {
    stays = Meets-stays meets;
    unheld = meets.unheld;
    reached = λ cell id held marked fresh.
        let source : has_id ids id ≡ true = ap (λ b. b || has_id ids id) (sym fresh) ∙ sym (meets.marked cell id held) ∙ marked in
        let at = node cell id held fresh in
        IsReachable-source q.graph q.sources id (sym (agree id at) ∙ source) at;
    waiting = λ cell waits.
        let new = sym (meets.work cell ∙ ap (λ l. has_id l cell || (is_marked m cell && not (is_marked q.before cell))) idle) ∙ waits in
        let parts = and_parts _ _ new in
        let fresh = not-true (is_marked q.before cell) parts.1 in
        (parts.0, fresh, held_one cell (id_in p cell) refl parts.0 fresh);
    followed = λ cell id held marked fresh. inl (meets.work cell ∙ or_right _ _ (ap (λ b. b && not (is_marked q.before cell)) marked ∙ ap not fresh));
    sources = λ cell id held source. from_source cell id held source (is_marked q.before cell) refl;
  }
    where
      from_source : (cell id : ℕ) → id_in p cell ≡ Some id → has_id q.sources id ≡ true → (b : Bool) → is_marked q.before cell ≡ b → is_marked m cell ≡ true
      from_source cell id held source true was = Meets-stays meets cell was
      from_source cell id held source false fresh = meets.marked cell id held ∙ or_right _ _ (agree id (node cell id held fresh) ∙ source)

      held_one : (cell : ℕ) (o : Option ℕ) → id_in p cell ≡ o → is_marked m cell ≡ true → is_marked q.before cell ≡ false → IsSome (id_in p cell)
      held_one cell None at marked fresh = absurd (false≢true (sym fresh ∙ sym (meets.unheld cell at) ∙ marked))
      held_one cell (Some id) at marked fresh = subst IsSome (sym at) refl

  module _ {cell id : ℕ} {s m : Marks} (now : IsMarking q s) (follows : Follows p cell id s m) where
    abbrev t : Marks
    t = follows.taken

    same : (x : ℕ) → is_marked t x ≡ is_marked s x
    same x = ap (λ l. get_or l x false) follows.marks

    still : (x : ℕ) → is_marked s x ≡ true → is_marked m x ≡ true
    still x was = Meets-stays follows.meets x (same x ∙ was)

    in_work : (x : ℕ) → has_id s.work x ≡ (has_id t.work x || ((cell == x) || false))
    in_work x = ap (λ l. has_id l x) follows.work ∙ has_id-append t.work (cell ∷ []) x

    waited : IsTrue (is_marked s cell) × (is_marked q.before cell ≡ false) × IsSome (id_in p cell)
    waited = now.waiting cell (in_work cell ∙ or_right _ _ (or_left _ _ (eq-eqb cell cell refl)))

    followed_now : IsScanned p m id
    followed_now other y at has = follows.meets.marked other y at ∙ or_right _ _ has

    -- a cell that is marked only now holds what the object holds
    new_one : (x : ℕ) → is_marked m x ≡ true → is_marked s x ≡ false → (y : ℕ) × (id_in p x ≡ Some y) × (has_id (targets p.table id) y ≡ true)
    new_one x marked fresh = go (id_in p x) refl
      where
        go : (o : Option ℕ) → id_in p x ≡ o → (y : ℕ) × (id_in p x ≡ Some y) × (has_id (targets p.table id) y ≡ true)
        go None at = absurd (false≢true (sym fresh ∙ sym (same x) ∙ sym (follows.meets.unheld x at) ∙ marked))
        go (Some y) at =
            let was = ap (λ b. b || has_id (targets p.table id) y) (sym (same x ∙ fresh)) in
            (y, at, was ∙ sym (follows.meets.marked x y at) ∙ marked)

    fresh_before : (x : ℕ) → is_marked s x ≡ false → is_marked q.before x ≡ false
    fresh_before x fresh = go (is_marked q.before x) refl
      where
        go : (b : Bool) → is_marked q.before x ≡ b → is_marked q.before x ≡ false
        go true e = absurd (false≢true (sym fresh ∙ now.stays x e))
        go false e = e

    reach : (x y : ℕ) → id_in p x ≡ Some y → is_marked m x ≡ true → is_marked q.before x ≡ false → (b : Bool) → is_marked s x ≡ b → IsReachable q.graph q.sources y
    reach x y at marked fresh true was = now.reached x y at was fresh
    reach x y at marked fresh false was =
        let one = new_one x marked was in
        let its : one.0 ≡ y = same_Some one.0 y (sym one.1 ∙ at) in
        let from = now.reached cell id follows.held waited.0 waited.1 in
        let edge : has_id (q.graph.targets id) y ≡ true = ap (λ l. has_id l y) (is.targets id) ∙ ap (has_id (targets p.table id)) (sym its) ∙ one.2 in
        IsReachable-step q.graph q.sources id y from (is.passable id) (edge, node x y at fresh)

    -- a cell that waited waits still, or is the one that was taken
    from_work : (x y : ℕ) → id_in p x ≡ Some y → IsTrue (has_id s.work x) → IsTrue (has_id m.work x) ⊎ IsScanned p m y
    from_work x y at waits = ⊎_elim
        (λ rest. inl (follows.meets.work x ∙ or_left _ _ rest))
        (λ last. inr (subst (λ z. IsScanned p m z) (its last) followed_now))
        (or_cases _ _ (sym (in_work x) ∙ waits))
      where
        its : ((cell == x) || false) ≡ true → id ≡ y
        its last = ⊎_elim
            (λ (e : (cell == x) ≡ true). same_Some id y (sym follows.held ∙ ap (id_in p) (eqb-true cell x e) ∙ at))
            (λ e. absurd (false≢true e))
            (or_cases _ _ last)

    follows_on : (x y : ℕ) → id_in p x ≡ Some y → is_marked m x ≡ true → is_marked q.before x ≡ false → (b : Bool) → is_marked s x ≡ b → IsTrue (has_id m.work x) ⊎ IsScanned p m y
    follows_on x y at marked fresh true was = ⊎_elim
        (from_work x y at)
        (λ done. inr (λ other z there has. still other (done other z there has)))
        (now.followed x y at was fresh)
    follows_on x y at marked fresh false was =
        inl (follows.meets.work x ∙ or_right _ _ (ap (λ b. b && not (is_marked t x)) marked ∙ ap not (same x ∙ was)))

    waits_on : (x : ℕ) → IsTrue (has_id m.work x) → IsTrue (is_marked m x) × (is_marked q.before x ≡ false) × IsSome (id_in p x)
    waits_on x waits = ⊎_elim
        (λ old. let was = now.waiting x (in_work x ∙ or_left _ _ old) in (still x was.0, was.1, was.2))
        (λ new.
        let parts = and_parts _ _ new in
        let fresh = sym (same x) ∙ not-true (is_marked t x) parts.1 in
        let one = new_one x parts.0 fresh in
        (parts.0, fresh_before x fresh, subst IsSome (sym one.1) refl))
        (or_cases _ _ (sym (follows.meets.work x) ∙ waits))

    searching-next : IsMarking q m
    searching-next = record {
      stays = λ x was. still x (now.stays x was);
      unheld = λ x at. follows.meets.unheld x at ∙ same x ∙ now.unheld x at;
      reached = λ x y at marked fresh. reach x y at marked fresh (is_marked s x) refl;
      waiting = waits_on;
      followed = λ x y at marked fresh. follows_on x y at marked fresh (is_marked s x) refl;
      sources = λ x y at source. still x (now.sources x y at source);
    }

  -- ---- the end

  module _ (m : Marks) (done : m.work ≡ []) (now : IsMarking q m) where
    -- a path from a marked object leads to marked ones
    walk : (steps : List ℕ) (x y cell : ℕ) → id_in p cell ≡ Some x → is_marked m cell ≡ true → is_marked q.before cell ≡ false →
        IsPath q.graph x steps y → (other : ℕ) → id_in p other ≡ Some y → is_marked m other ≡ true
    walk [] x y cell held marked fresh path other at =
        ap (is_marked m) (placed.once other cell y at (held ∙ ap Some path)) ∙ marked
    walk (z ∷ steps) x y cell held marked fresh path other at =
        let there = placed.somewhere z (is.live z path.1.1) in
        let new : is_marked q.before there.0 ≡ false = not-true (is_marked q.before there.0) (sym (is.nodes there.0 z there.1) ∙ path.1.1) in
        let next : is_marked m there.0 ≡ true = ⊎_elim
        (λ waits. absurd (false≢true (sym (ap (λ l. has_id l cell) done) ∙ waits)))
        (λ followed. followed there.0 z there.1 (ap (λ l. has_id l z) (sym (is.targets x)) ∙ path.1.0))
        (now.followed cell x held marked fresh) in
        walk steps z y there.0 there.1 next new path.2 other at

    -- marked is then what was marked before, and what is reached
    pub marked-is : (cell id : ℕ) → id_in p cell ≡ Some id → is_marked m cell ≡ (is_marked q.before cell || has_id (reached_nodes q.graph q.sources) id)
    marked-is cell id held = go (is_marked q.before cell) refl
      where
        reached : is_marked q.before cell ≡ false → (a b : Bool) → is_marked m cell ≡ a → has_id (reached_nodes q.graph q.sources) id ≡ b → a ≡ b
        reached fresh true true e f = refl
        reached fresh false false e f = refl
        reached fresh true false e f = absurd (false≢true (sym f ∙ (reached_is_reachable q.graph q.sources id).1 (now.reached cell id held e fresh)))
        reached fresh false true e f =
            let r = (reached_is_reachable q.graph q.sources id).0 f in
            let there = placed.somewhere r.0 (is.live r.0 r.3) in
            let new : is_marked q.before there.0 ≡ false = not-true (is_marked q.before there.0) (sym (is.nodes there.0 r.0 there.1) ∙ r.3) in
            absurd (false≢true (sym e ∙ walk r.1 r.0 id there.0 there.1 (now.sources there.0 r.0 there.1 r.2) new r.4 cell held))

        go : (b : Bool) → is_marked q.before cell ≡ b → is_marked m cell ≡ (b || has_id (reached_nodes q.graph q.sources) id)
        go true e = now.stays cell e
        go false e = reached e (is_marked m cell) (has_id (reached_nodes q.graph q.sources) id) refl refl

-- a cell is followed, where the table of the quest is given by an equation
pub searching-step : {q : MarkSearch} {p : PlacedTable} {cell id : ℕ} {s m : Marks} → q.placed ≡ p → IsPlaced p → IsMarkSearch q → IsMarking q s → Follows p cell id s m → IsMarking q m
searching-step {q} {p} {cell} {id} {s} {m} e placed is now follows =
    searching-next q (subst IsPlaced (sym e) placed) is now (subst (λ r. Follows r cell id s m) (sym e) follows)
