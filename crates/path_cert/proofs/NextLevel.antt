-- Arrivals by the edges of one object after another.
use Rattle.std.proofs.Common.{◌≡◌, ℕ, ◌+◌, ◌-◌, ◌<◌, ◌≤◌, ◌≢◌, Bool, true, false, ◌&&◌, ◌||◌, cond, ⊎_elim, ◌⊎◌, inl, inr, List, [], ◌∷◌, ◌++◌}
use Rattle.std.proofs.Common.{length, take, drop, get_or, sym, refl, ap, subst, ◌∙◌, arith, eqb-true, eq-eqb, ◌==◌, IsTrue, Option, None, Some, ltb}
use Rattle.std.proofs.Common.{length-append}
use Rattle.std.specs.Prelude.{IsSome}
use Rattle.std.specs.List.{find}
use Rattle.std.specs.Option.{option_map_or, option_or}
use Rattle.std.proofs.lemmas.Bool.{false_from_ne_true, le-ltb}
use Rattle.std.proofs.lemmas.List.{length-drop, take_more, get_or-drop, get_or_append_left, get_or_default}
use Rattle.std.proofs.lemmas.List.Folds.{find-append}
use Rattle.graph_meaning.specs.Reach.{has_id}
use Rattle.graph_meaning.specs.Roles.{id_at}
use Rattle.graph_meaning.proofs.Membership.{All-has_id}
use Rattle.object_table.specs.Placed.{PlacedTable, id_in, IsPlaced}
use Rattle.path_cert.specs.declared.arrival.Arrival.{Arrival}
use Rattle.path_cert.specs.Levels.{arrival_in, is_new}
use Rattle.path_cert.specs.Frontiers.{Front, FrontGrows, Round, better, by_edge, by_some_edge, first_edge, by_object, by_objects, AreByObjects, GoesUpTo, IsUnderWay}
use Rattle.path_cert.proofs.Growing.{with_arrival, at-each, Grows-arrival, order-grown}

-- ---- which arrival is kept

-- whether the arrival takes the place of the known one
abbrev takes : PlacedTable → Arrival → Arrival → Bool
takes p known a = is_new known || ((known.level == a.level) && ltb (id_at p.cells a.from) (id_at p.cells known.from))

not_new : (a : Arrival) → 0 < a.level → is_new a ≡ false
not_new a positive = false_from_ne_true (is_new a) (λ is. let zero_level = eqb-true a.level 0 is in absurd (omega arith))

pub better-either : (p : PlacedTable) (known a : Arrival) → (better p known a ≡ a) ⊎ (better p known a ≡ known)
better-either p known a = go (takes p known a)
  where
    go : (b : Bool) → (cond b a known ≡ a) ⊎ (cond b a known ≡ known)
    go true = inl refl
    go false = inr refl

pub better-not_new : (p : PlacedTable) (known a : Arrival) → 0 < a.level → is_new (better p known a) ≡ false
better-not_new p known a positive = go (is_new known) refl
  where
    rest : (b : Bool) → is_new known ≡ false → is_new (cond b a known) ≡ false
    rest true old = not_new a positive
    rest false old = old

    go : (b : Bool) → is_new known ≡ b → is_new (better p known a) ≡ false
    go true new = ap (λ b. is_new (cond (b || ((known.level == a.level) && ltb (id_at p.cells a.from) (id_at p.cells known.from))) a known)) new ∙ not_new a positive
    go false old = rest (takes p known a) old

and_false : (b : Bool) → (b && false) ≡ false
and_false true = refl
and_false false = refl

module _ (r : Round) (x : ℕ) (positive : 0 < r.level) where
  -- of two edges from one object the first is kept
  better-again : (known : Arrival) (e d : ℕ × ℕ) → by_edge r x (by_edge r x known e) d ≡ by_edge r x known e
  better-again known e d = go (takes r.placed known (record { level = r.level; from = x; slot = e.0 })) refl
    where
      a : Arrival
      a = record { level = r.level; from = x; slot = e.0 }

      go : (b : Bool) → takes r.placed known (record { level = r.level; from = x; slot = e.0 }) ≡ b →
          by_edge r x (cond b (record { level = r.level; from = x; slot = e.0 }) known) d ≡ cond b (record { level = r.level; from = x; slot = e.0 }) known
      go true taken =
          let old : (r.level == 0) ≡ false = not_new (record { level = r.level; from = x; slot = e.0 }) positive in
          let low : ltb (id_at r.placed.cells x) (id_at r.placed.cells x) ≡ false = le-ltb (id_at r.placed.cells x) (id_at r.placed.cells x) (omega arith) in
          ap (λ b. cond b (record { level = r.level; from = x; slot = d.0 }) (record { level = r.level; from = x; slot = e.0 }))
          ((λ i. old i || ((r.level == r.level) && low i)) ∙ and_false (r.level == r.level))
      go false left = ap (λ b. cond b (record { level = r.level; from = x; slot = d.0 }) known) left

  -- one edge more, to another object
  by_edges-other : (es : List (ℕ × ℕ)) (e : ℕ × ℕ) (known : Arrival) (id : ℕ) → e.1 ≢ id → by_some_edge r x known (first_edge (es ++ e ∷ []) id) ≡ by_some_edge r x known (first_edge es id)
  by_edges-other es e known id other =
      let last : (e.1 == id) ≡ false = false_from_ne_true (e.1 == id) (λ same. other (eqb-true e.1 id same)) in
      ap (λ o. option_map_or (by_edge r x known) o known)
      (find-append (λ d. d.1 == id) es (e ∷ []) ∙ ap (λ b. option_or (find (λ d. d.1 == id) es) (cond b (Some e) None)) last
      ∙ or_none (find (λ d. d.1 == id) es))
    where
      or_none : (o : Option (ℕ × ℕ)) → option_or o None ≡ o
      or_none None = refl
      or_none (Some d) = refl

  -- one edge more, to this object
  by_edges-here : (es : List (ℕ × ℕ)) (e : ℕ × ℕ) (known : Arrival) → by_some_edge r x known (first_edge (es ++ e ∷ []) e.1) ≡ by_edge r x (by_some_edge r x known (first_edge es e.1)) e
  by_edges-here es e known =
      ap (λ o. option_map_or (by_edge r x known) o known) (find-append (λ d. d.1 == e.1) es (e ∷ []) ∙ ap (λ b. option_or (find (λ d. d.1 == e.1) es) (cond b (Some e) None)) (eq-eqb e.1 e.1 refl))
      ∙ go (find (λ d. d.1 == e.1) es)
    where
      go : (o : Option (ℕ × ℕ)) → option_map_or (by_edge r x known) (option_or o (Some e)) known ≡ by_edge r x (option_map_or (by_edge r x known) o known) e
      go None = refl
      go (Some d) = sym (better-again known d e)

-- ---- one edge of an object

-- the arrivals after some edges of the object in the cell x, from those before
abbrev pub AreBy : Round → ℕ → List (ℕ × ℕ) → List Arrival → List Arrival → Type 0
AreBy r x es before after = (to id : ℕ) → id_in r.placed to ≡ Some id → arrival_in after to ≡ by_some_edge r x (arrival_in before to) (first_edge es id)

module _ (r : Round) (placed : IsPlaced r.placed) (x : ℕ) (positive : 0 < r.level) (held : IsSome (id_in r.placed x)) (f : Front)
    (target y slot : ℕ) (at_target : id_in r.placed target ≡ Some y) (under_way : IsUnderWay r.placed r.level f) where
  abbrev by : Arrival
  by = record { level = r.level; from = x; slot = slot }

  abbrev kept : Arrival
  kept = better r.placed (arrival_in f.arrivals target) by

  abbrev pub next : Front
  next = with_arrival f target kept

  module _ (within : target < length f.arrivals) where
    pub next-grows : FrontGrows r.placed f next
    next-grows =
        Grows-arrival r.placed f target kept within (subst IsSome (sym at_target) refl) (better-not_new r.placed (arrival_in f.arrivals target) by positive)

    pub next-under_way : IsUnderWay r.placed r.level next
    next-under_way = record {
      up_to = record {
        each = next-grows.each ∙ under_way.up_to.each;
        held = order-grown r.placed f next next-grows (λ c. IsSome (id_in r.placed c)) under_way.up_to.held (λ c is. is);
        low = at-each (λ c a. a.level ≤ r.level) f target kept within
            (⊎_elim (λ e. subst (λ (a : Arrival). a.level ≤ r.level) (sym e) (omega arith))
            (λ e. subst (λ (a : Arrival). a.level ≤ r.level) (sym e) (under_way.up_to.low target))
            (better-either r.placed (arrival_in f.arrivals target) by))
            (λ c other. under_way.up_to.low c);
      };
      from = at-each (λ c a. a.level ≡ r.level → IsSome (id_in r.placed a.from)) f target kept within
          (⊎_elim (λ e. subst (λ (a : Arrival). a.level ≡ r.level → IsSome (id_in r.placed a.from)) (sym e) (λ same. held))
          (λ e. subst (λ (a : Arrival). a.level ≡ r.level → IsSome (id_in r.placed a.from)) (sym e) (under_way.from target))
          (better-either r.placed (arrival_in f.arrivals target) by))
          (λ c other. under_way.from c);
    }

    pub next-by : (es : List (ℕ × ℕ)) (before : List Arrival) → AreBy r x es before f.arrivals → AreBy r x (es ++ (slot, y) ∷ []) before next.arrivals
    next-by es before are to id at_to =
        at-each (λ c a. (n : ℕ) → id_in r.placed c ≡ Some n → a ≡ by_some_edge r x (arrival_in before c) (first_edge (es ++ (slot, y) ∷ []) n)) f target kept within
        (λ n at_n.
        let same : y ≡ n = same_Some (sym at_target ∙ at_n) in
        subst (λ n. kept ≡ by_some_edge r x (arrival_in before target) (first_edge (es ++ (slot, y) ∷ []) n)) same
        (ap (λ a. by_edge r x a (slot, y)) (are target y at_target) ∙ sym (by_edges-here r x positive es (slot, y) (arrival_in before target))))
        (λ c other n at_n. are c n at_n ∙ sym (by_edges-other r x positive es (slot, y) (arrival_in before c) n (λ same. other (placed.once c target n at_n (at_target ∙ ap Some same)))))
        to id at_to
      where
        same_Some : {a b : ℕ} → Some a ≡ Some b → a ≡ b
        same_Some e = cc

-- ---- the objects of a level, one after another

pub take-drop-more : (xs : List ℕ) (from place : ℕ) → from ≤ place → place < length xs → take ((place + 1) - from) (drop from xs) ≡ take (place - from) (drop from xs) ++ get_or xs place 0 ∷ []
take-drop-more xs from place after within =
    let one_more : (place + 1) - from ≡ (place - from) + 1 = omega arith in
    let here : from + (place - from) ≡ place = omega arith in
    let inside : place - from < length (drop from xs) = omega (arith, length-drop from xs) in
    ap (λ k. take k (drop from xs)) one_more
    ∙ take_more (drop from xs) (place - from) 0 inside
    ∙ ap (λ x. take (place - from) (drop from xs) ++ x ∷ []) (get_or-drop from xs (place - from) 0 ∙ ap (λ k. get_or xs k 0) here)

-- one object more
by_objects-snoc : (r : Round) (xs : List ℕ) (x : ℕ) (known : Arrival) (id : ℕ) →
    by_objects r (xs ++ x ∷ []) known id ≡ cond (get_or r.shut x false) (by_objects r xs known id) (by_object r x (by_objects r xs known id) id)
by_objects-snoc r [] x known id = refl
by_objects-snoc r (z ∷ xs) x known id = by_objects-snoc r xs x (cond (get_or r.shut z false) known (by_object r z known id)) id

module _ (r : Round) (xs : List ℕ) (x : ℕ) (before now : List Arrival) (are : AreByObjects r xs before now) where
  pub by_objects-shut : get_or r.shut x false ≡ true → AreByObjects r (xs ++ x ∷ []) before now
  by_objects-shut shut cell id at =
      are cell id at
      ∙ sym (by_objects-snoc r xs x (arrival_in before cell) id ∙ ap (λ b. cond b (by_objects r xs (arrival_in before cell) id) (by_object r x (by_objects r xs (arrival_in before cell) id) id)) shut)

  pub by_objects-open : (later : List Arrival) → get_or r.shut x false ≡ false →
      ((cell id : ℕ) → id_in r.placed cell ≡ Some id → arrival_in later cell ≡ by_object r x (arrival_in now cell) id) →
      AreByObjects r (xs ++ x ∷ []) before later
  by_objects-open later open_now step cell id at =
      step cell id at
      ∙ ap (λ a. by_object r x a id) (are cell id at)
      ∙ sym
      (by_objects-snoc r xs x (arrival_in before cell) id
      ∙ ap (λ b. cond b (by_objects r xs (arrival_in before cell) id) (by_object r x (by_objects r xs (arrival_in before cell) id) id)) open_now)

-- a place of the order keeps its cell
pub order-at : (p : PlacedTable) (f g : Front) → FrontGrows p f g → (place cell : ℕ) → place < length f.order → cell ≡ get_or g.order place cell → cell ≡ get_or f.order place 0
order-at p f g grows place cell within read =
    read ∙ ap (λ xs. get_or xs place cell) grows.order ∙ get_or_append_left f.order grows.fresh cell place within ∙ get_or_default f.order place cell 0 within

pub order-within : (p : PlacedTable) (f g : Front) → FrontGrows p f g → length f.order ≤ length g.order
order-within p f g grows = (let e = ap length grows.order in let a = length-append f.order grows.fresh in omega arith)

-- what stands at a place of the order holds an object
pub order-held : (p : PlacedTable) (level : ℕ) (f : Front) (place cell : ℕ) → IsUnderWay p level f → place < length f.order → cell ≡ get_or f.order place cell → IsSome (id_in p cell)
order-held p level f place cell under_way within read =
    under_way.up_to.held cell (subst (λ x. IsTrue (has_id f.order x)) (sym read) (All-has_id f.order place cell within))

-- nothing arrived at the next level yet
pub begins-level : (p : PlacedTable) (level : ℕ) (f : Front) → GoesUpTo p level f → IsUnderWay p (level + 1) f
begins-level p level f low = record {
  up_to = record { each = low.each; held = low.held; low = λ cell. (let l = low.low cell in omega arith) };
  from = λ cell is. absurd (let l = low.low cell in omega arith);
}
