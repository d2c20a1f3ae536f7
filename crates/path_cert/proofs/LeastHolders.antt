-- Which object of a level the path comes by, after the edges of some of its objects.
use Rattle.std.proofs.Common.{◌≡◌, ℕ, ◌<◌, ◌≤◌, Bool, true, false, ◌&&◌, ◌||◌, cond, ⊎_elim, ◌⊎◌, inl, inr, List, [], ◌∷◌, ◌++◌, get_or, sym, refl}
use Rattle.std.proofs.Common.{ap, subst, ◌∙◌, arith, eqb-true, eq-eqb, ◌==◌, IsTrue, Option, None, Some, ltb, append_assoc, append-nil}
use Rattle.std.specs.Option.{is_some, option_map_or}
use Rattle.std.proofs.lemmas.Bool.{cases_lt, or_cases, or_left, or_right, false≢true, false_from_ne_true, lt-ltb, le-ltb}
use Rattle.graph_meaning.specs.Heap.{edges}
use Rattle.graph_meaning.specs.Reach.{has_id}
use Rattle.graph_meaning.specs.Roles.{id_at}
use Rattle.graph_meaning.proofs.Membership.{has_id-append}
use Rattle.path_cert.specs.declared.arrival.Arrival.{Arrival}
use Rattle.path_cert.proofs.Rounds.{find-passes}
use Rattle.path_cert.specs.Frontiers.{Round, better, by_edge, first_edge, by_object, by_objects}

-- the first edge of the object in a cell to the object of an id
abbrev pub edge_to : Round → ℕ → ℕ → Option (ℕ × ℕ)
edge_to r x id = first_edge (edges r.placed.table (id_at r.placed.cells x)) id

abbrev pub is_open : Round → ℕ → Type 0
is_open r x = get_or r.shut x false ≡ false

-- None of these objects that is open has an edge to the object.
pub record NoneHolds (r : Round) (xs : List ℕ) (a : Arrival) (id : ℕ) : Type 0 where
  pub level : a.level ≡ 0
  pub none : (x : ℕ) → IsTrue (has_id xs x) → is_open r x → edge_to r x id ≡ None

-- Of those that are open and have one the path comes by the one with the least id, by its first.
pub record LeastHolds (r : Round) (xs : List ℕ) (a : Arrival) (id : ℕ) : Type 0 where
  pub level : a.level ≡ r.level
  pub among : IsTrue (has_id xs a.from)
  pub opens : is_open r a.from
  pub edge : edge_to r a.from id ≡ Some (a.slot, id)
  pub least : (x : ℕ) → IsTrue (has_id xs x) → is_open r x → IsTrue (is_some (edge_to r x id)) → id_at r.placed.cells a.from ≤ id_at r.placed.cells x

module _ (r : Round) (positive : 0 < r.level) (id : ℕ) where
  abbrev Held : List ℕ → Arrival → Type 0
  Held xs a = NoneHolds r xs a id ⊎ LeastHolds r xs a id

  -- what is among these and one more
  among-more : (xs : List ℕ) (x : ℕ) (P : ℕ → Type 0) → ((y : ℕ) → IsTrue (has_id xs y) → P y) → P x → (y : ℕ) → IsTrue (has_id (xs ++ x ∷ []) y) → P y
  among-more xs x P old here y at =
      ⊎_elim (old y)
      (λ last. ⊎_elim (λ e. subst P (eqb-true x y e) here) (λ e. absurd (false≢true e)) (or_cases _ _ last))
      (or_cases _ _ (sym (has_id-append xs (x ∷ []) y) ∙ at))

  still : (xs : List ℕ) (x y : ℕ) → IsTrue (has_id xs y) → IsTrue (has_id (xs ++ x ∷ []) y)
  still xs x y at = has_id-append xs (x ∷ []) y ∙ or_left _ _ at

  last : (xs : List ℕ) (x : ℕ) → IsTrue (has_id (xs ++ x ∷ []) x)
  last xs x = has_id-append xs (x ∷ []) x ∙ or_right _ _ (or_left _ _ (eq-eqb x x refl))

  -- nothing is changed by an object that is shut, or has no edge to this one
  passed : (xs : List ℕ) (x : ℕ) (a : Arrival) → (is_open r x → edge_to r x id ≡ None) → Held xs a → Held (xs ++ x ∷ []) a
  passed xs x a none (inl h) =
      inl (record { level = h.level; none = among-more xs x (λ y. is_open r y → edge_to r y id ≡ None) h.none none })
  passed xs x a none (inr h) = inr (record {
    level = h.level;
    among = still xs x a.from h.among;
    opens = h.opens;
    edge = h.edge;
    least =
        among-more xs x (λ y. is_open r y → IsTrue (is_some (edge_to r y id)) → id_at r.placed.cells a.from ≤ id_at r.placed.cells y) h.least
        (λ opened some. absurd (false≢true (sym (ap is_some (none opened)) ∙ some)));
  })

  module _ (xs : List ℕ) (x : ℕ) (e : ℕ × ℕ) (opened : is_open r x) (edge : edge_to r x id ≡ Some e) (to : e.1 ≡ id) where
    abbrev by : Arrival
    by = record { level = r.level; from = x; slot = e.0 }

    edge_is : edge_to r x id ≡ Some (e.0, id)
    edge_is = edge ∙ ap (λ y. Some (e.0, y)) to

    -- the path comes by it where none of the others that have an edge has a lesser id
    by_least : ((y : ℕ) → IsTrue (has_id xs y) → is_open r y → IsTrue (is_some (edge_to r y id)) → id_at r.placed.cells x ≤ id_at r.placed.cells y) → Held (xs ++ x ∷ []) by
    by_least low = inr (record {
      level = refl;
      among = last xs x;
      opens = opened;
      edge = edge_is;
      least =
          among-more xs x (λ y. is_open r y → IsTrue (is_some (edge_to r y id)) → id_at r.placed.cells x ≤ id_at r.placed.cells y) low
          (λ y_open some. omega arith);
    })

    -- it is the first that has an edge
    first : (a : Arrival) → NoneHolds r xs a id → Held (xs ++ x ∷ []) (better r.placed a by)
    first a h = subst (λ (b : Arrival). Held (xs ++ x ∷ []) b) (sym taken) (by_least
        (λ y at y_open some. absurd (false≢true (sym (ap is_some (h.none y at y_open)) ∙ some))))
      where
        taken : better r.placed a by ≡ by
        taken = ap (λ n. cond ((n == 0) || ((a.level == r.level) && ltb (id_at r.placed.cells x) (id_at r.placed.cells a.from))) by a) h.level

    -- another has one already
    another : (a : Arrival) → LeastHolds r xs a id → Held (xs ++ x ∷ []) (better r.placed a by)
    another a h = ⊎_elim lower higher (cases_lt (id_at r.placed.cells x) (id_at r.placed.cells a.from))
      where
        test : (b : Bool) → ltb (id_at r.placed.cells x) (id_at r.placed.cells a.from) ≡ b → better r.placed a by ≡ cond b by a
        test b is =
            let old : (a.level == 0) ≡ false = false_from_ne_true (a.level == 0) (λ zero_level. let z = eqb-true a.level 0 zero_level in let l = h.level in absurd (omega arith)) in
            (λ i. cond (old i || ((eq-eqb a.level r.level h.level) i && is i)) by a)

        lower : id_at r.placed.cells x < id_at r.placed.cells a.from → Held (xs ++ x ∷ []) (better r.placed a by)
        lower less = subst (λ (b : Arrival). Held (xs ++ x ∷ []) b) (sym (test true (lt-ltb (id_at r.placed.cells x) (id_at r.placed.cells a.from) less)))
            (by_least (λ y at y_open some. let low = h.least y at y_open some in omega arith))

        higher : id_at r.placed.cells a.from ≤ id_at r.placed.cells x → Held (xs ++ x ∷ []) (better r.placed a by)
        higher low = subst (λ (b : Arrival). Held (xs ++ x ∷ []) b) (sym (test false (le-ltb (id_at r.placed.cells x) (id_at r.placed.cells a.from) low))) (inr (record {
          level = h.level;
          among = still xs x a.from h.among;
          opens = h.opens;
          edge = h.edge;
          least = among-more xs x (λ y. is_open r y → IsTrue (is_some (edge_to r y id)) → id_at r.placed.cells a.from ≤ id_at r.placed.cells y) h.least (λ y_open some. low);
        }))

    found : (a : Arrival) → Held xs a → Held (xs ++ x ∷ []) (better r.placed a by)
    found a (inl h) = first a h
    found a (inr h) = another a h

  step_open : (xs : List ℕ) (x : ℕ) (a : Arrival) → is_open r x → Held xs a → Held (xs ++ x ∷ []) (by_object r x a id)
  step_open xs x a opened h = go (edge_to r x id) refl
    where
      go : (o : Option (ℕ × ℕ)) → edge_to r x id ≡ o → Held (xs ++ x ∷ []) (option_map_or (by_edge r x a) o a)
      go None is = passed xs x a (λ _. is) h
      go (Some e) is =
          found xs x e opened is (eqb-true e.1 id (find-passes (λ d. d.1 == id) (edges r.placed.table (id_at r.placed.cells x)) e is)) a h

  step : (xs : List ℕ) (x : ℕ) (a : Arrival) → Held xs a → Held (xs ++ x ∷ []) (cond (get_or r.shut x false) a (by_object r x a id))
  step xs x a h = go (get_or r.shut x false) refl
    where
      go : (b : Bool) → get_or r.shut x false ≡ b → Held (xs ++ x ∷ []) (cond b a (by_object r x a id))
      go true shut = passed xs x a (λ opened. absurd (false≢true (sym opened ∙ shut))) h
      go false opened = step_open xs x a opened h

  all-after : (done xs : List ℕ) (a : Arrival) → Held done a → Held (done ++ xs) (by_objects r xs a id)
  all-after done [] a h = subst (λ ys. Held ys a) (sym (append-nil done)) h
  all-after done (x ∷ xs) a h =
      subst (λ ys. Held ys (by_objects r xs (cond (get_or r.shut x false) a (by_object r x a id)) id)) (append_assoc done (x ∷ []) xs)
      (all-after (done ++ x ∷ []) xs (cond (get_or r.shut x false) a (by_object r x a id)) (step done x a h))

  -- Where no path arrived before, it comes by the least of those that hold the object.
  pub by_objects-least : (xs : List ℕ) (a : Arrival) → a.level ≡ 0 → NoneHolds r xs (by_objects r xs a id) id ⊎ LeastHolds r xs (by_objects r xs a id) id
  by_objects-least xs a new = all-after [] xs a (inl (record { level = new; none = λ x at. absurd (false≢true at) }))

  -- What arrived at an earlier level stays.
  stays_by : (x : ℕ) (a : Arrival) → 0 < a.level → a.level < r.level → by_object r x a id ≡ a
  stays_by x a old low = go (edge_to r x id)
    where
      go : (o : Option (ℕ × ℕ)) → option_map_or (by_edge r x a) o a ≡ a
      go None = refl
      go (Some e) =
          let not_new : (a.level == 0) ≡ false = false_from_ne_true (a.level == 0) (λ is. let z = eqb-true a.level 0 is in absurd (omega arith)) in
          let not_now : (a.level == r.level) ≡ false = false_from_ne_true (a.level == r.level) (λ is. let z = eqb-true a.level r.level is in absurd (omega arith)) in
          (λ i. cond (not_new i || (not_now i && ltb (id_at r.placed.cells x) (id_at r.placed.cells a.from))) (record { level = r.level; from = x; slot = e.0 }) a)

  pub by_objects-stays : (xs : List ℕ) (a : Arrival) → 0 < a.level → a.level < r.level → by_objects r xs a id ≡ a
  by_objects-stays [] a old low = refl
  by_objects-stays (x ∷ xs) a old low = ap (λ b. by_objects r xs b id) (go (get_or r.shut x false)) ∙ by_objects-stays xs a old low
    where
      go : (b : Bool) → cond b a (by_object r x a id) ≡ a
      go true = refl
      go false = stays_by x a old low
