-- Source references, one after another.
use Rattle.std.proofs.Common.{◌≡◌, ◌≢◌, ℕ, zero, suc, ◌+◌, ◌<◌, ◌≤◌, Bool, true, false, cond, List, [], ◌∷◌, ◌++◌, length, map, take, get_or}
use Rattle.std.proofs.Common.{replicate, sym, refl, ap, subst, ◌∙◌, arith, eqb-true, eq-eqb, ◌==◌, Option, None, Some, append-nil, append_assoc}
use Rattle.std.specs.Prelude.{find, IsSome}
use Rattle.std.specs.List.{slice_get}
use Rattle.std.specs.Option.{IfSome, option_or}
use Rattle.std.proofs.lemmas.Bool.{false≢true, false_from_ne_true}
use Rattle.std.proofs.lemmas.List.{map_more, map-append, length-replicate, length-set}
use Rattle.std.proofs.lemmas.Grind.{flat_map-append}
use Rattle.std.proofs.lemmas.List.Folds.{find-append}
use Rattle.std.proofs.lemmas.Option.{slice_get-get_or}
use Rattle.graph_meaning.specs.Heap.{Table, edges}
use Rattle.graph_meaning.specs.Paths.{Way, way_by_edge, root_way, owner_way, ways_from, IsWay}
use Rattle.graph_meaning.specs.Roles.{id_at}
use Rattle.object_table.specs.Placed.{PlacedTable, id_in, IsPlaced}
use Rattle.path_cert.specs.declared.start.Start.{Start}
use Rattle.path_cert.specs.declared.arrival.Arrival.{Arrival}
use Rattle.path_cert.specs.declared.arrival.TheConstants.{NOWHERE}
use Rattle.path_cert.specs.Levels.{arrival_in, is_new, source_way}
use Rattle.path_cert.specs.Frontiers.{Front, FrontGrows, ComesFirst, HasTaken}
use Rattle.path_cert.proofs.Growing.{with_arrival, at-each, Grows-arrival}
use Rattle.path_cert.proofs.HeldObjects.{held-within}

or_none : {X : Type 0} (o : Option X) → option_or o None ≡ o
or_none None = refl
or_none (Some x) = refl

-- one source reference more, to another object
find-other : (ways : List Way) (w : Way) (id : ℕ) → w.to ≢ id → find (λ v. v.to == id) (ways ++ w ∷ []) ≡ find (λ v. v.to == id) ways
find-other ways w id other =
    let last : (w.to == id) ≡ false = false_from_ne_true (w.to == id) (λ same. other (eqb-true w.to id same)) in
    find-append (λ v. v.to == id) ways (w ∷ []) ∙ ap (λ b. option_or (find (λ v. v.to == id) ways) (cond b (Some w) None)) last ∙ or_none (find (λ v. v.to == id) ways)

-- to this object
find-here : (ways : List Way) (w : Way) → find (λ v. v.to == w.to) (ways ++ w ∷ []) ≡ option_or (find (λ v. v.to == w.to) ways) (Some w)
find-here ways w =
    find-append (λ v. v.to == w.to) ways (w ∷ []) ∙ ap (λ b. option_or (find (λ v. v.to == w.to) ways) (cond b (Some w) None)) (eq-eqb w.to w.to refl)

-- one source reference more, to another object
comes-other : (p : PlacedTable) (start : Start) (ways : List Way) (w : Way) (a : Arrival) (id : ℕ) → w.to ≢ id →
    ComesFirst p (record { start = start; ways = ways }) a id → ComesFirst p (record { start = start; ways = ways ++ w ∷ [] }) a id
comes-other p start ways w a id other comes = record {
  level = comes.level;
  none = λ is. find-other ways w id other ∙ comes.none is;
  some = λ is. (let by = comes.some is in (by.0, find-other ways w id other ∙ by.1, by.2, by.3));
}

nowhere-each : (n c : ℕ) → get_or (replicate n NOWHERE) c NOWHERE ≡ NOWHERE
nowhere-each zero c = refl
nowhere-each (suc n) zero = refl
nowhere-each (suc n) (suc c) = nowhere-each n c

-- an arrival by a source reference is kept unless there was one
pub grows-first : (p : PlacedTable) (f : Front) (cell : ℕ) (a : Arrival) → cell < length f.arrivals → IsSome (id_in p cell) → a.level ≡ 1 →
    FrontGrows p f (with_arrival f cell (cond (is_new (arrival_in f.arrivals cell)) a (arrival_in f.arrivals cell)))
grows-first p f cell a within held first =
    Grows-arrival p f cell (cond (is_new (arrival_in f.arrivals cell)) a (arrival_in f.arrivals cell)) within held (go (is_new (arrival_in f.arrivals cell)) refl)
  where
    go : (b : Bool) → is_new (arrival_in f.arrivals cell) ≡ b → is_new (cond b a (arrival_in f.arrivals cell)) ≡ false
    go true new = false_from_ne_true (is_new a) (λ is. let z = eqb-true a.level 0 is in absurd (omega arith))
    go false old = old

-- nothing arrived yet
pub nothing-arrived : (cells : ℕ) (f : Front) → f.arrivals ≡ replicate cells NOWHERE → (cell : ℕ) → arrival_in f.arrivals cell ≡ NOWHERE
nothing-arrived cells f are cell = ap (λ xs. arrival_in xs cell) are ∙ nowhere-each cells cell

pub taken-nothing : (p : PlacedTable) (start : Start) (cells : ℕ) (f : Front) → cells ≡ length p.cells → f.arrivals ≡ replicate cells NOWHERE → HasTaken p start [] f
taken-nothing p start cells f many are = record {
  each = ap length are ∙ length-replicate cells NOWHERE ∙ many;
  arrivals = λ cell id held.
      subst (λ (a : Arrival). ComesFirst p (record { start = start; ways = [] }) a id) (sym (nothing-arrived cells f are cell))
      (record { level = omega arith; none = λ is. refl; some = λ is. absurd (omega arith) });
  low = λ cell. subst (λ (a : Arrival). a.level ≤ 1) (sym (nothing-arrived cells f are cell)) (omega arith);
}

one_from_low : (k : ℕ) → k ≤ 1 → (k == 0) ≡ false → k ≡ 1
one_from_low zero low new = absurd (false≢true (sym new))
one_from_low (suc zero) low new = refl
one_from_low (suc (suc k)) low new = absurd (omega arith)

module _ (p : PlacedTable) (placed : IsPlaced p) (start : Start) (ways : List Way) (f : Front) (taken : HasTaken p start ways f) (cell : ℕ) (w : Way)
    (a : Arrival) (held : id_in p cell ≡ Some w.to) (first : a.level ≡ 1) (by : source_way p start a w.to ≡ Some w) (leads : IsWay p.table w) where
  abbrev known : Arrival
  known = arrival_in f.arrivals cell

  abbrev kept : Arrival
  kept = cond (is_new known) a known

  abbrev pub next_first : Front
  next_first = with_arrival f cell kept

  pub first-within : cell < length f.arrivals
  first-within = subst (λ n. cell < n) (sym taken.each) (held-within p cell w.to held)

  kept_level : (b : Bool) → is_new known ≡ b → (cond b a known).level ≡ 1
  kept_level true new = first
  kept_level false new = one_from_low known.level (taken.low cell) new

  here : (b : Bool) → is_new known ≡ b → ComesFirst p (record { start = start; ways = ways ++ w ∷ [] }) (cond b a known) w.to
  here true new =
      let none = (taken.arrivals cell w.to held).none (eqb-true known.level 0 new) in
      record {
        level = omega arith;
        none = λ is. absurd (omega arith);
        some = λ is. (w, find-here ways w ∙ ap (λ o. option_or o (Some w)) none, by, leads);
      }
  here false new =
      let one = kept_level false new in
      let had = (taken.arrivals cell w.to held).some one in
      record {
        level = omega arith;
        none = λ is. absurd (omega arith);
        some = λ is. (had.0, find-here ways w ∙ ap (λ o. option_or o (Some w)) had.1, had.2, had.3);
      }

  pub first-taken : HasTaken p start (ways ++ w ∷ []) next_first
  first-taken = record {
    each = length-set f.arrivals cell kept ∙ taken.each;
    arrivals = at-each (λ c b. (id : ℕ) → id_in p c ≡ Some id → ComesFirst p (record { start = start; ways = ways ++ w ∷ [] }) b id) f cell kept first-within
        (λ id at. subst (λ n. ComesFirst p (record { start = start; ways = ways ++ w ∷ [] }) kept n) (same_Some (sym held ∙ at)) (here (is_new known) refl))
        (λ c other id at. comes-other p start ways w (arrival_in f.arrivals c) id (λ same. other (placed.once c cell id at (held ∙ ap Some same))) (taken.arrivals c id at));
    low = at-each (λ c b. b.level ≤ 1) f cell kept first-within (let one = kept_level (is_new known) refl in omega arith) (λ c other. taken.low c);
  }
    where
      same_Some : {x y : ℕ} → Some x ≡ Some y → x ≡ y
      same_Some e = cc

-- ---- a root

module _ (p : PlacedTable) (root cell : ℕ) (within : root < length p.table.roots) (names : IfSome (slice_get p.table.roots root) (λ r. id_in p cell ≡ Some r.1)) where
  abbrev pub the_root : List ℕ × ℕ
  the_root = get_or p.table.roots root ([], 0)

  pub root-there : slice_get p.table.roots root ≡ Some the_root
  root-there = slice_get-get_or p.table.roots root ([], 0) within

  pub root-held : id_in p cell ≡ Some the_root.1
  root-held = subst (λ o. IfSome o (λ r. id_in p cell ≡ Some r.1)) root-there names

  pub roots-more : map (root_way p.table) (take (root + 1) p.table.roots) ≡ map (root_way p.table) (take root p.table.roots) ++ root_way p.table the_root ∷ []
  roots-more = map_more (root_way p.table) p.table.roots root ([], 0) within

-- ---- an edge of an owner

-- the ways by these edges of an owner
abbrev pub ways_by : Table → ℕ → List (ℕ × ℕ) → List Way
ways_by t o es = map (way_by_edge t (owner_way t o)) es

pub ways_by-more : (t : Table) (o : ℕ) (ways : List Way) (es : List (ℕ × ℕ)) (e : ℕ × ℕ) → (ways ++ ways_by t o es) ++ way_by_edge t (owner_way t o) e ∷ [] ≡ ways ++ ways_by t o (es ++ e ∷ [])
ways_by-more t o ways es e =
    append_assoc ways (ways_by t o es) (way_by_edge t (owner_way t o) e ∷ []) ∙ ap (λ ws. ways ++ ws) (sym (map-append (way_by_edge t (owner_way t o)) es (e ∷ [])))

pub ways_by-all : (t : Table) (o : ℕ) (ways : List Way) → ways ++ ways_by t o (edges t o) ≡ ways ++ ways_from t (o ∷ [])
ways_by-all t o ways = ap (λ ws. ways ++ ws) (sym (append-nil (ways_by t o (edges t o))))

-- one owner more
pub ways_from-more : (t : Table) (cells : List (Option ℕ)) (owners : List ℕ) (i : ℕ) → i < length owners →
    ways_from t (map (id_at cells) (take (i + 1) owners)) ≡ ways_from t (map (id_at cells) (take i owners)) ++ ways_from t (id_at cells (get_or owners i 0) ∷ [])
ways_from-more t cells owners i within =
    ap (ways_from t) (map_more (id_at cells) owners i 0 within)
    ∙ flat_map-append (λ o. map (way_by_edge t (owner_way t o)) (edges t o)) (map (id_at cells) (take i owners)) (id_at cells (get_or owners i 0) ∷ [])
