-- What the search of an owner keeps, and what it has found at its end.
use Rattle.std.proofs.Common.{◌≡◌, ℕ, Bool, true, false, ◌&&◌, ◌||◌, not, ⊎_elim, ◌⊎◌, inl, inr, List, [], ◌∷◌, ◌++◌, sym, refl, ap, subst, ◌∙◌, eqb-true, eq-eqb, ◌==◌, IsTrue, Option, None, Some}
use Rattle.std.specs.Prelude.{IsSome, IsSomeAnd}
use Rattle.std.proofs.Math.Bool.{or-false, or_assoc}
use Rattle.std.proofs.lemmas.Bool.{not-true, or_cases, or_left, or_right, and_parts, false≢true}
use Rattle.graph_meaning.specs.Heap.{targets}
use Rattle.graph_meaning.specs.Reach.{Graph, has_id}
use Rattle.graph_meaning.specs.Roles.{RoleTable, id_at}
use Rattle.graph_meaning.proofs.Distances.{same_bools}
use Rattle.graph_meaning.proofs.HeapLemmas.{has_id-ids}
use Rattle.graph_meaning.proofs.Membership.{has_id-append}
use Rattle.graph_meaning.proofs.Reaching.{IsClosed, IsClosed-reachable, reached_is_reachable, reached_nodes-closed}
use Rattle.object_table.specs.Placed.{PlacedTable, id_in, IsPlaced}
use Rattle.path_cert.specs.Cells.{by_id}
use Rattle.path_cert.specs.Finds.{is_border_cell, border_graph, found_ids, finds_in}
use Rattle.path_cert.specs.Quests.{SearchState, MeetsAll, Reaches, Quest, IsFollowed, IsSearching}
use Rattle.path_cert.proofs.ByIds.{by_id-held, by_id-true}
use Rattle.path_cert.proofs.HeldObjects.{held-id, id-held}

-- ---- cells that are met

none_new : (w m n : Bool) → w ≡ (w || ((m && not m) && n))
none_new true m n = refl
none_new false true n = refl
none_new false false n = refl

MeetsAll-none : (r : RoleTable) (s : SearchState) → MeetsAll r [] s s
MeetsAll-none r s = record {
  met = λ x. sym (or-false (s.met x));
  work = λ x. none_new (has_id s.work x) (s.met x) (not (is_border_cell r x));
}

work_both : (w a p q n : Bool) → ((w || (((a || p) && not a) && n)) || ((((a || p) || q) && not (a || p)) && n)) ≡ (w || ((((a || p) || q) && not a) && n))
work_both true a p q n = refl
work_both false true p q n = refl
work_both false false true q n = or-false n
work_both false false false q n = refl

MeetsAll-more : (r : RoleTable) (cells : List ℕ) (cell : ℕ) (a b c : SearchState) → MeetsAll r cells a b → MeetsAll r (cell ∷ []) b c → MeetsAll r (cells ++ cell ∷ []) a c
MeetsAll-more r cells cell a b c first next = record {
  met = λ x.
      next.met x
      ∙ ap (λ m. m || has_id (cell ∷ []) x) (first.met x)
      ∙ or_assoc (a.met x) (has_id cells x) (has_id (cell ∷ []) x)
      ∙ ap (λ m. a.met x || m) (sym (has_id-append cells (cell ∷ []) x));
  work = λ x.
      let now = next.met x ∙ ap (λ m. m || has_id (cell ∷ []) x) (first.met x) in
      let n = not (is_border_cell r x) in
      next.work x
      ∙ ap (λ w. w || ((c.met x && not (b.met x)) && n)) (first.work x)
      ∙ (λ i. (has_id a.work x || ((first.met x i && not (a.met x)) && n)) || ((now i && not (first.met x i)) && n))
      ∙ work_both (has_id a.work x) (a.met x) (has_id cells x) (has_id (cell ∷ []) x) n
      ∙ sym (ap (λ m. has_id a.work x || ((m && not (a.met x)) && n)) now);
}

same_Some : {x y : ℕ} → Some x ≡ Some y → x ≡ y
same_Some e = cc

pub Reaches-none : (p : PlacedTable) (r : RoleTable) (s : SearchState) → Reaches (record { placed = p; roles = r }) [] s s
Reaches-none p r s = record {
  cells = [];
  are = λ cell id at. refl;
  held = λ cell at. absurd (false≢true at);
  meets = MeetsAll-none r s;
}

pub Reaches-more : (p : PlacedTable) → IsPlaced p → (r : RoleTable) (ids : List ℕ) (cell id : ℕ) (a b c : SearchState) → Reaches (record { placed = p; roles = r }) ids a b →
    id_in p cell ≡ Some id → MeetsAll r (cell ∷ []) b c → Reaches (record { placed = p; roles = r }) (ids ++ id ∷ []) a c
Reaches-more p placed r ids cell id a b c first held next = record {
  cells = first.cells ++ cell ∷ [];
  are = λ x y at.
      has_id-append first.cells (cell ∷ []) x
      ∙ (λ i. first.are x y at i ||
      (same_bools (cell == x) (id == y) (λ e. eq-eqb id y (same_Some (sym held ∙ ap (id_in p) (eqb-true cell x e) ∙ at)))
      (λ e. eq-eqb cell x (placed.once cell x y (held ∙ ap Some (eqb-true id y e)) at)) i || false))
      ∙ sym (has_id-append ids (id ∷ []) y);
  held = λ x at.
      ⊎_elim (first.held x)
      (λ last. ⊎_elim (λ e. subst (λ k. IsSome (id_in p k)) (eqb-true cell x e) (subst IsSome (sym held) refl)) (λ e. absurd (false≢true e)) (or_cases _ _ last))
      (or_cases _ _ (sym (has_id-append first.cells (cell ∷ []) x) ∙ at));
  meets = MeetsAll-more r first.cells cell a b c first.meets next;
}

-- ---- a step of the search

-- what the owner finds
abbrev IsFound : Quest → ℕ → Type 0
IsFound q id = IsTrue (has_id (found_ids q.placed q.roles q.owner) id)

-- The search goes on as it should but from this cell.
pub record IsSearchingBut (q : Quest) (cell : ℕ) (s : SearchState) : Type 0 where
  pub sound : (x : ℕ) → IsTrue (s.met x) → IsSomeAnd (id_in q.placed x) (λ id. IsTrue (has_id (found_ids q.placed q.roles q.owner) id))
  pub waiting : (x : ℕ) → IsTrue (has_id s.work x) → IsTrue (s.met x) × (is_border_cell q.roles x ≡ false)
  pub closed : (x : ℕ) → IsTrue (s.met x) → is_border_cell q.roles x ≡ false → (x ≡ cell) ⊎ (IsTrue (has_id s.work x) ⊎ IsFollowed q.placed s x)

-- the edges of the object in a cell lead to what the owner finds
abbrev LeadsToFound : Quest → ℕ → Type 0
LeadsToFound q cell =
    (id : ℕ) → IsTrue (has_id (targets q.placed.table (id_at q.placed.cells cell)) id) → IsTrue (has_id (border_graph q.placed q.roles).nodes id) →
    IsTrue (has_id (found_ids q.placed q.roles q.owner) id)

some-id : (P : ℕ → Type 0) (o : Option ℕ) → IsSomeAnd o P → (id : ℕ) × (o ≡ Some id) × P id
some-id P None none = absurd none
some-id P (Some id) is = (id, refl, is)

module _ (q : Quest) (placed : IsPlaced q.placed) where
  abbrev p : PlacedTable
  p = q.placed

  abbrev g : Graph
  g = border_graph q.placed q.roles

  abbrev sources : List ℕ
  sources = targets q.placed.table (id_at q.placed.cells q.owner)

  node : (cell id : ℕ) → id_in p cell ≡ Some id → IsTrue (has_id g.nodes id)
  node cell id held = has_id-ids p.table id ∙ placed.live cell id held

  -- so do those of the owner, and of what is found and no border object
  owner-leads : LeadsToFound q q.owner
  owner-leads id at there = (reached_nodes-closed g sources).from_sources id at there

  cell-leads : (cell : ℕ) → IsSomeAnd (id_in p cell) (IsFound q) → is_border_cell q.roles cell ≡ false → LeadsToFound q cell
  cell-leads cell found inner id at there =
      let x = some-id (IsFound q) (id_in p cell) found in
      let passes : IsTrue (g.passable x.0) = ap not (by_id-held p placed (is_border_cell q.roles) cell x.0 x.1 ∙ inner) in
      let edge = subst (λ y. IsTrue (has_id (targets p.table y) id)) (id-held p cell x.0 x.1) at in
      (reached_nodes-closed g sources).along_edges x.0 id x.2 passes (edge, there)

  module _ (cell : ℕ) (s t : SearchState) (now : IsSearchingBut q cell s) (leads : LeadsToFound q cell)
      (reaches : Reaches (record { placed = p; roles = q.roles }) (targets p.table (id_at p.cells cell)) s t) where
    still : (x : ℕ) → IsTrue (s.met x) → IsTrue (t.met x)
    still x met = reaches.meets.met x ∙ or_left _ _ met

    pub followed : IsFollowed p t cell
    followed c id held at = reaches.meets.met c ∙ or_right _ _ (reaches.are c id held ∙ at)

    pub followed-still : (x : ℕ) → IsFollowed p s x → IsFollowed p t x
    followed-still x was c id held at = still c (was c id held at)

    sound-next : (x : ℕ) → IsTrue (t.met x) → IsSomeAnd (id_in p x) (IsFound q)
    sound-next x met =
        ⊎_elim (now.sound x)
        (λ new.
        let held = held-id p x (reaches.held x new) in
        subst (λ o. IsSomeAnd o (IsFound q)) (sym held) (leads (id_at p.cells x) (sym (reaches.are x (id_at p.cells x) held) ∙ new) (node x (id_at p.cells x) held)))
        (or_cases _ _ (sym (reaches.meets.met x) ∙ met))

    closed-next : (x : ℕ) → IsTrue (t.met x) → is_border_cell q.roles x ≡ false → IsTrue (has_id t.work x) ⊎ IsFollowed p t x
    closed-next x met inner = go (s.met x) refl
      where
        go : (b : Bool) → s.met x ≡ b → IsTrue (has_id t.work x) ⊎ IsFollowed p t x
        go true was =
            ⊎_elim
            (λ same. inr (subst (λ y. IsFollowed p t y) (sym same) followed))
            (λ rest. ⊎_elim (λ waits. inl (reaches.meets.work x ∙ or_left _ _ waits)) (λ done. inr (followed-still x done)) rest)
            (now.closed x was inner)
        go false new =
            inl (reaches.meets.work x ∙ or_right _ _ ((λ i. (met i && not (new i)) && not (inner i))))

    pub searching-next : IsSearching q t
    searching-next = record {
      sound = sound-next;
      waiting = λ x at.
          ⊎_elim
          (λ old. (still x (now.waiting x old).0, (now.waiting x old).1))
          (λ new. let parts = and_parts _ _ new in ((and_parts _ _ parts.0).0, not-true (is_border_cell q.roles x) parts.1))
          (or_cases _ _ (sym (reaches.meets.work x) ∙ at));
      closed = closed-next;
    }

  -- the last cell of the worklist is taken
  pub searching-pop : (s t : SearchState) (cell : ℕ) → IsSearching q s → s.work ≡ t.work ++ cell ∷ [] → ((x : ℕ) → t.met x ≡ s.met x) → IsSearchingBut q cell t × LeadsToFound q cell
  searching-pop s t cell now work met =
      let in_work = λ (x : ℕ). ap (λ xs. has_id xs x) work ∙ has_id-append t.work (cell ∷ []) x in
      let taken = now.waiting cell (in_work cell ∙ or_right _ _ (or_left _ _ (eq-eqb cell cell refl))) in (
        record {
          sound = λ x at. now.sound x (sym (met x) ∙ at);
          waiting = λ x at. (let was = now.waiting x (in_work x ∙ or_left _ _ at) in (met x ∙ was.0, was.1));
          closed = λ x at inner.
              ⊎_elim
              (λ waits. ⊎_elim (λ rest. inr (inl rest)) (λ last. ⊎_elim (λ e. inl (sym (eqb-true cell x e))) (λ e. absurd (false≢true e)) (or_cases _ _ last)) (or_cases _ _ (sym (in_work x) ∙ waits)))
              (λ done. inr (inr (λ c id held edge. met c ∙ done c id held edge)))
              (now.closed x (sym (met x) ∙ at) inner);
        },
        cell-leads cell (now.sound cell taken.0) taken.1,
      )

  -- nothing is met yet
  pub searching-begin : (s : SearchState) → ((x : ℕ) → s.met x ≡ false) → s.work ≡ [] → IsSearchingBut q q.owner s × LeadsToFound q q.owner
  searching-begin s none empty = (
    record {
      sound = λ x at. absurd (false≢true (sym (none x) ∙ at));
      waiting = λ x at. absurd (false≢true (sym (ap (λ xs. has_id xs x) empty) ∙ at));
      closed = λ x at inner. absurd (false≢true (sym (none x) ∙ at));
    },
    owner-leads,
  )

  -- ---- the end

  module _ (s : SearchState) (now : IsSearching q s) (owner : IsFollowed p s q.owner) where
    all-closed : s.work ≡ [] → IsClosed g sources (by_id p s.met)
    all-closed empty = record {
      from_sources = λ id at there.
          let cell = placed.somewhere id (sym (has_id-ids p.table id) ∙ there) in
          by_id-held p placed s.met cell.0 id cell.1 ∙ owner cell.0 id cell.1 at;
      along_edges = λ x id at passes edge.
          let from = by_id-true p s.met x at in
          let to = placed.somewhere id (sym (has_id-ids p.table id) ∙ edge.1) in
          let inner = sym (by_id-held p placed (is_border_cell q.roles) from.0 x from.1) ∙ not-true (by_id p (is_border_cell q.roles) x) passes in
          by_id-held p placed s.met to.0 id to.1
          ∙ ⊎_elim
          (λ waits. absurd (false≢true (sym (ap (λ xs. has_id xs from.0) empty) ∙ waits)))
          (λ done. done to.0 id to.1 (subst (λ y. IsTrue (has_id (targets p.table y) id)) (sym (id-held p from.0 x from.1)) edge.0))
          (now.closed from.0 from.2 inner);
    }

    met-found : (x : ℕ) → IsSome (id_in p x) → IsTrue (s.met x) → IsFound q (id_at p.cells x)
    met-found x held met =
        let is = some-id (IsFound q) (id_in p x) (now.sound x met) in
        subst (IsFound q) (sym (id-held p x is.0 is.1)) is.2

    -- Where nothing is left to follow or the object was met, it was met exactly where the owner finds it.
    pub met-finds : (x : ℕ) → IsSome (id_in p x) → (s.met x ≡ false → s.work ≡ []) → s.met x ≡ finds_in p q.roles q.owner x
    met-finds x held done = go (s.met x) refl
      where
        reached : s.work ≡ [] → IsTrue (finds_in p q.roles q.owner x) → IsTrue (s.met x)
        reached empty found =
            let reach = IsClosed-reachable g sources (by_id p s.met) (all-closed empty) (id_at p.cells x) ((reached_is_reachable g sources (id_at p.cells x)).0 found) in
            sym (by_id-held p placed s.met x (id_at p.cells x) (held-id p x held)) ∙ reach

        go : (b : Bool) → s.met x ≡ b → s.met x ≡ finds_in p q.roles q.owner x
        go true is = is ∙ sym (met-found x held is)
        go false is = same_bools (s.met x) (finds_in p q.roles q.owner x) (met-found x held) (reached (done is))

-- what the search goes on from holds an object
pub searching-held : (q : Quest) (s : SearchState) → IsSearching q s → (x : ℕ) → IsTrue (has_id s.work x) → IsSome (id_in q.placed x)
searching-held q s now x at =
    (let is = some-id (IsFound q) (id_in q.placed x) (now.sound x (now.waiting x at).0) in subst IsSome (sym is.1) refl)

-- what is on the worklist holds an object
pub work-held : (p : PlacedTable) (r : RoleTable) (ids : List ℕ) (s t : SearchState) (cell : ℕ) (work : List ℕ) → Reaches (record { placed = p; roles = r }) ids s t →
    work ≡ s.work ++ cell ∷ [] → ((x : ℕ) → IsTrue (has_id work x) → IsSome (id_in p x)) → (x : ℕ) → IsTrue (has_id t.work x) → IsSome (id_in p x)
work-held p r ids s t cell work reaches taken held x at =
    let fresh = (t.met x && not (s.met x)) && not (is_border_cell r x) in
    ⊎_elim
    (λ old. held x (ap (λ xs. has_id xs x) taken ∙ has_id-append s.work (cell ∷ []) x ∙ or_left (has_id s.work x) (has_id (cell ∷ []) x) old))
    (λ new.
    let both = and_parts (t.met x) (not (s.met x)) (and_parts (t.met x && not (s.met x)) (not (is_border_cell r x)) new).0 in
    ⊎_elim
    (λ met. absurd (false≢true (sym (not-true (s.met x) both.1) ∙ met)))
    (λ met. reaches.held x met)
    (or_cases (s.met x) (has_id reaches.cells x) (sym (reaches.meets.met x) ∙ both.0)))
    (or_cases (has_id s.work x) fresh (sym (reaches.meets.work x) ∙ at))
