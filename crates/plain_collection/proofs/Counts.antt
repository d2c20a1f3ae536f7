-- References and instances, counted one after another.
use Rattle.std.proofs.Common.{◌≡◌, ◌≢◌, ℕ, ◌+◌, ◌<◌, ◌≤◌, ◌||◌, cond, ⊎_elim, List, [], ◌∷◌, ◌++◌, length, filter, get_or, replicate, set}
use Rattle.std.proofs.Common.{Option, Some, sym, ap, ◌∙◌, arith, append-nil, eqb-true, eq-eqb}
use Rattle.std.specs.Prelude.{◌==◌}
use Rattle.std.specs.List.{slice_get}
use Rattle.std.specs.Str.{bytes_eq}
use Rattle.std.proofs.lemmas.Bool.{cases_eq, false_from_ne_true}
use Rattle.std.proofs.lemmas.List.{get_or-set_same, get_or-set_other, length-append, length-map, take_all}
use Rattle.std.proofs.lemmas.Option.{slice_get_within, get_or_from_slice_get}
use Rattle.graph_meaning.specs.Assertions.{Reference, reference_count, roots_to, is_traced, traced_ids, is_owner}
use Rattle.graph_meaning.specs.Collecting.{instances}
use Rattle.graph_meaning.specs.Heap.{Table, Heap, ids, kind_at}
use Rattle.graph_meaning.specs.Roles.{RoleTable}
use Rattle.object_table.specs.Placed.{PlacedTable, IsPlaced, id_in}
use Rattle.assert_registry.proofs.Marking.{get_or-replicate_same}
use Rattle.object_paths.specs.Prefixes.{IsOneMore, scanned_slots}
use Rattle.object_paths.proofs.Listing.{references-are}
use Rattle.verdict_list.proofs.Counting.{AreCounted, seen}
use Rattle.plain_collection.specs.Counting.{CountsLists, AtMost}

-- lists that are the same for each object
pub counts-same : (p : PlacedTable) (before after : ℕ → List Reference) (counts : List ℕ) → ((id : ℕ) → before id ≡ after id) → CountsLists p before counts → CountsLists p after counts
counts-same p before after counts same are cell id held = are cell id held ∙ ap length (same id)

same-id : (a b : ℕ) → Some a ≡ Some b → a ≡ b
same-id a b e = cc

-- a reference more to the object in a cell
pub counted-more : (p : PlacedTable) (before after : ℕ → List Reference) (counts : List ℕ) (cell id : ℕ) (r : Reference) → IsPlaced p →
    id_in p cell ≡ Some id → cell < length counts → IsOneMore id r before after → CountsLists p before counts →
    CountsLists p after (set counts cell (get_or counts cell 0 + 1))
counted-more p before after counts cell id r placed held within more are c x at = ⊎_elim same other (cases_eq id x)
  where
    same : id ≡ x → get_or (set counts cell (get_or counts cell 0 + 1)) c 0 ≡ length (after x)
    same e =
        let here : c ≡ cell = placed.once c cell x at (held ∙ ap Some e) in
        let list : length (after x) ≡ length (before x) + 1 = ap length (more x ∙ ap (λ b. before x ++ cond b (r ∷ []) []) (eq-eqb id x e)) ∙ length-append (before x) (r ∷ []) in
        let was = are c x at in
        let now : get_or (set counts cell (get_or counts cell 0 + 1)) c 0 ≡ get_or counts cell 0 + 1 =
        ap (λ k. get_or (set counts cell (get_or counts cell 0 + 1)) k 0) here ∙ get_or-set_same counts cell (get_or counts cell 0 + 1) 0 within in
        let there : get_or counts c 0 ≡ get_or counts cell 0 = ap (λ k. get_or counts k 0) here in
        omega (arith, list, was, now, there)

    other : id ≢ x → get_or (set counts cell (get_or counts cell 0 + 1)) c 0 ≡ length (after x)
    other ne =
        let apart : c ≢ cell = λ e. ne (same-id id x (sym held ∙ ap (id_in p) (sym e) ∙ at)) in
        get_or-set_other counts cell c (get_or counts cell 0 + 1) 0 apart
        ∙ are c x at
        ∙ ap length (sym (more x ∙ ap (λ b. before x ++ cond b (r ∷ []) []) (false_from_ne_true (id == x) (λ e. ne (eqb-true id x e))) ∙ append-nil (before x)))

-- at most so many are at most more
pub most-weaker : (counts : List ℕ) (most more : ℕ) → most ≤ more → AtMost most counts → AtMost more counts
most-weaker counts most more le few c = let at = few c in omega arith

-- ---- at the beginning

pub counts-none : (p : PlacedTable) (cells : ℕ) (counts : List ℕ) → counts ≡ replicate cells 0 → CountsLists p (λ id. []) counts
counts-none p cells counts are cell id held = ap (λ xs. get_or xs cell 0) are ∙ get_or-replicate_same cells cell 0

pub most-none : (cells : ℕ) (counts : List ℕ) → counts ≡ replicate cells 0 → AtMost 0 counts
most-none cells counts are cell =
    let none : get_or counts cell 0 ≡ 0 = ap (λ xs. get_or xs cell 0) are ∙ get_or-replicate_same cells cell 0 in omega (arith, none)

-- ---- at the end

-- the counts are the numbers of references
pub counts-references : (p : PlacedTable) (h : Heap) (counts : List ℕ) → h.table ≡ p.table →
    CountsLists p (λ id. roots_to p.table id ++ scanned_slots p.table (λ x. is_traced h x || is_owner h x) id) counts →
    (cell id : ℕ) → id_in p cell ≡ Some id → get_or counts cell 0 ≡ reference_count h id
counts-references p h counts same are cell id held = are cell id held ∙ ap length (references-are h p.table id same)

-- ---- instances

-- when all objects were counted, the counts are those of the instances
pub counts-instances : (p : PlacedTable) (r : RoleTable) (h : Heap) (counts : List ℕ) (places : List (Option ℕ)) (n : ℕ) → h.table ≡ p.table →
    length p.table.objects ≤ n → AreCounted p r h counts places n → (kind : ℕ) (name : List ℕ) → slice_get p.table.kinds kind ≡ Some name →
    get_or counts kind 0 ≡ length (instances h name)
unfolding instances traced_ids
counts-instances p r h counts places n same past counted kind name named =
    let within = slice_get_within p.table.kinds kind name named in
    counted.count kind within
    ∙ ap (λ nm. length (seen p h nm n)) (get_or_from_slice_get p.table.kinds kind name [] named)
    ∙ ap (λ xs. length (filter (λ id. bytes_eq (kind_at p.table id) name) (filter (is_traced h) xs))) (take_all n (ids p.table) (omega (arith, past, length-map p.table.objects (λ o. o.id))))
    ∙ ap (λ (t : Table). length (filter (λ id. bytes_eq (kind_at t id) name) (filter (is_traced h) (ids t)))) (sym same)
