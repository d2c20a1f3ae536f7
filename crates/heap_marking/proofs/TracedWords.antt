-- What the closed words say of the heap, after the three phases.
use Rattle.std.proofs.Common.{◌≡◌, ℕ, ◌<◌, ◌≤◌, Bool, true, false, ⊎_elim, List, length, get_or, sym, refl, ap, ◌∙◌, arith, None, Some, IsTrue}
use Rattle.std.specs.Prelude.{is_some, nat_le, slice_index}
use Rattle.std.specs.List.{All, range_with_len}
use Rattle.std.proofs.lemmas.Bool.{cases_lt, false≢true}
use Rattle.std.proofs.lemmas.List.{length-map, get_or-map, get_or_past}
use Rattle.std.proofs.lemmas.List.FromFn.{length-range_with_len, get_or-range_with_len}
use Rattle.heap_base.specs.Counting.{bit, is_positive}
use Rattle.heap_base.proofs.Counting.{total-map}
use Rattle.graph_meaning.specs.Assertions.{is_traced, traced_ids, is_ownee, is_met, finds, reference_count}
use Rattle.graph_meaning.specs.Heap.{Heap, targets}
use Rattle.graph_meaning.specs.Reach.{has_id}
use Rattle.graph_meaning.specs.Roles.{RoleTable, AreRolesOf}
use Rattle.graph_meaning.proofs.Membership.{has_id-Contains}
use Rattle.header_rule.specs.declared.mark.Mark.{Mark}
use Rattle.header_rule.specs.declared.mark.Mark.TheVariants.{Found, MetByRoots}
use Rattle.header_rule.specs.declared.pass.Pass.{Pass}
use Rattle.header_rule.specs.declared.words.Words.{Words}
use Rattle.header_rule.specs.ClosedWords.{count_in, has_mark_in}
use Rattle.header_rule.specs.Passes.{all_adds, all_wins, all_marks}
use Rattle.assert_registry.specs.Laws.{StandFor}
use Rattle.object_table.specs.Placed.{PlacedTable, id_in, IsPlaced, IsSound}
use Rattle.scan_job.specs.Cells.{graph_of}
use Rattle.scan_job.specs.States.{ScanState, passes_of}
use Rattle.scan_job.proofs.Placing.{held-below, held-from_node, is-whole}
use Rattle.heap_marking.specs.Results.{TraceResult, kept_below, many_of, IsByCounts}
use Rattle.heap_marking.specs.TracedCells as Cells
use Rattle.heap_marking.specs.TracedCells.{IsNew, ThreePhases, AreWonOnce, AreTraced}
use Rattle.heap_marking.specs.TracedHeaps.{owns, HeapIsTraced}
use Rattle.heap_marking.specs.Traces.{IsTraceOf}
use Rattle.heap_marking.proofs.HeapTraces.{heap-traced}
use Rattle.heap_marking.proofs.OwnersAgree.{owners_agree}
use Rattle.heap_marking.proofs.PhaseTotals.{phases_trace}
use Rattle.heap_marking.proofs.Renaming.{total-same_on}
use Rattle.heap_marking.proofs.RootTraced.{traced-node}

kept-at : (w : Words) (n cell : ℕ) → cell < n → get_or (kept_below w n) cell false ≡ is_positive (count_in w cell)
kept-at w n cell less =
    get_or-map (λ x. is_positive (count_in w x)) (range_with_len 0 n) cell 0 false (let l = length-range_with_len 0 n in omega arith)
    ∙ ap (λ x. is_positive (count_in w x)) (let e = get_or-range_with_len 0 n cell 0 less in omega arith)

kept-past : (w : Words) (n cell : ℕ) → n ≤ cell → get_or (kept_below w n) cell false ≡ false
kept-past w n cell past =
    get_or_past (kept_below w n) cell false (let l = length-range_with_len 0 n in let m = length-map (range_with_len 0 n) (λ x. is_positive (count_in w x)) in omega arith)

range-below : (n x : ℕ) → has_id (range_with_len 0 n) x ≡ true → x < n
range-below n x at =
    let c = (has_id-Contains (range_with_len 0 n) x).0 at in
    let l = length-range_with_len 0 n in
    let e = get_or-range_with_len 0 n c.0 x (let less = c.1 in omega arith) in
    let less = c.1 in
    let same = c.2 in
    omega arith

-- What the close says of the words, by the jobs whose passes were closed.
pub record AreClosed (cells : ℕ) (w : Words) (ms : List ScanState) : Type 0 where
  pub counts : (x : ℕ) → x < cells → count_in w x ≡ all_adds x (passes_of ms)
  pub marks : (m : Mark) (x : ℕ) → x < cells → has_mark_in m w x ≡ is_positive (all_marks m x (passes_of ms))
  pub once : AreWonOnce ms

-- from what the close of these passes says
pub are-closed : (cells many : ℕ) (w : Words) (ms : List ScanState) (ps : List Pass) → many ≡ cells → ps ≡ passes_of ms →
    ((x : ℕ) → x < many → count_in w x ≡ all_adds x ps) → ((m : Mark) (x : ℕ) → x < many → has_mark_in m w x ≡ is_positive (all_marks m x ps)) →
    ((x : ℕ) → all_wins x ps ≡ bit (is_positive (all_adds x ps))) → AreClosed cells w ms
are-closed cells many w ms ps fits same counts marks wins = record {
  counts = λ x less. counts x (omega arith) ∙ ap (all_adds x) same;
  marks = λ m x less. marks m x (omega arith) ∙ ap (λ qs. is_positive (all_marks m x qs)) same;
  once = λ x. ap (all_wins x) (sym same) ∙ wins x ∙ ap (λ qs. bit (is_positive (all_adds x qs))) same;
}

module _ (p : PlacedTable) (r : RoleTable) (placed : IsPlaced p) (sound : IsSound p.table) (roles : AreRolesOf p.cells (length p.table.kinds) r)
    (js ms : List ScanState) (new : All IsNew js) (phases : ThreePhases (graph_of p r) js ms) (w : Words) (closed : AreClosed (length p.cells) w ms)
  where
    are-traced : AreTraced (graph_of p r) ms
    are-traced = phases_trace (graph_of p r) js ms (is-whole p r roles) new phases closed.once

    pub of-heap : (h : Heap) → StandFor p r h → HeapIsTraced p h ms
    of-heap h stand = heap-traced p r h ms placed sound roles (owners_agree p r h placed stand) are-traced

    below : (cell id : ℕ) → id_in p cell ≡ Some id → cell < length p.cells
    below cell id e = held-below p cell (ap is_some e)

    pub count-of : (h : Heap) → StandFor p r h → (cell id : ℕ) → id_in p cell ≡ Some id → count_in w cell ≡ reference_count h id
    count-of h stand cell id e = closed.counts cell (below cell id e) ∙ (of-heap h stand).count cell id e

    pub kept-of : (h : Heap) → StandFor p r h → (cell id : ℕ) → id_in p cell ≡ Some id → get_or (kept_below w (length p.cells)) cell false ≡ is_traced h id
    kept-of h stand cell id e =
        kept-at w (length p.cells) cell (below cell id e) ∙ ap is_positive (closed.counts cell (below cell id e)) ∙ (of-heap h stand).kept cell id e

    pub empty-of : (cell : ℕ) → id_in p cell ≡ None → get_or (kept_below w (length p.cells)) cell false ≡ false
    empty-of cell e =
        ⊎_elim
        (λ less. kept-at w (length p.cells) cell less ∙ ap is_positive (closed.counts cell less) ∙ are-traced.kept cell ∙ untraced (Cells.is_traced (graph_of p r) cell) refl)
        (λ past. kept-past w (length p.cells) cell past)
        (cases_lt cell (length p.cells))
      where
        untraced : (b : Bool) → Cells.is_traced (graph_of p r) cell ≡ b → Cells.is_traced (graph_of p r) cell ≡ false
        untraced false at = at
        untraced true at =
            absurd (false≢true (sym (ap is_some e) ∙ held-from_node p r cell (traced-node (graph_of p r) cell at)))

    pub traced-of : (h : Heap) → StandFor p r h → many_of (kept_below w (length p.cells)) ≡ length (traced_ids h)
    traced-of h stand =
        total-map bit (λ x. is_positive (count_in w x)) (range_with_len 0 (length p.cells))
        ∙ total-same_on (λ x. bit (is_positive (count_in w x))) (λ x. bit (is_positive (all_adds x (passes_of ms))))
        (range_with_len 0 (length p.cells)) (λ x at. ap (λ n. bit (is_positive n)) (closed.counts x (range-below (length p.cells) x at)))
        ∙ (of-heap h stand).traced

    pub found-of : (h : Heap) → StandFor p r h → (cell id : ℕ) → id_in p cell ≡ Some id → IsTrue (has_mark_in Found w cell) → (owner : ℕ) × IsTrue (owns h owner id) × IsTrue (finds h owner id)
    found-of h stand cell id e at =
        (of-heap h stand).found cell id e (sym (closed.marks Found cell (below cell id e)) ∙ at)

    pub marked-of : (h : Heap) → StandFor p r h → (cell id owner : ℕ) → id_in p cell ≡ Some id → IsTrue (owns h owner id) → IsTrue (has_id (targets h.table owner) id)
        → IsTrue (has_mark_in Found w cell)
    marked-of h stand cell id owner e owned leads =
        closed.marks Found cell (below cell id e) ∙ (of-heap h stand).marked cell id owner e owned leads

    pub met-of : (h : Heap) → StandFor p r h → (cell id : ℕ) → id_in p cell ≡ Some id → IsTrue (is_ownee h id) → IsTrue (is_met h id) → IsTrue (has_mark_in MetByRoots w cell)
    met-of h stand cell id e ownee is_so =
        closed.marks MetByRoots cell (below cell id e) ∙ (of-heap h stand).met cell id e ownee is_so

    -- The result whose words these are, and whose tally is that of all jobs, says all this.
    pub is-trace : (h : Heap) → StandFor p r h → (t : TraceResult) → t.words ≡ w → w.cells ≡ length p.cells → IsByCounts t →
        length t.instances ≡ length p.table.kinds → ((kind : ℕ) → slice_index t.instances kind ≡ Cells.all_tallies kind ms) → IsTraceOf p h t
    is-trace h stand t same cells by kinds sums =
        let kept_is : t.kept ≡ kept_below w (length p.cells) = by.kept_are ∙ (λ i. kept_below (same i) ((same i).cells)) ∙ ap (kept_below w) cells in
        record {
          cells = ap (λ (v : Words). v.cells) same ∙ cells;
          each = ap length kept_is ∙ length-map (range_with_len 0 (length p.cells)) (λ x. is_positive (count_in w x)) ∙ length-range_with_len 0 (length p.cells);
          kinds = kinds;
          kept = λ cell id e. ap (λ k. get_or k cell false) kept_is ∙ kept-of h stand cell id e;
          empty = λ cell e. ap (λ k. get_or k cell false) kept_is ∙ empty-of cell e;
          many = λ cell id e. ap (λ (v : Words). nat_le 2 (count_in v cell)) same ∙ ap (nat_le 2) (count-of h stand cell id e);
          instances = λ kind name e. sums kind ∙ (of-heap h stand).instances kind name e;
          traced = by.traced_are ∙ ap many_of kept_is ∙ traced-of h stand;
          found = λ cell id e at. found-of h stand cell id e (ap (λ (v : Words). has_mark_in Found v cell) (sym same) ∙ at);
          marked = λ cell id owner e owned leads. ap (λ (v : Words). has_mark_in Found v cell) same ∙ marked-of h stand cell id owner e owned leads;
          met = λ cell id e ownee is_so. ap (λ (v : Words). has_mark_in MetByRoots v cell) same ∙ met-of h stand cell id e ownee is_so;
        }
