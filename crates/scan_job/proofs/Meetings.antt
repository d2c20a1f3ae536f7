-- A meeting with one cell, and meetings one after another.
use Rattle.std.proofs.Common.{◌≡◌, ℕ, ◌+◌, ◌<◌, ◌≤◌, Bool, true, false, cond, ⊎_elim, List, [], ◌∷◌, ◌++◌, filter, map, length, get_or, slice_index, sym}
use Rattle.std.proofs.Common.{refl, ap, ◌∙◌, arith, eqb, eqb-true, append_assoc, append-nil, length-append, IsTrue}
use Rattle.std.specs.List.{All}
use Rattle.std.proofs.lemmas.Bool.{or_cases, false≢true}
use Rattle.std.proofs.lemmas.List.{map-append, length-map}
use Rattle.std.proofs.lemmas.List.Elements.{filter-append}
use Rattle.std.proofs.lemmas.Grind.{flat_map-append}
use Rattle.heap_base.specs.Counting.{bit}
use Rattle.heap_base.proofs.Counting.{total-append}
use Rattle.graph_meaning.specs.Reach.{has_id}
use Rattle.graph_meaning.proofs.Membership.{has_id-append, length-filter_le}
use Rattle.header_rule.specs.Passes.{adds, wins, marks}
use Rattle.scan_job.specs.declared.mode.Mode.{Mode}
use Rattle.scan_job.specs.Graphs.{StoppedGraph}
use Rattle.scan_job.specs.Scans.{Meeting, is_held, is_put, marks_on, marks_on_cells, Meets, task_at, put_tasks}
use Rattle.scan_job.specs.States.{ScanState, IsSameJob, IsWithinWins, wins_left}
use Rattle.scan_job.proofs.Numbers.{few-below}

-- the cell, where it was won
abbrev pub won_of : Bool → ℕ → List ℕ
won_of won cell = cond won (cell ∷ []) []

-- ---- one cell

pub below-won : (ws : List ℕ) (cells cell : ℕ) (won : Bool) → ((x : ℕ) → IsTrue (has_id ws x) → x < cells) → cell < cells → (x : ℕ) → IsTrue (has_id (cond won (ws ++ cell ∷ []) ws) x) → x < cells
below-won ws cells cell false below less x at = below x at
below-won ws cells cell true below less x at =
    ⊎_elim
    (λ here. below x here)
    (λ there. ⊎_elim (λ e. let same = eqb-true cell x e in omega arith) (λ e. absurd (false≢true e)) (or_cases _ _ there))
    (or_cases _ _ (sym (has_id-append ws (cell ∷ []) x) ∙ at))

pub few-wins : (j : ScanState) → IsWithinWins j → length (wins j.pass) ≤ j.cells
few-wins j w = few-below j.cells (wins j.pass) w.once w.below

-- the job at a place of these
pub record JobAt (js : List ScanState) (i : ℕ) (j : ScanState) : Type 0 where
  pub within : i < length js
  pub is : j ≡ get_or js i j
  pub won : IsWithinWins j

-- where no job is made for more cells, it won no more
pub few-won : (js : List ScanState) (i : ℕ) (j : ScanState) → JobAt js i j → (most : ℕ) → All (λ k. k.cells ≤ most) js → length (wins j.pass) ≤ most
few-won js i j at most all =
    let a = few-wins j at.won in
    let b = all i j at.within in
    let c = ap (λ (z : ScanState). z.cells) at.is in
    omega arith

-- ---- no cell

pub same-job : (j : ScanState) → IsSameJob j j
same-job j = record {
  mode = refl;
  pass = record { number = refl; left = refl; adds = refl; wins = refl; marks = refl };
  cells = refl;
  held = refl;
  tally = refl;
}

pub same-jobs : (j i k : ScanState) → IsSameJob j i → IsSameJob i k → IsSameJob j k
same-jobs j i k p q = record {
  mode = q.mode ∙ p.mode;
  pass = record {
    number = q.pass.number ∙ p.pass.number;
    left = q.pass.left ∙ p.pass.left;
    adds = q.pass.adds ∙ p.pass.adds;
    wins = q.pass.wins ∙ p.pass.wins;
    marks = q.pass.marks ∙ p.pass.marks;
  };
  cells = q.cells ∙ p.cells;
  held = q.held ∙ p.held;
  tally = q.tally ∙ p.tally;
}

-- ---- one after another

abbrev pub both_meetings : Meeting → Meeting → Meeting
both_meetings m n = record { tag = m.tag; cells = m.cells ++ n.cells; won = m.won ++ n.won }

abbrev pub no_meeting : ℕ → Meeting
no_meeting tag = record { tag = tag; cells = []; won = [] }

module _ (g : StoppedGraph) where
  -- a job that has met nothing more
  pub meets-same : (j k : ScanState) (tag : ℕ) → IsSameJob j k → Meets g (no_meeting tag) j k
  meets-same j k tag same = record {
    mode = same.mode;
    number = same.pass.number;
    cells = same.cells;
    kinds = ap length same.tally;
    adds = same.pass.adds ∙ sym (append-nil _);
    wins = same.pass.wins ∙ sym (append-nil _);
    among = λ f. omega arith;
    marks = same.pass.marks ∙ sym (append-nil _);
    held = same.held ∙ sym (append-nil _);
    tally = λ n. (let e = ap (λ counts. slice_index counts n) same.tally in omega arith);
  }

  pub meets-none : (j : ScanState) (tag : ℕ) → Meets g (no_meeting tag) j j
  meets-none j tag = meets-same j j tag (same-job j)

  pub meets-both : (m n : Meeting) (j i k : ScanState) → n.tag ≡ m.tag → Meets g m j i → Meets g n i k → Meets g (both_meetings m n) j k
  meets-both m n j i k same p q = record {
    mode = q.mode ∙ p.mode;
    number = q.number ∙ p.number;
    cells = q.cells ∙ p.cells;
    kinds = q.kinds ∙ p.kinds;
    adds = q.adds ∙ ap (λ zs. zs ++ n.cells) p.adds ∙ append_assoc (adds j.pass) m.cells n.cells;
    wins = q.wins ∙ ap (λ zs. zs ++ n.won) p.wins ∙ append_assoc (wins j.pass) m.won n.won;
    among = λ f. (let a = p.among f in let b = q.among f in let c = total-append f m.won n.won in let d = total-append f m.cells n.cells in omega arith);
    marks =
        q.marks ∙ (λ x. p.marks x ++ marks_on_cells g (p.mode x) (record { tag = same x; cells = n.cells; won = n.won }))
        ∙ append_assoc (marks j.pass) (marks_on_cells g j.mode m) _
        ∙ ap (λ zs. marks j.pass ++ zs) (sym (flat_map-append (marks_on g j.mode m.tag) m.cells n.cells));
    held =
        q.held ∙ (λ x. p.held x ++ filter (is_held g (p.mode x)) n.won)
        ∙ append_assoc j.held (filter (is_held g j.mode) m.won) (filter (is_held g j.mode) n.won)
        ∙ ap (λ zs. j.held ++ zs) (sym (filter-append (is_held g j.mode) m.won n.won));
    tally = λ kind. (let a = p.tally kind in let b = q.tally kind in let c = total-append (λ x. bit (eqb (g.kind x) kind)) m.won n.won in omega arith);
  }

  -- the tasks that come of both
  pub puts-both : (mode : Mode) (m n : Meeting) → n.tag ≡ m.tag → put_tasks g mode (both_meetings m n) ≡ put_tasks g mode m ++ put_tasks g mode n
  puts-both mode m n same =
      ap (map (task_at m.tag)) (filter-append (is_put g mode) m.won n.won)
      ∙ map-append (task_at m.tag) (filter (is_put g mode) m.won) (filter (is_put g mode) n.won)
      ∙ (λ x. map (task_at m.tag) (filter (is_put g mode) m.won) ++ map (task_at (sym same x)) (filter (is_put g mode) n.won))

  pub length-puts : (mode : Mode) (m : Meeting) → length (put_tasks g mode m) ≤ length m.won
  length-puts mode m =
      let a = length-map (filter (is_put g mode) m.won) (task_at m.tag) in
      let b = length-filter_le (is_put g mode) m.won in
      omega arith

  -- each win leaves room for one fewer
  pub room-falls : (m : Meeting) (j k : ScanState) → Meets g m j k → IsWithinWins k → wins_left k + length m.won ≤ wins_left j
  room-falls m j k p w =
      let few = few-wins k w in
      let more = ap length p.wins in
      let sum = length-append (wins j.pass) m.won in
      let cells = p.cells in
      omega arith
