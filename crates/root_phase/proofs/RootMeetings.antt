-- The first job's meetings with what the roots name, one after another.
use Rattle.std.proofs.Common.{◌≡◌, ℕ, ◌+◌, ◌%◌, ◌<◌, ◌≤◌, Bool, true, false, not, ◌&&◌, cond, List, [], ◌∷◌, ◌++◌, length, map, take, get_or}
use Rattle.std.proofs.Common.{replicate, sym, refl, ap, ◌∙◌, subst, arith, append-nil, length-append, length-take, Option, None, Some}
use Rattle.std.specs.Prelude.{IfSome, slice_get}
use Rattle.std.specs.List.{filter_map, cons_option}
use Rattle.std.proofs.lemmas.List.{length-map, length-replicate, map-append}
use Rattle.std.proofs.lemmas.List.Elements.{filter-append}
use Rattle.heap_base.specs.declared.limits.TheConstants.{MOST_ROOTS}
use Rattle.steal_pool.specs.declared.task.Task.{Task}
use Rattle.graph_meaning.proofs.Membership.{length-filter_le}
use Rattle.object_table.specs.Placed.{id_in, cell_of}
use Rattle.header_rule.specs.Passes.{adds, wins}
use Rattle.scan_job.specs.Shared.{SharedHeap}
use Rattle.scan_job.specs.Fit.{no_owners}
use Rattle.scan_job.specs.Graphs.{StoppedGraph}
use Rattle.scan_job.specs.Jobs.{graph_in, IsReadyFor}
use Rattle.scan_job.specs.Phases.{cells_in, put_last, task_lists, root_firsts}
use Rattle.scan_job.specs.Scans.{one_meeting, Meets, task_at}
use Rattle.scan_job.specs.States.{ScanState, IsUnspent, IsWithinWins}
use Rattle.scan_job.proofs.Dealing.{dealt-room, dealt-snoc}
use Rattle.scan_job.proofs.Meetings.{won_of, few-wins, meets-none, meets-both}
use Rattle.scan_job.proofs.PhaseRuns.{le-times}
use Rattle.scan_job.proofs.Placing.{roots-more}
use Rattle.root_phase.specs.Roots.{MeetsRoot, first_roots, JobAndLists, MeetsRoots}

length-filter_map : {X Y : Type 0} (h : X → Option Y) (xs : List X) → length (filter_map h xs) ≤ length xs
length-filter_map h [] = omega arith
length-filter_map h (x ∷ xs) = go (h x) (length-filter_map h xs)
  where
    go : (o : Option _) → length (filter_map h xs) ≤ length xs → length (cons_option o (filter_map h xs)) ≤ length (x ∷ xs)
    go None r = omega arith
    go (Some y) r = omega arith

-- before the first root
pub meets-no_roots : (s : SharedHeap) (n : ℕ) (j : ScanState) (fs : List (List Task)) → fs ≡ replicate n [] →
    (r : MeetsRoots s 0 (record { job = j; lists = fs }) (record { job = j; lists = fs })) × (0 ≡ length (root_firsts (graph_in s) r.won))
meets-no_roots s n j fs none = (
  record {
    won = [];
    meets = meets-none (graph_in s) j 0;
    few = omega arith;
    lists = none ∙ ap (λ m. replicate m []) (sym (ap length none ∙ length-replicate n []));
  },
  refl,
)

-- a meet is left for each root that is left
pub left-for-root : (s : SharedHeap) (roots : ℕ) (old new : JobAndLists) → MeetsRoots s roots old new → roots < MOST_ROOTS → IsUnspent old.job → 0 < new.job.pass.left
left-for-root s roots old new p few unspent =
    let met = ap length p.meets.adds in
    let sum = length-append (adds old.job.pass) (first_roots s.table roots) in
    let short = length-filter_map (λ root. cell_of s.table root.1) (take roots s.table.table.roots) in
    let taken = length-take roots s.table.table.roots in
    let before = old.job.pass.room in
    let after = new.job.pass.room in
    omega arith

-- the tasks that come of one win more
firsts-more : (g : StoppedGraph) (won : List ℕ) (cell : ℕ) (b put : Bool) → put ≡ (b && not (g.is_owner cell)) →
    root_firsts g (won ++ won_of b cell) ≡ root_firsts g won ++ cond put (task_at 0 cell ∷ []) []
firsts-more g won cell b put is =
    ap (map (task_at 0)) (filter-append (λ x. not (g.is_owner x)) won (won_of b cell))
    ∙ map-append (task_at 0) (no_owners g won) (no_owners g (won_of b cell))
    ∙ ap (λ ts. root_firsts g won ++ ts) (passes b ∙ one b (g.is_owner cell) ∙ ap (λ c. cond c (task_at 0 cell ∷ []) []) (sym is))
  where
    passes : (b : Bool) → root_firsts g (won_of b cell) ≡ map (task_at 0) (cond b (cond (not (g.is_owner cell)) (cell ∷ []) []) [])
    passes true = refl
    passes false = refl

    one : (b o : Bool) → map (task_at 0) (cond b (cond (not o) (cell ∷ []) []) []) ≡ cond (b && not o) (task_at 0 cell ∷ []) []
    one false o = refl
    one true true = refl
    one true false = refl

-- One root more: the job that met it, and whether the scan goes on from its cell.
pub record NextRoot (s : SharedHeap) (roots cell : ℕ) (goes_on : Bool) (j k : ScanState) : Type 0 where
  pub within : roots < length s.table.table.roots
  pub names : IfSome (slice_get s.table.table.roots roots) (λ n. id_in s.table cell ≡ Some n.1)
  pub meets : MeetsRoot s (record { cell = cell; goes_on = goes_on }) j k
  pub ready : IsReadyFor k s
  pub within_wins : IsWithinWins k

module _ (s : SharedHeap) (roots cell : ℕ) (goes_on : Bool) (old now : JobAndLists) (next : ScanState) (p : MeetsRoots s roots old now) (q : NextRoot s roots cell goes_on now.job next) where
  abbrev g : StoppedGraph
  g = graph_in s

  -- what is won with this root
  abbrev won_more : List ℕ
  won_more = p.won ++ won_of q.meets.won cell

  met-more : Meets g (record { tag = 0; cells = first_roots s.table (roots + 1); won = won_more }) old.job next
  met-more =
      subst (λ xs. Meets g (record { tag = 0; cells = xs; won = won_more }) old.job next) (sym (roots-more s.table roots cell q.ready.placed q.within q.names))
      (meets-both g (record { tag = 0; cells = first_roots s.table roots; won = p.won }) (one_meeting 0 cell q.meets.won) old.job now.job next refl p.meets q.meets.meets)

  few-more : length won_more ≤ cells_in s
  few-more =
      let a = ap length met-more.wins in
      let b = length-append (wins old.job.pass) won_more in
      let c = few-wins next q.within_wins in
      let d = q.ready.cells in
      omega arith

  module _ (n number : ℕ) (workers : n ≡ length old.lists) (count : number ≡ length (root_firsts g p.won)) where
    -- where the scan doesn't go on from the cell, nothing is dealt
    pub passed-by : goes_on ≡ false → (r : MeetsRoots s (roots + 1) old (record { job = next; lists = now.lists })) × (number ≡ length (root_firsts g r.won))
    passed-by stops =
        let same : root_firsts g won_more ≡ root_firsts g p.won ++ [] =
        firsts-more g p.won cell q.meets.won goes_on q.meets.scanned ∙ ap (λ b. root_firsts g p.won ++ cond b (task_at 0 cell ∷ []) []) stops in
        let l = ap length same in
        let a = length-append (root_firsts g p.won) [] in
        (record { won = won_more; meets = met-more; few = few-more; lists = p.lists ∙ ap (task_lists (length old.lists)) (sym (same ∙ append-nil (root_firsts g p.won))) }, omega arith)

    module _ (goes : goes_on ≡ true) where
      more : root_firsts g won_more ≡ root_firsts g p.won ++ task_at 0 cell ∷ []
      more =
          firsts-more g p.won cell q.meets.won goes_on q.meets.scanned ∙ ap (λ b. root_firsts g p.won ++ cond b (task_at 0 cell ∷ []) []) goes

      pub below : number < cells_in s
      below =
          let a = ap length more in
          let b = length-append (root_firsts g p.won) (task_at 0 cell ∷ []) in
          let c = length-map (no_owners g won_more) (task_at 0) in
          let d = length-filter_le (λ x. not (g.is_owner x)) won_more in
          let e = few-more in
          omega arith

      pub has-room : (room : ℕ) → 0 < n → cells_in s ≤ room → (number % n < length now.lists) × (length (get_or now.lists (number % n) []) < room)
      has-room room some enough =
          let l = le-times n room some in
          let b = below in
          dealt-room n room number now.lists (root_firsts g p.won) some count (p.lists ∙ ap (λ m. task_lists m (root_firsts g p.won)) (sym workers)) (omega arith)

      pub goes-on : (fs : List (List Task)) → fs ≡ put_last now.lists (number % n) (task_at 0 cell) →
          (r : MeetsRoots s (roots + 1) old (record { job = next; lists = fs })) × (number + 1 ≡ length (root_firsts g r.won))
      goes-on fs is =
          let a = ap length more in
          let b = length-append (root_firsts g p.won) (task_at 0 cell ∷ []) in (
            record {
              won = won_more;
              meets = met-more;
              few = few-more;
              lists =
                  dealt-snoc n number now.lists fs (root_firsts g p.won) (task_at 0 cell) count (p.lists ∙ ap (λ m. task_lists m (root_firsts g p.won)) (sym workers)) is
                  ∙ ap (task_lists n) (sym more) ∙ ap (λ m. task_lists m (root_firsts g won_more)) workers;
            },
            omega arith,
          )
