-- The held cells of the first jobs, and of the first cells of the next.
use Rattle.std.proofs.Common.{◌≡◌, ℕ, ◌+◌, ◌*◌, ◌%◌, ◌<◌, ◌≤◌, List, [], ◌∷◌, ◌++◌, length, map, take, get_or, sym, ap, ◌∙◌, arith, append_assoc, append-nil, length-append, length-take}
use Rattle.std.specs.List.{All}
use Rattle.std.proofs.Math.Nat.{mul-le-mul_left}
use Rattle.std.proofs.Math.Seq.{take-length}
use Rattle.std.proofs.lemmas.Grind.{flat_map-append}
use Rattle.std.proofs.lemmas.List.{length-map, map-append, take_more}
use Rattle.steal_pool.specs.declared.task.Task.{Task}
use Rattle.scan_job.specs.Phases.{all_held, put_last, task_lists}
use Rattle.scan_job.specs.Scans.{task_at}
use Rattle.scan_job.specs.States.{ScanState}
use Rattle.scan_job.proofs.Dealing.{dealt-room, dealt-snoc}
use Rattle.scan_job.proofs.Meetings.{JobAt, few-won}

-- what the first i jobs hold, and the first k of these cells
abbrev pub held_so_far : List ScanState → ℕ → List ℕ → ℕ → List ℕ
held_so_far js i cells k = all_held (take i js) ++ take k cells

-- One of the jobs, with the cells that it holds.
pub record HeldBy (js : List ScanState) (i : ℕ) (j : ScanState) (cells : List ℕ) : Type 0 where
  pub job : JobAt js i j
  pub held : cells ≡ j.held

module _ (js : List ScanState) (i : ℕ) (j : ScanState) (cells : List ℕ) (p : HeldBy js i j cells) where
  few-held : (most : ℕ) → All (λ k. k.cells ≤ most) js → length cells ≤ most
  few-held most all =
      let few = few-won js i j p.job most all in
      let counted = p.job.won.held in
      let same = ap length p.held in
      omega arith

  -- with all the cells that it holds
  pub held-more : (k : ℕ) → k ≡ length cells → held_so_far js i cells k ≡ all_held (take (i + 1) js)
  held-more k all =
      ap (λ n. all_held (take i js) ++ take n cells) all
      ∙ ap (λ xs. all_held (take i js) ++ xs) (take-length cells ∙ p.held)
      ∙ sym
      (ap all_held (take_more js i j p.job.within ∙ ap (λ z. take i js ++ z ∷ []) (sym p.job.is))
      ∙ flat_map-append (λ (z : ScanState). z.held) (take i js) (j ∷ []) ∙ ap (λ xs. all_held (take i js) ++ xs) (append-nil j.held))

  pub few-more : (most : ℕ) → All (λ k. k.cells ≤ most) js → length (all_held (take i js)) ≤ i * most → length (all_held (take (i + 1) js)) ≤ (i + 1) * most
  few-more most all few =
      let a = few-held most all in
      let b = ap length (held-more (length cells) (omega arith)) in
      let c = length-append (all_held (take i js)) (take (length cells) cells) in
      let d = ap length (take-length cells) in
      let e : (i + 1) * most ≡ i * most + most = omega arith in
      omega arith

  module _ (k : ℕ) (within : k < length cells) where
    pub few-so_far : (most : ℕ) → All (λ k. k.cells ≤ most) js → length (all_held (take i js)) ≤ i * most → length (held_so_far js i cells k) < length js * most
    few-so_far most all few =
        let a = few-held most all in
        let b = length-append (all_held (take i js)) (take k cells) in
        let c = length-take k cells in
        let below : i + 1 ≤ length js = (let w = p.job.within in omega arith) in
        let d = mul-le-mul_left most below in
        let e : most * (i + 1) ≡ i * most + most = omega arith in
        let f : most * length js ≡ length js * most = omega arith in
        omega arith

    -- one cell more
    so_far-more : held_so_far js i cells (k + 1) ≡ held_so_far js i cells k ++ get_or cells k 0 ∷ []
    so_far-more =
        ap (λ xs. all_held (take i js) ++ xs) (take_more cells k 0 within) ∙ sym (append_assoc (all_held (take i js)) (take k cells) (get_or cells k 0 ∷ []))

    pub length-more : (number : ℕ) → number ≡ length (held_so_far js i cells k) → number + 1 ≡ length (held_so_far js i cells (k + 1))
    length-more number count =
        let a = ap length so_far-more in let b = length-append (held_so_far js i cells k) (get_or cells k 0 ∷ []) in omega arith

    module _ (n number : ℕ) (fs : List (List Task)) (some : 0 < n) (count : number ≡ length (held_so_far js i cells k)) (lists : fs ≡ task_lists n (map (task_at 0) (held_so_far js i cells k))) where
      counted : number ≡ length (map (task_at 0) (held_so_far js i cells k))
      counted = let a = length-map (held_so_far js i cells k) (task_at 0) in omega arith

      pub has-room : (room : ℕ) → length js ≡ n → All (λ k. k.cells ≤ room) js → length (all_held (take i js)) ≤ i * room → (number % n < length fs) × (length (get_or fs (number % n) []) < room)
      has-room room jobs all few =
          let l = few-so_far room all few in
          let e = ap (λ m. m * room) jobs in
          dealt-room n room number fs (map (task_at 0) (held_so_far js i cells k)) some counted lists (omega arith)

      pub dealt-more : (gs : List (List Task)) → gs ≡ put_last fs (number % n) (task_at 0 (get_or cells k 0)) → gs ≡ task_lists n (map (task_at 0) (held_so_far js i cells (k + 1)))
      dealt-more gs is =
          dealt-snoc n number fs gs (map (task_at 0) (held_so_far js i cells k)) (task_at 0 (get_or cells k 0)) counted lists is
          ∙ ap (task_lists n) (sym (ap (map (task_at 0)) so_far-more ∙ map-append (task_at 0) (held_so_far js i cells k) (get_or cells k 0 ∷ [])))
