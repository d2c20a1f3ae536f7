-- The owners of a graph in the order of the roles.
use Rattle.std.proofs.Common.{◌≡◌, ℕ, zero, suc, ◌<◌, ◌≤◌, Bool, true, false, cond, ⊎_elim, List, [], ◌∷◌, length, get_or, sym, refl, ap, ◌∙◌, arith, eqb}
use Rattle.std.specs.Prelude.{AllPairs, is_some}
use Rattle.std.specs.List.{range_with_len}
use Rattle.std.proofs.lemmas.Bool.{cases_Bool, cases_eq, false≢true, ne_eqb}
use Rattle.std.proofs.lemmas.List.FromFn.{length-range_with_len}
use Rattle.heap_base.specs.Counting.{bit, times, IsOnce, AsOften}
use Rattle.heap_base.proofs.Counting.{total-ones, times-filter, as_often-from_times}
use Rattle.graph_meaning.specs.Reach.{has_id}
use Rattle.graph_meaning.specs.Roles.{RoleTable, id_at, AreRolesOf}
use Rattle.graph_meaning.proofs.Membership.{has_id-Contains, length-filter_le}
use Rattle.object_table.specs.Placed.{PlacedTable, id_in}
use Rattle.scan_job.specs.Cells.{graph_of}
use Rattle.scan_job.specs.Graphs.{owners}
use Rattle.scan_job.proofs.Fitting.{times-at, at-times}
use Rattle.scan_job.proofs.Placing.{is-whole}

-- nothing stands twice in a list that rises
rising-once : (f : ℕ → ℕ) (xs : List ℕ) → AllPairs (λ x y. f x < f y) xs → IsOnce xs
rising-once f [] rises x = omega arith
rising-once f (y ∷ ys) rises x =
    let r = rising-once f ys (λ i j d less within. rises (suc i) (suc j) d (omega arith) (omega arith)) x in
    ⊎_elim
    (λ (e : y ≡ x).
    ⊎_elim
    (λ (at : has_id ys x ≡ true).
    absurd
    (let c = (has_id-Contains ys x).0 at in
    let l = rises 0 (suc c.0) x (omega arith) (let w = c.1 in omega arith) in
    let same : f (get_or ys c.0 x) ≡ f x = ap f c.2 in
    let here = ap f e in
    omega arith))
    (λ (away : has_id ys x ≡ false). let z : times x ys ≡ 0 = none x ys away in let o = bit-one (eqb y x) in omega arith)
    (cases_Bool (has_id ys x)))
    (λ ne. let z : bit (eqb y x) ≡ 0 = ap bit (ne_eqb y x ne) in omega arith)
    (cases_eq y x)
  where
    bit-one : (b : Bool) → bit b ≤ 1
    bit-one true = omega arith
    bit-one false = omega arith

    none : (x : ℕ) (ys : List ℕ) → has_id ys x ≡ false → times x ys ≡ 0
    none x ys away = go (times x ys) refl
      where
        go : (n : ℕ) → times x ys ≡ n → times x ys ≡ 0
        go zero e = e
        go (suc n) e = absurd (false≢true (sym away ∙ at-times x ys (omega arith)))

module _ (p : PlacedTable) (r : RoleTable) (roles : AreRolesOf p.cells (length p.table.kinds) r) where
  -- the owners of the roles are those of the graph
  pub owners-as_often : AsOften r.owners (owners (graph_of p r))
  owners-as_often =
      as_often-from_times r.owners (owners (graph_of p r)) (λ x. go x (has_id r.owners x) refl ∙ sym (times-filter (has_id r.owners) x (graph_of p r).nodes))
    where
      go : (x : ℕ) (b : Bool) → has_id r.owners x ≡ b → times x r.owners ≡ cond (has_id r.owners x) (times x (graph_of p r).nodes) 0
      go x true at =
          let a = times-at x r.owners at in
          let b = rising-once (id_at p.cells) r.owners roles.rising x in
          let w = is-whole p r roles in
          let c = times-at x (graph_of p r).nodes (w.owners x at) in
          let d = w.once x in
          let e : times x r.owners ≡ times x (graph_of p r).nodes = omega arith in
          e ∙ ap (λ z. cond z (times x (graph_of p r).nodes) 0) (sym at)
      go x false away = none (times x r.owners) refl ∙ ap (λ z. cond z (times x (graph_of p r).nodes) 0) (sym away)
        where
          none : (n : ℕ) → times x r.owners ≡ n → times x r.owners ≡ 0
          none zero e = e
          none (suc n) e = absurd (false≢true (sym away ∙ at-times x r.owners (omega arith)))

  -- there are at most as many owners as cells
  pub few-owners : length r.owners ≤ length p.cells
  few-owners =
      let a = owners-as_often (λ _. 1) in
      let b = total-ones r.owners in
      let c = total-ones (owners (graph_of p r)) in
      let d = length-filter_le (has_id r.owners) (graph_of p r).nodes in
      let e = length-filter_le (λ cell. is_some (id_in p cell)) (range_with_len 0 (length p.cells)) in
      let f = length-range_with_len 0 (length p.cells) in
      omega arith
