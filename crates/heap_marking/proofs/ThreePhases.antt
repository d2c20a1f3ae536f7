-- What the gains of the three phases come to together.
use Rattle.std.proofs.Common.{◌≡◌, ℕ, ◌+◌, ◌<◌, Bool, true, false, ◌&&◌, ◌||◌, not, cond, ⊎_elim, List, ◌++◌, filter, sym, refl, ap, ◌∙◌, arith, eqb}
use Rattle.std.specs.List.{list_any}
use Rattle.std.proofs.lemmas.Bool.{cases_Bool, or_cases, or_left, or_right, and_parts, both_ways}
use Rattle.std.proofs.lemmas.Bool.Decides.{same_from_decides}
use Rattle.heap_base.specs.Counting.{bit, is_positive, total, AsOften, times}
use Rattle.heap_base.proofs.Counting.{is_positive-from, is_positive-bit, total-append, total-filter, total-same, total-sum, total-zero, total-map, total-flat_map, times-filter, as_often-from_times}
use Rattle.graph_meaning.specs.Reach.{has_id}
use Rattle.graph_meaning.proofs.Membership.{has_id-append, has_id-from_list_any}
use Rattle.header_rule.specs.declared.mark.Mark.{Mark}
use Rattle.header_rule.specs.declared.mark.Mark.TheVariants.{Found, MetByRoots}
use Rattle.header_rule.specs.Views.{is_mark, times_marked}
use Rattle.scan_job.specs.Fit.{no_owners}
use Rattle.scan_job.specs.Gains.{Gain, lists_mark}
use Rattle.scan_job.specs.Graphs.{StoppedGraph, IsWhole, is_border, owners, all_targets}
use Rattle.scan_job.specs.Phases.{OwnerGains, TakeUpGains, RootGains}
use Rattle.scan_job.proofs.Fitting.{times-at, at-times}
use Rattle.scan_job.proofs.Reaching.{at-filter, has_id-flat_map}
use Rattle.heap_marking.specs.TracedCells.{root_traced, is_root_traced, is_traced, traced_cells, is_met, reference_count}
use Rattle.heap_marking.proofs.RootTraced.{has_id-times, element_le-total, reached-traced, root_traced-free, root_traced-passes, traced-node, under-passes}

total-targets : (g : StoppedGraph) (h : ℕ → ℕ) (xs : List ℕ) → total h (all_targets g xs) ≡ total (λ s. total h (g.targets s)) xs
total-targets g h xs = total-flat_map h g.targets xs

-- those of a list that pass p, and those that pass q, are those that are no owners
split_owner : (o e : Bool) (n : ℕ) → cond (not (o || e)) n 0 + cond (e && not o) n 0 ≡ cond (not o) n 0
split_owner true true n = refl
split_owner true false n = refl
split_owner false true n = omega arith
split_owner false false n = omega arith

module _ (g : StoppedGraph) (a b c : Gain) (w : IsWhole g) (own : OwnerGains g a) (up : TakeUpGains g a.held b) (root : RootGains g c)
    (once : (x : ℕ) → times x (a.wins ++ (b.wins ++ c.wins)) ≡ bit (is_positive (times x (a.adds ++ (b.adds ++ c.adds))))) where
  abbrev pub adds : List ℕ
  adds = a.adds ++ (b.adds ++ c.adds)

  abbrev pub wins : List ℕ
  wins = a.wins ++ (b.wins ++ c.wins)

  -- what the slots of s add to a sum, and the same where s is no owner
  abbrev by_slots : (ℕ → ℕ) → ℕ → ℕ
  by_slots h s = total h (g.targets s)

  abbrev by_free : (ℕ → ℕ) → ℕ → ℕ
  by_free h s = cond (not (g.is_owner s)) (by_slots h s) 0

  -- all adds are the roots, the slots of the owners, and those of the wins that are no owners
  adds-total : (h : ℕ → ℕ) → total h adds ≡ total h g.roots + (total (by_slots h) (owners g) + total (by_free h) wins)
  adds-total h =
      let f = by_slots h in
      let border = λ (x : ℕ). not (is_border g x) in
      let kept = λ (x : ℕ). g.is_ownee x && not (g.is_owner x) in
      let free = λ (x : ℕ). not (g.is_owner x) in
      let a1 = own.adds h in
      let a2 = total-append h (all_targets g (owners g)) (all_targets g (filter border a.wins)) in
      let a3 = total-targets g h (owners g) in
      let a4 = total-targets g h (filter border a.wins) in
      let a5 = total-filter f border a.wins in
      let h1 = own.held f in
      let h2 = total-filter f kept a.wins in
      let h3 = total-sum (λ x. cond (border x) (f x) 0) (λ x. cond (kept x) (f x) 0) a.wins in
      let h4 = total-same (λ x. cond (border x) (f x) 0 + cond (kept x) (f x) 0) (by_free h) (λ x. split_owner (g.is_owner x) (g.is_ownee x) (f x)) a.wins in
      let b1 = up.adds h in
      let b2 = total-append h (all_targets g a.held) (all_targets g (no_owners g b.wins)) in
      let b3 = total-targets g h a.held in
      let b4 = total-targets g h (no_owners g b.wins) in
      let b5 = total-filter f free b.wins in
      let c1 = root.adds h in
      let c2 = total-append h g.roots (all_targets g (no_owners g c.wins)) in
      let c4 = total-targets g h (no_owners g c.wins) in
      let c5 = total-filter f free c.wins in
      let d1 = total-append h a.adds (b.adds ++ c.adds) in
      let d2 = total-append h b.adds c.adds in
      let e1 = total-append (by_free h) a.wins (b.wins ++ c.wins) in
      let e2 = total-append (by_free h) b.wins c.wins in
      omega arith

  abbrev is : ℕ → ℕ → ℕ
  is x y = bit (eqb y x)

  -- ---- each cell that was met was won

  abbrev met : ℕ → Bool
  met x = is_positive (times x adds)

  met-won : (x : ℕ) → has_id wins x ≡ met x
  met-won x = has_id-times x wins ∙ ap is_positive (once x) ∙ is_positive-bit (met x)

  roots-met : (x : ℕ) → has_id g.roots x ≡ true → met x ≡ true
  roots-met x at = is_positive-from _ (let e = adds-total (is x) in let l = times-at x g.roots at in omega arith)

  owners-met : (o y : ℕ) → g.is_owner o ≡ true → has_id (g.targets o) y ≡ true → met y ≡ true
  owners-met o y owner at =
      is_positive-from _
      (let e = adds-total (is y) in
      let l = times-at y (g.targets o) at in
      let k = element_le-total (by_slots (is y)) o (owners g) (at-filter g.is_owner g.nodes o owner (w.owners o owner)) in
      omega arith)

  step-met : (x y : ℕ) → met x ≡ true → has_id (g.targets x) y ≡ true → met y ≡ true
  step-met x y it_is at =
      ⊎_elim
      (λ owner. owners-met x y owner at)
      (λ other.
      is_positive-from _
      (let e = adds-total (is y) in
      let l = times-at y (g.targets x) at in
      let k = element_le-total (by_free (is y)) x wins (met-won x ∙ it_is) in
      let f : by_free (is y) x ≡ by_slots (is y) x = ap (λ t. cond (not t) (by_slots (is y) x) 0) other in
      omega arith))
      (cases_Bool (g.is_owner x))

  complete : (x : ℕ) → is_traced g x ≡ true → met x ≡ true
  complete x at =
      ⊎_elim
      (λ under. under-passes g met owners-met step-met x under)
      (λ rooted. root_traced-passes g met roots-met step-met x rooted)
      (or_cases _ _ at)

  -- ---- only traced cells were won

  sound : (x : ℕ) → met x ≡ true → is_traced g x ≡ true
  sound x it_is =
      ⊎_elim
      (λ here. or_left _ _ (own.wins x here))
      (λ later.
      ⊎_elim
      (λ here. or_left _ _ (up.wins x here))
      (λ here. reached-traced g w x (root.wins x here))
      (or_cases _ _ (sym (has_id-append b.wins c.wins x) ∙ later)))
      (or_cases _ _ (sym (has_id-append a.wins (b.wins ++ c.wins) x) ∙ met-won x ∙ it_is))

  pub kept : (x : ℕ) → met x ≡ is_traced g x
  kept x = same_from_decides (met x) (is_traced g x) (sound x, complete x) (λ e. e, λ e. e)

  pub wins-traced : AsOften wins (traced_cells g)
  wins-traced =
      as_often-from_times wins (traced_cells g) (λ x. once x ∙ ap bit (kept x) ∙ at_traced x (is_traced g x) refl ∙ sym (times-filter (is_traced g) x g.nodes))
    where
      at_traced : (x : ℕ) (t : Bool) → is_traced g x ≡ t → bit t ≡ cond t (times x g.nodes) 0
      at_traced x true is_so =
          let l = times-at x g.nodes (traced-node g x is_so) in let o = w.once x in omega arith
      at_traced x false is_so = refl

  either : (t o : Bool) (n : ℕ) → cond o n 0 + cond t (cond (not o) n 0) 0 ≡ cond (t || o) n 0
  either true true n = omega arith
  either true false n = omega arith
  either false true n = omega arith
  either false false n = refl

  pub count : (x : ℕ) → times x adds ≡ reference_count g x
  count x =
      let f = by_slots (is x) in
      let k = by_free (is x) in
      let e = adds-total (is x) in
      let t = wins-traced k in
      let u = total-filter k (is_traced g) g.nodes in
      let v = total-filter f g.is_owner g.nodes in
      let s = total-sum (λ z. cond (g.is_owner z) (f z) 0) (λ z. cond (is_traced g z) (k z) 0) g.nodes in
      let r =
      total-same (λ z. cond (g.is_owner z) (f z) 0 + cond (is_traced g z) (k z) 0) (λ z. cond (is_traced g z || g.is_owner z) (f z) 0) (λ z. either (is_traced g z) (g.is_owner z) (f z)) g.nodes in
      omega arith

  -- ---- the marks

  abbrev pub marks : List (ℕ × Mark)
  marks = a.marks ++ (b.marks ++ c.marks)

  abbrev marks-of : Mark → ℕ → ℕ × Mark → ℕ
  marks-of m x p = bit (is_mark m p.1 && eqb p.0 x)

  marks-split : (m : Mark) (x : ℕ) → times_marked m x marks ≡ times_marked m x a.marks + times_marked m x c.marks
  marks-split m x =
      let f = marks-of m x in
      let d = total-append f a.marks (b.marks ++ c.marks) in
      let e = total-append f b.marks c.marks in
      let n = ap (total f) up.no_marks in
      omega arith

  pub found-same : (x : ℕ) → times_marked Found x marks ≡ times_marked Found x a.marks
  found-same x =
      let s = marks-split Found x in
      let r = root.marks (marks-of Found x) in
      let m = total-map (marks-of Found x) (λ e. (e, MetByRoots)) (filter g.is_ownee c.adds) in
      let z = total-zero (filter g.is_ownee c.adds) in
      omega arith

  met-marked : (e : ℕ) → g.is_ownee e ≡ true → has_id c.adds e ≡ true → lists_mark MetByRoots e marks ≡ true
  met-marked e ownee at =
      is_positive-from _
      (let s = marks-split MetByRoots e in
      let r = root.marks (marks-of MetByRoots e) in
      let m = total-map (marks-of MetByRoots e) (λ e. (e, MetByRoots)) (filter g.is_ownee c.adds) in
      let z = times-at e (filter g.is_ownee c.adds) (at-filter g.is_ownee c.adds e ownee at) in
      omega arith)

  pub met-by : (e : ℕ) → g.is_ownee e ≡ true → is_met g e ≡ true → lists_mark MetByRoots e marks ≡ true
  met-by e ownee m =
      met-marked e ownee (at-times e c.adds (⊎_elim by_root by_slot (or_cases _ _ m)))
    where
      by_root : has_id g.roots e ≡ true → 0 < times e c.adds
      by_root at =
          let r = root.adds (is e) in
          let d = total-append (is e) g.roots (all_targets g (no_owners g c.wins)) in
          let l = times-at e g.roots at in
          omega arith

      -- what is traced from the roots was won by the last phase
      last : (s : ℕ) → is_root_traced g s ≡ true → has_id c.wins s ≡ true
      last s rooted =
          ⊎_elim
          (λ here. absurd (both_ways _ (root_traced-free g s rooted) (own.wins s here)))
          (λ later.
          ⊎_elim
          (λ here. absurd (both_ways _ (root_traced-free g s rooted) (up.wins s here)))
          (λ here. here)
          (or_cases _ _ (sym (has_id-append b.wins c.wins s) ∙ later)))
          (or_cases _ _ (sym (has_id-append a.wins (b.wins ++ c.wins) s) ∙ met-won s ∙ complete s (or_right _ _ rooted)))

      by_slot : list_any (λ x. not (g.is_owner x) && has_id (g.targets x) e) (root_traced g) ≡ true → 0 < times e c.adds
      by_slot some =
          let s = has_id-from_list_any (λ x. not (g.is_owner x) && has_id (g.targets x) e) (root_traced g) some in
          let p = and_parts _ _ s.2 in
          let r = root.adds (is e) in
          let d = total-append (is e) g.roots (all_targets g (no_owners g c.wins)) in
          let l = times-at e (all_targets g (no_owners g c.wins)) (has_id-flat_map g.targets (no_owners g c.wins) s.0 e (at-filter _ c.wins s.0 p.0 (last s.0 s.1)) p.1) in
          omega arith
