-- From the gains of the three phases, one after another, to what the passes and tallies of all jobs hold.
use Rattle.std.proofs.Common.{◌≡◌, ℕ, ◌+◌, ◌&&◌, List, [], ◌∷◌, ◌++◌, sym, refl, ap, ◌∙◌, subst, arith, eqb}
use Rattle.std.specs.List.{All, flat_map}
use Rattle.std.proofs.lemmas.List.Elements.{All-head, All-tail}
use Rattle.heap_base.specs.Counting.{bit, is_positive, total, times}
use Rattle.heap_base.proofs.Counting.{total-append}
use Rattle.header_rule.specs.declared.mark.Mark.{Mark}
use Rattle.header_rule.specs.declared.mark.Mark.TheVariants.{Found, MetByRoots}
use Rattle.header_rule.specs.declared.pass.Pass.{Pass}
use Rattle.header_rule.specs.Passes.{adds, wins, marks, all_adds, all_wins, all_marks, IsFresh}
use Rattle.header_rule.specs.Views.{is_mark, times_marked}
use Rattle.scan_job.specs.Gains.{Gain, all_gains, Grows}
use Rattle.scan_job.specs.Graphs.{StoppedGraph}
use Rattle.scan_job.specs.Phases.{TakeUpGains}
use Rattle.scan_job.specs.Scans.{kind_count}
use Rattle.scan_job.specs.States.{ScanState, passes_of}
use Rattle.scan_job.proofs.Gaining.{held-gained}
use Rattle.steal_pool.specs.Lists.{Each}
use Rattle.heap_marking.specs.TracedCells.{all_tallies, IsNew, ThreePhases, PhasesTrace}
use Rattle.heap_marking.proofs.ThreePhases as Phases

-- ---- after one phase

module _ {X : Type 0} (g : StoppedGraph) (h : X → ℕ) (list : Pass → List X) (gained : Gain → List X)
    (longer : (j k : ScanState) (a : Gain) → Grows g j a k → list k.pass ≡ list j.pass ++ gained a) where
  -- a sum over all passes rose by what was gained
  grown-total : (js : List ScanState) (gains : List Gain) (ks : List ScanState) → Each (Grows g) js gains ks →
      total (λ p. total h (list p)) (passes_of ks) ≡ total (λ p. total h (list p)) (passes_of js) + total h (flat_map gained gains)
  grown-total [] gains ks e =
      let a = ap (λ (zs : List ScanState). total (λ p. total h (list p)) (passes_of zs)) e.1 in
      let b = ap (λ (bs : List Gain). total h (flat_map gained bs)) e.0 in
      omega arith
  grown-total (j ∷ js) [] ks e = absurd e
  grown-total (j ∷ js) (a ∷ gains) [] e = absurd e
  grown-total (j ∷ js) (a ∷ gains) (k ∷ ks) e =
      let r = grown-total js gains ks e.1 in
      let o = ap (total h) (longer j k a e.0) in
      let p = total-append h (list j.pass) (gained a) in
      let t = total-append h (gained a) (flat_map gained gains) in
      omega arith

grown-tallies : (g : StoppedGraph) (kind : ℕ) (js : List ScanState) (gains : List Gain) (ks : List ScanState) → Each (Grows g) js gains ks →
    all_tallies kind ks ≡ all_tallies kind js + kind_count g kind (all_gains gains).wins
grown-tallies g kind [] gains ks e =
    let a = ap (all_tallies kind) e.1 in
    let b = ap (λ (bs : List Gain). kind_count g kind (all_gains bs).wins) e.0 in
    omega arith
grown-tallies g kind (j ∷ js) [] ks e = absurd e
grown-tallies g kind (j ∷ js) (a ∷ gains) [] e = absurd e
grown-tallies g kind (j ∷ js) (a ∷ gains) (k ∷ ks) e =
    let r = grown-tallies g kind js gains ks e.1 in
    let o = e.0.tally kind in
    let t = total-append (λ x. bit (eqb (g.kind x) kind)) a.wins (all_gains gains).wins in
    omega arith

-- ---- before the first phase

new-total : {X : Type 0} (h : X → ℕ) (list : Pass → List X) → ((p : Pass) → IsFresh p → list p ≡ []) → (js : List ScanState) → All IsNew js → total (λ p. total h (list p)) (passes_of js) ≡ 0
new-total h list empty [] new = refl
new-total h list empty (j ∷ js) new =
    let r = new-total h list empty js (All-tail IsNew j js new) in
    let e = ap (total h) (empty j.pass (All-head IsNew j js new).fresh) in
    omega arith

new-tallies : (kind : ℕ) (js : List ScanState) → All IsNew js → all_tallies kind js ≡ 0
new-tallies kind [] new = refl
new-tallies kind (j ∷ js) new =
    let r = new-tallies kind js (All-tail IsNew j js new) in let e = (All-head IsNew j js new).zero kind in omega arith

-- ---- after all three

-- a sum over all passes is that of what was gained in each phase
total-all : {X : Type 0} {g : StoppedGraph} {js ms : List ScanState} → All IsNew js → (phases : ThreePhases g js ms) → (h : X → ℕ) (list : Pass → List X) (gained : Gain → List X)
    → ((p : Pass) → IsFresh p → list p ≡ []) → ((j k : ScanState) (a : Gain) → Grows g j a k → list k.pass ≡ list j.pass ++ gained a)
    → total (λ p. total h (list p)) (passes_of ms) ≡ total h (flat_map gained phases.owner_phase.gains ++ (flat_map gained phases.take_up.gains ++ flat_map gained phases.root_phase.gains))
total-all {g = g} {js = js} {ms = ms} new phases h list gained empty longer =
    let own = phases.owner_phase in
    let up = phases.take_up in
    let root = phases.root_phase in
    let z = new-total h list empty js new in
    let p = grown-total g h list gained longer js own.gains phases.owned own.each in
    let q = grown-total g h list gained longer phases.owned up.gains phases.taken_up up.each in
    let r = grown-total g h list gained longer phases.taken_up root.gains ms root.each in
    let s = total-append h (flat_map gained own.gains) (flat_map gained up.gains ++ flat_map gained root.gains) in
    let t = total-append h (flat_map gained up.gains) (flat_map gained root.gains) in
    omega arith

pub phases_trace : PhasesTrace
phases_trace g js ms whole new phases once =
    let ks = phases.owned in
    let ls = phases.taken_up in
    let own = phases.owner_phase in
    let up = phases.take_up in
    let root = phases.root_phase in
    let a = all_gains own.gains in
    let b = all_gains up.gains in
    let c = all_gains root.gains in
    let up-held : TakeUpGains g a.held b = subst (λ held. TakeUpGains g held b) (held-gained g js own.gains ks own.each) up.all in
    let met : (h : ℕ → ℕ) → total (λ p. total h (adds p)) (passes_of ms) ≡ total h (a.adds ++ (b.adds ++ c.adds)) =
    λ h. total-all new phases h adds (λ (d : Gain). d.adds) (λ p f. f.adds) (λ j k d r. r.adds) in
    let won : (h : ℕ → ℕ) → total (λ p. total h (wins p)) (passes_of ms) ≡ total h (a.wins ++ (b.wins ++ c.wins)) =
    λ h. total-all new phases h wins (λ (d : Gain). d.wins) (λ p f. f.wins) (λ j k d r. r.wins) in
    let marked : (m : Mark) (x : ℕ) → all_marks m x (passes_of ms) ≡ times_marked m x (a.marks ++ (b.marks ++ c.marks)) =
    λ m x. total-all new phases (λ (p : ℕ × Mark). bit (is_mark m p.1 && eqb p.0 x)) marks (λ (d : Gain). d.marks) (λ p f. f.marks) (λ j k d r. r.marks) in
    let counts : (x : ℕ) → all_adds x (passes_of ms) ≡ times x (a.adds ++ (b.adds ++ c.adds)) = λ x. met (λ y. bit (eqb y x)) in
    let wins-are : (x : ℕ) → all_wins x (passes_of ms) ≡ times x (a.wins ++ (b.wins ++ c.wins)) = λ x. won (λ y. bit (eqb y x)) in
    let once-all : (x : ℕ) → times x (a.wins ++ (b.wins ++ c.wins)) ≡ bit (is_positive (times x (a.adds ++ (b.adds ++ c.adds)))) =
    λ x. sym (wins-are x) ∙ once x ∙ ap (λ n. bit (is_positive n)) (counts x) in
    record {
      count = λ x. counts x ∙ Phases.count g a b c whole own.all up-held root.all once-all x;
      kept = λ x. ap is_positive (counts x) ∙ Phases.kept g a b c whole own.all up-held root.all once-all x;
      instances = λ kind.
          (let f = λ (x : ℕ). bit (eqb (g.kind x) kind) in
          let z = new-tallies kind js new in
          let p = grown-tallies g kind js own.gains ks own.each in
          let q = grown-tallies g kind ks up.gains ls up.each in
          let r = grown-tallies g kind ls root.gains ms root.each in
          let s = total-append f a.wins (b.wins ++ c.wins) in
          let u = total-append f b.wins c.wins in
          let v = Phases.wins-traced g a b c whole own.all up-held root.all once-all f in
          omega arith);
      found = λ e at. own.all.found e (ap is_positive (sym (Phases.found-same g a b c whole own.all up-held root.all once-all e)) ∙ ap is_positive (sym (marked Found e)) ∙ at);
      marked = λ o e owns at. ap is_positive (marked Found e ∙ Phases.found-same g a b c whole own.all up-held root.all once-all e) ∙ own.all.marked o e owns at;
      met = λ e ownee is_so. ap is_positive (marked MetByRoots e) ∙ Phases.met-by g a b c whole own.all up-held root.all once-all e ownee is_so;
    }
