-- The steps that leave all lists as they are keep the rule: the first seat, a split and a join.
use Rattle.std.proofs.Common.{◌≡◌, ◌≢◌, ℕ, zero, suc, ◌+◌, ◌-◌, ◌*◌, ◌<◌, eqb, ◌&&◌, cond, List, [], ◌∷◌, ◌++◌, length, get_or, set, sym, refl, ap}
use Rattle.std.proofs.Common.{◌∙◌, subst, ⊎_elim, arith, length-set, length-append, get_or-set_same, get_or-set_other}
use mathlib.Core.Option.{Option, none, some}
use lib.ListN.{get_elem?}
use Rattle.atomic_table.specs.Table.{State, step, keeps, Allows, Splits, Joins}
use Rattle.atomic_table.proofs.Lists.{at_set, at_snoc}
use Rattle.heap_base.specs.Counting.{bit, is_positive, times}
use Rattle.heap_base.proofs.Counting.{total-append, total-set, total-snoc, total-set_same, total-joined, times-append}
use Rattle.header_rule.specs.declared.mark.Mark.{Mark}
use Rattle.header_rule.specs.declared.view.View.{View}
use Rattle.header_rule.specs.Layout.{bits_of}
use Rattle.header_rule.specs.Views.{is_mark, times_marked, rights_in, adds_in, wins_in, marks_in, word_of}
use Rattle.header_rule.specs.Rule.{new_view, FitsRights, KeepsRule}
use Rattle.header_rule.specs.Steps.{TakesRights, one_right_less, both_views}

pub times_marked-append : (m : Mark) (x : ℕ) (ps qs : List (ℕ × Mark)) → times_marked m x (ps ++ qs) ≡ times_marked m x ps + times_marked m x qs
times_marked-append m x ps qs = total-append (λ (p : ℕ × Mark). bit (is_mark m p.1 && eqb p.0 x)) ps qs

abbrev pub AllFit : List View → Type 0
AllFit views = (id : ℕ) (v : View) → get_elem? views id ≡ some v → FitsRights v

-- each cell, and each mark of it, stands in the lists of both as often
record SameLists (views views' : List View) : Type 0 where
  pub adds : (x : ℕ) → adds_in x views' ≡ adds_in x views
  pub wins : (x : ℕ) → wins_in x views' ≡ wins_in x views
  pub marks : (m : Mark) (x : ℕ) → marks_in m x views' ≡ marks_in m x views

same_word : (views views' : List View) → SameLists views views' → (x : ℕ) → word_of x views' ≡ word_of x views
same_word views views' h x = λ i. bits_of (λ m. is_positive (h.marks m x i)) + h.adds x i

-- a state whose header words and lists are as they were
kept_same : (cells : ℕ) (s : State (Unit {0}) View) → KeepsRule cells s → (words' : List ℕ) (homes' : List (Option (Unit {0}))) (views' : List View) → SameLists s.views views'
    → length words' ≡ cells + 1 → get_or words' 0 0 < 2 → rights_in views' ≡ 16 * get_or words' 0 0
    → AllFit views'
    → ((x : ℕ) → x < cells → get_or words' (x + 1) 0 ≡ get_or s.words (x + 1) 0)
    → KeepsRule cells record { words = words'; homes = homes'; views = views' }
kept_same cells s k words' homes' views' same sized opening rights fits others =
    record {
      sized = sized;
      opening = opening;
      rights = rights;
      fits = fits;
      words = λ x h. others x h ∙ (k.words x h ∙ sym (same_word s.views views' same x));
      wins = λ x. same.wins x ∙ (k.wins x ∙ ap (λ n. bit (is_positive n)) (sym (same.adds x)));
    }

-- one view is replaced by one with the same lists
relisted : (views : List View) (id : ℕ) (v w : View) → get_elem? views id ≡ some v → w.adds ≡ v.adds → w.wins ≡ v.wins → w.marks ≡ v.marks → SameLists views (set views id w)
relisted views id v w at a b c =
    record {
      adds = λ x. total-set_same (λ (u : View). times x u.adds) views id v w at (ap (times x) a);
      wins = λ x. total-set_same (λ (u : View). times x u.wins) views id v w at (ap (times x) b);
      marks = λ m x. total-set_same (λ (u : View). times_marked m x u.marks) views id v w at (ap (times_marked m x) c);
    }

fits_new_view : (r : ℕ) → FitsRights (new_view r)
fits_new_view r = record { idle = λ e. ap new_view e; bounded = omega arith }

pub fits_set : (views : List View) (id : ℕ) (w : View) → AllFit views → FitsRights w → AllFit (set views id w)
fits_set views id w old new i v at = ⊎_elim (λ t. subst FitsRights t.1 new) (λ t. old i v t.1) (at_set views id i w v at)

fits_snoc : (views : List View) (w : View) → AllFit views → FitsRights w → AllFit (views ++ w ∷ [])
fits_snoc views w old new i v at = ⊎_elim (λ t. old i v t) (λ t. subst FitsRights t new) (at_snoc views w v i at)

-- ---- the first seat: the opening word goes from n to 1

sixteen : (n : ℕ) → n < 2 → 16 * n + cond (eqb n 0) 16 0 ≡ 16
sixteen zero h = refl
sixteen (suc zero) h = refl
sixteen (suc (suc n)) h = absurd (omega arith)

pub takes_rights : (cells slots id : ℕ) → Allows (KeepsRule cells) slots id (new_view 0, []) 0 (λ _. 1) (TakesRights (step slots 0 1 0 none) (new_view 0, []))
takes_rights cells slots id s k _ at _ =
    let n : ℕ = get_or s.words 0 0 in
    let w : View = new_view (cond (eqb n 0) 16 0) in
    let sized = k.sized in
    let first : get_or (set s.words 0 1) 0 0 ≡ 1 = get_or-set_same s.words 0 1 0 (omega arith) in
    let sum = total-set (λ (u : View). u.rights) s.views id (new_view 0) w at in
    let all = sixteen n k.opening in
    let before = k.rights in (
      w,
      keeps,
      tt,
      kept_same cells s k (set s.words 0 1) s.homes (set s.views id w) (relisted s.views id (new_view 0) w at refl refl refl)
          (length-set s.words 0 1 ∙ sized) (omega arith) (omega arith)
          (fits_set s.views id w k.fits (fits_new_view (cond (eqb n 0) 16 0)))
          (λ x h. let ne : x + 1 ≢ 0 = omega arith in get_or-set_other s.words 0 (x + 1) 1 0 ne),
      refl,
    )

-- ---- a split

pub splits : (cells id r : ℕ) → 0 < r → Splits (KeepsRule cells) id (new_view r) (one_right_less (new_view r)) (new_view 1)
splits cells id r some_right s k at =
    let left : View = one_right_less (new_view r) in
    let old = set s.views id left in
    let mid = relisted s.views id (new_view r) left at refl refl refl in
    let sum = total-set (λ (u : View). u.rights) s.views id (new_view r) left at in
    let before = k.rights in
    kept_same cells s k s.words s.homes (old ++ new_view 1 ∷ [])
    (record {
      adds = λ x. let a = total-snoc (λ (u : View). times x u.adds) old (new_view 1) in let b = mid.adds x in omega arith;
      wins = λ x. let a = total-snoc (λ (u : View). times x u.wins) old (new_view 1) in let b = mid.wins x in omega arith;
      marks = λ m x. let a = total-snoc (λ (u : View). times_marked m x u.marks) old (new_view 1) in let b = mid.marks m x in omega arith;
    })
    k.sized k.opening
    (let a = total-snoc (λ (u : View). u.rights) old (new_view 1) in omega arith)
    (fits_snoc old (new_view 1) (fits_set s.views id left k.fits (fits_new_view (r - 1))) (fits_new_view 1))
    (λ x h. refl)

-- ---- a join

both_new : (v w : View) → v ≡ new_view 0 → w ≡ new_view 0 → both_views v w ≡ new_view 0
both_new v w a b = λ i. both_views (a i) (b i)

fits_both : (v w : View) → FitsRights v → FitsRights w → FitsRights (both_views v w)
fits_both v w a b =
    record {
      idle = λ e. both_new v w (a.idle (omega arith)) (b.idle (omega arith));
      bounded = let p = a.bounded in let q = b.bounded in omega (arith, length-append v.adds w.adds);
    }

pub joins : (cells id other : ℕ) (v w : View) → Joins (KeepsRule cells) id v other w (both_views v w) (new_view 0)
joins cells id other v w s k at apart at' =
    let both : View = both_views v w in
    let spent : View = new_view 0 in
    let mid = set s.views id both in
    let w-fits : FitsRights w = ⊎_elim (λ t. absurd (apart t.0)) (λ t. k.fits other w t.1) (at_set s.views id other both w at') in
    kept_same cells s k s.words s.homes (set mid other spent)
    (record {
      adds = λ x. total-joined (λ (u : View). times x u.adds) s.views id other v w both spent at at' (times-append x v.adds w.adds) refl;
      wins = λ x. total-joined (λ (u : View). times x u.wins) s.views id other v w both spent at at' (times-append x v.wins w.wins) refl;
      marks = λ m x. total-joined (λ (u : View). times_marked m x u.marks) s.views id other v w both spent at at' (times_marked-append m x v.marks w.marks) refl;
    })
    k.sized k.opening
    (total-joined (λ (u : View). u.rights) s.views id other v w both spent at at' refl refl ∙ k.rights)
    (fits_set mid other spent (fits_set s.views id both k.fits (fits_both v w (k.fits id v at) w-fits)) (fits_new_view 0))
    (λ x h. refl)
