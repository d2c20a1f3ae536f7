-- Each step on a deque keeps its rule.
use Rattle.std.proofs.Common.{◌≡◌, ◌≢◌, ℕ, zero, suc, ◌+◌, ◌<◌, ◌≤◌, Bool, true, false, cond, List, [], ◌∷◌, ◌++◌, length, set, sym, refl, ap, ◌∙◌, subst, ⊎_elim, arith}
use Rattle.std.specs.List.{Contains, AllByRecursion}
use mathlib.Core.Option.{some, some-injective, some-ne-none}
use lib.ListN.{get_elem?}
use Rattle.steal_pool.specs.declared.task.Task.{Task}
use Rattle.crossbeam_deque.specs.Tasks as Tasks
use Rattle.atomic_table.proofs.Lists.{at_set, at_snoc, set_else}
use Rattle.steal_pool.specs.declared.hand.Hand.{Hand}
use Rattle.heap_base.specs.Counting.{total, bit}
use Rattle.steal_pool.specs.Hands.{one, spent_hand, first_hand, Fits, IsBalanced, IsBalancedBy}
use Rattle.steal_pool.specs.Steps.{with_put, with_took, Puts, Takes, IsEmptied, HasSettled, renewed_hand, one_less, lent_hand, joined_hand}
use Rattle.heap_base.proofs.Counting.{total-set, total-snoc, le_total, total-set_same, total-joined, only_one, total-append, total-ones}
use Rattle.steal_pool.proofs.Elements.{all-front, all-snoc}

abbrev AllFits : List Task → ℕ → List Hand → Type 0
AllFits fit bound views = (i : ℕ) (u : Hand) → get_elem? views i ≡ some u → Fits fit bound u

module _ {fit : List Task} {bound : ℕ} (views : List Hand) (id : ℕ) where
  fits_set : {w : Hand} → AllFits fit bound views → Fits fit bound w → AllFits fit bound (set views id w)
  fits_set {w = w} old new i u at = ⊎_elim (λ t. subst (Fits fit bound) t.1 new) (λ t. old i u t.1) (at_set views id i w u at)

fits_idle : (fit : List Task) (bound : ℕ) → Fits fit bound spent_hand
fits_idle fit bound = record { spent = λ _. (refl, refl, refl); theirs = λ _. refl; same_fit = λ h. absurd (omega arith); same_bound = λ h. absurd (omega arith) }

bit_zero : (b : Bool) → bit b ≡ 0 → b ≡ false
bit_zero true e = absurd (omega arith)
bit_zero false e = refl

-- one hand of a deque that keeps its rule
module _ {items : List Task} {views : List Hand} {fit : List Task} {bound : ℕ} (k : IsBalancedBy items views fit bound) (port : ℕ) (v : Hand) (at : get_elem? views port ≡ some v) where
  -- who has all the rights has all that was put and taken
  put_by : v.rights ≡ 16 → (f : List Task → ℕ) → f [] ≡ 0 → (total (λ u. f u.put) views ≡ f v.put) × (total (λ u. f u.took) views ≡ f v.took)
  put_by whole f e =
      let all = k.rights ∙ sym whole in (
        only_one (λ u. f u.put) (λ u. u.rights) views (λ i u here z. ap f ((k.fits i u here).spent z).1 ∙ e) port v at all,
        only_one (λ u. f u.took) (λ u. u.rights) views (λ i u here z. ap f ((k.fits i u here).spent z).2 ∙ e) port v at all,
      )

  -- the owner has all that was put
  put_by_owner : v.owner ≡ true → (f : List Task → ℕ) → f [] ≡ 0 → total (λ u. f u.put) views ≡ f v.put
  put_by_owner own f e =
      let none-other : (i : ℕ) (u : Hand) → get_elem? views i ≡ some u → bit u.owner ≡ 0 → f u.put ≡ 0 =
      λ i u here z. ap f ((k.fits i u here).theirs (bit_zero u.owner z)) ∙ e in
      only_one (λ u. f u.put) (λ u. bit u.owner) views none-other port v at (k.owners ∙ sym (ap bit own))

  -- the others of who has all the rights have none
  others_idle : v.rights ≡ 16 → (i : ℕ) (u : Hand) → i ≢ port → get_elem? views i ≡ some u → u.rights ≡ 0
  others_idle whole i u ne here =
      let without = total-set (λ u. u.rights) views port v spent_hand at in
      let one-other = le_total (λ u. u.rights) (set views port spent_hand) i u (set_else views port i spent_hand ne ∙ here) in
      omega (arith, without, one-other, k.rights, whole)

no_items : (items : List Task) → length items ≡ 0 → items ≡ []
no_items [] e = refl
no_items (x ∷ xs) e = absurd (omega arith)

pub finds : (port : ℕ) (v : Hand) → Tasks.Finds IsBalanced port v (IsEmptied v)
finds port v views b at = λ whole h.
    let all = put_by b.2 port v at whole (total h) refl in
    omega (arith, all.0, all.1, b.2.even h)

pub finds_few : (most port : ℕ) (v : Hand) → most ≡ 0 → Tasks.FindsFew IsBalanced most port v (IsEmptied v)
finds_few most port v none items views few b at = finds port v views (subst (λ xs. IsBalanced xs views) (no_items items (omega arith)) b) at

pub puts : (port : ℕ) (v : Hand) (t : Task) → 0 < v.rights → v.owner ≡ true → Contains v.fit t → total one v.put < v.bound
    → Tasks.Pushes IsBalanced port v (t ∷ []) (Puts v (t ∷ []))
puts port v t some_right own stands room items views b at =
    let fit = b.0 in
    let bound = b.1 in
    let k = b.2 in
    let w : Hand = with_put v (t ∷ []) in
    let old = k.fits port v at in
    let bound-is = old.same_bound some_right in
    let mine = put_by_owner k port v at own (total one) refl in
    let w-fits : Fits fit bound w = record {
      spent = λ z. absurd (omega arith);
      theirs = λ z. absurd (let f : bit true ≡ bit false = ap bit (sym own ∙ z) in omega arith);
      same_fit = old.same_fit;
      same_bound = old.same_bound;
    } in
    let balanced : IsBalancedBy (items ++ t ∷ []) (set views port w) fit bound = record {
      rights = total-set_same (λ u. u.rights) views port v w at refl ∙ k.rights;
      owners = total-set_same (λ u. bit u.owner) views port v w at refl ∙ k.owners;
      fits = fits_set views port k.fits w-fits;
      even = λ h. (
          let put = total-set (λ u. total h u.put) views port v w at in
          let took = total-set_same (λ u. total h u.took) views port v w at refl in
          omega (arith, put, took, total-append h v.put (t ∷ []), total-append h items (t ∷ []), k.even h));
      few = (let a = total-set (λ u. total one u.put) views port v w at in let p = total-append one v.put (t ∷ []) in omega arith);
      are_fit = all-snoc (Contains fit) items t k.are_fit (subst (λ xs. Contains xs t) (old.same_fit some_right) stands);
    } in
    (w, (fit, bound, balanced), refl)

pub takes : (port : ℕ) (v : Hand) → 0 < v.rights → Tasks.Takes IsBalanced port v 1 (Takes v)
takes port v some_right xs items views _ _ b at =
    let fit = b.0 in
    let bound = b.1 in
    let k = b.2 in
    let w : Hand = with_took v xs in
    let old = k.fits port v at in
    let two = all-front (Contains fit) xs items k.are_fit in
    let few = k.few in
    let even = k.even one in
    let bound-is = old.same_bound some_right in
    let mine = le_total (λ u. total one u.took) views port v at in
    let took = total-append one v.took xs in
    let rest = total-append one xs items in
    let w-fits : Fits fit bound w = record { spent = λ z. absurd (omega arith); theirs = old.theirs; same_fit = old.same_fit; same_bound = old.same_bound } in (
      w,
      (
        fit,
        bound,
        record {
          are_fit = two.1;
          few = (let c = total-set_same (λ u. total one u.put) views port v w at refl in omega arith);
          even = λ h. (
              let took = total-set (λ u. total h u.took) views port v w at in
              let put = total-set_same (λ u. total h u.put) views port v w at refl in
              omega (arith, took, put, total-append h v.took xs, total-append h xs items, k.even h));
          rights = total-set_same (λ u. u.rights) views port v w at refl ∙ k.rights;
          owners = total-set_same (λ u. bit u.owner) views port v w at refl ∙ k.owners;
          fits = fits_set views port k.fits w-fits;
        },
      ),
      record {
        hand = refl;
        are_fit = subst (λ f. AllByRecursion (Contains f) xs) (sym (old.same_fit some_right)) two.0;
        few = omega arith;
        own = λ z. omega (arith, put_by_owner k port v at z (total one) refl);
      },
    )

-- a hand with all the rights took no more than it put
pub settles : (port : ℕ) (v : Hand) → Tasks.Learns IsBalanced port v (HasSettled v)
settles port v items views b at = λ whole.
    let all = put_by b.2 port v at whole (total one) refl in
    omega (arith, all.0, all.1, b.2.even one)

fits_opener : Fits [] 0 first_hand
fits_opener = record {
  spent = λ z. absurd (omega arith);
  theirs = λ z. absurd (let f : bit true ≡ bit false = ap bit z in omega arith);
  same_fit = λ _. refl;
  same_bound = λ _. refl;
}

alone : AllFits [] 0 (first_hand ∷ [])
alone zero u at = subst (Fits [] 0) (some-injective first_hand u at) fits_opener
alone (suc i) u at = absurd (some-ne-none u (sym at))

-- the deque at the start
pub opens : IsBalanced [] (first_hand ∷ [])
opens = ([], 0, record { rights = refl; owners = refl; fits = alone; even = λ h. refl; few = omega arith; are_fit = tt })

-- the owner of an empty deque may set new terms, and makes a hand without a right meanwhile
pub renews : (port : ℕ) (v : Hand) (F : List Task) (B : ℕ) → v.rights ≡ 16 → v.owner ≡ true
    → ((h : Task → ℕ) → total h v.put ≡ total h v.took) → Tasks.Forks IsBalanced port v (renewed_hand F B) spent_hand
renews port v F B whole own even items views b at =
    let k = b.2 in
    let w : Hand = renewed_hand F B in
    let mid = set views port w in
    let all = k.rights ∙ sym whole in
    let two : (f : List Task → ℕ) → f [] ≡ 0 → (total (λ u. f u.put) views ≡ f v.put) × (total (λ u. f u.took) views ≡ f v.took) =
    put_by k port v at whole in
    let ones = two (total one) refl in
    let none : items ≡ [] = no_items items (omega (arith, ones.0, ones.1, k.even one, even one, total-ones items)) in
    let w-fits : Fits F B w = record {
      spent = λ z. absurd (omega arith);
      theirs = λ z. absurd (let f : bit true ≡ bit false = ap bit z in omega arith);
      same_fit = λ _. refl;
      same_bound = λ _. refl;
    } in
    let rest : (i : ℕ) (u : Hand) → get_elem? mid i ≡ some u → Fits F B u =
    λ i u here. ⊎_elim (λ t. subst (Fits F B) t.1 w-fits)
    (λ t. let old = k.fits i u t.1 in let z = others_idle k port v at whole i u t.0 t.1 in
    record { spent = old.spent; theirs = old.theirs; same_fit = λ p. absurd (omega arith); same_bound = λ p. absurd (omega arith) })
    (at_set views port i w u here) in (
      F,
      B,
      record {
        rights = omega (arith, total-set (λ u. u.rights) views port v w at, total-snoc (λ u. u.rights) mid spent_hand, k.rights);
        owners = (
            let owner = total-set_same (λ u. bit u.owner) views port v w at (sym (ap bit own)) in
            omega (arith, owner, total-snoc (λ u. bit u.owner) mid spent_hand, k.owners));
        fits = λ i u here. ⊎_elim (λ t. rest i u t) (λ t. subst (Fits F B) t (fits_idle F B)) (at_snoc mid spent_hand u i here);
        even = λ h. (
            let t = two (total h) refl in
            let p = t.0 in
            let q = t.1 in
            let a = total-set (λ u. total h u.put) views port v w at in
            let c = total-set (λ u. total h u.took) views port v w at in
            let d = total-snoc (λ u. total h u.put) mid spent_hand in
            let e = total-snoc (λ u. total h u.took) mid spent_hand in
            let n = ap (total h) none in
            omega arith);
        few = omega (arith, ones.0, total-set (λ u. total one u.put) views port v w at, total-snoc (λ u. total one u.put) mid spent_hand);
        are_fit = subst (AllByRecursion (Contains F)) (sym none) tt;
      },
    )

pub forks : (port : ℕ) (v : Hand) → 1 < v.rights → Tasks.Forks IsBalanced port v (one_less v) (lent_hand v)
forks port v some_rights items views b at =
    let fit = b.0 in
    let bound = b.1 in
    let k = b.2 in
    let old = k.fits port v at in
    let mid = set views port (one_less v) in
    let left-fits : Fits fit bound (one_less v) = record {
      spent = λ z. absurd (omega arith);
      theirs = old.theirs;
      same_fit = λ _. old.same_fit (omega arith);
      same_bound = λ _. old.same_bound (omega arith);
    } in
    let right-fits : Fits fit bound (lent_hand v) = record {
      spent = λ z. absurd (omega arith);
      theirs = λ _. refl;
      same_fit = λ _. old.same_fit (omega arith);
      same_bound = λ _. old.same_bound (omega arith);
    } in (
      fit,
      bound,
      record {
        rights = omega (arith, total-set (λ u. u.rights) views port v (one_less v) at, total-snoc (λ u. u.rights) mid (lent_hand v), k.rights);
        owners = (
            let owner = total-set_same (λ u. bit u.owner) views port v (one_less v) at refl in
            omega (arith, owner, total-snoc (λ u. bit u.owner) mid (lent_hand v), k.owners));
        fits = λ i u here. ⊎_elim
            (λ t. fits_set views port k.fits left-fits i u t)
            (λ t. subst (Fits fit bound) t right-fits) (at_snoc mid (lent_hand v) u i here);
        even = λ h. (
            let put = total-set_same (λ u. total h u.put) views port v (one_less v) at refl in
            let lent-put = total-snoc (λ u. total h u.put) mid (lent_hand v) in
            let took = total-set_same (λ u. total h u.took) views port v (one_less v) at refl in
            let lent-took = total-snoc (λ u. total h u.took) mid (lent_hand v) in
            omega (arith, put, lent-put, took, lent-took, k.even h));
        few = (
            let put = total-set_same (λ u. total one u.put) views port v (one_less v) at refl in
            omega (arith, put, total-snoc (λ u. total one u.put) mid (lent_hand v), k.few));
        are_fit = k.are_fit;
      },
    )

either_bit : (a b : Bool) → bit a + bit b ≤ 1 → bit (cond a true b) ≡ bit a + bit b
either_bit true true h = absurd (omega arith)
either_bit true false h = refl
either_bit false b h = omega arith

neither : (a b : Bool) → cond a true b ≡ false → (a ≡ false) × (b ≡ false)
neither true b e = absurd (let f : bit true ≡ bit false = ap bit e in omega arith)
neither false b e = (refl, e)

pub merges : (port other : ℕ) (v w : Hand) → 0 < v.rights → 0 < w.rights
    → Tasks.Merges IsBalanced port v other w (joined_hand v w) spent_hand
merges port other v w some_right some_other items views b at apart at' =
    let fit = b.0 in
    let bound = b.1 in
    let k = b.2 in
    let both : Hand = joined_hand v w in
    let mid = set views port both in
    let there : get_elem? views other ≡ some w = sym (set_else views port other both apart) ∙ at' in
    let v-fits = k.fits port v at in
    let w-fits = k.fits other w there in
    let without = total-set (λ u. bit u.owner) views port v spent_hand at in
    let the-other = le_total (λ u. bit u.owner) (set views port spent_hand) other w (set_else views port other spent_hand apart ∙ there) in
    let bits : bit v.owner + bit w.owner ≤ 1 = omega (arith, without, the-other, k.owners) in
    let both-fits : Fits fit bound both = record {
      spent = λ z. absurd (omega arith);
      theirs = λ z. (let n = neither v.owner w.owner z in λ i. v-fits.theirs n.0 i ++ w-fits.theirs n.1 i);
      same_fit = λ _. v-fits.same_fit some_right;
      same_bound = λ _. v-fits.same_bound some_right;
    } in (
      fit,
      bound,
      record {
        rights = total-joined (λ u. u.rights) views port other v w both spent_hand at at' refl refl ∙ k.rights;
        owners = total-joined (λ u. bit u.owner) views port other v w both spent_hand at at' (either_bit v.owner w.owner bits) refl ∙ k.owners;
        fits = fits_set mid other (fits_set views port k.fits both-fits) (fits_idle fit bound);
        even = λ h. (
            let put = total-joined (λ u. total h u.put) views port other v w both spent_hand at at' (total-append h v.put w.put) refl in
            let took = total-joined (λ u. total h u.took) views port other v w both spent_hand at at' (total-append h v.took w.took) refl in
            omega (arith, put, took, k.even h));
        few = omega (arith, total-joined (λ u. total one u.put) views port other v w both spent_hand at at' (total-append one v.put w.put) refl, k.few);
        are_fit = k.are_fit;
      },
    )
