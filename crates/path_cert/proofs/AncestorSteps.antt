-- The ancestors of long paths.
use Rattle.std.proofs.Common.{◌≡◌, ℕ, suc, ◌-◌, ◌<◌, ⊎_elim, List, length, set, sym, ap, subst, ◌∙◌, arith, Option, None, Some}
use Rattle.std.proofs.lemmas.Bool.{cases_eq}
use Rattle.std.proofs.lemmas.Grind.{get_or-set_at}
use Rattle.std.proofs.lemmas.List.{get_or-set_other}
use Rattle.path_cert.specs.declared.arrival.Arrival.{Arrival}
use Rattle.path_cert.specs.declared.ancestors.TheConstants.{ANCESTOR_LEVEL}
use Rattle.path_cert.specs.Levels.{arrival_in, AtLevel, ArrivesFirst, ArrivesNext}
use Rattle.path_cert.specs.Ancestors.{back, AncestorOf, AreAncestors}
use Rattle.path_cert.proofs.Walking.{level-before}

-- where no ancestor is known
pub ancestor-none : (arrivals : List Arrival) (cell : ℕ) (ancestor : Option ℕ) → ancestor ≡ None → AncestorOf arrivals cell ancestor
ancestor-none arrivals cell ancestor none p s start id g levels held is = absurd (let e : None ≡ Some g = sym none ∙ is in cc)

-- an object of the level of ancestors is its own ancestor
pub ancestor-here : (arrivals : List Arrival) (cell : ℕ) (ancestor : Option ℕ) → (arrival_in arrivals cell).level ≡ ANCESTOR_LEVEL → ancestor ≡ Some cell → AncestorOf arrivals cell ancestor
ancestor-here arrivals cell ancestor at here p s start id g levels held is =
    let same : Some cell ≡ Some g = sym here ∙ is in
    let g_is : g ≡ cell = cc in
    let none : (arrival_in arrivals cell).level - ANCESTOR_LEVEL ≡ 0 = omega arith in
    record {
      above = omega arith;
      is = g_is ∙ sym (ap (λ n. back arrivals n cell) none);
    }

-- an object beyond it has the ancestor of the object before it on its path
pub ancestor-next : (arrivals : List Arrival) (cell : ℕ) (ancestor : Option ℕ) → ANCESTOR_LEVEL < (arrival_in arrivals cell).level →
    AncestorOf arrivals (arrival_in arrivals cell).from ancestor → AncestorOf arrivals cell ancestor
ancestor-next arrivals cell ancestor beyond before p s start id g levels held is =
    let a = arrival_in arrivals cell in
    let two : (arrival_in arrivals cell).level ≡ suc (suc ((arrival_in arrivals cell).level - 2)) = omega arith in
    let arrives = subst (λ k. AtLevel k (ArrivesFirst p s a id) (ArrivesNext (record { placed = p; search = s }) a id)) two (levels.arrives cell id held) in
    let level = level-before p s (record { start = start; arrivals = arrivals }) levels (a.level - 2) id arrives.before a.from arrives.least arrives.held in
    let known = before p s start arrives.before g levels arrives.held is in
    let above = known.above in
    let one : (arrival_in arrivals cell).level - ANCESTOR_LEVEL ≡ suc ((arrival_in arrivals (arrival_in arrivals cell).from).level - ANCESTOR_LEVEL) = omega arith in
    record {
      above = omega arith;
      is = known.is ∙ sym (ap (λ n. back arrivals n cell) one);
    }

-- one ancestor more
pub ancestors-set : (arrivals : List Arrival) (ancestors : List (Option ℕ)) (cell : ℕ) (ancestor : Option ℕ) → cell < length ancestors →
    AreAncestors arrivals ancestors → AncestorOf arrivals cell ancestor → AreAncestors arrivals (set ancestors cell ancestor)
ancestors-set arrivals ancestors cell ancestor within are one x = ⊎_elim
    (λ (same : x ≡ cell). subst (AncestorOf arrivals x) (sym (get_or-set_at ancestors cell x ancestor None same within)) (subst (λ y. AncestorOf arrivals y ancestor) (sym same) one))
    (λ other. subst (AncestorOf arrivals x) (sym (get_or-set_other ancestors cell x ancestor None other)) (are x))
    (cases_eq x cell)
