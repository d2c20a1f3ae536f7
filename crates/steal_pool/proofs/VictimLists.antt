-- What a steal, or none, leaves of the others.
use Rattle.std.proofs.Common.{◌≡◌, ℕ, zero, suc, ◌+◌, ◌<◌, List, [], ◌∷◌, ◌++◌, length, get_or, set, refl, ap, ◌∙◌, subst, inl, inr, ⊎_elim, arith, Option, Some, None, MatchOption}
use Rattle.steal_pool.specs.declared.task.Task.{Task}
use Rattle.crossbeam_deque.specs.Handles.{view}
use Rattle.steal_pool.specs.declared.hand.Hand.{Hand}
use Rattle.steal_pool.specs.declared.victim.Victim.{Victim}
use Rattle.heap_base.specs.Counting.{total}
use Rattle.steal_pool.specs.Steps.{Takes}
use Rattle.steal_pool.specs.Victims.{IsUntouched, StealsFrom, AreUntouched, StealsFromOne, total_took}
use Rattle.heap_base.proofs.Counting.{total-append}

pub either_way : {X : Type 0} (P P' : Type 0) (Q Q' : X → Type 0) (o : Option X) → (P → P') → ((t : X) → Q t → Q' t) → MatchOption o P Q
    → MatchOption o P' Q'
either_way P P' Q Q' None f g m = f m
either_way P P' Q Q' (Some x) f g m = g x m

pub all_untouched : (rs : List Victim) → AreUntouched rs rs
all_untouched [] = tt
all_untouched (r ∷ rs) = ((refl, refl), all_untouched rs)

twice : (r s t : Victim) → IsUntouched r s → IsUntouched s t → IsUntouched r t
twice r s t a b = (b.0 ∙ a.0, b.1 ∙ a.1)

later_stolen : (r s u : Victim) (t : Task) → IsUntouched r s → StealsFrom s t u → StealsFrom r t u
later_stolen r s u t a b = (b.0 ∙ a.0, subst (λ (v : Hand). Takes v (t ∷ []) (view u.pass)) a.1 b.1)

pub tried_none : (rs ss : List Victim) (i : ℕ) (d s : Victim) → AreUntouched rs ss → i < length ss → IsUntouched (get_or ss i d) s
    → AreUntouched rs (set ss i s)
tried_none [] [] i d s a h u = absurd (omega arith)
tried_none [] (q ∷ ss) i d s a h u = absurd a
tried_none (r ∷ rs) [] i d s a h u = absurd a
tried_none (r ∷ rs) (q ∷ ss) zero d s a h u = (twice r q s a.0 u, a.1)
tried_none (r ∷ rs) (q ∷ ss) (suc i) d s a h u = (a.0, tried_none rs ss i d s a.1 (omega arith) u)

pub tried_some : (rs ss : List Victim) (i : ℕ) (d s : Victim) (t : Task) → AreUntouched rs ss → i < length ss
    → StealsFrom (get_or ss i d) t s → StealsFromOne rs t (set ss i s)
tried_some [] [] i d s t a h u = absurd (omega arith)
tried_some [] (q ∷ ss) i d s t a h u = absurd a
tried_some (r ∷ rs) [] i d s t a h u = absurd a
tried_some (r ∷ rs) (q ∷ ss) zero d s t a h u = inl (later_stolen r q s t a.0 u, a.1)
tried_some (r ∷ rs) (q ∷ ss) (suc i) d s t a h u = inr (a.0, tried_some rs ss i d s t a.1 (omega arith) u)

pub untouched_append : (rs ss us vs : List Victim) → AreUntouched rs ss → AreUntouched us vs → AreUntouched (rs ++ us) (ss ++ vs)
untouched_append [] [] us vs a b = b
untouched_append [] (s ∷ ss) us vs a b = absurd a
untouched_append (r ∷ rs) [] us vs a b = absurd a
untouched_append (r ∷ rs) (s ∷ ss) us vs a b = (a.0, untouched_append rs ss us vs a.1 b)

pub gave_front : (rs ss us vs : List Victim) (t : Task) → StealsFromOne rs t ss → AreUntouched us vs → StealsFromOne (rs ++ us) t (ss ++ vs)
gave_front [] ss us vs t a b = absurd a
gave_front (r ∷ rs) [] us vs t a b = absurd a
gave_front (r ∷ rs) (s ∷ ss) us vs t a b = ⊎_elim (λ c. inl (c.0, untouched_append rs ss us vs c.1 b)) (λ c. inr (c.0, gave_front rs ss us vs t c.1 b)) a

pub gave_back : (rs ss us vs : List Victim) (t : Task) → AreUntouched rs ss → StealsFromOne us t vs → StealsFromOne (rs ++ us) t (ss ++ vs)
gave_back [] [] us vs t a b = b
gave_back [] (s ∷ ss) us vs t a b = absurd a
gave_back (r ∷ rs) [] us vs t a b = absurd a
gave_back (r ∷ rs) (s ∷ ss) us vs t a b = inr (a.0, gave_back rs ss us vs t a.1 b)

pub untouched_sum : (h : Task → ℕ) (rs ss : List Victim) → AreUntouched rs ss → total_took h ss ≡ total_took h rs
untouched_sum h [] [] a = refl
untouched_sum h [] (s ∷ ss) a = absurd a
untouched_sum h (r ∷ rs) [] a = absurd a
untouched_sum h (r ∷ rs) (s ∷ ss) a = let e = untouched_sum h rs ss a.1 in let f = ap (λ (v : Hand). total h v.took) a.0.1 in omega arith

-- what was taken is one task more
pub gave_sum : (h : Task → ℕ) (rs ss : List Victim) (t : Task) → StealsFromOne rs t ss → total_took h ss ≡ total_took h rs + h t
gave_sum h [] ss t a = absurd a
gave_sum h (r ∷ rs) [] t a = absurd a
gave_sum h (r ∷ rs) (s ∷ ss) t a = ⊎_elim
    (λ b. let e = untouched_sum h rs ss b.1 in let old : Hand = view r.pass in let f = ap (λ (v : Hand). total h v.took) b.0.1.hand ∙ total-append h old.took (t ∷ []) in omega arith)
    (λ b. let e = gave_sum h rs ss t b.1 in let f = ap (λ (v : Hand). total h v.took) b.0.1 in omega arith) a
