-- Which steps of a path are shown.
use Rattle.std.proofs.Common.{◌≡◌, ℕ, suc, ◌+◌, ◌-◌, ◌*◌, ◌<◌, ◌≤◌, max, Bool, true, false, ◌||◌, cond, ⊎_elim, List, [], ◌∷◌, ◌++◌, length, take}
use Rattle.std.proofs.Common.{drop, Option, None, Some, sym, refl, ap, ◌∙◌, arith, reverse, length-append, length-take, length-drop}
use Rattle.std.proofs.Math.Nat.{le-max_left, le-max_right, max-le}
use Rattle.std.proofs.Math.Seq.{take-nil, drop-nil}
use Rattle.std.proofs.lemmas.Bool.{cases_lt, lt-ltb, le-ltb, lt-leb, le-leb, or_left, or_right}
use Rattle.heap_base.specs.declared.limits.TheConstants.{END_STEPS}
use Rattle.std.proofs.lemmas.List.{reverse-append, reverse-reverse, length-reverse}
use Rattle.std.specs.Option.{IfSome}
use Rattle.graph_meaning.specs.declared.paths.PathFrom.{PathFrom}
use Rattle.graph_meaning.specs.declared.paths.PathStep.{PathStep}
use Rattle.graph_meaning.specs.Heap.{Table}
use Rattle.graph_meaning.specs.Paths.{Way, root_way, view_of}
use Rattle.path_cert.specs.declared.trail.Trail.{Trail}
use Rattle.path_cert.specs.Steps.{is_shown, shown_from}
use Rattle.path_cert.specs.Trails.{HasShown}

-- one element more, where the test passes
abbrev pub with_first : Bool → PathStep → List PathStep → List PathStep
with_first b s steps = cond b (s ∷ steps) steps

or_false : (a b : Bool) → a ≡ false → b ≡ false → (a || b) ≡ false
or_false a b x y = ap (λ c. c || b) x ∙ y

-- from where on the last steps are shown
abbrev tail_at : ℕ → ℕ
tail_at n = max END_STEPS (n - END_STEPS)

pub view_of-shown : (w : Way) → view_of w ≡ record { from = w.from; steps = shown_from (length w.steps) 0 w.steps; left_out = length w.steps - 2 * END_STEPS }
unfolding view_of shown_from
view_of-shown w =
    let here : tail_at (length w.steps) - 0 ≡ tail_at (length w.steps) = omega arith in
    ap (λ (k : ℕ). record { from = w.from; steps = take END_STEPS w.steps ++ drop k w.steps; left_out = length w.steps - 2 * END_STEPS }) (sym here)

pub shown_from-nil : (n i : ℕ) → shown_from n i [] ≡ []
unfolding shown_from
shown_from-nil n i = ap (λ xs. xs ++ drop (tail_at n - i) []) (take-nil (END_STEPS - i)) ∙ drop-nil (tail_at n - i)

pub shown_from-cons : (n i : ℕ) (s : PathStep) (steps : List PathStep) → shown_from n i (s ∷ steps) ≡ with_first (is_shown n i) s (shown_from n (i + 1) steps)
unfolding shown_from
shown_from-cons n i s steps =
    ⊎_elim early (λ late. ⊎_elim (between late) (at_end late) (cases_lt i (tail_at n))) (cases_lt i END_STEPS)
  where
    early : i < END_STEPS → shown_from n i (s ∷ steps) ≡ with_first (is_shown n i) s (shown_from n (i + 1) steps)
    early less =
        let far = le-max_left END_STEPS (n - END_STEPS) in
        let a : END_STEPS - i ≡ suc (END_STEPS - (i + 1)) = omega arith in
        let b : tail_at n - i ≡ suc (tail_at n - (i + 1)) = omega arith in
        (λ x. take (a x) (s ∷ steps) ++ drop (b x) (s ∷ steps)) ∙ sym (ap (λ b. with_first b s (shown_from n (i + 1) steps)) (or_left _ _ (lt-ltb i END_STEPS less)))

    between : END_STEPS ≤ i → i < tail_at n → shown_from n i (s ∷ steps) ≡ with_first (is_shown n i) s (shown_from n (i + 1) steps)
    between late less =
        let a : END_STEPS - i ≡ 0 = omega arith in
        let a' : END_STEPS - (i + 1) ≡ 0 = omega arith in
        let b : tail_at n - i ≡ suc (tail_at n - (i + 1)) = omega arith in
        let before : i < n - END_STEPS = ⊎_elim (λ l. l) (λ few. let few_all : tail_at n ≤ i = max-le late few in absurd (omega arith)) (cases_lt i (n - END_STEPS)) in
        (λ x. take (a x) (s ∷ steps) ++ drop (b x) (s ∷ steps))
        ∙ sym (λ x. take (a' x) steps ++ drop (tail_at n - (i + 1)) steps)
        ∙ sym (ap (λ b. with_first b s (shown_from n (i + 1) steps)) (or_false _ _ (le-ltb i END_STEPS late) (lt-leb (n - END_STEPS) i before)))

    at_end : END_STEPS ≤ i → tail_at n ≤ i → shown_from n i (s ∷ steps) ≡ with_first (is_shown n i) s (shown_from n (i + 1) steps)
    at_end late after =
        let far = le-max_right END_STEPS (n - END_STEPS) in
        let a : END_STEPS - i ≡ 0 = omega arith in
        let a' : END_STEPS - (i + 1) ≡ 0 = omega arith in
        let b : tail_at n - i ≡ 0 = omega arith in
        let b' : tail_at n - (i + 1) ≡ 0 = omega arith in
        (λ x. take (a x) (s ∷ steps) ++ drop (b x) (s ∷ steps))
        ∙ sym (λ x. s ∷ (take (a' x) steps ++ drop (b' x) steps))
        ∙ sym (ap (λ b. with_first b s (shown_from n (i + 1) steps)) (or_right _ _ (le-leb (n - END_STEPS) i (omega arith))))

pub length-shown_from : (n i : ℕ) (steps : List PathStep) → i + length steps ≤ n → length (shown_from n i steps) ≤ 2 * END_STEPS
unfolding shown_from
length-shown_from n i steps within =
    let a = length-append (take (END_STEPS - i) steps) (drop (tail_at n - i) steps) in
    let b = length-take (END_STEPS - i) steps in
    let c = length-drop (tail_at n - i) steps in
    let near = le-max_left END_STEPS (n - END_STEPS) in
    let far = le-max_right END_STEPS (n - END_STEPS) in
    omega arith

-- all of a path of at most one step is shown
pub view_of-none : (w : Way) → w.steps ≡ [] → view_of w ≡ record { from = w.from; steps = []; left_out = 0 }
view_of-none w none =
    view_of-shown w
    ∙ ap (λ (xs : List PathStep). record { from = w.from; steps = shown_from (length xs) 0 xs; left_out = length xs - 2 * END_STEPS }) none
    ∙ ap (λ (xs : List PathStep). record { from = w.from; steps = xs; left_out = 0 }) (shown_from-nil 0 0)

pub view_of-one : (w : Way) (s : PathStep) → w.steps ≡ s ∷ [] → view_of w ≡ record { from = w.from; steps = s ∷ []; left_out = 0 }
view_of-one w s one =
    view_of-shown w
    ∙ ap (λ (xs : List PathStep). record { from = w.from; steps = shown_from (length xs) 0 xs; left_out = length xs - 2 * END_STEPS }) one
    ∙ ap (λ (xs : List PathStep). record { from = w.from; steps = xs; left_out = 0 }) (shown_from-cons 1 0 s [] ∙ ap (λ xs. s ∷ xs) (shown_from-nil 1 (0 + 1)))

-- the path of a root alone
pub root_shown : (t : Table) (root : Option (List ℕ × ℕ)) (from : PathFrom) → IfSome root (λ r. from ≡ (root_way t r).from) →
    IfSome root (λ r. record { from = from; steps = []; left_out = 0 } ≡ view_of (root_way t r))
root_shown t None from is = is
root_shown t (Some r) from is =
    ap (λ (f : PathFrom). record { from = f; steps = []; left_out = 0 }) is ∙ sym (view_of-none (root_way t r) refl)

-- ---- the way back

-- no step was taken yet
pub HasShown-none : (t : Trail) → t.shown.items ≡ [] → HasShown t t.total []
HasShown-none t none = record {
  total = omega arith;
  shown = none ∙ sym (ap reverse (shown_from-nil t.total t.total));
}

-- one step more
pub HasShown-more : (t u : Trail) (number : ℕ) (s : PathStep) (after : List PathStep) → u.total ≡ t.total →
    u.shown.items ≡ cond (is_shown t.total number) (t.shown.items ++ s ∷ []) t.shown.items → HasShown t (number + 1) after →
    HasShown u number (s ∷ after)
HasShown-more t u number s after same kept has = record {
  total = (let all = has.total in omega arith);
  shown =
      kept
      ∙ ap (λ (xs : List PathStep). cond (is_shown t.total number) (xs ++ s ∷ []) xs) has.shown
      ∙ go (is_shown t.total number)
      ∙ sym (ap reverse (shown_from-cons t.total number s after))
      ∙ ap (λ n. reverse (shown_from n number (s ∷ after))) (sym same);
}
  where
    go : (b : Bool) →
        cond b (reverse (shown_from t.total (number + 1) after) ++ s ∷ []) (reverse (shown_from t.total (number + 1) after)) ≡ reverse (with_first b s (shown_from t.total (number + 1) after))
    go true = sym (reverse-append (s ∷ []) (shown_from t.total (number + 1) after))
    go false = refl

-- what is kept is few
pub HasShown-few : (t : Trail) (number : ℕ) (after : List PathStep) → HasShown t number after → length t.shown.items ≤ 2 * END_STEPS
HasShown-few t number after has =
    let all = has.total in
    let few = length-shown_from t.total number after (omega arith) in
    let kept = ap length has.shown in
    let turned = length-reverse (shown_from t.total number after) in
    omega arith

-- turned round it is what is shown of the path
pub HasShown-view : (t : Trail) (w : Way) (from : PathFrom) (steps : List PathStep) (left_out : ℕ) → w.from ≡ from →
    steps ≡ reverse t.shown.items → left_out ≡ t.total - 2 * END_STEPS → HasShown t 0 w.steps →
    record { from = from; steps = steps; left_out = left_out } ≡ view_of w
HasShown-view t w from steps left_out start turned left has =
    let all : t.total ≡ length w.steps = let total = has.total in omega arith in
    let shown = turned ∙ ap reverse has.shown ∙ reverse-reverse (shown_from t.total 0 w.steps) ∙ ap (λ n. shown_from n 0 w.steps) all in
    let rest = left ∙ ap (λ n. n - 2 * END_STEPS) all in
    (λ i. record { from = sym start i; steps = shown i; left_out = rest i }) ∙ sym (view_of-shown w)
