use Rattle.std.proofs.Common.{◌≡◌, ℕ, ◌+◌, List, [], ◌∷◌, arith, slice_index_or, subst, sym, ap, length, drop}
use Rattle.steal_pool.specs.declared.task.Task.{Task}
use Rattle.crossbeam_utils.specs.Padded.{padded_value, padded_with_value}
use Rattle.steal_pool.specs.Lists.{Each}
use Rattle.steal_pool.specs.Seats.{opening, CanBegin, Begins}
use Rattle.steal_pool.proofs.LoanLemmas.{IsSplit, headed, front_is, drop_at}
use Rattle.steal_pool.proofs.seating.+begin_all.Goals as goal
use Rattle.steal_pool.proofs.seating.+begin_all.Goals.{After-deref_mut-place}

-- the places are the first and the rest
split : (g : _) (t : _) (c : After-deref_mut-place g t) → IsSplit c.args.places.now c.split_at_mut-head.result.0.now c.split_at_mut-head.result.1.now
split g t c = record { whole = c.split_at_mut-head.ensures.value; one = c.split_at_mut-head.ensures.front_len }

module _ {X : Type 0} {old head rest : List X} (split : IsSplit old head rest) (d : X) (number : ℕ) (fs : List (List Task)) where
  -- the list of the first place, and those of the rest
  lists_are : number + length old ≡ length fs → drop number fs ≡ slice_index_or fs number [] ∷ drop (number + 1) fs
  lists_are lists =
      let count = ap length (front_is split d) in
      drop_at number fs [] (omega (arith, count, lists))

  -- what holds of each place and its list holds of the first and of the rest
  each_split : (R : X → List Task → X → Type 0) → number + length old ≡ length fs → Each R old (drop number fs) old
      → Each R (slice_index_or head 0 d ∷ rest) (slice_index_or fs number [] ∷ drop (number + 1) fs) (slice_index_or head 0 d ∷ rest)
  each_split R lists each =
      let x = slice_index_or head 0 d in
      subst (λ gs. Each R (x ∷ rest) gs (x ∷ rest)) (lists_are lists) (subst (λ xs. Each R xs (drop number fs) xs) (front_is split d) each)

pub begin_place-requires-after_bounds : goal.begin_place-requires-after_bounds
begin_place-requires-after_bounds g t c = λ κs w. (
    let M = g.J.Job.meaning in
    let cut = split g t (goal.at.begin_place-requires-after_bounds g t c).After-deref_mut-place in
    let x = slice_index_or c.split_at_mut-head.result.0.now 0 c.index-head-0.result in
    let can =
    each_split cut c.index-head-0.result c.args.number c.args.first.now.lists (λ p f _. CanBegin M c.args.shared.now (opening (padded_value p) f))
    c.requires.lists c.requires.can in
    subst (λ u. CanBegin M c.args.shared.now (opening u c.of.result.now)) (sym c.deref_mut-place.ensures.value)
    (subst (λ f. CanBegin M c.args.shared.now (opening (padded_value x) f)) (sym c.of.ensures) can.0))

pub begin_all-requires-clause-can : goal.begin_all-requires-clause-can
begin_all-requires-clause-can g t c = λ κs w. (
    let M = g.J.Job.meaning in
    let cut = split g t (goal.at.begin_all-requires-clause-can g t c).After-deref_mut-place in
    (each_split cut c.index-head-0.result c.args.number c.args.first.now.lists (λ p f _. CanBegin M c.args.shared.now (opening (padded_value p) f))
    c.requires.lists c.requires.can).1)

pub returns-then-not-is_empty : goal.returns-then-not-is_empty
returns-then-not-is_empty g t c =
    let M = g.J.Job.meaning in
    let cut = split g t (goal.at.returns-then-not-is_empty g t c).After-deref_mut-place in
    let rest = c.split_at_mut-head.result.1.now in
    let x = slice_index_or c.split_at_mut-head.result.0.now 0 c.index-head-0.result in
    let fs = c.args.first.now.lists in
    let d = lists_are cut c.index-head-0.result c.args.number fs c.requires.lists in
    let first = padded_with_value x c.begin_place.new.place in
    let begins = subst (λ f. Begins M c.args.shared.now (opening c.deref_mut-place.result.now f) c.begin_place.new.place) c.of.ensures c.begin_place.ensures in
    headed (λ xs ys. Each (λ p f q. Begins M c.args.shared.now (opening (padded_value p) f) (padded_value q)) xs (drop c.args.number fs) ys) cut
    c.index-head-0.result first c.begin_all.new.places
    (subst
    (λ gs. Each (λ p f q. Begins M c.args.shared.now (opening (padded_value p) f) (padded_value q)) (x ∷ rest) gs (first ∷ c.begin_all.new.places))
    (sym d) (
      subst (λ u. Begins M c.args.shared.now (opening u (slice_index_or fs c.args.number [])) c.begin_place.new.place) c.deref_mut-place.ensures.value begins,
      c.begin_all.ensures,
    ))

pub begin_all-requires-clause-lists : goal.begin_all-requires-clause-lists
begin_all-requires-clause-lists g t c =
    let o = ap length (front_is (split g t (goal.at.begin_all-requires-clause-lists g t c).After-deref_mut-place) c.index-head-0.result) in
    let lists = c.requires.lists in
    omega arith

pub of-requires : goal.of-requires
of-requires g t c =
    let o = ap length (front_is (split g t (goal.at.of-requires g t c).After-deref_mut-place) c.index-head-0.result) in
    let lists = c.requires.lists in
    omega arith
