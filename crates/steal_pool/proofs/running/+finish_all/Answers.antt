use Rattle.std.proofs.Common.{◌∷◌, slice_index_or, subst, sym}
use Rattle.crossbeam_utils.specs.Padded.{padded_with_value}
use Rattle.steal_pool.specs.Places.{MayFinish, FinishesWork}
use Rattle.steal_pool.proofs.LoanLemmas.{IsSplit, AllPlaces, EachBecomes, headed, front_is}
use Rattle.steal_pool.proofs.running.+finish_all.Goals as goal
use Rattle.steal_pool.proofs.running.+finish_all.Goals.{After-deref_mut-first}

-- the places are the first and the rest
split : (g : _) (t : _) (c : After-deref_mut-first g t) → IsSplit c.args.places.now c.split_at_mut-head.result.0.now c.split_at_mut-head.result.1.now
split g t c = record { whole = c.split_at_mut-head.ensures.value; one = c.split_at_mut-head.ensures.front_len }

-- what the first place needs, and what the rest need
may : (g : _) (t : _) (c : After-deref_mut-first g t)
    → AllPlaces (MayFinish g.J.Job.meaning c.args.shared.now) (slice_index_or c.split_at_mut-head.result.0.now 0 c.index-head-0.result ∷ c.split_at_mut-head.result.1.now)
may g t c = subst (AllPlaces (MayFinish g.J.Job.meaning c.args.shared.now)) (front_is (split g t c) c.index-head-0.result) c.requires

pub finish_place-requires-after_bounds : goal.finish_place-requires-after_bounds
finish_place-requires-after_bounds g t c = λ κs w.
    subst (λ u. MayFinish g.J.Job.meaning c.args.shared.now u) (sym c.deref_mut-first.ensures.value)
    (may g t (goal.at.finish_place-requires-after_bounds g t c).After-deref_mut-first).0

pub finish_all-requires-after_bounds : goal.finish_all-requires-after_bounds
finish_all-requires-after_bounds g t c = λ κs w. (may g t (goal.at.finish_all-requires-after_bounds g t c).After-deref_mut-first).1

pub returns-then-not-is_empty : goal.returns-then-not-is_empty
returns-then-not-is_empty g t c =
    let M = g.J.Job.meaning in
    let cut = split g t (goal.at.returns-then-not-is_empty g t c).After-deref_mut-first in
    let x = slice_index_or c.split_at_mut-head.result.0.now 0 c.index-head-0.result in
    headed (EachBecomes (FinishesWork M c.args.shared.now)) cut
    c.index-head-0.result (padded_with_value x c.finish_place.new.place) c.finish_all.new.places
    (subst (λ u. FinishesWork M c.args.shared.now u c.finish_place.new.place) c.deref_mut-first.ensures.value c.finish_place.ensures, c.finish_all.ensures)
