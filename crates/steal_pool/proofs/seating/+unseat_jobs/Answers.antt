use Rattle.std.proofs.Common.{rules, arith, ◌++◌, [], ◌∷◌, length, slice_index_or, subst, sym, ◌∙◌, ap, append_assoc, is_some}
use Rattle.std.proofs.lemmas.Bool.{false≢true}
use Rattle.std.specs.List.{AllByRecursion}
use Rattle.crossbeam_utils.specs.Padded.{padded_value, padded_with_value}
use Rattle.steal_pool.specs.Lists.{Each}
use Rattle.steal_pool.specs.Seats.{GivesJob, HasSomeJob}
use Rattle.steal_pool.proofs.LoanLemmas.{IsSplit, front_is, headed}
use Rattle.steal_pool.proofs.seating.+unseat_jobs.Goals as goal

pub returns-in-Some : goal.returns-in-Some
returns-in-Some g t c =
    let s = c.split_at_mut-head in
    let split : IsSplit c.args.places.now s.result.0.now s.result.1.now = record { whole = s.ensures.value; one = s.ensures.front_len } in
    let x = slice_index_or s.result.0.now 0 c.index-head-0.result in
    let b = c.unseat_jobs.ensures in
    let job = c.in-Some.job in
    let first = padded_with_value x (record c.deref_mut-first.result.now { job = c.take.new.self }) in
    let had = ap (λ u. u.job) (sym c.deref_mut-first.ensures.value) ∙ (sym c.take.ensures.value ∙ c.in-Some.is) in
    let gave : GivesJob (padded_value x) job (padded_value first) =
    (had, (λ i. record (c.deref_mut-first.ensures.value i) { job = c.take.ensures.after i })) in (
      job ∷ b.0,
      b.1 ∙ (ap (λ xs. xs ++ b.0) c.push_reserved.ensures.items ∙ append_assoc c.args.jobs.now.items (job ∷ []) b.0),
      headed (λ xs ys. Each (λ p j q. GivesJob (padded_value p) j (padded_value q)) xs (job ∷ b.0) ys) split c.index-head-0.result first
          c.unseat_jobs.new.places (gave, b.2),
    )

pub unreachable-requires : goal.unreachable-requires
unreachable-requires g t c =
    let s = c.split_at_mut-head in
    let split : IsSplit c.args.places.now s.result.0.now s.result.1.now = record { whole = s.ensures.value; one = s.ensures.front_len } in
    let some = (subst (AllByRecursion HasSomeJob) (front_is split c.index-head-0.result) c.requires.jobs).0 in
    let none = sym c.in_default.is ∙ (c.take.ensures.value ∙ ap (λ u. u.job) c.deref_mut-first.ensures.value) in
    false≢true (ap is_some none ∙ some)

pub push_reserved-requires : goal.push_reserved-requires
push_reserved-requires g t c =
    let s = c.split_at_mut-head in
    let split : IsSplit c.args.places.now s.result.0.now s.result.1.now = record { whole = s.ensures.value; one = s.ensures.front_len } in
    let o = ap length (front_is split c.index-head-0.result) in
    let space = c.requires.space in
    omega arith

pub unseat_jobs-requires : goal.unseat_jobs-requires
unseat_jobs-requires g t c κs within =
    let s = c.split_at_mut-head in
    let split : IsSplit c.args.places.now s.result.0.now s.result.1.now = record { whole = s.ensures.value; one = s.ensures.front_len } in
    let e = front_is split c.index-head-0.result in
    let o = ap length e in
    let space = c.requires.space in
    let len = c.push_reserved.ensures.len in
    let capacity = c.push_reserved.ensures.capacity in
    (search (rules, o), (search rules, ((subst (AllByRecursion HasSomeJob) e c.requires.jobs).1, omega arith)))
