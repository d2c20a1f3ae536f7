use Rattle.std.proofs.Common.{rules, arith, ◌++◌, [], ◌∷◌, length, slice_index_or, ◌∙◌, ap, append_assoc, Some}
use Rattle.crossbeam_utils.specs.Padded.{padded_value, padded_with_value}
use Rattle.steal_pool.specs.Lists.{Each}
use Rattle.steal_pool.specs.Seats.{TakesJob}
use Rattle.steal_pool.proofs.LoanLemmas.{IsSplit, front_is, headed}
use Rattle.steal_pool.proofs.seating.+seat_jobs.Goals as goal

pub returns-in-Some-clause-moved : goal.returns-in-Some-clause-moved
returns-in-Some-clause-moved g t c =
    let s = c.split_at_mut-head in
    let split : IsSplit c.args.places.now s.result.0.now s.result.1.now = record { whole = s.ensures.value; one = s.ensures.front_len } in
    let x = slice_index_or s.result.0.now 0 c.index-head-0.result in
    let b = c.seat_jobs.ensures.moved in
    let job = c.in-Some.job in
    let first = padded_with_value x (record c.deref_mut-first.result.now { job = Some job }) in
    let took : TakesJob (padded_value x) job (padded_value first) = λ i. record (c.deref_mut-first.ensures.value i) { job = Some job } in (
      job ∷ b.0,
      b.1 ∙ (ap (λ xs. xs ++ b.0) c.in-Some.ensures.items ∙ append_assoc c.pop.new.self.items (job ∷ []) b.0),
      headed (λ xs ys. Each (λ p j q. TakesJob (padded_value p) j (padded_value q)) xs (job ∷ b.0) ys) split c.index-head-0.result first
          c.seat_jobs.new.places (took, b.2),
    )

pub seat_jobs-requires : goal.seat_jobs-requires
seat_jobs-requires g t c κs within =
    let s = c.split_at_mut-head in
    let split : IsSplit c.args.places.now s.result.0.now s.result.1.now = record { whole = s.ensures.value; one = s.ensures.front_len } in
    let o = ap length (front_is split c.index-head-0.result) in
    let enough = c.requires in
    (search (rules, o), (search rules, omega arith))

pub unreachable-requires : goal.unreachable-requires
unreachable-requires g t c =
    let s = c.split_at_mut-head in
    let split : IsSplit c.args.places.now s.result.0.now s.result.1.now = record { whole = s.ensures.value; one = s.ensures.front_len } in
    let o = ap length (front_is split c.index-head-0.result) in
    let enough = c.requires in
    let left = c.seat_jobs.ensures.count in
    let none = c.in_default.ensures.cases.0 in
    omega arith

pub returns-in-Some-clause-count : goal.returns-in-Some-clause-count
returns-in-Some-clause-count g t c =
    let s = c.split_at_mut-head in
    let split : IsSplit c.args.places.now s.result.0.now s.result.1.now = record { whole = s.ensures.value; one = s.ensures.front_len } in
    let o = ap length (front_is split c.index-head-0.result) in
    let left = c.seat_jobs.ensures.count in
    let one = c.in-Some.ensures.len in
    omega arith
