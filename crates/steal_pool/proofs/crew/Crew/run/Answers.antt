use Rattle.std.proofs.Common.{arith, ◌≡◌, List, length, vec_len, subst, sym, ◌∙◌}
use Rattle.std.specs.List.{All}
use Rattle.crossbeam_utils.specs.Padded.{padded_value}
use Rattle.steal_pool.specs.Needs.{CanRun}
use Rattle.steal_pool.specs.Rests.{IsAtRest, IsEmpty}
use Rattle.steal_pool.specs.Runs.{Workload}
use Rattle.steal_pool.proofs.ListLemmas.{take_front}
use Rattle.steal_pool.proofs.crew.Crew.run.Goals as goal

pub run_on-requires-after_bounds : goal.run_on-requires-after_bounds
run_on-requires-after_bounds g c = λ κs w. (
    let self = c.args.self.now in
    let places = self.places in
    let count : vec_len places ≡ length places.items = places.ok.0 in
    let some = self.some in
    let few = self.few in
    let jobs = c.requires.jobs in
    let jobs-count = c.args.jobs.now.ok.0 in
    let lists = c.requires.lists in
    let load : Workload _ = record { jobs = c.args.jobs.now.items; first = c.args.first.now.lists } in
    subst (λ (xs : List _). CanRun g.J.Job.meaning c.args.shared.now (record { places = xs; room = self.room; load = load })) (sym c.as_mut_slice.ensures.value)
    (record {
      some = omega arith;
      few = omega arith;
      rest = subst (λ n. All (λ p. IsAtRest n self.room (padded_value p)) places.items) count self.rest;
      jobs = omega arith;
      lists = omega arith;
      ready = c.requires.ready;
      same_fit = c.requires.same_fit;
      fit = c.requires.fit;
      room = c.requires.room;
      turns = c.requires.turns;
    }))

pub invariant_of-self-clause-some : goal.invariant_of-self-clause-some
invariant_of-self-clause-some g c = c.args.self.now.some

pub invariant_of-self-clause-few : goal.invariant_of-self-clause-few
invariant_of-self-clause-few g c = c.args.self.now.few

pub invariant_of-self-clause-rest : goal.invariant_of-self-clause-rest
invariant_of-self-clause-rest g c =
    let new = c.run_on.new.places in
    let len = c.as_mut_slice.ensures.len in
    let room = c.args.self.now.room in
    let n = vec_len c.args.self.now.places in
    subst (λ xs. All (λ p. IsAtRest n room (padded_value p)) xs) (sym (take_front n new _ (c.run_on.ensures.count ∙ len)))
    (subst (λ k. All (λ p. IsAtRest k room (padded_value p)) new) len c.run_on.ensures.rest)

pub returns-clause-empty : goal.returns-clause-empty
returns-clause-empty g c =
    let ran = c.run_on.ensures in
    subst (λ xs. All (λ p. IsEmpty (padded_value p)) xs) (sym (take_front (vec_len c.args.self.now.places) c.run_on.new.places _ (ran.count ∙ c.as_mut_slice.ensures.len)))
    (λ k d l. (ran.rest k d l).1)
