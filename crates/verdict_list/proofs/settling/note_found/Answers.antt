use Rattle.std.proofs.Common.{◌<◌, length, ◌||◌, ◌&&◌, get_or, ap, ◌∙◌, arith}
use Rattle.std.proofs.lemmas.List.{length-set, take_all}
use Rattle.graph_meaning.specs.Reach.{has_id}
use Rattle.verdict_list.specs.Settling.{flag_of}
use Rattle.verdict_list.proofs.Pairs.{noted-one, noted-none}
use Rattle.verdict_list.proofs.settling.note_found.Goals as goal
use Rattle.verdict_list.proofs.settling.note_found.Goals.{then-answers-place, else-answers-place}

pub loop-place-preserved : goal.loop-place-preserved
loop-place-preserved c =
    let old = c.args.found.now in
    let flags = c.loop-place.found in
    let i = c.loop-place.place in
    let y = get_or c.args.ownees.now i 0 in
    let was = c.loop-place.invariant in
    let room : get_or c.args.ownees.now c.loop-place.place 0 < length c.loop-place.found = (let within = c.requires.ownees c.loop-place.place 0 c.loop-place-test.true in omega (arith, within)) in
    elim c.if-answers-place.branch [
      | then-answers-place w ↦
          rw w.found-is (record {
            each = length-set flags y _ ∙ was.each;
            found = λ test same x. noted-one test c.args.answers.now c.args.ownees.now i c.loop-place-test.true same old flags x (was.found test same x) room w.if-answers-place.true;
          })
      | else-answers-place w ↦
          rw w.found-is (record {
            each = was.each;
            found = λ test same x. noted-none test c.args.answers.now c.args.ownees.now i c.loop-place-test.true same old flags x (was.found test same x) w.if-answers-place.false;
          })
    ]

pub returns-clause-found : goal.returns-clause-found
returns-clause-found c =
    let all = take_all c.loop-place.place c.args.ownees.now (omega arith) in
    λ test same x. c.loop-place.invariant.found test same x ∙ ap (λ xs. flag_of c.args.found.now x || (has_id xs x && test x)) all
