use Rattle.std.proofs.Common.{◌≡◌, ◌+◌, ◌-◌, ◌≤◌, true, nat_eq, All, length, sym, ◌∙◌, arith, take, drop, subst}
use Rattle.std.specs.List.{starts_with}
use Rattle.std.proofs.lemmas.List.{length-drop, take_all}
use Rattle.trace_reader.specs.Ahead.{IsReadAt, IsReadOf}
use Rattle.trace_reader.specs.Meaning.{item_of_line}
use Rattle.trace_run.proofs.Endings.{line_ends}
use Rattle.trace_run.proofs.LinesAhead.{all_stand_ahead, all_stand_behind, known, stands_here}
use Rattle.trace_run.proofs.Progress.{line_taken}
use Rattle.trace_run.proofs.running.TraceRun.take_ahead.Goals as goal

pub loop-line-init : goal.loop-line-init
loop-line-init g c =
    let lines = c.lines-line-items.result.now in
    let text = c.text-text.result.now in
    let first = c.in-Some.ahead.place in
    let fits : first ≤ length text = (let fits = c.if-first-text.false in omega (arith, fits)) in
    let rest : take (length text - first) (drop first text) ≡ drop first text = take_all (length text - first) (drop first text) (omega (arith, length-drop first text)) in
    let same : starts_with nat_eq c.args.cutter.now.pending (drop first text) ≡ true =
    subst (λ xs. starts_with nat_eq c.args.cutter.now.pending xs ≡ true) rest (rw c.behind-else-first-text.ensures at (sym c.starts_with.ensures.value ∙ c.if-not-starts_with.false)) in
    let read : All (IsReadOf text) lines = rw c.text-text.ensures c.lines-line-items.ensures.read in
    record {
      given = c.requires.given;
      few_events = c.requires.few_events;
      stand = all_stand_ahead text _ first lines fits same read;
      place = omega arith;
      progress = λ limit first start source progress. progress;
      grown = omega arith;
    }

pub take_told-requires-clause-few_lines : goal.take_told-requires-clause-few_lines
take_told-requires-clause-few_lines g c =
    (known _ _ _ _ _ c.loop-line.invariant.given c.in-Some-next_known.ensures).few

pub returns-in-Ends-clause-takes : goal.returns-in-Ends-clause-takes
returns-in-Ends-clause-takes g c = λ limit first start source progress.
    let gives = c.in-Some-next_known.ensures in
    let read : IsReadAt c.loop-line.cutter.pending c.line-item.result =
    stands_here c.loop-line.cutter.pending c.loop-line.place _ c.loop-line.line-index c.line-item.result c.loop-line.invariant.stand c.loop-line-test.true c.line-item.is
    (let low = c.if-line-place.false in let high = c.if-line-place-2.false in omega (arith, low, high)) in
    let line = take c.line-item.result.bytes c.loop-line.cutter.pending in
    line_ends g.P.Program.meaning limit first start _ _ _ _ _ _ _ _ line _ (c.loop-line.invariant.progress limit first start source progress) (gives.steps source)
    (sym gives.line) (c.in-Ends.ensures.takes (item_of_line line) read.told)

pub loop-line-preserved : goal.loop-line-preserved
loop-line-preserved g c =
    let gives = c.in-Some-next_known.ensures in
    let read : IsReadAt c.loop-line.cutter.pending c.line-item.result =
    stands_here c.loop-line.cutter.pending c.loop-line.place _ c.loop-line.line-index c.line-item.result c.loop-line.invariant.stand c.loop-line-test.true c.line-item.is
    (let low = c.if-line-place.false in let high = c.if-line-place-2.false in omega (arith, low, high)) in
    let line = take c.line-item.result.bytes c.loop-line.cutter.pending in
    let taken = c.in-GoesOn.ensures.takes (item_of_line line) read.told in
    let is = known _ _ _ _ _ c.loop-line.invariant.given gives in
    record {
      given = is.given;
      few_events = (let next = is.next in let few = c.take_told.ensures.few in let before = c.loop-line.invariant.few_events in omega (arith, next, few, before));
      stand = rw gives.pending (all_stand_behind c.loop-line.cutter.pending c.loop-line.place (c.line-item.result.bytes + 1) _ c.loop-line.invariant.stand);
      place = (let before = c.loop-line.invariant.place in omega (arith, before));
      progress = λ limit first start source progress.
          line_taken g.P.Program.meaning limit first start _ _ _ _ _ _ _ _ _ line _ (c.loop-line.invariant.progress limit first start source progress) (gives.steps source)
          (sym gives.line) taken.1 taken.2 c.take_told.ensures.later;
      grown = (let grown = is.grown in let before = c.loop-line.invariant.grown in omega (arith, grown, before));
    }

pub overflow_add-place : goal.overflow_add-place
overflow_add-place g c =
    let text = c.text-text.result.now in
    let all : All (IsReadOf text) c.lines-line-items.result.now = rw c.text-text.ensures c.lines-line-items.ensures.read in
    let read : IsReadOf text c.line-item.result = subst (IsReadOf text) (sym c.line-item.is) (all c.loop-line.line-index c.line-item.result c.loop-line-test.true) in
    let there = read.first.there in
    let low = c.if-line-place.false in
    let high = c.if-line-place-2.false in
    omega (arith, there, low, high, length-drop c.line-item.result.from text)

pub overflow_add-place-in-loop-line : goal.overflow_add-place-in-loop-line
overflow_add-place-in-loop-line g c =
    let text = c.text-text.result.now in
    let all : All (IsReadOf text) c.lines-line-items.result.now = rw c.text-text.ensures c.lines-line-items.ensures.read in
    let read : IsReadOf text c.line-item.result = subst (IsReadOf text) (sym c.line-item.is) (all c.loop-line.line-index c.line-item.result c.loop-line-test.true) in
    let there = read.first.there in
    let low = c.if-line-place.false in
    let high = c.if-line-place-2.false in
    omega (arith, there, low, high, length-drop c.line-item.result.from text)
