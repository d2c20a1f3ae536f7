use Rattle.std.proofs.Common.{◌≡◌, ◌+◌, ◌<◌, Some, None, Bool, cond, ap, sym, subst, ◌∙◌, arith, length, take, length-drop}
use Rattle.std.proofs.lemmas.Bool.{eqb-true, eqb-false}
use Rattle.trace_reader.specs.Items.{pieces}
use Rattle.heap_snapshot.specs.Bounds.{IsBounded}
use Rattle.heap_snapshot.specs.Lines.{line_in}
use Rattle.heap_snapshot.specs.Table.{take_said}
use Rattle.heap_snapshot.specs.Reading.{meaning_from}
use Rattle.heap_snapshot.proofs.Bounded.{bounded_nothing, bounded_said, ended_few, ended_rising}
use Rattle.heap_snapshot.proofs.Meanings.{line_breaks, line_taken, bytes_left, not_ended, is_whole_text}
use Rattle.heap_snapshot.proofs.read.take_lines.Goals as goal
use Rattle.heap_snapshot.proofs.read.take_lines.Goals.{then-not-is_empty-via-then-not-is_empty, then-not-is_empty-via-else-not-is_empty+then-not-is_ended}

pub loop-n-init : goal.loop-n-init
loop-n-init c = record {
  meaning = ap (λ r. meaning_from 0 r (pieces c.args.bytes.now)) c.requires.nothing;
  bounded = subst IsBounded (sym c.requires.nothing) bounded_nothing;
  count = omega arith;
}

pub loop-n-preserved : goal.loop-n-preserved
loop-n-preserved c =
    let taken : Some c.take.new.self ≡ take_said c.loop-n.assembly (line_in (take c.in-Some.n c.loop-n.rest.now)) =
    subst (λ (b : Bool). cond b (Some c.take.new.self) None ≡ take_said c.loop-n.assembly (line_in (take c.in-Some.n c.loop-n.rest.now))) c.if-not-branch.false c.in_ok-take.ensures in
    let later = line_taken c.args.bytes.now c.loop-n.lines c.loop-n.assembly c.loop-n.rest.now c.loop-n.invariant.meaning c.in-Some.n c.take.new.self c.in-Some.ensures taken in
    record {
      meaning = ap (λ t. meaning_from (c.loop-n.lines + 1) c.take.new.self (pieces t)) c.behind-rest.ensures ∙ later;
      bounded = bounded_said c.loop-n.assembly (line_in (take c.in-Some.n c.loop-n.rest.now)) c.take.new.self taken c.loop-n.invariant.bounded;
      count = let there : c.in-Some.n < length c.loop-n.rest.now = c.in-Some.ensures.there in omega (arith, ap length c.behind-rest.ensures, length-drop (c.in-Some.n + 1) c.loop-n.rest.now);
    }

pub returns-then-not-branch-clause-fails : goal.returns-then-not-branch-clause-fails
returns-then-not-branch-clause-fails c =
    line_breaks c.args.bytes.now c.loop-n.lines c.loop-n.assembly c.loop-n.rest.now c.loop-n.invariant.meaning c.in-Some.n c.in-Some.ensures
    (subst (λ (b : Bool). cond b (Some c.take.new.self) None ≡ take_said c.loop-n.assembly (line_in (take c.in-Some.n c.loop-n.rest.now))) c.if-not-branch.true c.in_ok-take.ensures)

pub returns-then-not-is_empty-clause-fails : goal.returns-then-not-is_empty-clause-fails
returns-then-not-is_empty-clause-fails c =
    elim c.then-not-is_empty.branch [
      | then-not-is_empty-via-then-not-is_empty w ↦
          let some : length c.loop-n.rest.now ≡ 0 → ⊥ = eqb-false (length c.loop-n.rest.now) 0 (sym c.is_empty.ensures ∙ w.if-not-is_empty.true) in
          bytes_left c.args.bytes.now c.loop-n.lines c.loop-n.assembly c.loop-n.rest.now c.loop-n.invariant.meaning c.in_default.ensures (omega (arith, some))
      | then-not-is_empty-via-else-not-is_empty+then-not-is_ended w ↦
          let none : length c.loop-n.rest.now ≡ 0 = eqb-true (length c.loop-n.rest.now) 0 (sym c.is_empty.ensures ∙ w.if-not-is_empty.false) in
          not_ended c.args.bytes.now c.loop-n.lines c.loop-n.assembly c.loop-n.rest.now c.loop-n.invariant.meaning none (sym w.is_ended.ensures ∙ w.if-not-is_ended.true)
    ]

pub returns-clause-meaning : goal.returns-clause-meaning
returns-clause-meaning c =
    let none : length c.loop-n.rest.now ≡ 0 = eqb-true (length c.loop-n.rest.now) 0 (sym c.is_empty.ensures ∙ c.if-not-is_empty.false) in
    is_whole_text c.args.bytes.now c.loop-n.lines c.loop-n.assembly c.loop-n.rest.now c.loop-n.invariant.meaning none (sym c.is_ended.ensures ∙ c.if-not-is_ended.false)

pub returns-clause-few : goal.returns-clause-few
returns-clause-few c = ended_few c.loop-n.assembly (sym c.is_ended.ensures ∙ c.if-not-is_ended.false) c.loop-n.invariant.bounded

pub returns-clause-rising : goal.returns-clause-rising
returns-clause-rising c = ended_rising c.loop-n.assembly (sym c.is_ended.ensures ∙ c.if-not-is_ended.false) c.loop-n.invariant.bounded

pub loop-n-smaller : goal.loop-n-smaller
loop-n-smaller c =
    let there : c.in-Some.n < length c.loop-n.rest.now = c.in-Some.ensures.there in omega (arith, ap length c.behind-rest.ensures, length-drop (c.in-Some.n + 1) c.loop-n.rest.now)

pub overflow_add-lines : goal.overflow_add-lines
overflow_add-lines c = omega (arith, c.loop-n.invariant.count, c.requires.few)

pub overflow_add-result : goal.overflow_add-result
overflow_add-result c = omega (arith, c.loop-n.invariant.count, c.requires.few)
