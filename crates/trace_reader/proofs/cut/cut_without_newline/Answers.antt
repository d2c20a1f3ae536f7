use Rattle.std.proofs.Common.{arith, length, sym}
use Rattle.std.proofs.lemmas.Bool.{false≢true, eqb-false}
use Rattle.trace_reader.proofs.Newlines.{ends_past_limit, line_front}
use Rattle.trace_reader.proofs.cut.cut_without_newline.Goals as goal

pub returns-then-held-allowed : goal.returns-then-held-allowed
returns-then-held-allowed c =
    ends_past_limit c.args.held.now c.args.allowed (omega arith) (λ long. false≢true (c.if-is_too_long.ensures.1 long)) c.requires

pub returns-then-not-at_end : goal.returns-then-not-at_end
returns-then-not-at_end c = (
  line_front c.args.held.now c.args.allowed (omega arith) (λ long. false≢true (c.if-is_too_long.ensures.1 long)) c.requires,
  c.if-not-at_end.true,
)

pub returns-else-is_empty : goal.returns-else-is_empty
returns-else-is_empty c = (
  line_front c.args.held.now c.args.allowed (omega arith) (λ long. false≢true (c.if-is_too_long.ensures.1 long)) c.requires,
  omega (arith, eqb-false (length c.args.held.now) 0 (sym c.if-is_empty.ensures)),
  c.if-not-at_end.false,
)
