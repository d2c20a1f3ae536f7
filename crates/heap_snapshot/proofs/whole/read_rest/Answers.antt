use Rattle.std.proofs.Common.{arith}
use Rattle.heap_snapshot.proofs.Pieces.{begins, goes_on, ends}
use Rattle.heap_snapshot.proofs.whole.read_rest.Goals as goal

pub loop-source-init : goal.loop-source-init
loop-source-init g c = record {
  consumed = begins (g.S.Source.left c.args.source.now) c.args.text.now.items c.requires.empty;
  later = omega arith;
}

pub loop-source-preserved : goal.loop-source-preserved
loop-source-preserved g c = record {
  consumed = goes_on (g.S.Source.left c.args.source.now) c.in-Ok.ensures.read.1 c.loop-source.invariant.consumed;
  later = let before = c.loop-source.invariant.later in let now = c.read_piece.ensures.later in omega (arith, before, now);
}

pub returns-in-Ok-eq0-clause-read : goal.returns-in-Ok-eq0-clause-read
returns-in-Ok-eq0-clause-read g c =
    ends (g.S.Source.left c.args.source.now) c.in-Ok-eq0.ensures.read.1 c.loop-source.invariant.consumed c.in-Ok-eq0.field-0-test
