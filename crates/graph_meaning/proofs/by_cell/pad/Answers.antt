use Rattle.std.proofs.Common.{◌≡◌, ℕ, ◌-◌, ◌∷◌, [], ◌++◌, length, replicate, sym, ap, refl, ◌∙◌, arith}
use Rattle.graph_meaning.proofs.Padding.{padded-more, padded-none}
use Rattle.graph_meaning.proofs.by_cell.pad.Goals as goal

pub loop-init : goal.loop-init
loop-init g c =
    let front = c.args.front.now in
    let many : length front.items ≡ c.len-counter.result = omega (arith, front.ok.0, c.len-counter.ensures) in
    record {
      few = omega (arith, many);
      end = omega (arith, many);
      items = sym (padded-none front.items c.len-counter.result c.args.value (omega (arith, many)));
      many = sym c.len-counter.ensures;
      room = refl;
    }

pub push_reserved-requires : goal.push_reserved-requires
push_reserved-requires g c =
    let p = c.loop.invariant in
    omega (arith, p.many, p.room, c.requires.room, c.loop-test.true)

pub loop-preserved : goal.loop-preserved
loop-preserved g c =
    let p = c.loop.invariant in
    let pushed = c.push_reserved.ensures in
    record {
      few = omega (arith, p.few);
      end = omega (arith, p.end, p.few, c.loop-test.true);
      items = pushed.items ∙ ap (λ xs. xs ++ c.args.value ∷ []) p.items ∙ padded-more c.args.front.now.items c.loop.counter c.args.value p.few;
      many = omega (arith, pushed.len, p.many);
      room = pushed.capacity ∙ p.room;
    }

pub returns-clause-items : goal.returns-clause-items
returns-clause-items g c =
    let p = c.loop.invariant in
    let front = c.args.front.now in
    let same : c.loop.counter - length front.items ≡ c.args.many - length front.items = omega (arith, p.end, p.few, c.loop-test.false) in
    p.items ∙ ap (λ (k : ℕ). front.items ++ replicate k c.args.value) same
