use Rattle.std.proofs.Common.{[], ◌∷◌, ◌++◌, length, get_or, sym, ap, ◌∙◌, arith}
use Rattle.std.proofs.lemmas.List.{length-take-le, take_more, take_all}
use Rattle.graph_meaning.proofs.by_cell.copy_with_room.Goals as goal

pub loop-value-init : goal.loop-value-init
loop-value-init g c = record { items = c.in_ok-copied.ensures.items; room = omega (arith, c.capacity.ensures, c.in_ok-copied.ensures.capacity) }

pub loop-value-preserved : goal.loop-value-preserved
loop-value-preserved g c =
    let values = c.deref-value-items.result.now in
    let i = c.loop-value.value-index in
    record {
      items =
          c.push_reserved.ensures.items ∙ ap (λ value. c.loop-value.copied.items ++ value ∷ []) c.value-item.is
          ∙ ap (λ before. before ++ get_or c.deref-value-items.result.now c.loop-value.value-index c.value-item.result ∷ []) c.loop-value.invariant.items
          ∙ sym (take_more values i c.value-item.result c.loop-value-test.true);
      room = omega (arith, c.loop-value.invariant.room, c.push_reserved.ensures.capacity);
    }

pub push_reserved-requires : goal.push_reserved-requires
push_reserved-requires g c =
    let before = ap length c.loop-value.invariant.items ∙ length-take-le c.loop-value.value-index c.deref-value-items.result.now (omega (arith, c.loop-value-test.true)) in
    omega (arith, c.loop-value.copied.ok.0, before, c.loop-value-test.true, c.deref-value-items.ensures.len, c.args.list.now.ok.1, c.loop-value.invariant.room)

pub returns : goal.returns
returns g c = record {
  items =
      c.loop-value.invariant.items ∙ take_all c.loop-value.value-index c.deref-value-items.result.now c.loop-value-test.false ∙ c.deref-value-items.ensures.value;
  room = c.loop-value.invariant.room;
}
