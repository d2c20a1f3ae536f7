use Rattle.std.proofs.Common.{◌≡◌, ◌<◌, true, cond, Some, length, ap, sym, ◌∙◌, arith}
use Rattle.std.specs.List.{position}
use Rattle.std.specs.Option.{is_some}
use Rattle.std.specs.Str.{bytes_eq}
use Rattle.std.specs.String.{string_bytes}
use Rattle.std.proofs.lemmas.Map.Text.{btree_map_updates_text}
use Rattle.std.proofs.lemmas.Option.{get_or_from_slice_get}
use Rattle.verdict_list.specs.Kinds.{is_over_limit, name_of}
use Rattle.verdict_list.proofs.OverLimits.{over_pass, over_more, over_none, one_more, all_over, over-are}
use Rattle.verdict_list.proofs.over_limit.by_name.Goals as goal
use Rattle.verdict_list.proofs.over_limit.by_name.Goals.{then-is_over_limit+in_ok-name+in_ok-insert, else-is_over_limit}

pub loop-kind-init : goal.loop-kind-init
loop-kind-init g c = record {
  sorted = c.new-numbers.ensures.ordered;
  has = λ q. over_none c.args.counted.now.table.now c.args.counted.now.roles.now (g.T.HeapCounts.counts c.args.counted.now.counts.now) c.new-numbers.result c.new-numbers.ensures.empty q;
  few = omega (arith, c.new-numbers.ensures.len);
}

pub loop-kind-preserved : goal.loop-kind-preserved
loop-kind-preserved g c =
    let p = c.args.counted.now.table.now in
    let r = c.args.counted.now.roles.now in
    let n = c.loop-kind.kind in
    let within : n < length p.table.kinds = omega (arith, c.loop-kind-test.true, c.kinds-kind-end.ensures.count) in
    elim c.if-is_over_limit.branch [
      | then-is_over_limit+in_ok-name+in_ok-insert w ↦
          let name_is : string_bytes w.in_ok-name.name ≡ name_of p n =
          w.in_ok-name.ensures.ok ∙ w.as_str.ensures.text ∙ sym (get_or_from_slice_get p.table.kinds n w.kind_name.result.now _ w.kind_name.ensures.name) in
          let over : is_over_limit r (g.T.HeapCounts.counts c.args.counted.now.counts.now) n ≡ true = sym c.is_over_limit.ensures ∙ w.if-is_over_limit.true in
          rw w.numbers-is (record {
            sorted = w.in_ok-insert.ensures.ordered;
            has = λ q. btree_map_updates_text (string_bytes w.in_ok-name.name) c.loop-kind.numbers w.insert.new.self (Some n) w.in_ok-insert.ensures.updates q
                ∙ ap (λ name. cond (bytes_eq name q) (Some n) _) name_is
                ∙ over_more p r (g.T.HeapCounts.counts c.args.counted.now.counts.now) c.cells-cells.ensures.sound.kinds n within over q _ (c.loop-kind.invariant.has q);
            few = one_more (length c.loop-kind.numbers.entries) (length w.insert.new.self.entries) n (is_some w.in_ok-insert.field-0) w.in_ok-insert.ensures.len c.loop-kind.invariant.few;
          })
      | else-is_over_limit w ↦ rw w.numbers-is (record {
        sorted = c.loop-kind.invariant.sorted;
        has =
            λ q. c.loop-kind.invariant.has q
            ∙ sym (over_pass r (g.T.HeapCounts.counts c.args.counted.now.counts.now) n (position (bytes_eq q) p.table.kinds) (sym c.is_over_limit.ensures ∙ w.if-is_over_limit.false));
        few = omega (arith, c.loop-kind.invariant.few);
      })
    ]

pub returns-clause-over : goal.returns-clause-over
returns-clause-over g c h are =
    let p = c.args.counted.now.table.now in
    let r = c.args.counted.now.roles.now in
    over-are p r (g.T.HeapCounts.counts c.args.counted.now.counts.now) c.loop-kind.numbers c.loop-kind.kind c.loop-kind.invariant.sorted c.loop-kind.invariant.has h
    (omega (arith, c.loop-kind-test.false, c.loop-kind.auto.kind-end, c.kinds-kind-end.ensures.count)) c.cells-cells.ensures.sound are.stand are.counts

pub returns-clause-each : goal.returns-clause-each
returns-clause-each g c =
    let p = c.args.counted.now.table.now in
    let r = c.args.counted.now.roles.now in
    all_over p r (g.T.HeapCounts.counts c.args.counted.now.counts.now) c.loop-kind.numbers c.loop-kind.kind c.loop-kind.invariant.sorted c.loop-kind.invariant.has

pub returns-clause-few : goal.returns-clause-few
returns-clause-few g c = omega (arith, c.loop-kind.invariant.few, c.loop-kind.auto.kind-end, c.kinds-kind-end.ensures.count, c.cells-cells.ensures.sound.limits.kinds)
