use Rattle.std.proofs.Common.{◌∷◌, [], ◌++◌, sym, ap, ◌∙◌, arith}
use Rattle.std.proofs.lemmas.List.FromFn.{map-range_with_len_more}
use Rattle.heap_base.specs.Counting.{bit, is_positive}
use Rattle.heap_base.proofs.Counting.{bit-le, total-snoc}
use Rattle.header_rule.specs.ClosedWords.{count_in}
use Rattle.heap_marking.specs.Results.{many_of}
use Rattle.heap_marking.proofs.traced.note_kept.Goals as goal

pub loop-cell-preserved : goal.loop-cell-preserved
loop-cell-preserved c =
    let kept = c.is_kept-is_kept.result in
    let few = bit-le kept in
    let snoc = total-snoc bit c.loop-cell.kept.items kept in
    let more = ap many_of c.push_reserved.ensures.items in
    let longer = c.push_reserved.ensures.len in
    let one = c.one_if-traced.ensures in
    let before = c.loop-cell.invariant in
    let w = c.args.words.now in
    let cell = c.loop-cell.cell in
    record {
      kept = c.push_reserved.ensures.items ∙ (λ i. before.kept i ++ c.is_kept-is_kept.ensures i ∷ []) ∙ sym (map-range_with_len_more (λ x. is_positive (count_in w x)) 0 cell cell (omega arith));
      traced = omega arith;
      few = omega arith;
      count = omega arith;
      room = c.push_reserved.ensures.capacity ∙ before.room;
    }
