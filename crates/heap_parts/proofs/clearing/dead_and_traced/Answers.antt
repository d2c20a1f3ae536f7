use Rattle.std.proofs.Common.{◌≡◌, ◌∷◌, [], ◌++◌, ◌&&◌, false, get_or, sym, ◌∙◌, arith}
use Rattle.std.proofs.lemmas.List.FromFn.{map-range_with_len_more}
use Rattle.heap_parts.proofs.clearing.dead_and_traced.Goals as goal

pub loop-cell-preserved : goal.loop-cell-preserved
loop-cell-preserved c =
    let dead = c.args.roles.now.dead in
    let kept = c.args.kept.now in
    let cell = c.loop-cell.cell in
    let before = c.loop-cell.invariant in
    let flag : c.is_dead_and_traced.result ≡ (get_or dead cell false && get_or kept cell false) = c.is_dead_and_traced.ensures ∙ (λ i. c.dead.ensures i && get_or kept cell false) in
    let longer = c.push_reserved.ensures.len in
    record {
      flags = c.push_reserved.ensures.items ∙ (λ i. before.flags i ++ flag i ∷ []) ∙ sym (map-range_with_len_more (λ x. get_or dead x false && get_or kept x false) 0 cell cell (omega arith));
      count = omega arith;
      room = c.push_reserved.ensures.capacity ∙ before.room;
    }
