use Rattle.std.proofs.Common.{◌≤◌, ◌++◌, length, map, drop, ◌∙◌, ap, arith}
use Rattle.std.proofs.lemmas.List.{append-nil, take_all, drop_all}
use Rattle.std.proofs.lemmas.List.Edits.{map_over_more}
use Rattle.object_table.specs.Blocks.{all_entries, run_cleared}
use Rattle.object_table.proofs.Laid.{all_entries-cleared}
use Rattle.object_table.proofs.blocks.clear_blocks.Goals as goal

pub loop-at-preserved : goal.loop-at-preserved
loop-at-preserved c =
    rw c.clear_to.ensures
    (map_over_more (run_cleared c.args.ids.now c.args.marked.now) c.args.blocks.now.items c.loop-at.blocks.items c.loop-at.at
    c.index_mut-block.result.now (omega (arith, c.args.blocks.now.ok.0, c.len-at-end.ensures)) c.loop-at.invariant c.index_mut-block.ensures.value)

pub returns : goal.returns
returns c =
    let change = run_cleared c.args.ids.now c.args.marked.now in
    let end : length c.args.blocks.now.items ≤ c.loop-at.at = omega (arith, c.args.blocks.now.ok.0, c.len-at-end.ensures) in
    ap all_entries
    (c.loop-at.invariant ∙ ap (λ l. map change l ++ drop c.loop-at.at c.args.blocks.now.items) (take_all c.loop-at.at c.args.blocks.now.items end)
    ∙ ap (λ l. map change c.args.blocks.now.items ++ l) (drop_all c.loop-at.at c.args.blocks.now.items end)
    ∙ append-nil (map change c.args.blocks.now.items))
    ∙ all_entries-cleared c.args.ids.now c.args.marked.now c.args.blocks.now.items
