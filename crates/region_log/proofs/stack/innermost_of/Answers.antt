use Rattle.std.proofs.Common.{◌<◌, length, drop, sym, ap, ◌∙◌}
use Rattle.std.proofs.lemmas.List.{take_rest}
use Rattle.region_log.proofs.Stacks.{regions-innermost}
use Rattle.region_log.proofs.stack.innermost_of.Goals as goal

pub returns : goal.returns
returns c =
    let ids = c.args.ids.now in
    let starts = c.args.starts.now in
    let start = c.in_ok-start.field-0.now in
    let last = c.in_ok-start.ensures.item.3 in
    let some : 0 < length starts = last.0 in
    (some, regions-innermost ids starts some ∙ (ap (λ n. drop n ids) (sym (last.1 0)) ∙ sym (take_rest ids start)))
