use Rattle.std.proofs.Common.{◌+◌, ◌++◌, ◌∷◌, [], take, map, sym, ap, ◌∙◌, append-nil}
use Rattle.std.specs.List.{flat_map}
use Rattle.heap_snapshot.specs.Lines.{line_bytes}
use Rattle.heap_snapshot.specs.Text.{line_of_root}
use Rattle.heap_snapshot.proofs.Writing.{more_lines, next_root}
use Rattle.heap_snapshot.proofs.write.put_roots.Goals as goal

pub loop-place-preserved : goal.loop-place-preserved
loop-place-preserved c =
    c.in_ok-put_root_line.ensures ∙ ap (λ t. t ++ line_bytes (line_of_root c.at-root.result.now)) c.loop-place.invariant
    ∙ ap (λ t. (c.args.text.now.items ++ flat_map line_bytes (map line_of_root (take c.loop-place.place c.args.roots.now))) ++ t) (sym (append-nil (line_bytes (line_of_root c.at-root.result.now))))
    ∙ more_lines c.args.text.now.items (map line_of_root (take c.loop-place.place c.args.roots.now)) (line_of_root c.at-root.result.now ∷ [])
    (map line_of_root (take (c.loop-place.place + 1) c.args.roots.now))
    (next_root c.args.roots.now c.loop-place.place c.at-root.result.now c.at-root.ensures)
