use Rattle.std.proofs.Common.{◌+◌, ◌++◌, take, ap, ◌∙◌}
use Rattle.std.specs.List.{flat_map}
use Rattle.heap_snapshot.specs.Lines.{line_bytes}
use Rattle.heap_snapshot.specs.Text.{lines_of_object}
use Rattle.heap_snapshot.proofs.Writing.{more_lines, next_object}
use Rattle.heap_snapshot.proofs.write.put_objects.Goals as goal

pub loop-place-preserved : goal.loop-place-preserved
loop-place-preserved c =
    c.in_ok-put_object.ensures ∙ ap (λ t. t ++ flat_map line_bytes (lines_of_object c.at.result.now)) c.loop-place.invariant
    ∙ more_lines c.args.text.now.items (flat_map lines_of_object (take c.loop-place.place c.args.objects.now)) (lines_of_object c.at.result.now)
    (flat_map lines_of_object (take (c.loop-place.place + 1) c.args.objects.now))
    (next_object c.args.objects.now c.loop-place.place c.at.result.now c.at.ensures)
