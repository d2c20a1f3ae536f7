use Rattle.std.proofs.Common.{◌≡◌, ◌≤◌, ◌∙◌, ◌+◌, ◌-◌, ◌++◌, ap, arith, length, length-take-le, length-take, length-drop, take}
use Rattle.std.specs.List.{slice_range}
use Rattle.std.proofs.lemmas.Result.{err_from_is_err_and}
use Rattle.trace_reader.proofs.Ranges.{range-kept, range-read}
use Rattle.trace_reader.proofs.window.Window.fill.Goals as goal

pub returns-in_err-n-clause-reads : goal.returns-in_err-n-clause-reads
returns-in_err-n-clause-reads g c =
    let p = err_from_is_err_and c.from_residual.result c.from_residual.ensures.1 in
    let room = c.make_room-self-inside in
    let inside = c.self.inside in
    let end = room.result + (inside.end - inside.start) in
    let before : slice_range room.new.buffer room.result end ≡ c.args.self.now =
    room.ensures.held ∙ ap (λ bytes. slice_range bytes inside.start inside.end) c.as_mut_slice-buffer.ensures.value ∙ c.self.view_is in
    let fits : end ≤ inside.buffer.len = omega (arith, room.auto.buffer, c.as_mut_slice-buffer.ensures.len) in
    rw p.1 (range-kept room.new.buffer c.read.new.into _ _ room.result end inside.buffer.len (omega arith) (omega arith) fits ∙ before, c.in_err-n.ensures.bytes)

pub returns-clause-reads : goal.returns-clause-reads
returns-clause-reads g c =
    let room = c.make_room-self-inside in
    let inside = c.self.inside in
    let end = room.result + (inside.end - inside.start) in
    let n = c.in_ok-n.n in
    let took = take n c.read.new.into in
    let before : slice_range room.new.buffer room.result end ≡ c.args.self.now =
    room.ensures.held ∙ ap (λ bytes. slice_range bytes inside.start inside.end) c.as_mut_slice-buffer.ensures.value ∙ c.self.view_is in
    let size : length c.read.new.into ≡ length room.new.buffer - end = omega (arith, simp (length-take, length-drop) at c.read.auto.into) in
    let bound : n ≤ length room.new.buffer - end = omega (arith, simp (length-take, length-drop) at c.in_ok-n.ensures.bound) in
    let fits : end + n ≤ inside.buffer.len = omega (arith, room.auto.buffer, c.as_mut_slice-buffer.ensures.len) in (
      took,
      record {
        held =
            range-read room.new.buffer c.read.new.into _ _ room.result end n inside.buffer.len (omega arith) (omega arith) fits (omega arith)
            ∙ ap (λ bytes. bytes ++ took) before;
        count = length-take-le n c.read.new.into (omega arith);
        consumes = c.in_ok-n.ensures.bytes.0;
        at_end = λ e. c.in_ok-n.ensures.bytes.1 e (omega arith);
      },
    )
