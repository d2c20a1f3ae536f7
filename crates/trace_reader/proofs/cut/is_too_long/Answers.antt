use Rattle.std.proofs.Common.{arith, refl}
use Rattle.trace_reader.specs.Cuts.{HasTooLongLine}
use Rattle.trace_reader.proofs.Newlines.{too_long_below, too_long_at, too_long_next}
use Rattle.std.proofs.lemmas.Bool.{false≢true}
use Rattle.trace_reader.proofs.cut.is_too_long.Goals as goal
use Rattle.trace_reader.proofs.cut.is_too_long.Goals.{else-allowed-2-via-then-allowed-2+else-held-eq10, else-allowed-2-via-else-allowed-2}

pub returns-then-held-eq10 : goal.returns-then-held-eq10
returns-then-held-eq10 c = (λ no. absurd (false≢true no), λ long. absurd (too_long_next c.args.held.now c.args.allowed long c.if-held-eq10.true))

pub returns : goal.returns
returns c =
    let held = c.args.held.now in
    let allowed = c.args.allowed in
    let long : HasTooLongLine held allowed =
    elim c.else-allowed-2.branch as (λ _. HasTooLongLine held allowed) [
      | else-allowed-2-via-then-allowed-2+else-held-eq10 w ↦ too_long_at held allowed (omega arith) (omega arith) c.requires w.if-held-eq10.false
      | else-allowed-2-via-else-allowed-2 w ↦ too_long_below held allowed (omega arith) (let apart = w.if-allowed-2.false in omega arith) c.requires
    ] in
    (λ _. long, λ _. refl)
