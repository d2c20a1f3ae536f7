use Rattle.std.proofs.Common.{refl}
use Rattle.report.specs.Text.{halt_text}
use Rattle.report.proofs.texts.halt_text.Goals as goal

pub returns : goal.returns
unfolding halt_text
returns c =
    rw (c.in_ok-put-3.ensures, c.in_ok-put_number-2.ensures, c.in_ok-put-2.ensures, c.in_ok-put_number.ensures, c.in_ok-put.ensures, c.new-text.ensures.items) refl
