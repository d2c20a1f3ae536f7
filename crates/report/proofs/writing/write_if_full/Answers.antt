use Rattle.report.proofs.Pieces.{IsWritten-put}
use Rattle.report.proofs.writing.write_if_full.Goals as goal

pub returns-in_ok-put_all-clause-goes_on : goal.returns-in_ok-put_all-clause-goes_on
returns-in_ok-put_all-clause-goes_on g c = λ start text written.
    rw c.clear.ensures.items (IsWritten-put start _ _ _ text written (rw c.deref.ensures.value at c.in_ok-put_all.ensures.whole))
