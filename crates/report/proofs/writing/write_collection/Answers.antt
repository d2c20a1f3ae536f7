use Rattle.std.proofs.Common.{◌∙◌, ap, ◌++◌}
use Rattle.report.specs.Text.{summary_line}
use Rattle.report.proofs.Pieces.{IsWritten-first, before_written, last_piece, on_err_always, part_of_collection, part_written, whole_written}
use Rattle.report.proofs.writing.write_collection.Goals as goal

pub returns-in_err-write_verdicts-clause-part : goal.returns-in_err-write_verdicts-clause-part
returns-in_err-write_verdicts-clause-part g c =
    let first = c.in_ok-put_summary.ensures ∙ ap (λ t. t ++ summary_line c.args.collection.now) c.new-piece.ensures.items in
    on_err_always c.from_residual-in_err-write_verdicts.result
    (part_of_collection c.args.collection.now _ _ _ first (c.in_err-write_verdicts.ensures.part _ _ (IsWritten-first _ _)))

pub returns-in_err-put_cleared-clause-part : goal.returns-in_err-put_cleared-clause-part
returns-in_err-put_cleared-clause-part g c =
    let first = c.in_ok-put_summary.ensures ∙ ap (λ t. t ++ summary_line c.args.collection.now) c.new-piece.ensures.items in
    let lines = c.in_ok-write_verdicts.ensures.verdicts _ _ (IsWritten-first _ _) in
    on_err_always c.from_residual-in_err-put_cleared.result (part_of_collection c.args.collection.now _ _ _ first (before_written _ _ _ _ lines))

pub returns-in_err-put_all-clause-part : goal.returns-in_err-put_all-clause-part
returns-in_err-put_all-clause-part g c =
    let first = c.in_ok-put_summary.ensures ∙ ap (λ t. t ++ summary_line c.args.collection.now) c.new-piece.ensures.items in
    let lines = c.in_ok-write_verdicts.ensures.verdicts _ _ (IsWritten-first _ _) in
    let last = last_piece c.args.collection.now _ _ _ _ _ first c.in_ok-put_cleared.ensures lines in
    on_err_always c.from_residual-in_err-put_all.result (part_written _ _ _ _ _ last (rw c.deref.ensures.value at c.in_err-put_all.ensures.part))

pub returns-clause-whole : goal.returns-clause-whole
returns-clause-whole g c =
    let first = c.in_ok-put_summary.ensures ∙ ap (λ t. t ++ summary_line c.args.collection.now) c.new-piece.ensures.items in
    let lines = c.in_ok-write_verdicts.ensures.verdicts _ _ (IsWritten-first _ _) in
    let last = last_piece c.args.collection.now _ _ _ _ _ first c.in_ok-put_cleared.ensures lines in
    whole_written _ _ _ _ _ last (rw c.deref.ensures.value at c.in_ok-put_all.ensures.whole)
