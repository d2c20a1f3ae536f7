-- What an audit appended is the report that a check compares with.
use Rattle.std.proofs.Common.{◌≡◌, ◌-◌, ℕ, List, ◌++◌, Option, Some, IfSome, sym, ap, subst, slice_get}
use Rattle.std.proofs.lemmas.List.{append_cancel_left}
use Rattle.std.specs.Io.KnownBytes.{Appends}
use Rattle.heap_base.specs.declared.limits.TheConstants.{LONGEST_TRACE}
use Rattle.heap_base.specs.declared.status.Status.{Status}
use Rattle.heap_base.specs.declared.status.Status.TheVariants.{Clean}
use Rattle.graph_meaning.specs.declared.reaction.React.TheVariants.{Report}
use Rattle.trace_run.specs.Audits.{audit_report, rules_by}
use Rattle.trace_run.specs.Outcome.{Outside, trace_report}
use Rattle.trace_run.proofs.Causes.{facts_follow}
use Rattle.report_check.specs.Audited.{IsWholeAudit, IsCheck, AuditsPassChecks, EqualIsAppended}
use Rattle.report_check.specs.Checked.{World, IsChecked}
use Rattle.report_check.specs.Comparing.{TellsDifference}
use Rattle.report_check.specs.Differences.{IsFirstDifference}
use Rattle.report_check.specs.Reports.{TellsOfReports, report_with_paths}
use Rattle.report_check.specs.declared.compared.Compared.{Compared}
use Rattle.report_check.specs.declared.compared.Compared.TheVariants.{Equal, Differs}

-- the report was appended
appended : (paths : ℕ) (bytes : List ℕ) (old new : Outside) (status : Status) → IsWholeAudit paths bytes old new status → Appends old.sink.bytes new.sink.bytes (report_with_paths paths bytes)
appended paths bytes old new status is =
    ((facts_follow (trace_report LONGEST_TRACE (audit_report (rules_by paths Report))) old new status bytes is.trace is.ends).0.whole is.whole).appended

-- what is known of told bytes
told : (P : List ℕ → Type 0) (left : Option (List ℕ)) (bytes : List ℕ) → left ≡ Some bytes → IfSome left P → P bytes
told P left bytes e holds = subst (λ (o : Option (List ℕ)). IfSome o P) e holds

-- how the text compares with the report on the bytes
tells : (paths : ℕ) (bytes text : List ℕ) (old new : World) (answer : Status) → IsCheck paths bytes text old new answer → (compared : Compared) →
    TellsOfReports paths old.trace.bytes old.report.bytes compared → TellsDifference (Some text) (report_with_paths paths bytes) compared
tells paths bytes text old new answer is compared so =
    subst (λ (o : Option (List ℕ)). TellsDifference o (report_with_paths paths bytes) compared) is.report
    (told (λ b. TellsDifference old.report.bytes (report_with_paths paths b) compared) old.trace.bytes bytes is.trace so)

-- what was appended behind held bytes
is_text : (old new : Option (List ℕ)) (held text report : List ℕ) → old ≡ Some held → new ≡ Some (held ++ text) → Appends old new report → text ≡ report
is_text old new held text report before after is =
    append_cancel_left held text report
    (subst (λ (o : Option (List ℕ)). Appends (Some held) o report) after (subst (λ (o : Option (List ℕ)). Appends o new report) before is))

pub audits_pass_checks : AuditsPassChecks
audits_pass_checks paths bytes text held old new status before after answer audit holds then check differs =
    let found = subst (λ (s : Status). IsChecked paths before after s) differs check.checked in
    let first : IsFirstDifference text (report_with_paths paths bytes) found.0 = tells paths bytes text before after answer check (Differs found.0) found.1.0 in
    let same = is_text old.sink.bytes new.sink.bytes held text (report_with_paths paths bytes) holds then (appended paths bytes old new status audit) in
    first.here (ap (λ (xs : List ℕ). slice_get xs (found.0 - 1)) same)

pub equal_is_appended : EqualIsAppended
equal_is_appended paths bytes text before after old new status check audit =
    let same : text ≡ report_with_paths paths bytes = tells paths bytes text before after Clean check Equal check.checked.0 in
    subst (Appends old.sink.bytes new.sink.bytes) (sym same) (appended paths bytes old new status audit)
