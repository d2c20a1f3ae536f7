use Rattle.std.proofs.Common.{Option, List, ℕ, ◌+◌, refl, ap, subst}
use Rattle.std.specs.Result.{IfOk}
use Rattle.streams.specs.Streams.{stream_of}
use Rattle.trace_run.specs.Outcome.{outside_of}
use Rattle.report_check.specs.Comparing.{taken_bytes}
use Rattle.report_check.specs.Reports.{TellsOfReports}
use Rattle.report_check.proofs.Comparisons.{tells-reports}
use Rattle.report_check.proofs.running.compare_chosen.Goals as goal

pub returns-clause-tells : goal.returns-clause-tells
returns-clause-tells g c =
    let whole = g.J.Chosen.whole in
    let old = c.over-comparing.result in
    let new = c.run_trace-status.new.sink in
    let trace = stream_of g.A.Source.left g.A.Source.faults in
    let sink = stream_of (λ k. taken_bytes whole k.place k.other) (λ k. g.B.Source.faults k.report.source.now + k.refused) in
    subst (λ (o : Option (List ℕ)). IfOk c.found-found.result (TellsOfReports c.args.paths (g.A.Source.left c.args.trace.now) o)) c.requires.whole
    (tells-reports c.args.paths (outside_of (trace c.args.trace.now) (sink old)) (outside_of (trace c.run_trace-status.new.trace) (sink new)) whole new.place new.other
    (ap (λ k. taken_bytes whole k.place k.other) c.over-comparing.ensures) refl _ c.found-found.result c.run_trace-status.ensures c.found-found.ensures.tells)
