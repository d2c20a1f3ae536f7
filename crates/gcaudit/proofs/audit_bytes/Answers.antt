use Rattle.std.proofs.Common.{Some, refl, rules}
use Rattle.trace_run.specs.Outcome.{outside_of}
use Rattle.console.specs.Seen.{seen_of}
use Rattle.audit_run.specs.InMemory.{holding}
use Rattle.gcaudit.proofs.Asked.{written_as_asked}
use Rattle.gcaudit.proofs.audit_bytes.Goals as goal

-- After the call the reader and the writer are as it left them. Before it they held the trace, and nothing.
pub returns-clause-asked : goal.returns-clause-asked
returns-clause-asked g c =
    let new = c.audit_streams-code.new.streams in
    let ended = c.audit_streams-code.ensures in
    (outside_of (seen_of (λ s. Some s.now) new.input) (seen_of (λ v. Some v.items) new.output), refl, (ended.0, ended.1, search rules))

pub returns-clause-reports : goal.returns-clause-reports
returns-clause-reports g c s is_asked is_read =
    let asked = returns-clause-asked g c in
    written_as_asked _ s (holding c.args.trace.now) asked.0 _ c.args.trace.now _ c.the_facts_of_a_run_follow.ensures is_asked is_read refl refl asked.1 asked.2
