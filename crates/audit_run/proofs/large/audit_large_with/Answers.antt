use Rattle.std.proofs.Common.{refl}
use Rattle.streams.specs.Streams.{stream_of}
use Rattle.trace_run.proofs.Endings.{nothing_written}
use Rattle.audit_run.specs.Outcome.{report_by_rules, rules_under}
use Rattle.audit_run.proofs.large.audit_large_with.Goals as goal

pub returns-in-Err-Usage-clause-refused : goal.returns-in-Err-Usage-clause-refused
returns-in-Err-Usage-clause-refused g c =
    λ _. (refl, c.refuse_words.ensures (stream_of g.S.Source.left g.S.Source.faults c.args.source.now))

pub returns-in-Err-OutOfMemory-clause-taken : goal.returns-in-Err-OutOfMemory-clause-taken
returns-in-Err-OutOfMemory-clause-taken g c = λ s _. nothing_written (report_by_rules (rules_under c.args.setup.limits s)) _ _ refl
