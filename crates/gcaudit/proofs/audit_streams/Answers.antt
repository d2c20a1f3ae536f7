use Rattle.std.proofs.Common.{ap}
use Rattle.console.specs.Seen.{seen_of}
use Rattle.gcaudit.proofs.Asked.{as_asked}
use Rattle.gcaudit.proofs.audit_streams.Goals as goal

pub returns : goal.returns
returns g c =
    let audited = c.audit-status.ensures in
    let same = ap (seen_of g.I.Read.remaining) in (
      c.audit-status.result,
      c.end.ensures,
      as_asked _ _ _ _ audited.taken
          (λ s p asked planned. let made = audited.generated s p asked planned in (same made.0, made.1))
          (λ none. let refused = audited.refused none in (same refused.0, refused.1)),
    )
