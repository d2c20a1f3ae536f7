use Rattle.std.proofs.Common.{ap}
use Rattle.console.specs.Seen.{seen_of}
use Rattle.gcheap.proofs.Asked.{as_asked}
use Rattle.gcheap.proofs.audit_streams.Goals as goal

pub returns : goal.returns
returns g c =
    let audited = c.audit_large-status.ensures in
    let same = ap (seen_of g.I.Read.remaining) in (
      c.audit_large-status.result,
      c.end.ensures,
      as_asked _ _ _ _ audited.taken
          (λ none. let refused = audited.refused none in (same refused.0, refused.1)),
    )
