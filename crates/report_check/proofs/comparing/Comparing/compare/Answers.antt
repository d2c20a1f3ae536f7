use Rattle.std.proofs.Common.{◌≡◌, ℕ, None, Option, ap, subst, ◌∙◌, arith, refl}
use Rattle.report_check.specs.Comparing.{HasFound}
use Rattle.report_check.proofs.Comparisons.{found-equal, taken-equal, taken-other}
use Rattle.report_check.proofs.comparing.Comparing.compare.Goals as goal

pub returns-then-equal-both-clause-appends : goal.returns-then-equal-both-clause-appends
returns-then-equal-both-clause-appends g c =
    let whole = g.J.Chosen.whole in
    let left = g.S.Source.left c.self.inside.report in
    let other : c.self.inside.other ≡ None = ap (λ s. s.other) c.self.view_is ∙ c.requires.equal in
    let found = subst (λ (o : Option ℕ). HasFound whole left c.self.inside.pending c.self.inside.place o) other c.self.invariant.0 in
    let within = rw c.bytes-ahead.ensures at c.equal_bytes-equal.ensures.within in
    let same = rw c.bytes-ahead.ensures at c.equal_bytes-equal.ensures.equal in
    rw (← c.self.view_is, other)
    (taken-other whole left c.self.inside.pending c.args.piece.now c.self.inside.place c.equal_bytes-equal.result _ found within.0 same
    (let less = c.if-equal-both.true in omega (arith, less)) refl)

pub invariant_of-self-else-equal-both : goal.invariant_of-self-else-equal-both
invariant_of-self-else-equal-both g c =
    let whole = g.J.Chosen.whole in
    let left = g.S.Source.left c.self.inside.report in
    let other : c.self.inside.other ≡ None = ap (λ s. s.other) c.self.view_is ∙ c.requires.equal in
    let found = subst (λ (o : Option ℕ). HasFound whole left c.self.inside.pending c.self.inside.place o) other c.self.invariant.0 in
    let within = rw c.bytes-ahead.ensures at c.equal_bytes-equal.ensures.within in
    let place : c.self.inside.place ≡ c.args.self.now.place = ap (λ s. s.place) c.self.view_is in (
      rw (other, c.pass.ensures) (found-equal whole left c.self.inside.pending c.self.inside.place c.equal_bytes-equal.result found within.0),
      c.self.invariant.1,
      (let less = c.requires.place in let short = c.type_inv.piece in omega (arith, less, place, within, short)),
    )

pub returns-clause-appends : goal.returns-clause-appends
returns-clause-appends g c =
    let whole = g.J.Chosen.whole in
    let left = g.S.Source.left c.self.inside.report in
    let other : c.self.inside.other ≡ None = ap (λ s. s.other) c.self.view_is ∙ c.requires.equal in
    let found = subst (λ (o : Option ℕ). HasFound whole left c.self.inside.pending c.self.inside.place o) other c.self.invariant.0 in
    let within = rw c.bytes-ahead.ensures at c.equal_bytes-equal.ensures.within in
    let same = rw c.bytes-ahead.ensures at c.equal_bytes-equal.ensures.equal in
    rw (← c.self.view_is, other)
    (taken-equal whole left c.self.inside.pending c.args.piece.now c.self.inside.place c.equal_bytes-equal.result found within.0 same)
