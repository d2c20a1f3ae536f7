use Rattle.std.proofs.Common.{◌≡◌, ℕ, [], None, Option, sym, ap, subst, ◌∙◌, refl}
use Rattle.std.specs.Option.{IfSome}
use Rattle.report_check.specs.Comparing.{HasFound, taken_bytes}
use Rattle.report_check.proofs.Comparisons.{tells-equal, tells-more, no_items, some_items}
use Rattle.report_check.proofs.comparing.Comparing.found_at_end.Goals as goal
use Rattle.report_check.proofs.comparing.Comparing.found_at_end.Goals.{then-is_empty, else-is_empty}

pub returns-clause-tells : goal.returns-clause-tells
returns-clause-tells g c text all =
    let whole = g.J.Chosen.whole in
    let left = g.S.Source.left c.self.inside.report in
    let pending = c.self.inside.pending in
    let place : c.self.inside.place ≡ c.args.self.now.place = ap (λ s. s.place) c.self.view_is ∙ c.read_ahead.ensures.kept.0 in
    let other : c.self.inside.other ≡ None = ap (λ s. s.other) c.self.view_is ∙ c.read_ahead.ensures.kept.1 ∙ c.requires.equal in
    let found = subst (λ (o : Option ℕ). HasFound whole left pending c.self.inside.place o) other c.self.invariant.0 in
    let all_taken =
    subst (λ (p : ℕ). IfSome (taken_bytes whole p None) (λ bytes. bytes ≡ text)) (sym place)
    (subst (λ (o : Option ℕ). IfSome (taken_bytes whole c.args.self.now.place o) (λ bytes. bytes ≡ text)) c.requires.equal all) in
    elim c.if-is_empty.branch [
      | then-is_empty w ↦
          let none : pending ≡ [] = no_items pending (sym c.is_empty.ensures ∙ w.if-is_empty.true) in
          let end = rw (← c.self.view_is) at c.in_ok-read_ahead.ensures.at_end in
          rw w.result-is (tells-equal whole left pending c.self.inside.place text found none (end none) all_taken)
      | else-is_empty w ↦
          rw w.result-is
          (tells-more whole left pending c.self.inside.place _ text found (some_items pending (sym c.is_empty.ensures ∙ w.if-is_empty.false)) refl all_taken)
    ]
