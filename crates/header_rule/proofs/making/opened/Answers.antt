use Rattle.std.proofs.Common.{arith, ℕ, sym, subst}
use mathlib.Core.Option.{none}
use Rattle.atomic_table.specs.Table.{Me, step, Allows}
use Rattle.header_rule.specs.declared.view.View.{View}
use Rattle.header_rule.specs.Rule.{KeepsRule}
use Rattle.header_rule.specs.Steps.{TakesRights}
use Rattle.header_rule.proofs.Moves.{takes_rights}
use Rattle.header_rule.proofs.making.opened.Goals as goal

pub swap-requires : goal.swap-requires
swap-requires c =
    let seat = c.in_ok-table.seat in
    let table = c.in_ok-table.table in
    let slots : ℕ = table.shared.table_id.slots in
    let made = c.in_ok-table.ensures in (
      made.2,
      omega (arith, made.0, c.in_ok-words.ensures.len),
      subst (λ (m : Me (Unit {0}) View). Allows (KeepsRule table.shared.key) slots seat.id m 0 (λ _. 1) (TakesRights (step slots 0 1 0 none) m))
          (sym made.4) (takes_rights table.shared.key slots seat.id),
    )
