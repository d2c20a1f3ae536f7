-- The words of a pass that has no other beside it.
use Rattle.std.specs.Prelude.{◌≡◌, ℕ, ◌-◌, List, [], ◌∷◌, length}
use Rattle.atomic_table.specs.Table.{State}
use Rattle.header_rule.specs.declared.view.View.{View}
use Rattle.header_rule.specs.Rule.{KeepsRule}

-- the words, and what the pass has met
pub record OwnState : Type 0 where
  pub words : List ℕ
  pub view : View

-- the state of a table that had these words, and no seat but one with this view
abbrev pub table_state : OwnState → State (Unit {0}) View
table_state o = record { words = o.words; homes = []; views = o.view ∷ [] }

-- The rule of the shared words holds of the own ones too, by one view, which has all the rights.
abbrev pub KeepsOwn : OwnState → Type 0
KeepsOwn o = KeepsRule (length o.words - 1) (table_state o) × (o.view.rights ≡ 16)
