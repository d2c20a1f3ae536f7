-- What a pass has met, however it reaches its words.
use Rattle.std.specs.Prelude.{ℕ, List, []}
use Rattle.header_rule.specs.declared.reach.Reach.{Reach}
use Rattle.header_rule.specs.declared.reach.Reach.TheVariants.{Table, Own}
use Rattle.header_rule.specs.declared.view.View.{View}

-- its lists and its rights
abbrev pub view_of : Reach → View
view_of (Table s) = s.me.0
view_of (Own o) = o.view

-- the slots that its seat has taken: the table has none
abbrev pub slots_of : Reach → List (ℕ × Unit {0})
slots_of (Table s) = s.me.1
slots_of (Own o) = []
