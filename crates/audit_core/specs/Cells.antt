-- Which ownees the marks of a trace leave in doubt.
use Rattle.std.specs.Prelude.{ℕ, Bool, not, ◌&&◌}
use Rattle.graph_meaning.specs.Roles.{RoleTable, owner_in, has_owner}
use Rattle.header_rule.specs.ClosedWords.{has_mark_in}
use Rattle.header_rule.specs.declared.mark.Mark.TheVariants.{Found, MetByRoots}
use Rattle.header_rule.specs.declared.words.Words.{Words}

-- marked as met by roots and not as found
abbrev pub is_marked_lost : Words → ℕ → Bool
is_marked_lost w cell = has_mark_in MetByRoots w cell && not (has_mark_in Found w cell)

-- An ownee that is marked so: it may violate.
abbrev pub is_in_doubt : RoleTable → Words → ℕ → Bool
is_in_doubt r w cell = has_owner (owner_in r cell) && is_marked_lost w cell
