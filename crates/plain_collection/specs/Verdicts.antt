-- The rules of a collection that cuts nothing off.
use Rattle.std.specs.Prelude.{ℕ, false}
use Rattle.graph_meaning.specs.Collecting.{Rules}

-- so many paths are shown, and what is asserted dead is not cut off
abbrev pub plain_rules : ℕ → Rules
plain_rules paths = record { paths = paths; force = false }
