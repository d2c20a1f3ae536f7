-- Ids, each once.
use Rattle.std.specs.Prelude.{ℕ, List, [], fold}
use Rattle.std.specs.BTreeSet.{insert_key}
use Rattle.std.specs.Ordering.{nat_cmp}

-- the ids of a list, each once, by id
abbrev pub set_of : List ℕ → List ℕ
set_of ids = fold (insert_key nat_cmp) [] ids
