-- What contracts see of the search of an owner.
use Rattle.std.specs.Prelude.{ℕ, Bool, ◌==◌, slice_index}
use Rattle.path_cert.specs.declared.finding.Search.{Search}
use Rattle.path_cert.specs.Quests.{SearchState}

-- the object in a cell was met in the round that is under way
abbrev pub is_met_in_round : Search → ℕ → Bool
is_met_in_round s cell = slice_index s.met_in.items cell == s.round

abbrev pub sought_in : Search → SearchState
sought_in s = record { met = is_met_in_round s; work = s.work.items }
