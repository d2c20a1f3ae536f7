use Rattle.graph_meaning.proofs.Showing.{ways_are_shown_as_paths}
use Rattle.graph_meaning.proofs.laws.a_shown_path_is_a_path.Goals as goal

pub returns : goal.returns
returns c = ways_are_shown_as_paths
