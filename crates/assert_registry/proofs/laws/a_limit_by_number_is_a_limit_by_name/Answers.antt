use Rattle.assert_registry.proofs.ByName.{limit_is_set}
use Rattle.assert_registry.proofs.laws.a_limit_by_number_is_a_limit_by_name.Goals as goal

pub returns : goal.returns
returns c = limit_is_set
