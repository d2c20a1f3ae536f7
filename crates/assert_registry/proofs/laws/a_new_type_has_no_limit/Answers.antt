use Rattle.assert_registry.proofs.ByName.{new_type_has_no_limit}
use Rattle.assert_registry.proofs.laws.a_new_type_has_no_limit.Goals as goal

pub returns : goal.returns
returns c = new_type_has_no_limit
