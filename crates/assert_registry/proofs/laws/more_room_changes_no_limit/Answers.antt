use Rattle.assert_registry.proofs.ByName.{room_changes_no_limit}
use Rattle.assert_registry.proofs.laws.more_room_changes_no_limit.Goals as goal

pub returns : goal.returns
returns c = room_changes_no_limit
