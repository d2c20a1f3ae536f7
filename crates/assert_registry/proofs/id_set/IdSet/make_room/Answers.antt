use Rattle.std.proofs.Common.{◌∙◌}
use Rattle.assert_registry.proofs.IdSet.{set_of-sorted, sorted-set_of}
use Rattle.assert_registry.proofs.id_set.IdSet.make_room.Goals as goal

pub returns-in_err-reserve-clause-same : goal.returns-in_err-reserve-clause-same
returns-in_err-reserve-clause-same c =
    set_of-sorted c.self.inside.ids.items c.reserve.new.self.items (c.reserve.ensures.items ∙ c.sort_unique.ensures) ∙ c.self.view_is

pub returns-in_err-reserve-clause-rising : goal.returns-in_err-reserve-clause-rising
returns-in_err-reserve-clause-rising c = sorted-set_of c.reserve.new.self.items

pub returns-in_ok-reserve-clause-same : goal.returns-in_ok-reserve-clause-same
returns-in_ok-reserve-clause-same c =
    set_of-sorted c.self.inside.ids.items c.reserve.new.self.items (c.reserve.ensures.items ∙ c.sort_unique.ensures) ∙ c.self.view_is

pub returns-in_ok-reserve-clause-rising : goal.returns-in_ok-reserve-clause-rising
returns-in_ok-reserve-clause-rising c = sorted-set_of c.reserve.new.self.items

pub returns-else-capacity-len-clause-rising : goal.returns-else-capacity-len-clause-rising
returns-else-capacity-len-clause-rising c = rw (← c.self.view_is) (sorted-set_of c.self.inside.ids.items)
