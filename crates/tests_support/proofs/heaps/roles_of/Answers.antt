use Rattle.std.proofs.Common.{◌≡◌, ◌≤◌, length, ap, arith}
use Rattle.assert_registry.specs.Assertions.{Assertions}
use Rattle.assert_registry.proofs.Kept.{SpeakOfTable-live_part, seen_from_room}
use Rattle.tests_support.proofs.heaps.roles_of.Goals as goal

pub roles-requires : goal.roles-requires
roles-requires c =
    let t = c.args.table.now.table in
    let a = c.args.registry.now in
    let same : length c.keep.new.self.limits ≡ length a.limits = ap (λ (b : Assertions). length b.limits) c.keep.ensures in
    let few : length a.limits ≤ length t.kinds = omega (arith, same, c.kind_room.ensures.room, c.kinds.ensures.count, c.if-kind_room-kinds.false) in
    rw c.keep.ensures (SpeakOfTable-live_part t a (seen_from_room a.limits t.kinds few))
