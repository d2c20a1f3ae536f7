use Rattle.std.proofs.Common.{arith}
use Rattle.object_table.proofs.Paging.{room_left}
use Rattle.object_table.proofs.pages.Pages.reserve.Goals as goal

pub returns-then-self-len-clause-room : goal.returns-then-self-len-clause-room
returns-then-self-len-clause-room c = rw (← c.self.view_is) (room_left c.self.inside.pages.items c.self.inside.count c.self.invariant (omega (arith, c.self.inside.pages.ok.0, c.len.ensures)))
