use Rattle.std.proofs.Common.{set, ap, arith}
use Rattle.graph_meaning.specs.Roles.{RoleTable, cells_of}
use Rattle.graph_meaning.proofs.roles.Roles.set_owner.Goals as goal

pub get-requires : goal.get-requires
get-requires c = (let (unshared, ownees, many, have, room) = c.self.invariant in omega (arith, ap cells_of c.self.view_is, many, c.requires))

pub set-requires : goal.set-requires
set-requires c = (let (unshared, ownees, many, have, room) = c.self.invariant in omega (arith, ap cells_of c.self.view_is, ownees, c.requires))

pub set-requires-2 : goal.set-requires-2
set-requires-2 c = (let (unshared, ownees, many, have, room) = c.self.invariant in omega (arith, ap cells_of c.self.view_is, many, c.requires))

pub returns : goal.returns
returns c =
    let changed : RoleTable → RoleTable = λ r. record r { ownees = set r.ownees c.args.cell c.args.owner } in
    rw c.set.ensures (ap changed c.self.view_is)
