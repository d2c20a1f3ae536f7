use Rattle.std.proofs.Common.{arith}
use Rattle.std.specs.Str.{bytes_eq}
use Rattle.object_table.proofs.Indexes.{IsIndexed-add, not_named, position-added}
use Rattle.object_table.proofs.Positions.{any-position}
use Rattle.object_table.proofs.kinds.Kinds.add.Goals as goal

-- a name that is new is not found
pub unreachable-requires : goal.unreachable-requires
unreachable-requires c =
    not_named c.self.inside.names.items c.self.inside.places c.self.invariant c.args.name.now c.in_default.field-0
    (rw c.self.view_is c.requires.new) c.in_default.ensures.in_range c.in_default.ensures.found

-- the name is put last, and goes with its place into the gap for it
pub invariant_of-self-2 : goal.invariant_of-self-2
invariant_of-self-2 c =
    rw (c.in_ok-push.ensures.items, c.in_ok-copy-2.ensures, c.in-Ok.ensures.inserted, c.make-entry.ensures, c.in_ok-copy.ensures)
    (IsIndexed-add c.self.inside.names.items c.self.inside.places c.args.name.now c.in-Err.gap c.len-number.result c.self.invariant
    (rw c.self.view_is c.requires.new) (rw c.self.view_is c.requires.room) c.in-Err.ensures.in_range c.in-Err.ensures.gap (omega arith))

-- its place is the number of names before
pub returns-clause-number : goal.returns-clause-number
returns-clause-number c = grind (arith, position-added c.args.self.now c.push.new.self.items c.args.name.now, c.in_ok-push.ensures.items, c.in_ok-copy-2.ensures, c.self.view_is, c.requires.new)

pub returns-clause-seen : goal.returns-clause-seen
returns-clause-seen c = grind (arith, any-position (bytes_eq c.args.name.now) c.args.self.now, c.in_ok-push.ensures.items, c.in_ok-copy-2.ensures, c.self.view_is, c.requires.new)
