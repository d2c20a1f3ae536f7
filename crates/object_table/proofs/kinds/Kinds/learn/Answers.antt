use Rattle.std.proofs.Common.{arith}
use Rattle.std.specs.Str.{bytes_eq}
use Rattle.object_table.proofs.Positions.{any-position}
use Rattle.object_table.proofs.kinds.Kinds.learn.Goals as goal

-- a name that has no place was not seen
pub add-requires-clause-room : goal.add-requires-clause-room
add-requires-clause-room c = c.requires.room (grind (arith, any-position (bytes_eq c.args.name.now) c.args.self.now))

-- one that has a place was
pub returns-in-Some-clause-seen : goal.returns-in-Some-clause-seen
returns-in-Some-clause-seen c = grind (arith, any-position (bytes_eq c.args.name.now) c.args.self.now)
