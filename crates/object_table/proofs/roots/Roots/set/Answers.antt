use Rattle.object_table.proofs.Named.{IsOrdered-insert, set_is, insert_is, lookup_none, OnErr-always}
use Rattle.object_table.proofs.roots.Roots.set.Goals as goal

-- only a new name takes memory
pub returns-in_err-name-in-Err-clause-memory : goal.returns-in_err-name-in-Err-clause-memory
returns-in_err-name-in-Err-clause-memory c = OnErr-always _ (lookup_none c.args.self.now c.args.name.now c.in-Err.place c.in-Err.ensures.in_range c.in-Err.ensures.gap)

pub returns-in_err-insert-in-Err-clause-memory : goal.returns-in_err-insert-in-Err-clause-memory
returns-in_err-insert-in-Err-clause-memory c = OnErr-always _ (lookup_none c.args.self.now c.args.name.now c.in-Err.place c.in-Err.ensures.in_range c.in-Err.ensures.gap)

-- a new name goes into the gap for it
pub insert-requires-clause-room : goal.insert-requires-clause-room
insert-requires-clause-room c =
    let none = lookup_none c.args.self.now c.args.name.now c.in-Err.place c.in-Err.ensures.in_range c.in-Err.ensures.gap in
    rw c.self.view_is (c.requires none)

pub invariant_of-self-in-Err : goal.invariant_of-self-in-Err
invariant_of-self-in-Err c =
    let none = lookup_none c.args.self.now c.args.name.now c.in-Err.place c.in-Err.ensures.in_range c.in-Err.ensures.gap in
    rw (c.in_ok-insert-in-Err.ensures.inserted, c.make.ensures, c.in_ok-name-in-Err.ensures, c.number-number.ensures.value, c.self.view_is)
    (IsOrdered-insert c.args.self.now c.args.name.now c.in-Err.place c.args.id c.in-Err.ensures.ordered c.in-Err.ensures.in_range
    c.in-Err.ensures.gap (c.requires none))

pub returns-in_ok-insert-in-Err-clause-set : goal.returns-in_ok-insert-in-Err-clause-set
returns-in_ok-insert-in-Err-clause-set c =
    rw (c.in_ok-insert-in-Err.ensures.inserted, c.make.ensures, c.in_ok-name-in-Err.ensures, c.number-number.ensures.value, c.self.view_is)
    (insert_is c.args.self.now c.args.name.now c.in-Err.place c.args.id c.in-Err.ensures.in_range c.in-Err.ensures.gap)

-- a name that is there stays, and holds the object
pub returns-in-Ok-clause-set : goal.returns-in-Ok-clause-set
returns-in-Ok-clause-set c =
    set_is c.args.self.now c.set_number.new.self c.args.name.now c.in-Ok.place c.args.id c.in-Ok.ensures.ordered c.in-Ok.ensures.in_range c.in-Ok.ensures.found
    (rw (c.number-number.ensures.value, c.self.view_is) at c.set_number.ensures)
