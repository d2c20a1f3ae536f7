use Rattle.object_table.proofs.Housing.{next_some, put_housed, put_is, push_housed, push_is, push_few}
use Rattle.object_table.proofs.cells.Cells.put.Goals as goal

pub at-requires : goal.at-requires
at-requires c = (next_some c.self.inside.pages.cells c.self.inside.first_empty c.in-Some.cell c.self.invariant c.in-Some.is).1

pub put-requires : goal.put-requires
put-requires c = (next_some c.self.inside.pages.cells c.self.inside.first_empty c.in-Some.cell c.self.invariant c.in-Some.is).1

pub invariant_of-self : goal.invariant_of-self
invariant_of-self c =
    rw (c.put.ensures, c.next-self-inside.ensures)
    (put_housed c.self.inside.pages.cells c.self.inside.first_empty c.in-Some.cell c.at.result.now c.args.object c.self.invariant c.in-Some.is
    c.at.ensures)

pub push-requires-clause-few : goal.push-requires-clause-few
push-requires-clause-few c = push_few c.self.inside.pages.cells c.self.inside.first_empty c.self.invariant c.in-None.is (rw (← c.self.view_is) at c.requires.few)

pub invariant_of-self-in-None : goal.invariant_of-self-in-None
invariant_of-self-in-None c =
    rw c.push.ensures
    (push_housed c.self.inside.pages.cells c.self.inside.first_empty c.args.object c.self.invariant c.in-None.is
    (push_few c.self.inside.pages.cells c.self.inside.first_empty c.self.invariant c.in-None.is (rw (← c.self.view_is) at c.requires.few)))

pub returns-in-Some : goal.returns-in-Some
returns-in-Some c = rw (← c.self.view_is, c.put.ensures) (put_is c.self.inside.pages.cells c.self.inside.first_empty c.in-Some.cell c.args.object c.self.invariant c.in-Some.is)

pub returns-in-None : goal.returns-in-None
returns-in-None c = rw (← c.self.view_is, c.push.ensures) (push_is c.self.inside.pages.cells c.self.inside.first_empty c.args.object c.self.invariant c.in-None.is)
