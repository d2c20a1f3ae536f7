use Rattle.std.proofs.Common.{refl, ◌∙◌}
use Rattle.graph_meaning.specs.Roles.{id_at}
use Rattle.object_table.proofs.ObjectsByCell.{held-id}
use Rattle.minor_gc.specs.Marks.{Marks}
use Rattle.minor_gc.specs.Searches.{marks_of}
use Rattle.minor_gc.proofs.Marking.{Follows, Meets-held, searching-step, in_front, is_last}
use Rattle.minor_gc.proofs.search.Search.run.Goals as goal

pub follow-requires-clause-cell : goal.follow-requires-clause-cell
follow-requires-clause-cell c = c.loop-cell.invariant.work c.in-Some.cell (is_last c.loop-cell.self.work.items c.pop.new.self.items c.in-Some.cell c.in-Some.ensures.items)

pub loop-cell-preserved : goal.loop-cell-preserved
loop-cell-preserved c =
    let p = c.args.table.now in
    let s = marks_of c.loop-cell.self in
    let popped : Marks = record { marks = c.loop-cell.self.marks.items; work = c.pop.new.self.items } in
    let cell = c.in-Some.cell in
    let was = c.loop-cell.invariant in
    let items = c.in-Some.ensures.items in
    let held = held-id p cell (was.work cell (is_last s.work popped.work cell items)) in
    let meets = c.follow.ensures.meets in
    let follows : Follows p cell (id_at p.cells cell) s (marks_of c.follow.new.self) = record { taken = popped; held = held; marks = refl; work = items; meets = meets } in
    record {
      each = meets.each ∙ was.each;
      work = Meets-held meets (λ x waits. was.work x (in_front s.work popped.work cell x items waits));
      searching = λ q e is begun. searching-step e c.requires.placed is (was.searching q e is begun) follows;
    }
