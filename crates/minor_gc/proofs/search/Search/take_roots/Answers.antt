use Rattle.std.proofs.Common.{◌≡◌, ℕ, [], List, Some, map, take_all, get_or, sym, subst, ◌∙◌, arith}
use Rattle.std.proofs.lemmas.List.{map_more}
use Rattle.std.proofs.lemmas.Option.{slice_get-get_or}
use Rattle.object_table.specs.Placed.{id_in}
use Rattle.object_table.proofs.ObjectsByCell.{held-within}
use Rattle.minor_gc.specs.Marks.{MarksAll}
use Rattle.minor_gc.specs.Searches.{marks_of}
use Rattle.minor_gc.proofs.Marking.{MeetsCell, Meets-none, Meets-more}
use Rattle.minor_gc.proofs.search.Search.take_roots.Goals as goal
use Rattle.minor_gc.proofs.search.Search.take_roots.Goals.{After-root_cell}

-- what stands for a root past the last
nobody : List ℕ × ℕ
nobody = ([], 0)

-- a root names the object in its cell
module _ (c : After-root_cell) where
  abbrev id : ℕ
  id = (get_or c.args.table.now.table.roots c.loop-root.root nobody).1

  in_cell : id_in c.args.table.now c.root_cell.result ≡ Some id
  in_cell = rw (slice_get-get_or c.args.table.now.table.roots c.loop-root.root nobody (omega arith)) at c.root_cell.ensures.cell

pub loop-root-init : goal.loop-root-init
loop-root-init c = Meets-none c.args.table.now (marks_of c.args.self.now)

pub meet-requires : goal.meet-requires
meet-requires c =
    omega (arith, held-within c.args.table.now c.root_cell.result (id c) (in_cell c), c.loop-root.invariant.each, c.requires.each)

pub loop-root-preserved : goal.loop-root-preserved
loop-root-preserved c =
    let p = c.args.table.now in
    let b = (goal.at.loop-root-preserved c).After-root_cell in
    let met : MeetsCell p c.root_cell.result (id b) (marks_of c.loop-root.self) (marks_of c.meet.new.self) = record {
      held = in_cell b;
      each = c.loop-root.invariant.each ∙ c.requires.each;
      marks = c.meet.ensures.marks;
      work = c.meet.ensures.work;
    } in
    subst (λ ys. MarksAll p ys (marks_of c.args.self.now) (marks_of c.meet.new.self))
    (sym (map_more (λ (r : List ℕ × ℕ). r.1) p.table.roots c.loop-root.root nobody (omega arith)))
    (Meets-more c.requires.placed c.loop-root.invariant met)

pub returns : goal.returns
returns c =
    let p = c.args.table.now in
    subst (λ (rs : List (List ℕ × ℕ)). MarksAll p (map (λ r. r.1) rs) (marks_of c.args.self.now) (marks_of c.loop-root.self))
    (take_all c.loop-root.root p.table.roots (omega arith))
    c.loop-root.invariant
