use Rattle.std.proofs.Common.{◌≡◌, ℕ, List, Option, Result, Ok, Err, OnOk, OnErr, ap, ◌∙◌}
use Rattle.graph_meaning.specs.declared.refusal.Stop.{Stop}
use Rattle.graph_meaning.specs.Heap.{Table}
use Rattle.graph_meaning.specs.Step.{with_root}
use Rattle.graph_meaning.proofs.HeapLemmas.{objects-with_root}
use Rattle.object_table.specs.Placed.{PlacedTable}
use Rattle.minor_gc.proofs.Rooted.{SameObjects, same_nursery, greatest-with_root}
use Rattle.minor_gc.proofs.nursery.Nursery.set_root.Goals as goal

-- whatever the answer, objects and the greatest id are as they were
objects_stay : (r : Result (Unit {0}) Stop) (p q : PlacedTable) (name : List ℕ) (to : Option ℕ) →
    OnOk r (q.table ≡ with_root p.table name to) → OnErr r (q ≡ p) → q.cells ≡ p.cells → SameObjects p q
objects_stay (Ok x) p q name to set err cells = record {
  objects = ap (λ (t : Table). t.objects) set ∙ objects-with_root p.table name to;
  greatest = ap (λ (t : Table). t.greatest) set ∙ greatest-with_root p.table name to;
  cells = cells;
}
objects_stay (Err e) p q name to set err cells = record {
  objects = ap (λ (r : PlacedTable). r.table.objects) err;
  greatest = ap (λ (r : PlacedTable). r.table.greatest) err;
  cells = cells;
}

pub invariant_of-self : goal.invariant_of-self
invariant_of-self c =
    let set = c.set_root.ensures in
    let stay = objects_stay c.set_root.result c.self.inside.table c.set_root.new.self c.args.name.now c.args.to set.set set.err set.cells in
    same_nursery stay c.self.invariant
