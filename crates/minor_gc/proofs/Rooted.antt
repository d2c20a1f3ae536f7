-- A nursery by its objects and cells alone: roots and types are no matter to it.
use Rattle.std.proofs.Common.{◌≡◌, ℕ, List, Option, None, Some, refl, sym, subst}
use Rattle.graph_meaning.specs.Heap.{Table}
use Rattle.graph_meaning.specs.Step.{with_root}
use Rattle.object_table.specs.Placed.{PlacedTable}
use Rattle.minor_gc.specs.Generations.{remembered_set}
use Rattle.minor_gc.specs.Nurseries.{NurseryParts, IsNursery}

-- The same objects stand in the same cells, and the greatest id is the same.
pub record SameObjects (before after : PlacedTable) : Type 0 where
  pub objects : after.table.objects ≡ before.table.objects
  pub greatest : after.table.greatest ≡ before.table.greatest
  pub cells : after.cells ≡ before.cells

-- the objects of one table with the roots and types of another
abbrev with_roots : PlacedTable → Table → PlacedTable
with_roots p t = record { table = record t { objects = p.table.objects; greatest = p.table.greatest }; cells = p.cells }

other_roots : (n : NurseryParts) (t : Table) → IsNursery n → IsNursery (record n { placed = with_roots n.placed t })
unfolding remembered_set
other_roots n t is = record {
  greatest = is.greatest;
  old = is.old;
  strong = is.strong;
  stacked = record { full = is.stacked.full; rising = is.stacked.rising };
  each_mark = is.each_mark;
  marks = is.marks;
  idle = is.idle;
  each_count = is.each_count;
  counts = is.counts;
  remembered = is.remembered;
  room = is.room;
}

pub same_nursery : {n : NurseryParts} {p : PlacedTable} → SameObjects n.placed p → IsNursery n → IsNursery (record n { placed = p })
same_nursery {n} {p} same is =
    let table : (with_roots n.placed p.table).table ≡ p.table = λ i. record p.table { objects = sym same.objects i; greatest = sym same.greatest i } in
    let placed : with_roots n.placed p.table ≡ p = λ i. record { table = table i; cells = sym same.cells i } in
    subst (λ (q : PlacedTable). IsNursery (record n { placed = q })) placed (other_roots n p.table is)

pub greatest-with_root : (t : Table) (name : List ℕ) (to : Option ℕ) → (with_root t name to).greatest ≡ t.greatest
unfolding with_root
greatest-with_root t name None = refl
greatest-with_root t name (Some id) = refl
