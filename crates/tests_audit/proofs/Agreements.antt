-- What a trace that was made by hand has in common with one of the heap, and that it then is one itself.
use Rattle.std.proofs.Common.{◌≡◌, ℕ, zero, suc, ◌<◌, List, [], ◌∷◌, length, false, get_or, Option, None, Some, subst, sym, ap, ◌∙◌, arith, IsTrue}
use Rattle.std.specs.Prelude.{nat_le, slice_index, slice_index_or}
use Rattle.std.proofs.lemmas.Option.{slice_get_within}
use Rattle.graph_meaning.specs.Heap.{Heap}
use Rattle.header_rule.specs.declared.mark.Mark.TheVariants.{Found, MetByRoots}
use Rattle.header_rule.specs.ClosedWords.{count_in, has_mark_in}
use Rattle.object_table.specs.Placed.{PlacedTable, id_in}
use Rattle.heap_marking.specs.Results.{TraceResult}
use Rattle.heap_marking.specs.Traces.{IsTraceOf}

-- The traces say the same, but for the counts that are two or more.
pub record AgreesWith (s t : TraceResult) : Type 0 where
  pub cells : s.words.cells ≡ t.words.cells
  pub types : length s.instances ≡ length t.instances
  pub kept : s.kept ≡ t.kept
  pub traced : s.traced ≡ t.traced
  pub instances : (kind : ℕ) → kind < length t.instances → slice_index s.instances kind ≡ slice_index t.instances kind
  pub many : (cell : ℕ) → cell < t.words.cells → nat_le 2 (count_in s.words cell) ≡ nat_le 2 (count_in t.words cell)
  pub found : (cell : ℕ) → cell < t.words.cells → has_mark_in Found s.words cell ≡ has_mark_in Found t.words cell
  pub met : (cell : ℕ) → cell < t.words.cells → has_mark_in MetByRoots s.words cell ≡ has_mark_in MetByRoots t.words cell

-- what agrees with a trace of a heap is one
module _ (p : PlacedTable) (h : Heap) (s t : TraceResult) (agrees : AgreesWith s t) (trace : IsTraceOf p h t) where
  held-within : (cells : List (Option ℕ)) (cell id : ℕ) → get_or cells cell None ≡ Some id → cell < length cells
  held-within [] cell id is = absurd cc
  held-within (c ∷ cells) zero id is = omega arith
  held-within (c ∷ cells) (suc cell) id is = let rest = held-within cells cell id is in omega arith

  within : (cell id : ℕ) → id_in p cell ≡ Some id → cell < t.words.cells
  within cell id held = omega (arith, held-within p.cells cell id held, trace.cells)

  pub trace_that_agrees : IsTraceOf p h s
  trace_that_agrees = record {
    cells = agrees.cells ∙ trace.cells;
    each = ap length agrees.kept ∙ trace.each;
    kinds = agrees.types ∙ trace.kinds;
    kept = λ cell id held. ap (λ kept. slice_index_or kept cell false) agrees.kept ∙ trace.kept cell id held;
    empty = λ cell none. ap (λ kept. slice_index_or kept cell false) agrees.kept ∙ trace.empty cell none;
    many = λ cell id held. agrees.many cell (within cell id held) ∙ trace.many cell id held;
    instances = λ kind name is. agrees.instances kind (omega (arith, slice_get_within p.table.kinds kind name is, trace.kinds)) ∙ trace.instances kind name is;
    traced = agrees.traced ∙ trace.traced;
    found = λ cell id held marked. trace.found cell id held (subst IsTrue (agrees.found cell (within cell id held)) marked);
    marked = λ cell id owner held owns leads. subst IsTrue (sym (agrees.found cell (within cell id held))) (trace.marked cell id owner held owns leads);
    met = λ cell id held ownee met. subst IsTrue (sym (agrees.met cell (within cell id held))) (trace.met cell id held ownee met);
  }
