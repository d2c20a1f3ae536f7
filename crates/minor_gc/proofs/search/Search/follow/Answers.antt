use Rattle.std.proofs.Common.{ℕ, ◌<◌, ◌∷◌, [], List, length, map, take, sym, ap, subst, ◌∙◌, arith, None}
use Rattle.std.proofs.lemmas.List.{map-append}
use Rattle.graph_meaning.specs.Heap.{edges_of, edge_of}
use Rattle.graph_meaning.specs.Roles.{id_at}
use Rattle.object_table.specs.Placed.{slots_in, slot_in}
use Rattle.graph_meaning.proofs.EdgesOfSlots.{edges-edge, edges-none, edges-all}
use Rattle.object_table.proofs.ObjectsByCell.{edges-cell, no-edge, held-id, held-within, edge-within, edge-in_a_cell, edge-target}
use Rattle.minor_gc.specs.Marks.{MarksAll}
use Rattle.minor_gc.specs.Searches.{marks_of}
use Rattle.minor_gc.proofs.Marking.{MeetsCell, Meets-none, Meets-more}
use Rattle.minor_gc.proofs.search.Search.follow.Goals as goal
use Rattle.minor_gc.proofs.search.Search.follow.Goals.{in-Some, in_default}

pub loop-slot-preserved : goal.loop-slot-preserved
loop-slot-preserved c =
    let p = c.args.table.now in
    let slot = c.loop-slot.slot in
    let slots = slots_in c.args.table.now c.args.cell in
    let edge = edge_of (slot_in p c.args.cell slot) in
    let edges = c.edges_at-edges.result in
    let are = c.edges_at-edges.ensures.edges in
    let edge_within : c.loop-slot.slot < length edges = omega (arith, c.len-slot-end.ensures.count, c.loop-slot-test.true) in
    let slot_within = edge-within p c.args.cell edges are slot edge_within in
    let was = c.loop-slot.invariant in
    let ends = λ (es : List (ℕ × ℕ)). map (λ e. e.1) es in
    elim c.match-at.branch [
      | in-Some w ↦
          let held = edge-target p c.args.cell edges are slot edge_within w.in-Some.target (c.at.ensures ∙ w.in-Some.is) in
          let met : MeetsCell p w.in-Some.target held.0 (marks_of c.loop-slot.self) (marks_of w.meet.new.self) = record {
            held = held.1;
            each = was.meets.each ∙ c.requires.each;
            marks = w.meet.ensures.marks;
            work = w.meet.ensures.work;
          } in
          let edges_more = ap ends (edges-edge slots slot held.0 slot_within held.2) ∙ map-append (λ (e : ℕ × ℕ). e.1) (edges_of (take slot slots)) ((slot, held.0) ∷ []) in
          rw w.self-is (record {
            meets = subst (λ ys. MarksAll p ys (marks_of c.args.self.now) (marks_of w.meet.new.self)) (sym edges_more) (Meets-more c.requires.placed was.meets met);
            left = omega (arith, was.left, w.meet.ensures.left);
          })
      | in_default w ↦
          let none = no-edge edge (sym (edge-in_a_cell p c.args.cell edges are slot edge_within None (c.at.ensures ∙ w.in_default.is))) in
          rw w.self-is (record {
            meets = subst (λ es. MarksAll p (ends es) (marks_of c.args.self.now) (marks_of c.loop-slot.self)) (sym (edges-none slots slot slot_within none)) was.meets;
            left = was.left;
          })
    ]

pub loop-slot-init : goal.loop-slot-init
loop-slot-init c = record { meets = Meets-none c.args.table.now (marks_of c.args.self.now); left = omega arith }

pub returns-clause-meets : goal.returns-clause-meets
returns-clause-meets c =
    let p = c.args.table.now in
    let slots = slots_in c.args.table.now c.args.cell in
    let all =
    edges-all slots c.loop-slot.slot (omega (arith, c.edges_at-edges.ensures.edges.count, c.len-slot-end.ensures.count, c.loop-slot-test.false, c.loop-slot.auto.slot-end))
    ∙ sym (edges-cell p c.args.cell (id_at p.cells c.args.cell) (held-id p c.args.cell c.requires.cell)) in
    subst (λ (es : List (ℕ × ℕ)). MarksAll p (map (λ e. e.1) es) (marks_of c.args.self.now) (marks_of c.loop-slot.self)) all c.loop-slot.invariant.meets

pub meet-requires : goal.meet-requires
meet-requires c =
    let p = c.args.table.now in
    let edge_within : c.loop-slot.slot < length c.edges_at-edges.result = omega (arith, c.len-slot-end.ensures.count, c.loop-slot-test.true) in
    let held = edge-target p c.args.cell c.edges_at-edges.result c.edges_at-edges.ensures.edges c.loop-slot.slot edge_within c.in-Some.target (c.at.ensures ∙ c.in-Some.is) in
    omega (arith, held-within p c.in-Some.target held.0 held.1, c.loop-slot.invariant.meets.each, c.requires.each)
