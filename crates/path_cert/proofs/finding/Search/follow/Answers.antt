use Rattle.std.proofs.Common.{ℕ, ◌<◌, ◌≤◌, ◌∷◌, [], List, length, map, take, sym, ap, subst, ◌∙◌, arith}
use Rattle.std.specs.Option.{is_some, option_and_then}
use Rattle.std.proofs.lemmas.List.{map-append}
use Rattle.graph_meaning.specs.Heap.{edges_of, edge_of}
use Rattle.graph_meaning.specs.Roles.{id_at}
use Rattle.object_table.specs.Placed.{id_in, slots_in, slot_in}
use Rattle.path_cert.specs.Quests.{Reaches, remaining}
use Rattle.path_cert.specs.Searches.{sought_in}
use Rattle.graph_meaning.proofs.EdgesOfSlots.{edges-edge, edges-none, edges-all}
use Rattle.object_table.proofs.ObjectsByCell.{edges-cell, target-held, no-edge, edge-within, edge-leads, edge-in_a_cell}
use Rattle.path_cert.proofs.HeldObjects.{held-id}
use Rattle.path_cert.proofs.QuestSteps.{Reaches-more}
use Rattle.path_cert.proofs.finding.Search.follow.Goals as goal
use Rattle.path_cert.proofs.finding.Search.follow.Goals.{in-Some+in_ok-meet, in_default}

pub loop-slot-preserved : goal.loop-slot-preserved
loop-slot-preserved c =
    let p = c.args.table.now in
    let r = c.args.roles.now in
    let slot = c.loop-slot.slot in
    let slots = slots_in c.args.table.now c.args.cell in
    let edges = c.edges_at-edges.result in
    let are = c.edges_at-edges.ensures.edges in
    let within : c.loop-slot.slot < length edges = omega (arith, c.len-slot-end.ensures.count, c.loop-slot-test.true) in
    let slot_within = edge-within p c.args.cell edges are slot within in
    let leads = edge-leads p c.args.cell edges are slot within c.at.result c.at.ensures in
    let in_a_cell = edge-in_a_cell p c.args.cell edges are slot within c.at.result c.at.ensures in
    let was = c.loop-slot.invariant in
    let begun = sought_in c.args.self.now in
    let now = sought_in c.loop-slot.self in
    let ends = λ (es : List (ℕ × ℕ)). map (λ e. e.1) es in
    elim c.match-at.branch [
      | in-Some+in_ok-meet w ↦
          let held =
          target-held p w.in-Some.target (edge_of (slot_in p c.args.cell slot))
          (sym (ap (option_and_then (id_in p)) w.in-Some.is) ∙ leads)
          (sym (ap is_some w.in-Some.is) ∙ in_a_cell) in
          let more =
          Reaches-more p c.requires.placed r (ends (edges_of (take slot slots))) w.in-Some.target held.0 begun now (sought_in w.meet.new.self) was.reaches held.1 w.in_ok-meet.ensures.meets in
          let edges_more = ap ends (edges-edge slots slot held.0 slot_within held.2) ∙ map-append (λ (e : ℕ × ℕ). e.1) (edges_of (take slot slots)) ((slot, held.0) ∷ []) in
          let fewer = subst (λ n. remaining n (sought_in w.meet.new.self) ≤ remaining n now) c.requires.roles w.in_ok-meet.ensures.remaining in
          rw w.self-is (record {
            each = w.meet.ensures.each ∙ was.each;
            reaches = subst (λ ys. Reaches (record { placed = p; roles = r }) ys begun (sought_in w.meet.new.self)) (sym edges_more) more;
            fewer = omega (arith, fewer, was.fewer);
          })
      | in_default w ↦
          let none = no-edge (edge_of (slot_in p c.args.cell slot)) (sym (sym (ap is_some w.in_default.is) ∙ in_a_cell)) in
          rw w.self-is (record {
            each = was.each;
            reaches = subst (λ es. Reaches (record { placed = p; roles = r }) (ends es) begun now) (sym (edges-none slots slot slot_within none)) was.reaches;
            fewer = was.fewer;
          })
    ]

pub returns-clause-reaches : goal.returns-clause-reaches
returns-clause-reaches c =
    let p = c.args.table.now in
    let slots = slots_in c.args.table.now c.args.cell in
    let all =
    edges-all slots c.loop-slot.slot (omega (arith, c.edges_at-edges.ensures.edges.count, c.len-slot-end.ensures.count, c.loop-slot-test.false, c.loop-slot.auto.slot-end))
    ∙ sym (edges-cell p c.args.cell (id_at p.cells c.args.cell) (held-id p c.args.cell c.requires.cell)) in
    subst (λ (es : List (ℕ × ℕ)). Reaches (record { placed = p; roles = c.args.roles.now }) (map (λ e. e.1) es) (sought_in c.args.self.now) (sought_in c.loop-slot.self)) all
    c.loop-slot.invariant.reaches
