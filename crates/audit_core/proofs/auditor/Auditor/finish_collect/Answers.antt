use Rattle.std.proofs.Common.{◌≡◌, ◌+◌, false, length, sym, ap, subst, ◌∙◌}
use Rattle.std.specs.Prelude.{slice_index_or}
use Rattle.std.specs.Option.{is_some}
use Rattle.graph_meaning.specs.Collecting.{Rules, all_verdicts, collection_counted, first_with_paths}
use Rattle.object_table.specs.Placed.{PlacedTable}
use Rattle.assert_registry.specs.Laws.{StandFor}
use Rattle.heap_marking.specs.Traces.{IsTraceOf}
use Rattle.verdict_list.specs.Counts.{counted_in}
use Rattle.audit_core.specs.Verdicts.{counts_of}
use Rattle.heap_parts.specs.Parts.{PlacedHeap, placed_in}
use Rattle.audit_core.specs.Audit.{Audit, AreItsRoles, audit_table, rules_with, next_counted, after_next}
use Rattle.verdict_list.proofs.Collected.{found_by}
use Rattle.audit_core.proofs.Collected.{left_by}
use Rattle.audit_core.proofs.auditor.Auditor.finish_collect.Goals as goal
use Rattle.audit_core.proofs.auditor.Auditor.finish_collect.Goals.{After-as_ref}

pub finish-swept-requires-clause-kept : goal.finish-swept-requires-clause-kept
finish-swept-requires-clause-kept c =
    let q : PlacedHeap = c.self.inside.parts in
    let t = c.args.traced.now in
    let trace : IsTraceOf (placed_in q) q.heap t = subst (λ (a : Audit). IsTraceOf (audit_table a) a.heap t) (sym c.self.view_is) c.requires.trace in
    record {
      each = ap length c.kept.ensures ∙ trace.each;
      tell = λ cell id held. ap (λ flags. slice_index_or flags cell false) c.kept.ensures ∙ trace.kept cell id held;
    }

-- What is known before the sweep, of the auditor by its parts.
module _ (c : After-as_ref) where
  abbrev parts : PlacedHeap
  parts = c.self.inside.parts

  abbrev rules : Rules
  rules = rules_with c.self.inside.paths c.self.inside.force

  abbrev before : Audit
  before = record {
    heap = c.self.inside.parts.heap;
    cells = c.self.inside.parts.cells;
    rules = rules_with c.self.inside.paths c.self.inside.force;
    collections = c.self.inside.collections;
    violations = c.self.inside.violations;
  }

  whole : before ≡ c.args.self.now
  whole = c.self.view_is

  trace : IsTraceOf (placed_in parts) parts.heap c.args.traced.now
  trace = subst (λ (a : Audit). IsTraceOf (audit_table a) a.heap c.args.traced.now) (sym whole) c.requires.trace

  verdicts : c.in_ok-verdicts.verdicts ≡ first_with_paths rules.paths (all_verdicts (counted_in c.table-table.result.now (counts_of c.args.traced.now)) parts.heap)
  verdicts =
      let is : c.table-table.result.now ≡ placed_in c.self.inside.parts = c.table-table.ensures in
      let roles : AreItsRoles before c.args.roles.now = subst (λ (a : Audit). AreItsRoles a c.args.roles.now) (sym whole) c.requires.roles in
      c.in_ok-verdicts.ensures.verdicts parts.heap (subst (λ (x : PlacedTable). StandFor x c.args.roles.now parts.heap) (sym is) roles.of_heap)
      (subst (λ (x : PlacedTable). IsTraceOf x parts.heap c.args.traced.now) (sym is) trace)

  force : rules.force ≡ is_some c.as_ref.result
  force = ap (λ (a : Audit). a.rules.force) whole ∙ sym c.in_ok-to_clear.ensures.force ∙ sym c.as_ref.ensures.variant

pub returns-clause-found : goal.returns-clause-found
returns-clause-found c =
    let known = (goal.at.returns-clause-found c).After-as_ref in
    let t = c.args.traced.now in
    let number = c.self.inside.collections + 1 in
    let is : c.table-table.result.now ≡ placed_in c.self.inside.parts = c.table-table.ensures in
    found_by (counted_in c.table-table.result.now (counts_of t)) (parts known).heap (rules known) number c.live-live.result c.traced.result c.finish-swept.result.freed
    c.finish-swept.result.cleared c.in_ok-verdicts.verdicts (c.live-live.ensures.count ∙ ap (λ (x : PlacedTable). length x.table.objects) is)
    (c.traced.ensures ∙ (trace known).traced)
    c.finish-swept.ensures.freed (c.finish-swept.ensures.cleared (rules known) (force known)) (verdicts known)
    ∙ ap (λ (x : PlacedTable). collection_counted (counted_in x (counts_of t)) (rules known) number (parts known).heap) is
    ∙ ap (next_counted t) (whole known)

pub returns-clause-after : goal.returns-clause-after
returns-clause-after c =
    let known = (goal.at.returns-clause-after c).After-as_ref in
    let cells = c.finish-swept.new.self.cells in
    left_by (counted_in c.table-table.result.now (counts_of c.args.traced.now)) (before known) cells c.finish-swept.new.self.heap c.in_ok-violations.violations
    c.in_ok-verdicts.verdicts (c.finish-swept.ensures.left (rules known) (force known)) c.in_ok-violations.ensures.total (verdicts known)
    ∙ ap (λ (a : Audit). record (after_next a) { cells = cells }) (whole known)
