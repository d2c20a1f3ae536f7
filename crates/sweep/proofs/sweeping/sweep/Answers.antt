use Rattle.std.proofs.Common.{◌≡◌, ◌≤◌, ◌-◌, ℕ, List, length, ap, ◌∙◌, subst, sym, arith}
use Rattle.graph_meaning.specs.Heap.{Table, is_live}
use Rattle.graph_meaning.specs.Reach.{has_id}
use Rattle.object_table.specs.Placed.{kept_ids}
use Rattle.sweep.proofs.Kept.{live_is_kept, assertions-kept, regions-kept, length-with_only, sweeps}
use Rattle.sweep.proofs.sweeping.sweep.Goals as goal

pub overflow_sub-result : goal.overflow_sub-result
overflow_sub-result c =
    let before = c.args.table.now.table in
    let left : length c.keep.new.self.table.objects ≤ length before.objects =
    subst (λ (t : Table). length t.objects ≤ length before.objects) (sym c.keep.ensures.kept) (length-with_only (kept_ids c.args.table.now.cells c.args.kept.now) before) in
    omega (arith, c.live-before.ensures, c.live.ensures)

module _ (c : goal.After-live) where
  abbrev kept : List ℕ
  kept = kept_ids c.args.table.now.cells c.args.kept.now

  -- what is live after the sweep is what was kept
  live_after : (id : ℕ) → is_live c.keep.new.self.table id ≡ has_id kept id
  live_after id = ap (λ (t : Table). is_live t id) c.keep.ensures.kept ∙ live_is_kept c.args.table.now c.args.kept.now c.cells.ensures.placed id

pub returns-clause-assertions : goal.returns-clause-assertions
returns-clause-assertions c = c.keep-2.ensures ∙ assertions-kept c.keep.new.self.table (kept c) (live_after c) c.args.registry.now

pub returns-clause-regions : goal.returns-clause-regions
returns-clause-regions c = c.keep-3.ensures ∙ regions-kept c.keep.new.self.table (kept c) (live_after c) c.args.regions.now

pub returns-clause-heap : goal.returns-clause-heap
returns-clause-heap c h traced parts =
    let count : c.live-before.result - c.live.result ≡ length c.args.table.now.table.objects - length c.keep.new.self.table.objects = omega (arith, c.live-before.ensures, c.live.ensures) in
    sweeps h (kept c) traced (record { placed = c.args.table.now; assertions = c.args.registry.now; regions = c.args.regions.now })
    (record { placed = c.keep.new.self; assertions = c.keep-2.new.self; regions = c.keep-3.new.self }) (c.live-before.result - c.live.result) parts
    c.keep.ensures.kept (returns-clause-assertions c) (returns-clause-regions c) count
