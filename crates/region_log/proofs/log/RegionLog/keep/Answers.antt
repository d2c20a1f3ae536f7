use Rattle.std.proofs.Common.{◌≡◌, ℕ, Bool, map, length, sym, ap, ◌∙◌, subst, arith}
use Rattle.std.specs.Vec.{with_items}
use Rattle.std.proofs.lemmas.List.{with_items_is}
use Rattle.graph_meaning.specs.Heap.{is_live}
use Rattle.region_log.specs.Regions.{AreThreads, region_table, table_with_ids, thread_with_ids}
use Rattle.region_log.proofs.Fronts.{map_first-none, turn, all_turned}
use Rattle.region_log.proofs.Tables.{region_table-kept, AreThreads-kept}
use Rattle.region_log.proofs.log.RegionLog.keep.Goals as goal
use Rattle.region_log.proofs.log.RegionLog.keep.Goals.{After-loop-stack}

pub loop-stack-init : goal.loop-stack-init
loop-stack-init c = sym (map_first-none (thread_with_ids (is_live c.args.table.now.table)) c.deref_mut-stack-items.result.now)

pub loop-stack-preserved : goal.loop-stack-preserved
loop-stack-preserved c =
    let ys = c.loop-stack.stack-items in
    let same = c.loop-stack.auto.stack-items in
    let here = c.loop-stack-test.true in
    turn (thread_with_ids (is_live c.args.table.now.table)) c.loop-stack.stack-index c.deref_mut-stack-items.result.now ys c.keep.new.self
    c.stack-item.result c.loop-stack.invariant (omega arith) c.keep.ensures

module _ (c : After-loop-stack) where
  abbrev live : ℕ → Bool
  live = is_live c.args.table.now.table

  -- each stack has its live ids alone
  changed : (with_items c.self.inside.threads c.loop-stack.stack-items).items ≡ map (thread_with_ids live) c.self.inside.threads.items
  changed =
      let same = c.loop-stack.auto.stack-items in
      let end = c.loop-stack-test.false in
      with_items_is c.self.inside.threads c.loop-stack.stack-items (omega (arith, c.self.inside.threads.ok.0, ap length c.deref_mut-stack-items.ensures.value))
      ∙ (all_turned (thread_with_ids live) c.loop-stack.stack-index c.deref_mut-stack-items.result.now c.loop-stack.stack-items c.loop-stack.invariant (omega arith)
      ∙ ap (map (thread_with_ids live)) c.deref_mut-stack-items.ensures.value)

pub invariant_of-self : goal.invariant_of-self
invariant_of-self c =
    subst AreThreads (sym (changed (goal.at.invariant_of-self c).After-loop-stack))
    (AreThreads-kept (is_live c.args.table.now.table) c.self.inside.threads.items c.self.invariant)

pub returns : goal.returns
returns c =
    let p = is_live c.args.table.now.table in
    ap region_table (changed (goal.at.returns c).After-loop-stack)
    ∙ (region_table-kept p c.self.inside.threads.items ∙ ap (table_with_ids p) c.self.view_is)
