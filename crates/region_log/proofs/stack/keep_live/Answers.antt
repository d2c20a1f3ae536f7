use Rattle.std.proofs.Common.{◌≡◌, ◌<◌, List, ℕ, length, get_or, refl, sym, ap, ◌∙◌, subst, arith}
use Rattle.graph_meaning.specs.Heap.{is_live}
use Rattle.region_log.specs.Regions.{start_kept}
use Rattle.region_log.proofs.Fronts.{map_first-none, get_or-map_first, length-map_first, turn, all_turned}
use Rattle.region_log.proofs.Stacks.{FiltersInPlace-count}
use Rattle.region_log.proofs.stack.keep_live.Goals as goal
use Rattle.region_log.proofs.stack.keep_live.Goals.{In-loop-start}

pub loop-start-init : goal.loop-start-init
loop-start-init c = record {
  filtered = record { front = refl; rest = refl; behind = omega arith; within = omega arith; long = refl };
  moved = sym (map_first-none (start_kept (is_live c.args.table.now.table) c.args.ids.now) c.args.starts.now);
  ahead = λ k after here. omega arith;
}

module _ (c : In-loop-start) where
  abbrev moved_start : ℕ → ℕ
  moved_start = start_kept (is_live c.args.table.now.table) c.args.ids.now

  inside : c.loop-start.start-index < length c.args.starts.now
  inside = subst (λ k. c.loop-start.start-index < k) (ap length c.loop-start.invariant.moved ∙ length-map_first moved_start c.loop-start.start-index c.args.starts.now) (omega arith)

  -- a start that wasn't passed is as it was
  as_before : get_or c.loop-start.starts c.loop-start.start-index 0 ≡ get_or c.args.starts.now c.loop-start.start-index 0
  as_before = ap (λ (l : List ℕ). get_or l c.loop-start.start-index 0) c.loop-start.invariant.moved ∙ get_or-map_first moved_start c.loop-start.start-index c.args.starts.now 0

pub move_live-kept-requires-clause-order : goal.move_live-kept-requires-clause-order
move_live-kept-requires-clause-order c =
    let at = (goal.at.move_live-kept-requires-clause-order c).In-loop-start in
    omega (arith, c.loop-start.invariant.ahead c.loop-start.start-index (omega arith) (inside at), as_before at)

pub move_live-kept-requires-clause-within : goal.move_live-kept-requires-clause-within
move_live-kept-requires-clause-within c =
    let at = (goal.at.move_live-kept-requires-clause-within c).In-loop-start in
    omega (arith, c.loop-start.invariant.filtered.long, c.requires.within c.loop-start.start-index 0 (inside at), as_before at)

pub loop-start-preserved : goal.loop-start-preserved
loop-start-preserved c =
    let n = c.loop-start.start-index in
    let i = c.loop-start.invariant in
    let same = as_before (goal.at.loop-start-preserved c).In-loop-start in
    let filtered = c.move_live-kept.ensures c.args.ids.now i.filtered in
    record {
      filtered = filtered;
      moved =
          turn (start_kept (is_live c.args.table.now.table) c.args.ids.now) n c.args.starts.now c.loop-start.starts c.move_live-kept.result 0 i.moved (omega arith)
          (FiltersInPlace-count filtered);
      ahead = λ k after here. omega (arith, c.requires.rising n k 0 (omega arith) here, same);
    }

pub returns-clause-starts : goal.returns-clause-starts
returns-clause-starts c =
    all_turned (start_kept (is_live c.args.table.now.table) c.args.ids.now) c.loop-start.start-index c.args.starts.now c.loop-start.starts c.loop-start.invariant.moved (omega arith)
