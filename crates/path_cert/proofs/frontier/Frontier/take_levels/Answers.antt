use Rattle.std.proofs.Common.{◌≡◌, suc, ◌+◌, ◌-◌, length, subst, arith}
use Rattle.path_cert.specs.Frontiers.{IsAtLevel, GoesUpTo}
use Rattle.path_cert.specs.Fronts.{front_of}
use Rattle.path_cert.proofs.LevelSteps.{at-next, levels-done}
use Rattle.path_cert.proofs.NextLevel.{begins-level, order-within}
use Rattle.path_cert.proofs.frontier.Frontier.take_levels.Goals as goal

pub take_level-requires-clause-safe : goal.take_level-requires-clause-safe
take_level-requires-clause-safe c =
    begins-level c.args.table.now c.loop-from.level (front_of c.loop-from.self) c.loop-from.invariant.safe

pub loop-from-preserved : goal.loop-from-preserved
loop-from-preserved c =
    let p = c.args.table.now in
    let f = front_of c.loop-from.self in
    let h = front_of c.take_level.new.self in
    let was = c.loop-from.invariant in
    let early = was.early in
    let low = was.low in
    let one : c.loop-from.level ≡ suc (c.loop-from.level - 1) = omega arith in
    let two : c.loop-from.level + 1 ≡ suc (suc (c.loop-from.level - 1)) = omega arith in
    let next : suc (c.loop-from.level - 1) ≡ (c.loop-from.level + 1) - 1 = omega arith in
    let to : length c.loop-from.self.order.items ≡ c.len-to.result = omega arith in
    let longer = order-within p f h c.take_level.ensures.grows in
    let up_to = subst (λ n. GoesUpTo p n f) one was.safe in
    record {
      early = omega arith;
      low = omega arith;
      within = omega arith;
      safe = c.take_level.ensures.safe.up_to;
      levels = λ s by_cell begun.
          let then =
          at-next p c.requires.placed c.requires.sound.ids.rising s c.args.shut.now by_cell (c.loop-from.level - 1) (c.loop-from.level + 1) two
          f c.loop-from.from (was.levels s by_cell begun) up_to h c.take_level.ensures.arrivals c.take_level.ensures.grows in
          subst (λ place. IsAtLevel (record { placed = p; search = s }) ((c.loop-from.level + 1) - 1) h place) to
          (subst (λ n. IsAtLevel (record { placed = p; search = s }) n h (length f.order)) next then);
    }

pub returns : goal.returns
returns c =
    let p = c.args.table.now in
    let f = front_of c.loop-from.self in
    let was = c.loop-from.invariant in
    record {
      levels = λ s by_cell begun.
          levels-done p c.requires.placed c.requires.sound.ids.rising s (c.loop-from.level - 1) f c.loop-from.from (was.levels s by_cell begun) (omega arith) was.safe.each;
    }
