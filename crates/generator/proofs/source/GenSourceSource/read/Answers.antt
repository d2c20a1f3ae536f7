use Rattle.std.proofs.Common.{◌∙◌, ◌≡◌, ◌+◌, ◌-◌, ◌≤◌, ◌++◌, [], length, take, drop, ap, arith, append-nil, length-drop}
use Rattle.std.proofs.lemmas.List.{drop-drop, drop_all, take_all}
use Rattle.generator.proofs.Lists.{moved_on, stays_behind}
use Rattle.generator.proofs.source.GenSourceSource.read.Goals as goal

pub loop-filled-preserved : goal.loop-filled-preserved
loop-filled-preserved c =
    let left = c.args.self.now in
    let was = c.args.into.now in
    let now = c.loop-filled.into in
    let part = c.give-given.new.into in
    let f = c.loop-filled.filled in
    let n = c.give-given.result in
    let inv = c.loop-filled.invariant in
    let gave = c.give-given.ensures in
    let len : length now ≡ length was = c.loop-filled.auto.into in
    let behind : drop f now ≡ drop f was = stays_behind left was now f inv.within inv.moved in
    let mid : take (length now - f) (drop f now) ≡ drop f was = take_all (length now - f) (drop f now) (omega (arith, length-drop f now)) ∙ behind in
    let rest : drop (length now - f) (drop f now) ≡ [] = drop_all (length now - f) (drop f now) (omega (arith, length-drop f now)) in
    let within : f + n ≤ length left = let bound : n ≤ length (drop f left) = rw (← inv.left) gave.within in omega (arith, length-drop f left, inv.within) in
    let moved : part ≡ take n (drop f left) ++ drop n (drop f was) = rw (← inv.left, ← mid) gave.given in
    record {
      room = let bound : n ≤ length (drop f was) = rw (← mid) gave.bound in omega (arith, length-drop f was, inv.room);
      within = within;
      moved = rw (rest, append-nil part) (moved_on left was now part f n within inv.moved moved);
      left = gave.rest ∙ (ap (drop n) inv.left ∙ drop-drop n f left);
    }
