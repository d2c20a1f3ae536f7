use Rattle.std.proofs.Common.{◌≡◌, ℕ, ◌<◌, length, get_or, ap, sym, false, ◌==◌, arith}
use Rattle.std.proofs.lemmas.List.Folds.{length-flat_map-take}
use Rattle.std.specs.Prelude.{vec_len}
use Rattle.parked_crew.proofs.task_rounds.has_tasks.Goals as goal

pub returns-then-not-is_empty : goal.returns-then-not-is_empty
returns-then-not-is_empty g c =
    let xs = c.args.shares.now in
    let x = c.share-item.result in
    let i : ℕ = c.loop-share.share-index in
    let all = length-flat_map-take (λ p. p.list.items) xs i x c.loop-share-test.true in
    let is : length (get_or xs i x).list.items ≡ length x.list.items = ap (λ p. length p.list.items) (sym c.share-item.is) in
    let some : false ≡ (vec_len x.list == 0) = c.if-not-is_empty.ensures in
    let ok = x.list.ok.0 in
    let more : 0 < vec_len x.list = grind (arith, some) in
    omega arith
