use Rattle.std.proofs.Common.{◌≡◌, ℕ, ◌-◌, ◌+◌, length, drop, sym, ap, ◌∙◌, arith}
use Rattle.std.proofs.Math.Seq.{drop-append-add}
use Rattle.std.proofs.lemmas.List.{take_all, length-drop}
use Rattle.parked_crew.specs.Shares.{queue}
use Rattle.parked_crew.proofs.task_share.JobShare.left.Goals as goal

pub returns : goal.returns
returns g c =
    let p = c.args.self.now in
    let n : ℕ = p.done - c.len.result in
    let len = c.len.ensures in
    let ok = p.list.ok in
    let whole = c.requires.0 in
    let same : length p.list.items + n ≡ p.done = omega arith in
    take_all _ (drop n c.tasks.result.now) (omega (arith, length-drop n c.tasks.result.now))
    ∙ (ap (λ ts. drop n ts) c.tasks.ensures ∙ (sym (drop-append-add p.list.items p.out.tasks n) ∙ ap (λ (k : ℕ). drop k (queue p)) same))
