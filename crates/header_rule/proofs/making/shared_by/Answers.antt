use Rattle.std.proofs.Common.{◌∷◌, refl, ap, ◌∙◌}
use Rattle.std.proofs.lemmas.List.Elements.{All-cons, All-same}
use Rattle.atomic_table.specs.Table.{Me}
use Rattle.header_rule.specs.declared.view.View.{View}
use Rattle.header_rule.specs.Passes.{IsSeated, IsFresh, numbers}
use Rattle.header_rule.proofs.Sharing.{length-numbers, range-first}
use Rattle.header_rule.proofs.making.shared_by.Goals as goal

pub returns : goal.returns
returns c =
    let workers = c.args.workers in
    let shared = c.in_ok-shared.shared in
    let rest = c.in_ok-passes.ensures in
    let items = c.in_ok-insert.ensures.items in
    let all = ap numbers items ∙ (ap (λ ns. 0 ∷ ns) rest.numbers ∙ range-first workers c.requires.workers.0) in
    record {
      cells = refl;
      workers = refl;
      count = length-numbers _ 0 workers all;
      passes = (All-same (IsSeated shared workers) _ _ items (All-cons (IsSeated shared workers) _ _ (rest.table, refl) rest.passes), all);
      fresh = All-same IsFresh _ _ items (All-cons IsFresh _ _ record {
        left = refl;
        adds = ap (λ (m : Me (Unit {0}) View). m.0.adds) rest.seat;
        wins = ap (λ (m : Me (Unit {0}) View). m.0.wins) rest.seat;
        marks = ap (λ (m : Me (Unit {0}) View). m.0.marks) rest.seat;
      } rest.fresh);
    }
