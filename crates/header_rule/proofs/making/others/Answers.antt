use Rattle.std.proofs.Common.{arith, ℕ, ◌+◌, ◌-◌, ◌<◌, ◌≤◌, suc, [], ◌∷◌, ◌++◌, sym, refl, ap, ◌∙◌, subst}
use Rattle.std.specs.List.{range_with_len}
use Rattle.std.proofs.lemmas.List.{map-append}
use Rattle.std.proofs.lemmas.List.Elements.{All-push, All-same}
use Rattle.atomic_table.specs.Table.{Me, Splits}
use Rattle.header_rule.specs.declared.view.View.{View}
use Rattle.header_rule.specs.declared.pass.Pass.{Pass}
use Rattle.header_rule.specs.Rule.{KeepsRule, new_view}
use Rattle.header_rule.specs.Steps.{one_right_less}
use Rattle.header_rule.specs.Passes.{IsSeated, IsFresh, numbers}
use Rattle.header_rule.proofs.Moves.{splits}
use Rattle.header_rule.proofs.Sharing.{range-push}
use Rattle.header_rule.proofs.making.others.Goals as goal

pub split_seat-other-requires : goal.split_seat-other-requires
split_seat-other-requires c =
    let h = c.args.shared.now in
    let n : ℕ = c.loop-number.number in
    let key : ℕ = h.table.shared.key in
    let id : ℕ = c.loop-number.seat.id in
    let sized = h.sized in
    let few = c.requires.workers.1 in
    let test = c.loop-number-test.true in
    let some_right : 0 < 17 - n = omega arith in (
      c.loop-number.invariant.table,
      omega arith,
      subst (λ (m : Me (Unit {0}) View). Splits (KeepsRule key) id m.0 (one_right_less m.0) (new_view 1)) (sym c.loop-number.invariant.seat) (splits key id (17 - n) some_right),
    )

pub loop-number-preserved : goal.loop-number-preserved
loop-number-preserved c =
    let h = c.args.shared.now in
    let n : ℕ = c.loop-number.number in
    let split = c.split_seat-other.ensures in
    let inv = c.loop-number.invariant in
    let old = c.loop-number.passes.items in
    let items = c.in_ok-push.ensures.items in
    let from_one : 1 ≤ n = c.loop-number.auto.number in
    let me = split.4 in
    record {
      table = split.0 ∙ inv.table;
      seat = split.2 ∙ (λ i. (one_right_less (inv.seat i).0, (inv.seat i).1)) ∙ ap (λ (r : ℕ). (new_view r, [])) (omega arith);
      passes = All-same (IsSeated h c.args.workers) _ _ items (All-push (IsSeated h c.args.workers) old _ inv.passes (split.3 ∙ inv.table, refl));
      numbers =
          ap numbers items
          ∙ (map-append (λ (p : Pass). p.number) old (_ ∷ [])
          ∙ (ap (λ ns. ns ++ n ∷ []) inv.numbers ∙ (range-push 1 (n - 1) n (omega arith) ∙ ap (range_with_len 1) {x = suc (n - 1)} {y = n + 1 - 1} (omega arith))));
      fresh = All-same IsFresh _ _ items (All-push IsFresh old _ inv.fresh record {
        left = refl;
        adds = ap (λ (m : Me (Unit {0}) View). m.0.adds) me;
        wins = ap (λ (m : Me (Unit {0}) View). m.0.wins) me;
        marks = ap (λ (m : Me (Unit {0}) View). m.0.marks) me;
      });
    }
