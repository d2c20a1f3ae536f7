use Rattle.std.proofs.Common.{arith, ◌≡◌, ℕ, ◌+◌, List, [], ◌∷◌, ◌++◌, length, sym, ap, ◌∙◌}
use Rattle.std.proofs.lemmas.List.Elements.{All-pop}
use Rattle.std.specs.Prelude.{Some}
use Rattle.heap_base.specs.Counting.{times, total}
use Rattle.heap_base.proofs.Counting.{total-snoc, times-append}
use Rattle.atomic_table.specs.Table.{Me}
use Rattle.header_rule.specs.declared.view.View.{View}
use Rattle.header_rule.specs.declared.pass.Pass.{Pass}
use Rattle.header_rule.specs.Views.{times_marked}
use Rattle.header_rule.specs.Passes.{HasSeat, adds, wins, marks, rights_of}
use Rattle.header_rule.proofs.Moves.{joins, times_marked-append}
use Rattle.header_rule.proofs.closing.joined.Goals as goal

-- what f adds up over a list that ends with p
total-pop : (f : Pass → ℕ) (ps qs : List Pass) (p : Pass) → ps ≡ qs ++ p ∷ [] → f p + total f qs ≡ total f ps
total-pop f ps qs p e = let t = ap (total f) e ∙ total-snoc f qs p in omega arith

pub loop-pass-init : goal.loop-pass-init
loop-pass-init c =
    let old = c.args.passes.items in
    let rest = c.pop.new.self.items in
    let last = c.in-Some.last in
    let me = c.seat_of-whole.ensures.me in
    let e : old ≡ rest ++ last ∷ [] = c.in-Some.ensures.items in
    let all = All-pop (HasSeat c.args.shared.now) old rest (Some last) e c.requires.0 in
    record {
      table = c.seat_of-whole.ensures.table;
      passes = all.0;
      rights = let t = total-pop rights_of old rest last e in let r = ap (λ (m : Me (Unit {0}) View). m.0.rights) me in omega arith;
      adds = λ x. let t = total-pop (λ p. times x (adds p)) old rest last e in let r = ap (λ (m : Me (Unit {0}) View). times x m.0.adds) me in omega arith;
      wins = λ x. let t = total-pop (λ p. times x (wins p)) old rest last e in let r = ap (λ (m : Me (Unit {0}) View). times x m.0.wins) me in omega arith;
      marks = λ m x. let t = total-pop (λ p. times_marked m x (marks p)) old rest last e in let r = ap (λ (u : Me (Unit {0}) View). times_marked m x u.0.marks) me in omega arith;
    }

pub join_seat-requires : goal.join_seat-requires
join_seat-requires c =
    let h = c.args.shared.now in
    let seat = c.seat_of-seat.result in
    let sized = h.sized in (
      c.loop-pass.invariant.table,
      c.seat_of-seat.ensures.table,
      ap (λ (m : Me (Unit {0}) View). m.1) c.seat_of-seat.ensures.me,
      omega arith,
      joins h.table.shared.key c.loop-pass.whole.id seat.id c.loop-pass.whole.me.0 seat.me.0,
    )

pub loop-pass-preserved : goal.loop-pass-preserved
loop-pass-preserved c =
    let inv = c.loop-pass.invariant in
    let rest = c.pop-in-loop-pass.new.self.items in
    let pass = c.in-Some-pop.pass in
    let v : View = c.loop-pass.whole.me.0 in
    let w : View = c.seat_of-seat.result.me.0 in
    let own = c.seat_of-seat.ensures.me in
    let e = c.in-Some-pop.ensures.items in
    let all = All-pop (HasSeat c.args.shared.now) _ rest (Some pass) e inv.passes in
    let me = c.join_seat.ensures.2 in
    record {
      table = c.join_seat.ensures.0 ∙ inv.table;
      passes = all.0;
      rights = (let a = ap (λ (m : Me (Unit {0}) View). m.0.rights) me in let o = ap
          (λ (m : Me (Unit {0}) View). m.0.rights) own in let t = total-pop rights_of _ rest pass e in let i = inv.rights in omega arith);
      adds =
          λ x.
          (let a = ap (λ (m : Me (Unit {0}) View). times x m.0.adds) me ∙ times-append x v.adds w.adds in
          let o = ap (λ (m : Me (Unit {0}) View). times x m.0.adds) own in
          let t = total-pop (λ p. times x (adds p)) _ rest pass e in let i = inv.adds x in omega arith);
      wins =
          λ x.
          (let a = ap (λ (m : Me (Unit {0}) View). times x m.0.wins) me ∙ times-append x v.wins w.wins in
          let o = ap (λ (m : Me (Unit {0}) View). times x m.0.wins) own in
          let t = total-pop (λ p. times x (wins p)) _ rest pass e in let i = inv.wins x in omega arith);
      marks =
          λ m x.
          (let a = ap (λ (u : Me (Unit {0}) View). times_marked m x u.0.marks) me ∙ times_marked-append m x v.marks w.marks in
          let o = ap (λ (u : Me (Unit {0}) View). times_marked m x u.0.marks) own in
          let t = total-pop (λ p. times_marked m x (marks p)) _ rest pass e in let i = inv.marks m x in omega arith);
    }

total-none : (f : Pass → ℕ) (ps : List Pass) → length ps ≡ 0 → total f ps ≡ 0
total-none f [] e = omega arith
total-none f (p ∷ ps) e = absurd (omega arith)

pub returns-clause-rights : goal.returns-clause-rights
returns-clause-rights c =
    let empty = c.in_default-pop.ensures.cases.0 in
    let none = total-none rights_of c.loop-pass.passes.items (sym c.loop-pass.passes.ok.0 ∙ empty) in
    let all = c.requires.1 in
    let inv = c.loop-pass.invariant.rights in
    omega arith
