use Rattle.std.proofs.Common.{arith, ◌≡◌, ◌+◌, ◌-◌, ◌*◌, ◌%◌, ◌^◌, ◌<◌, ◌≤◌, ℕ, Bool, [], ◌∷◌, sym, ap, ◌∙◌, subst, length, length-append}
use Rattle.std.specs.Prelude.{bit_or}
use mathlib.Core.Option.{none}
use Rattle.atomic_table.specs.Table.{Me, step, Allows}
use Rattle.header_rule.specs.declared.mark.Mark.{Mark}
use Rattle.header_rule.specs.declared.view.View.{View}
use Rattle.header_rule.specs.Layout.{bits_of, has_bit, is_given}
use Rattle.header_rule.specs.Rule.{KeepsRule}
use Rattle.header_rule.specs.Steps.{AddsCell, SetsMarks}
use Rattle.header_rule.proofs.Bits.{has_bit-bits_of, bits_of-same}
use Rattle.header_rule.proofs.Adding.{adds_cell}
use Rattle.header_rule.proofs.Marking.{sets_marks}
use Rattle.header_rule.proofs.shared_words.SharedWords.meet.Goals as goal

pub fetch_add-found-requires : goal.fetch_add-found-requires
fetch_add-found-requires c =
    let p = c.args.seat.now in
    let h = c.args.self.now in
    let x : ℕ = c.args.cell in
    let n : ℕ = h.table.shared.key in
    let slots : ℕ = h.table.shared.table_id.slots in
    let room = c.requires.room in
    let few : length p.me.0.adds < p.me.0.rights * 2 ^ 51 = omega arith in
    let sized = h.sized in
    let keyed = h.keyed in
    let cell = c.requires.cell in
    let within : x < n = omega arith in (
      c.requires.table,
      omega arith,
      subst (λ (m : Me (Unit {0}) View). Allows (KeepsRule n) slots p.id m (x + 1) (λ k. (k + 1) % 2 ^ 64) (AddsCell (step slots (x + 1) 1 0 none) m))
          (λ i. (p.me.0, sym c.requires.slotless i)) (adds_cell n slots p.id x p.me.0 within few),
    )

pub fetch_or-requires : goal.fetch_or-requires
fetch_or-requires c =
    let p = c.args.seat.now in
    let h = c.args.self.now in
    let q = c.fetch_add-found.new.seat in
    let added = c.fetch_add-found.ensures.2.0 in
    let x : ℕ = c.args.cell in
    let n : ℕ = h.table.shared.key in
    let slots : ℕ = h.table.shared.table_id.slots in
    let bits : ℕ = c.bits-bits.result in
    let given : Mark → Bool = is_given c.args.given in
    let marks_alone : bits ≡ bits_of (has_bit bits) = c.bits-bits.ensures ∙ bits_of-same given (has_bit bits) (λ m. sym (ap (λ k. has_bit k m) c.bits-bits.ensures ∙ has_bit-bits_of given m)) in
    let room = c.requires.room in
    let rights : q.me.0.rights ≡ p.me.0.rights = ap (λ (z : Me (Unit {0}) View). z.0.rights) added in
    let length-is : length q.me.0.adds ≡ length p.me.0.adds + 1 = ap (λ (z : Me (Unit {0}) View). length z.0.adds) added ∙ length-append p.me.0.adds ((x + 1 - 1) ∷ []) in
    let slotless : q.me.1 ≡ [] = ap (λ (z : Me (Unit {0}) View). z.1) added ∙ c.requires.slotless in
    let some_right : 0 < q.me.0.rights = omega arith in
    let few : length q.me.0.adds ≤ q.me.0.rights * 2 ^ 51 = omega arith in
    let sized = h.sized in
    let keyed = h.keyed in
    let cell = c.requires.cell in
    let within : x < n = omega arith in (
      c.fetch_add-found.ensures.0 ∙ c.requires.table,
      omega arith,
      subst (λ (z : Me (Unit {0}) View). Allows (KeepsRule n) slots q.id z (x + 1) (λ k. bit_or k bits) (SetsMarks (step slots (x + 1) bits 0 none) z))
          (λ i. (q.me.0, sym slotless i)) (sets_marks n slots q.id x bits q.me.0 within marks_alone some_right few),
    )
