use Rattle.std.proofs.Common.{◌≡◌, ℕ, ◌+◌, ◌^◌, ◌<◌, eqb, length, get_or, set, sym, ap, ◌∙◌, subst, arith}
use Rattle.std.specs.Prelude.{bit_or}
use Rattle.std.proofs.lemmas.List.{get_or_default}
use Rattle.heap_base.specs.Counting.{IsOnce}
use Rattle.header_rule.specs.declared.mark.Marks.{Marks}
use Rattle.header_rule.specs.declared.view.View.{View}
use Rattle.header_rule.specs.Layout.{bits_of, count_of, is_given}
use Rattle.header_rule.specs.OwnStates.{OwnState, KeepsOwn}
use Rattle.header_rule.specs.Steps.{after_meet}
use Rattle.header_rule.proofs.OwnWords.{OwnMeet, own_meet}
use Rattle.header_rule.proofs.own_words.OwnWords.meet.Goals as goal

-- the words and the view before the meet, and the word that was found
module _ (o now : OwnState) (is : o ≡ now) (kept : KeepsOwn o) (x : ℕ) (given : Marks) (within : x + 1 < length now.words)
    (room : length now.view.adds < 2 ^ 55) (found : ℕ) (at : found ≡ get_or o.words (x + 1) found) where
  inside : x + 1 < length o.words
  inside = subst (λ (s : OwnState). x + 1 < length s.words) (sym is) within

  met : OwnMeet o x given
  met = own_meet o kept x given inside (subst (λ (s : OwnState). length s.view.adds < 2 ^ 55) (sym is) room)

  word : found ≡ get_or o.words (x + 1) 0
  word = at ∙ get_or_default o.words (x + 1) found 0 inside

  fits : found + 1 < 2 ^ 64
  fits = let f = met.fits in let w = word in omega arith

  module _ (bits count : ℕ) (view : View) (bits-is : bits ≡ bits_of (is_given given)) (count-is : count ≡ count_of found) (view-is : view ≡ after_meet x given (eqb count 0) o.view) where
    view-after : view ≡ after_meet x given (eqb (count_of (get_or o.words (x + 1) 0)) 0) o.view
    view-after = view-is ∙ ap (λ n. after_meet x given (eqb n 0) o.view) (count-is ∙ ap count_of word)

    keeps : KeepsOwn record { words = set o.words (x + 1) (bit_or (found + 1) bits); view = view }
    keeps = subst (λ (z : ℕ × View). KeepsOwn record { words = set o.words (x + 1) z.0; view = z.1 }) (λ i. (bit_or (sym word i + 1) (sym bits-is i), sym view-after i)) met.keeps

    once : IsOnce view.wins
    once = subst (λ (v : View). IsOnce v.wins) (sym view-after) met.once

pub overflow_add-found : goal.overflow_add-found
overflow_add-found c = let f = fits _ _ c.self.view_is c.self.invariant c.args.cell c.args.given c.requires.cell c.requires.room c.index-found.result.now c.index-found.ensures in omega arith

pub invariant_of-self : goal.invariant_of-self
invariant_of-self c =
    keeps _ _ c.self.view_is c.self.invariant c.args.cell c.args.given c.requires.cell c.requires.room c.index-found.result.now c.index-found.ensures
    c.bits.result c.count-won.result c.with-self-inside.result.view c.bits.ensures c.count-won.ensures c.with-self-inside.ensures

pub returns-clause-once : goal.returns-clause-once
returns-clause-once c =
    once _ _ c.self.view_is c.self.invariant c.args.cell c.args.given c.requires.cell c.requires.room c.index-found.result.now c.index-found.ensures
    c.bits.result c.count-won.result c.with-self-inside.result.view c.bits.ensures c.count-won.ensures c.with-self-inside.ensures
