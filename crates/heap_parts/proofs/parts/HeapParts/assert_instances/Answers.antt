use Rattle.std.proofs.Common.{◌≡◌, ◌+◌, length, sym, ap, refl, ◌∙◌, Some, slice_set}
use Rattle.graph_meaning.specs.declared.refusal.Stop.TheVariants.{Refused, OutOfMemory}
use Rattle.assert_registry.specs.Assertions.{Assertions, with_room}
use Rattle.heap_parts.proofs.Operations.{steps-no_limit, parts-no_limit, steps-limit, parts-limit, no_more_room}
use Rattle.heap_parts.proofs.Stepping.{handed_on, parts_in}
use Rattle.heap_parts.proofs.parts.HeapParts.assert_instances.Goals as goal

pub returns-in-Some : goal.returns-in-Some
returns-in-Some c =
    let s = parts_in c.self.inside in
    rw (← c.self.view_is)
    (steps-no_limit s c.self.invariant c.args.kind.now c.args.limit (Refused c.in-Some.refusal) s.placed s.assertions 0 (sym c.in-Some.ensures) refl (no_more_room s.assertions))

pub returns-in_err-reserve_kinds : goal.returns-in_err-reserve_kinds
returns-in_err-reserve_kinds c =
    let s = parts_in c.self.inside in
    rw (← c.self.view_is, handed_on c.from_residual.result OutOfMemory c.from_residual.ensures)
    (steps-no_limit s c.self.invariant c.args.kind.now c.args.limit OutOfMemory s.placed c.reserve_kinds.new.self 0 (sym c.in_default.ensures) refl
    (c.in_err-reserve_kinds.ensures.err ∙ no_more_room s.assertions))

pub invariant_of-self-in_err-number : goal.invariant_of-self-in_err-number
invariant_of-self-in_err-number c =
    let s = parts_in c.self.inside in
    parts-no_limit s c.self.invariant c.args.kind.now c.args.limit c.kind_of.new.self c.reserve_kinds.new.self (length s.placed.table.kinds + 1)
    c.in_err-number.ensures.err
    (c.in_ok-reserve_kinds.ensures.done ∙ ap (λ n. record s.assertions { limits = with_room s.assertions.limits (n + 1) }) c.kinds.ensures.count)

pub returns-in_err-number : goal.returns-in_err-number
returns-in_err-number c =
    let s = parts_in c.self.inside in
    let stop = c.in_err-number.field-0.0 in
    rw (← c.self.view_is, handed_on c.from_residual-in_err-number.result stop c.from_residual-in_err-number.ensures)
    (steps-no_limit s c.self.invariant c.args.kind.now c.args.limit stop c.kind_of.new.self c.reserve_kinds.new.self
    (length s.placed.table.kinds + 1) c.in_err-number.ensures.refused c.in_err-number.ensures.err
    (c.in_ok-reserve_kinds.ensures.done ∙ ap (λ n. record s.assertions { limits = with_room s.assertions.limits (n + 1) }) c.kinds.ensures.count))

module _ (c : goal.After-assert_instances) where
  -- the type has its limit
  limited : c.assert_instances.new.self
      ≡ record c.self.inside.registry { limits = slice_set (with_room c.self.inside.registry.limits (length c.self.inside.table.table.kinds + 1)) c.in_ok-number.number (Some c.args.limit) }
  limited =
      c.assert_instances.ensures
      ∙ ap (λ (a : Assertions). record a { limits = slice_set a.limits c.in_ok-number.number (Some c.args.limit) })
      (c.in_ok-reserve_kinds.ensures.done ∙ ap (λ n. record c.self.inside.registry { limits = with_room c.self.inside.registry.limits (n + 1) }) c.kinds.ensures.count)

pub invariant_of-self-2 : goal.invariant_of-self-2
invariant_of-self-2 c =
    parts-limit (parts_in c.self.inside) c.self.invariant c.args.kind.now c.args.limit c.kind_of.new.self c.assert_instances.new.self
    c.in_ok-number.number (sym c.in_default.ensures) c.in_ok-number.ensures.seen c.in_ok-number.ensures.number (limited c)

pub returns : goal.returns
returns c =
    rw (← c.self.view_is)
    (steps-limit (parts_in c.self.inside) c.self.invariant c.args.kind.now c.args.limit c.kind_of.new.self c.assert_instances.new.self
    c.in_ok-number.number (sym c.in_default.ensures) c.in_ok-number.ensures.seen c.in_ok-number.ensures.number (limited c) tt)
