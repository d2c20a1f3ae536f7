use Rattle.std.proofs.Common.{◌≡◌, ◌-◌, refl, ap, ◌∙◌, subst, None}
use Rattle.std.proofs.lemmas.Result.{MatchResult-at_ok}
use Rattle.trace_reader.specs.declared.cut.Cut.TheVariants.{Line}
use Rattle.trace_reader.specs.Cuts.{IsCut}
use Rattle.trace_reader.proofs.Steps.{step_of_cut, gives_line}
use Rattle.trace_reader.proofs.cutter.LineCutter.cut_next.Goals as goal

pub returns-in-Ok-Line : goal.returns-in-Ok-Line
returns-in-Ok-Line g c =
    let s = c.settle-settled.ensures in
    let arm = c.in-Ok-Line in
    let held = c.settle-settled.new.self in
    let allowed = c.self.inside.limit - c.self.inside.given in
    let going : c.self.inside.stopped ≡ None = ap (λ k. k.stopped) c.self.view_is ∙ c.requires in
    let cut : IsCut held.window held.at_end allowed (Line arm.n) =
    subst (IsCut held.window held.at_end allowed) (rw arm.is at arm.field-0-is) (MatchResult-at_ok _ _ _ arm.is s.2) in
    rw (← c.self.view_is) (rw (c.give.ensures.gives, c.give.ensures.number) (
      s.0,
      step_of_cut _ _ _ _ s.0 going refl (rw c.skip.ensures at s.1) (gives_line _ _ held.window allowed arm.n cut refl refl refl refl refl going),
    ))
