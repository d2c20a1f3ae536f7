use Rattle.std.proofs.Common.{List, [], ◌∷◌, ◌++◌, length, reverse, length-append, append_assoc, sym, ap, ◌∙◌, arith}
use Rattle.std.proofs.lemmas.List.{reverse-append}
use Rattle.graph_meaning.specs.declared.paths.PathStep.{PathStep}
use Rattle.path_cert.proofs.trail.turned.Goals as goal

pub loop-step-preserved : goal.loop-step-preserved
loop-step-preserved c =
    let was = c.loop-step.invariant in
    let done = c.loop-step.turned in
    let rest = c.pop.new.self.items in
    let one = c.in-Some.step ∷ [] in
    let items = c.in-Some.ensures.items in
    let more = length-append c.loop-step.turned (c.in-Some.step ∷ []) in
    let fewer = ap length items ∙ length-append c.pop.new.self.items (c.in-Some.step ∷ []) in
    let pushed = ap length c.in_ok-push.ensures.ok in
    let many = was.many in
    record {
      all = ap (λ (xs : List PathStep). xs ++ reverse rest) c.in_ok-push.ensures.ok
          ∙ append_assoc done one (reverse rest)
          ∙ ap (λ (xs : List PathStep). done ++ xs) (sym (reverse-append rest one) ∙ sym (ap reverse items))
          ∙ was.all;
      many = omega (arith, more, fewer, pushed, many);
    }
