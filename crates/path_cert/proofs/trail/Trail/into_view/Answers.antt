use Rattle.std.proofs.Common.{length, ap, ◌∙◌, arith}
use Rattle.std.proofs.lemmas.List.{length-reverse}
use Rattle.path_cert.proofs.ShownSteps.{HasShown-few, HasShown-view}
use Rattle.path_cert.proofs.trail.Trail.into_view.Goals as goal

pub turned-requires : goal.turned-requires
turned-requires c = HasShown-few c.args.self 0 c.requires.all.0 c.requires.all.1

pub returns : goal.returns
returns c =
    let few = HasShown-few c.args.self 0 c.requires.all.0 c.requires.all.1 in
    let many = ap length c.in_ok-steps.ensures ∙ length-reverse c.args.self.shown.items in
    record {
      view = λ w start has. HasShown-view c.args.self w c.args.from c.in_ok-steps.steps c.saturating_sub-left_out.result start c.in_ok-steps.ensures c.saturating_sub-left_out.ensures has;
      few = omega (arith, few, many);
    }
