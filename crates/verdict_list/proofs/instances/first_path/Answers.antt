use Rattle.std.proofs.Common.{◌∙◌, ap, sym}
use Rattle.std.specs.Option.{option_and_then}
use Rattle.std.proofs.lemmas.Result.{IfOk-weaker}
use Rattle.graph_meaning.specs.Paths.{plain_way, shown_path}
use Rattle.object_table.specs.Placed.{id_in}
use Rattle.verdict_list.proofs.Showing.{first_shown}
use Rattle.verdict_list.proofs.instances.first_path.Goals as goal

pub returns-in-Some : goal.returns-in-Some
returns-in-Some c =
    IfOk-weaker c.plain_path.result _ _
    (λ s is h id shows first. is h shows
    ∙ first_shown c.args.plain.table.now c.in-Some.cell id c.args.is_shown (λ x. shown_path (plain_way h x))
    (λ is_shown. ap (option_and_then (id_in c.args.plain.table.now)) (sym c.in-Some.is) ∙ first is_shown))
    c.plain_path.ensures
