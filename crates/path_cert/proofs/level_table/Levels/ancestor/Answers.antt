use Rattle.std.proofs.Common.{None, get_or, sym, ap, subst, ◌∙◌}
use Rattle.path_cert.specs.Ancestors.{AncestorOf}
use Rattle.path_cert.specs.Levels.{LevelTable}
use Rattle.path_cert.proofs.level_table.Levels.ancestor.Goals as goal

pub returns : goal.returns
returns c =
    let ancestor = c.known_ancestor.ensures ∙ ap (λ ancestors. get_or ancestors c.args.cell None) c.as_slice.ensures.value in
    subst (λ arrivals. AncestorOf arrivals c.args.cell c.known_ancestor.result) (ap (λ (l : LevelTable). l.arrivals) c.self.view_is)
    (subst (AncestorOf c.self.inside.arrivals c.args.cell) (sym ancestor) (c.self.invariant c.args.cell))
