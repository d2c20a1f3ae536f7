use Rattle.std.proofs.Common.{length, sym, ap, ◌∙◌}
use Rattle.heap_snapshot.specs.Table.{Reading}
use Rattle.heap_snapshot.proofs.Roots.{above_nothing}
use Rattle.heap_snapshot.proofs.assembly.Assembly.is_above_last.Goals as goal

pub returns-then-roots-eq0 : goal.returns-then-roots-eq0
returns-then-roots-eq0 c =
    above_nothing c.args.self.now.roots c.args.name.now
    (ap (λ (r : Reading). length r.roots) (sym c.self.view_is) ∙ sym c.len-roots.ensures ∙ c.if-roots-eq0.true) c.as_str-text.ensures.legal
