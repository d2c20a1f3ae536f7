use Rattle.std.proofs.Common.{◌++◌, Option, ℕ, sym, subst}
use Rattle.heap_snapshot.specs.Text.{slot_line}
use Rattle.heap_snapshot.specs.Dangling.{dangling_from, Passes}
use Rattle.heap_snapshot.proofs.Danglings.{passes_slot}
use Rattle.heap_snapshot.proofs.dangling.dangling_in_slot.Goals as goal

pub returns-in-Some-clause-passes : goal.returns-in-Some-clause-passes
returns-in-Some-clause-passes c place rest =
    subst (λ (held : Option ℕ). Passes c.dangling_at.result (dangling_from c.args.ids.now c.args.line (slot_line place held ++ rest))
    (λ next. dangling_from c.args.ids.now next rest)) (sym c.in-Some.is)
    (passes_slot c.args.ids.now c.args.line c.in-Some.to c.dangling_at.result c.dangling_at.ensures.passes c.dangling_at.ensures.next place rest)
