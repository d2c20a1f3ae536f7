use Rattle.std.proofs.Common.{ap, sym, subst, ◌++◌, ◌∷◌, [], ◌∙◌, List, All}
use Rattle.std.proofs.lemmas.List.Elements.{All-push}
use Rattle.trace_reader.specs.Ahead.{IsReadOf}
use Rattle.trace_reader.specs.declared.line_ahead.LineAhead.{LineAhead}
use Rattle.trace_reader.proofs.lines_ahead.LinesAhead.read_next.Goals as goal

pub invariant_of-self-2 : goal.invariant_of-self-2
invariant_of-self-2 c =
    let read = IsReadOf c.self.inside.text.items in
    let line = c.in_ok-line.line in
    let items = c.push_reserved.ensures.items ∙ ap (λ (ls : List LineAhead). ls ++ line ∷ []) c.reserve.ensures.items in
    subst (All read) (sym items) (All-push read c.self.inside.lines.items line c.self.invariant (rw c.deref.ensures.value at c.in_ok-line.ensures.read))
