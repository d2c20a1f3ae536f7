use Rattle.std.proofs.Common.{sym, ◌∙◌}
use Rattle.std.proofs.lemmas.Bool.{eqb-true}
use Rattle.trace_reader.proofs.Ascii.{ascii_from_mask}
use Rattle.trace_reader.proofs.utf8.is_ascii_from.Goals as goal

pub returns : goal.returns
returns c = λ none. ascii_from_mask c.args.bytes.now c.args.at c.requires (sym c.wide_bytes.ensures ∙ eqb-true _ _ none)
