use Rattle.std.proofs.Common.{◌≡◌, ◌+◌, ℕ, zero, suc, List, [], ◌∷◌, get_or, sym, ap, ◌∙◌}
use mathlib.Core.Option.{some, some-injective, some-ne-none}
use lib.ListN.{get_elem?}
use Rattle.std.specs.Mem.Slots.{slots_items}
use Rattle.header_rule.specs.Stores.{words_of}
use Rattle.header_rule.proofs.words.Words.word.Goals as goal

-- a place that holds a number
get_elem?-get_or : (xs : List ℕ) (i n : ℕ) → get_elem? xs i ≡ some n → n ≡ get_or xs i 0
get_elem?-get_or [] i n e = absurd (some-ne-none n (sym e))
get_elem?-get_or (x ∷ xs) zero n e = sym (some-injective x n e)
get_elem?-get_or (x ∷ xs) (suc i) n e = get_elem?-get_or xs i n e

pub returns-in-Closed : goal.returns-in-Closed
returns-in-Closed c =
    let at : ℕ = c.args.cell + 1 in
    get_elem?-get_or (slots_items c.in-Closed.table.closed.words) at c.word.result c.word.ensures ∙ ap (λ ws. get_or (words_of ws) at 0) (sym c.in-Closed.is)
