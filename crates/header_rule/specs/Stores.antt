-- The words that are kept, wherever they are.
use Rattle.std.specs.Prelude.{ℕ, List, vec_len}
use Rattle.std.specs.Mem.Slots.{slots_items, slots_len}
use Rattle.header_rule.specs.declared.store.WordStore.{WordStore}
use Rattle.header_rule.specs.declared.store.WordStore.TheVariants.{Closed, Read}

abbrev pub words_of : WordStore → List ℕ
words_of (Closed t) = slots_items t.closed.words
words_of (Read ws) = ws.items

-- how many they are
abbrev pub many_words : WordStore → ℕ
many_words (Closed t) = slots_len t.closed.words
many_words (Read ws) = vec_len ws
