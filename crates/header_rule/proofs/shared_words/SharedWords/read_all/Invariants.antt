use Rattle.std.proofs.Common.{◌≡◌, ℕ, ◌<◌, slice_index}
use Rattle.std.specs.Prelude.{vec_len}
use Rattle.header_rule.specs.Views.{TellsWord}
use Rattle.header_rule.proofs.shared_words.SharedWords.read_all.Given as goal

abbrev pub invariant-loop-word : goal.invariant-loop-word
invariant-loop-word l = record {
  table : l.whole.table_id ≡ l.self.table.shared.table_id;
  same : l.whole.me ≡ l.initial.whole.me;
  count : vec_len l.words ≡ l.word;
  each : (word : ℕ) → word < l.word → TellsWord word (slice_index l.words.items word) l.initial.whole.me.0;
}
