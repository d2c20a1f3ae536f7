use Rattle.std.proofs.Common.{◌≤◌, arith}
use Rattle.header_rule.proofs.Whole.{reads_word}
use Rattle.header_rule.proofs.shared_words.SharedWords.read.Goals as goal

pub load-requires : goal.load-requires
load-requires c =
    let h = c.args.self.now in
    let sized = h.sized in
    let keyed = h.keyed in
    let word = c.requires.word in
    let within : c.args.word ≤ h.table.shared.key = omega arith in
    (c.requires.table, word, reads_word h.table.shared.key _ _ c.args.word _ within)
