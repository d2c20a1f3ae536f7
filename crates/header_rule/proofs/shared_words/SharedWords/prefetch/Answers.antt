use Rattle.std.proofs.Common.{arith, ◌+◌, ◌≤◌}
use Rattle.header_rule.proofs.Whole.{reads_word}
use Rattle.header_rule.proofs.shared_words.SharedWords.prefetch.Goals as goal

pub load-requires : goal.load-requires
load-requires c =
    let h = c.args.self.now in
    let sized = h.sized in
    let keyed = h.keyed in
    let cell = c.requires.cell in
    let within : c.args.cell + 1 ≤ h.table.shared.key = omega arith in
    (c.requires.table, omega arith, reads_word h.table.shared.key _ _ (c.args.cell + 1) _ within)
