use Rattle.header_rule.proofs.Sharing.{all_seats}
use Rattle.header_rule.proofs.headers.Headers.read_all.Goals as goal

pub read_all-requires : goal.read_all-requires
read_all-requires c = all_seats c.args.self.now c.args.passes.items c.in-Some.shared c.in-Some.is c.requires.passes
