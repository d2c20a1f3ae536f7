use Rattle.header_rule.proofs.Sharing.{all_seats}
use Rattle.header_rule.proofs.headers.Headers.close.Goals as goal

pub close-requires : goal.close-requires
close-requires c = all_seats c.args.self c.args.passes.items c.in-Some.shared c.in-Some.is c.requires.passes
