use Rattle.std.proofs.lemmas.Str.{IsUtf8-from_ascii}
use Rattle.trace_reader.proofs.utf8.is_utf8.Goals as goal

pub returns-then-is_ascii : goal.returns-then-is_ascii
returns-then-is_ascii c = (λ t. IsUtf8-from_ascii c.args.bytes.now (c.is_ascii.ensures t), λ _. c.if-is_ascii.true)
