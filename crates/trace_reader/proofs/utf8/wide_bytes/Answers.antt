use Rattle.trace_reader.proofs.Ascii.{mask_of_wide}
use Rattle.trace_reader.proofs.utf8.wide_bytes.Goals as goal

pub returns : goal.returns
returns c = mask_of_wide c.args.bytes c.requires
