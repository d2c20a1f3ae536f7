use Rattle.std.proofs.Common.{Some, length}
use denote.Text.{Utf8}
use denote.Shadow.{shadow}
use Rattle.trace_reader.specs.Usual.{EndsBehind}
use Rattle.trace_reader.proofs.usual.names_no_field.Given as goal

-- where the rest ends so, the whole does
abbrev pub invariant-members : goal.invariant-members
invariant-members l = shadow (Utf8 l.key) × (EndsBehind (Some l.key) l.reader → EndsBehind (Some l.initial.key) l.initial.reader)

abbrev pub decreases-members : goal.decreases-members
decreases-members l = length l.reader
