use Rattle.std.proofs.Common.{◌≡◌, ◌+◌, ◌≤◌, length}
use Rattle.trace_reader.specs.Items.{pieces}
use Rattle.heap_snapshot.specs.Reading.{meaning_from, meaning_of}
use Rattle.heap_snapshot.specs.Bounds.{IsBounded}
use Rattle.heap_snapshot.proofs.read.take_lines.Given as goal

abbrev pub invariant-loop-n : goal.invariant-loop-n
invariant-loop-n l = record {
  meaning : meaning_from l.lines l.assembly (pieces l.rest) ≡ meaning_of l.fn.bytes;
  bounded : IsBounded l.assembly;
  count : l.lines + length l.rest ≤ length l.fn.bytes;
}

abbrev pub decreases-loop-n : goal.decreases-loop-n
decreases-loop-n l = length l.rest
