use Rattle.std.proofs.Common.{◌≡◌, ◌-◌, ◌≤◌, length}
use Rattle.trace_reader.proofs.lines_ahead.LinesAhead.read.Given as goal

-- the lines before this place were read
abbrev pub invariant-loop-next : goal.invariant-loop-next
invariant-loop-next l = record {
  within : l.from ≤ length l.self.text;
  text : l.self.text ≡ l.fn.text.items;
  own : l.text.items ≡ l.fn.self.text;
}

abbrev pub decreases-loop-next : goal.decreases-loop-next
decreases-loop-next l = length l.self.text - l.from
