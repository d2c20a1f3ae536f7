use Rattle.std.proofs.Common.{ℕ, ◌+◌, ◌-◌, ◌≤◌, cond, List, length, take}
use Rattle.streams.specs.Streams.{stream_of}
use Rattle.heap_base.specs.declared.limits.TheConstants.{LONGEST_LINE}
use Rattle.trace_reader.specs.Cuts.{HasNoNewline}
use Rattle.trace_reader.specs.Reads.{ReadState, ReadsOn, read_state}
use Rattle.trace_reader.proofs.held.Held.settle.Given as goal

-- what was read so far
abbrev pub invariant-loop-cut : goal.invariant-loop-cut
invariant-loop-cut g l =
    let old : ReadState = read_state l.initial.self.window l.initial.self.at_end (stream_of g.S.Source.left g.S.Source.faults l.initial.source) in
    let new : ReadState = read_state l.self.window l.self.at_end (stream_of g.S.Source.left g.S.Source.faults l.source) in
    (l.searched ≤ length l.self.window) × HasNoNewline (take l.searched l.self.window) × ((took : List ℕ) × ReadsOn old new took)

abbrev pub decreases-loop-cut : goal.decreases-loop-cut
decreases-loop-cut g l = cond l.self.at_end 0 1 + (LONGEST_LINE + 1 - length l.self.window)
