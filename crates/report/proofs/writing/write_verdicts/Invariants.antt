use Rattle.std.proofs.Common.{◌≤◌, ◌++◌, ℕ, List, Option, take}
use Rattle.std.specs.List.{flat_map}
use Rattle.report.specs.Pieces.{IsWritten}
use Rattle.report.specs.Text.{verdict_line}
use Rattle.report.proofs.writing.write_verdicts.Given as goal

-- the lines of the verdicts before this place are written, or stand in the piece
abbrev pub invariant-loop-place : goal.invariant-loop-place
invariant-loop-place g l =
    ((start : Option (List ℕ)) (text : List ℕ) → IsWritten start (g.K.Sink.held l.initial.sink) l.initial.piece.items text →
    IsWritten start (g.K.Sink.held l.sink) l.piece.items (text ++ flat_map (verdict_line l.collection.number) (take l.place l.collection.verdicts)))
    × (g.K.Sink.faults l.initial.sink ≤ g.K.Sink.faults l.sink)
