use Rattle.std.proofs.Common.{sym, subst}
use Rattle.heap_snapshot.specs.Reading.{IsLawful}
use Rattle.heap_snapshot.proofs.MadeHeaps.{table_lawful}
use Rattle.heap_snapshot.proofs.from_trace.MakingProgram.last.Goals as goal

pub write_snapshot-requires : goal.write_snapshot-requires
write_snapshot-requires c =
    record { lawful = subst IsLawful (sym c.in_ok-view.ensures.view) (table_lawful c.self.inside.table.table c.cells.ensures.sound c.self.invariant) }
