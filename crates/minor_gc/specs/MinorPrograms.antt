-- Where a program of minor collections stands.
use Rattle.minor_gc.specs.declared.program.MinorProgram.{MinorProgram}
use Rattle.minor_gc.specs.MinorRuns.{MinorState}

abbrev pub minor_state : MinorProgram → MinorState
minor_state p = record { heap = p.nursery.heap; collections = p.collections }
