-- What the owner phase leaves to take-up.
use Rattle.std.specs.Prelude.{List}
use Rattle.scan_job.specs.Gains.{GainsOf}
use Rattle.scan_job.specs.Graphs.{StoppedGraph}
use Rattle.scan_job.specs.Phases.{all_held, AreUnderOwners, OwnerGains}
use Rattle.scan_job.specs.States.{ScanState}

-- What is held after jobs gained by the scans from the owners is under owners, and no owner.
abbrev pub HeldIsUnderOwners : Type 0
HeldIsUnderOwners = (g : StoppedGraph) (js ks : List ScanState) → GainsOf g (OwnerGains g) js ks → AreUnderOwners g (all_held ks)
