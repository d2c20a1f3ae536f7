-- What contracts see of owners that are being asked.
use Rattle.verdict_list.specs.declared.settling.Asking.{Asking}
use Rattle.verdict_list.specs.Settling.{OwneeNotes}

abbrev pub asked_in : Asking → OwneeNotes
asked_in a = record { found = a.found.items; owner = a.owner; ownees = a.ownees.items }
