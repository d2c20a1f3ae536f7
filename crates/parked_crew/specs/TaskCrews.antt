-- How many workers a crew of residents has.
use Rattle.std.specs.Prelude.{ℕ}
use Rattle.parked_crew.specs.Crews as Parked
use Rattle.parked_crew.specs.declared.residents.Residents.{Residents}

abbrev pub workers_of : {S J G : Type 0} → Residents S J G → ℕ
workers_of r = Parked.workers_of r.crew
