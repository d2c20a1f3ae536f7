-- How many workers a crew has.
use Rattle.std.specs.Prelude.{ℕ, vec_len}
use Rattle.parked_crew.specs.declared.crew.ParkedCrew.{ParkedCrew}

abbrev pub workers_of : {C : Type 0} → ParkedCrew C → ℕ
workers_of c = vec_len c.workers
