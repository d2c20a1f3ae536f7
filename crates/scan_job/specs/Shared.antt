-- What all jobs of a trace share, whoever holds it.
use Rattle.graph_meaning.specs.Roles.{RoleTable}
use Rattle.header_rule.specs.declared.headers.Headers.{Headers}
use Rattle.object_table.specs.Placed.{PlacedTable}
use Rattle.scan_job.specs.declared.shared.ScanShared.{ScanShared}

-- a header word for each cell, the table of the objects, and what the assertions make of them
pub record SharedHeap : Type 0 where
  pub headers : Headers
  pub table : PlacedTable
  pub roles : RoleTable

-- what is behind the references
abbrev pub shared_behind : ScanShared → SharedHeap
shared_behind s = record { headers = s.headers.now; table = s.table.now; roles = s.roles.now }
