-- What contracts see of what the workers of a trace share.
use Rattle.scan_job.specs.Shared.{SharedHeap}
use Rattle.resident_crew.specs.declared.scan.ResidentScan.{ResidentScan}

-- what it owns, as what is lent to jobs
abbrev pub shared_by_scan : ResidentScan → SharedHeap
shared_by_scan s = record { headers = s.headers; table = s.table; roles = s.roles }
