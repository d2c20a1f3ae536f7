-- What contracts see of a search by levels.
use Rattle.path_cert.specs.declared.frontier.Frontier.{Frontier}
use Rattle.path_cert.specs.Frontiers.{Front}

abbrev pub front_of : Frontier → Front
front_of f = record { arrivals = f.arrivals; order = f.order.items }
