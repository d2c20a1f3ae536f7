-- What contracts see of a search for first references.
use Rattle.object_paths.specs.declared.search.Search.{Search}
use Rattle.object_paths.specs.Prefixes.{Finding}

abbrev pub finding_in : Search → Finding
finding_in s = record { places = s.places.items; found = s.found.items }
