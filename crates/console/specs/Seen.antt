-- What can be seen of a program's streams.
use Rattle.std.specs.Prelude.{ℕ, List, Option}
use Rattle.streams.specs.Streams.{Stream}
use Rattle.console.specs.declared.stream.Remembering.{Remembering}

-- what can be seen of a reader or a writer, by what says which bytes it tells
abbrev pub seen_of : {S : Type 0} → (S → Option (List ℕ)) → Remembering S → Stream
seen_of bytes s = record { bytes = bytes s.stream; faults = s.faults }
