use Rattle.std.proofs.Common.{◌≡◌, take}
use Rattle.std.specs.List.{list_all}
use Rattle.heap_base.specs.Names.{is_name_byte}
use Rattle.heap_base.proofs.names.has_no_control.Given as goal

-- what the bytes before this one say
abbrev pub invariant-loop-b : goal.invariant-loop-b
invariant-loop-b l = l.legal ≡ list_all is_name_byte (take l.b-index l.bytes)
