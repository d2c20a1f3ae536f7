use Rattle.std.proofs.Common.{◌≡◌, ℕ, ◌≤◌, length}
use Rattle.json.specs.Json.{members, value}
use Rattle.serde_json.specs.Data.{Members, no_members}
use Rattle.serde_json.specs.Read.{converted, of_members}
use Rattle.trace_reader.specs.Objects.{HasFieldsOf}
use Rattle.trace_reader.specs.Skips.{member_depth}
use Rattle.trace_reader.proofs.plain.read_members.Given as goal

-- what is left of the object goes behind the members that were found, whose fields are known
abbrev pub invariant-members : goal.invariant-members
invariant-members l =
    (found : Members) × HasFieldsOf l.fields found × (n : ℕ) × (length l.reader ≤ n)
    × (converted (λ all. of_members all no_members) (members (value member_depth) (length l.initial.reader) l.initial.reader)
    ≡ converted (λ all. of_members all found) (members (value member_depth) n l.reader))

abbrev pub decreases-members : goal.decreases-members
decreases-members l = length l.reader
