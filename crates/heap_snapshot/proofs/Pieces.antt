-- A source that is read piece by piece.
use Rattle.std.proofs.Common.{◌≡◌, ℕ, ◌<◌, List, [], length, Option, None, Some, IfSome, sym, subst, arith}
use Rattle.std.specs.Io.KnownBytes.{Consumes, IsAtEnd}
use Rattle.std.proofs.KnownBytes.{Consumes-nil, Consumes-trans}
use Rattle.heap_snapshot.specs.declared.read.TheConstants.{LONGEST_SNAPSHOT}
use Rattle.trace_reader.specs.Windows.{Adds, held_and_left}
use Rattle.heap_snapshot.specs.ToTrace.{IsRead}

pub begins : (start : Option (List ℕ)) (text : List ℕ) → text ≡ [] → Consumes start start text
begins start text none = subst (Consumes start start) (sym none) (Consumes-nil start)

at_end : (after : Option (List ℕ)) → IsAtEnd after → IfSome after (λ left. left ≡ [])
at_end None is = tt
at_end (Some left) is = is

-- one piece more behind what was read
module _ (start : Option (List ℕ)) {before after : Option (List ℕ)} {old new took : List ℕ} {count : ℕ}
    (adds : Adds (held_and_left old before) (held_and_left new after) count took) (consumed : Consumes start before old) where
  pub goes_on : Consumes start after new
  goes_on = subst (Consumes start after) (sym adds.held) (Consumes-trans start before after old took consumed adds.consumes)

  -- and it is empty
  pub ends : count ≡ 0 → IsRead start after new
  ends none = record { consumed = goes_on; whole = λ _. at_end after (adds.at_end none) }

pub is_long : (start after : Option (List ℕ)) (text : List ℕ) → Consumes start after text → LONGEST_SNAPSHOT < length text → IsRead start after text
is_long start after text consumed long = record { consumed = consumed; whole = λ short. absurd (omega arith) }
