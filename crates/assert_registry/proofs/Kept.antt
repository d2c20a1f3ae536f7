-- What is kept of the assertions speaks of the table.
use Rattle.std.proofs.Common.{ℕ, ◌≤◌, List, length, Option, None, ⊎_elim, ap, subst, sym, ◌∙◌, arith}
use Rattle.std.specs.Option.{is_some}
use Rattle.std.proofs.lemmas.Bool.{false≢true, cases_lt}
use Rattle.std.proofs.lemmas.List.{get_or_past}
use Rattle.std.specs.Map.{keys_of}
use Rattle.std.proofs.lemmas.List.Elements.{filter_passes}
use Rattle.graph_meaning.specs.Heap.{Table, is_live}
use Rattle.graph_meaning.specs.Laws.{AllLive}
use Rattle.graph_meaning.proofs.Membership.{map-filter}
use Rattle.assert_registry.specs.Assertions.{Assertions, AreOfSeenTypes, live_part}
use Rattle.assert_registry.specs.ByCell.{SpeakOfTable}

-- Where each type with a limit was seen, what is asserted of live objects speaks of the table.
pub SpeakOfTable-live_part : (t : Table) (a : Assertions) → AreOfSeenTypes a.limits t.kinds → SpeakOfTable (live_part t a) t
SpeakOfTable-live_part t a seen = record {
  dead = filter_passes (is_live t) a.dead;
  unshared = filter_passes (is_live t) a.unshared;
  ownees = subst (AllLive t) (sym (map-filter (is_live t) (λ (o : ℕ × ℕ). o.0) a.owners)) (filter_passes (is_live t) (keys_of a.owners));
  limits = seen;
}

-- Where there is no room for the limit of a type that was not seen, each type with a limit was seen.
pub seen_from_room : (limits : List (Option ℕ)) (kinds : List (List ℕ)) → length limits ≤ length kinds → AreOfSeenTypes limits kinds
seen_from_room limits kinds few kind some =
    ⊎_elim (λ within. omega arith) (λ past. absurd (false≢true (sym (ap is_some (get_or_past limits kind None past)) ∙ some))) (cases_lt kind (length limits))
