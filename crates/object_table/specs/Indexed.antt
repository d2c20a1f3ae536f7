-- Names in a list, and the place of each by its bytes.
use Rattle.std.specs.Prelude.{◌≡◌, ℕ, ◌≤◌, List, length, position}
use Rattle.std.specs.List.{IsDistinct}
use Rattle.std.specs.Map.{lookup}
use Rattle.std.specs.BTreeMap.{is_at}
use Rattle.std.specs.Str.{bytes_eq}
use Rattle.graph_meaning.specs.Heap.{name_cmp}
use Rattle.heap_base.specs.declared.limits.TheConstants.{MOST_KINDS}
use Rattle.object_table.specs.Ordered.{EntriesAreOrdered}

-- The entries give the place of each name in the list, where none stands twice, and there are no more names than there may be.
pub record IsIndexed (names : List (List ℕ)) (places : List (List ℕ × ℕ)) : Type 0 where
  pub few : length names ≤ MOST_KINDS
  pub distinct : IsDistinct bytes_eq names
  pub ordered : EntriesAreOrdered places
  pub count : length places ≡ length names
  pub finds : (name : List ℕ) → lookup (is_at (name_cmp name)) places ≡ position (bytes_eq name) names
