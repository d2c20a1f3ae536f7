-- One more name in a list, and among the entries that give the place of each.
use Rattle.std.proofs.Common.{◌≡◌, ℕ, ◌<◌, ◌≤◌, List, [], ◌∷◌, ◌++◌, length, get_or, slice_get, Some, None, is_some, refl, sym, ap, arith, ◌∙◌}
use Rattle.std.specs.List.{position, insert}
use Rattle.std.specs.BTreeMap.{is_at}
use Rattle.std.specs.Cmp.{unsigned_ties}
use Rattle.std.specs.Cmp.Lexicographic.{lists_ties}
use Rattle.std.specs.Ordering.{nat_cmp}
use Rattle.std.specs.Str.{bytes_eq}
use Rattle.std.proofs.lemmas.Cmp.{eq_by_cmp_equiv, nat_list_cmp_total}
use Rattle.std.proofs.lemmas.Bool.{false≢true}
use Rattle.std.proofs.lemmas.List.{length_push}
use Rattle.std.proofs.lemmas.List.Edits.{length-insert}
use Rattle.std.proofs.lemmas.Map.{lookup-insert, none_passes_from_lookup}
use Rattle.std.proofs.lemmas.Map.Keys.{IsDistinct-push}
use Rattle.std.proofs.lemmas.Option.{slice_get-get_or}
use Rattle.std.proofs.lemmas.Slice.Eq.{bytes_eq-Decides}
use Rattle.graph_meaning.specs.Heap.{name_cmp}
use Rattle.heap_base.specs.declared.limits.TheConstants.{MOST_KINDS}
use Rattle.object_table.specs.Indexed.{IsIndexed}
use Rattle.object_table.specs.Ordered.{IsGapFor, IsNamedAt}
use Rattle.object_table.proofs.Named.{IsOrdered-insert, lookup_none, number_is}
use Rattle.object_table.proofs.Positions.{any-position, bytes_eq-equivalence, distinct_none, position_push, position_push_new}

-- no name, and no entry
pub IsIndexed-none : IsIndexed [] []
IsIndexed-none = record {
  few = omega arith;
  distinct = distinct_none;
  ordered = record { rising = λ i j d l h. absurd (omega arith); few = omega arith };
  count = refl;
  finds = λ name. refl;
}

-- names that compare alike are equal
alike : (a b : List ℕ) → is_at (name_cmp a) b ≡ bytes_eq a b
alike a b = sym (lists_ties nat_cmp unsigned_ties a b)

-- the name that is put last, with the place that it has there
pub IsIndexed-add : (names : List (List ℕ)) (places : List (List ℕ × ℕ)) (name : List ℕ) (gap place : ℕ) → IsIndexed names places →
    position (bytes_eq name) names ≡ None → length names < MOST_KINDS → gap ≤ length places → IsGapFor name places gap → place ≡ length names →
    IsIndexed (names ++ name ∷ []) (insert places gap (name, place))
IsIndexed-add names places name gap place is new room within at last =
    let none = none_passes_from_lookup (is_at (name_cmp name)) places (lookup_none places name gap within at) in
    record {
      few = grind (arith, length_push names name);
      distinct = IsDistinct-push bytes_eq-equivalence names name is.distinct (grind (arith, any-position (bytes_eq name) names));
      ordered = IsOrdered-insert places name gap place is.ordered within at (omega (arith, is.count));
      count = omega (arith, is.count, length_push names name, length-insert places gap (name, place) within);
      finds = λ other.
          let added = lookup-insert (eq_by_cmp_equiv nat_list_cmp_total) name place other places gap none in
          grind (arith, added, is.finds other, alike name other, position_push (bytes_eq other) names name, bytes_eq-Decides name other, bytes_eq-Decides other name);
    }

-- the name that is put last is at the place that the list's length was
pub position-added : (names later : List (List ℕ)) (name : List ℕ) → later ≡ names ++ name ∷ [] → position (bytes_eq name) names ≡ None → position (bytes_eq name) later ≡ Some (length names)
position-added names later name is new = rw is (position_push_new (bytes_eq name) names name new ((bytes_eq-Decides name name).1 refl))

-- ---- what a search for a name finds

module _ (names : List (List ℕ)) (places : List (List ℕ × ℕ)) (is : IsIndexed names places) (name : List ℕ) (i : ℕ) where
  pub named_place : (e : List ℕ × ℕ) → i < length places → IsNamedAt name places i → slice_get places i ≡ Some e → position (bytes_eq name) names ≡ Some e.1
  named_place e within named at = sym (is.finds name) ∙ number_is places name i e is.ordered within named at

  pub no_place : i ≤ length places → IsGapFor name places i → position (bytes_eq name) names ≡ None
  no_place within gap = sym (is.finds name) ∙ lookup_none places name i within gap

  pub not_named : position (bytes_eq name) names ≡ None → i < length places → IsNamedAt name places i → ⊥
  not_named new within named =
      false≢true (ap is_some (sym new ∙ named_place (get_or places i ([], 0)) within named (slice_get-get_or places i ([], 0) within)))
