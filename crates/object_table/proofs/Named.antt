-- A search for a name among the entries, and what an edit where it ends does.
use Rattle.std.proofs.Common.{◌≡◌, ℕ, ◌+◌, ◌<◌, ◌≤◌, List, [], length, not, Bool, set, get_or, slice_get, IfSome, Some, None, is_some, Result, Ok, Err}
use Rattle.std.proofs.Common.{is_ok, IfOk, IfErr, OnErr, Ordering, Less, Equal, Greater, refl, sym, ◌∙◌, ap, arith}
use Rattle.std.specs.List.{insert, remove, count_by}
use Rattle.std.specs.List.Sorted.{IsNonDecreasingBy, IsSearchInRange, IsBinarySearchResult}
use Rattle.std.specs.Ordering.{ordering_index, ordering_reverse, is_lt}
use Rattle.std.specs.Cmp.{IsTotalOrder}
use Rattle.std.specs.Map.{lookup, remove_entry}
use Rattle.std.specs.BTreeMap.{insert_entry, is_at}
use Rattle.std.proofs.lemmas.Cmp.{nat_list_cmp_total}
use Rattle.std.proofs.lemmas.Option.{get_or_from_slice_get, slice_get-get_or}
use Rattle.std.proofs.lemmas.List.Edits.{length-insert, length-remove}
use Rattle.std.proofs.lemmas.List.Filters.{length-filter_both}
use Rattle.std.proofs.lemmas.List.Kept.{AllPairs-filter}
use Rattle.std.proofs.lemmas.List.Quantifiers.{all_pairs_remove}
use Rattle.std.proofs.lemmas.List.Sorted.{searchable_from_sorted}
use Rattle.std.proofs.lemmas.List.Sums.{length-filter}
use Rattle.object_table.specs.declared.block.TheConstants.{MOST_ENTRIES}
use Rattle.graph_meaning.specs.Heap.{name_cmp}
use Rattle.graph_meaning.proofs.Membership.{length-filter_le}
use Rattle.object_table.specs.Blocks.{roots_cleared}
use Rattle.object_table.specs.Located.{is_marked_id}
use Rattle.object_table.specs.Ordered.{EntriesAreOrdered, RisesByName, IsNamedAt, IsGapFor}
use Rattle.object_table.proofs.Entries.{insert_at_gap, insert_at_place, remove_at_gap, remove_at_place, lookup-gap, lookup-place, rises-insert}

abbrev pub Entries : Type 0
Entries = List (List ℕ × ℕ)

abbrev total : IsTotalOrder name_cmp
total = nat_list_cmp_total

-- a name compared with an entry's, and the entry's with the name
pub flipped : (a b : List ℕ) (r s : Ordering) → name_cmp a b ≡ r → ordering_reverse r ≡ s → name_cmp b a ≡ s
flipped a b r s is back = total.antisymm b a ∙ ap ordering_reverse is ∙ back

-- the names rise, as a binary search asks
pub names_rise : (entries : Entries) → RisesByName entries → (name : List ℕ) → IsNonDecreasingBy (λ r. ordering_index (name_cmp r.0 name)) entries
names_rise entries rises name = searchable_from_sorted total (λ r. r.0) entries name (λ k d l h.
    let below : name_cmp (get_or entries k d).0 (get_or entries (k + 1) d).0 ≡ Less = rises k (k + 1) d (omega arith) h in
    ap is_lt (flipped (get_or entries k d).0 (get_or entries (k + 1) d).0 Less Greater below refl))

-- what a binary search that compares the entries' names with this one answers
pub searched : (entries xs : Entries) (name text : List ℕ) (r : Result ℕ ℕ) → xs ≡ entries → text ≡ name → RisesByName entries →
    IsBinarySearchResult (λ e. name_cmp e.0 text) xs r → IfOk r (IsNamedAt name entries) × IfErr r (IsGapFor name entries)
searched entries xs name text (Ok i) same is rises equal = (λ d. flipped (get_or entries i d).0 name Equal Equal (rw (same, is) at (equal d)) refl, tt)
searched entries xs name text (Err i) same is rises parted =
    let there = (rw (same, is) at parted) (names_rise entries rises name) in
    (tt, (λ k d l h. flipped (get_or entries k d).0 name Less Greater (there.0 k d l h) refl, λ k d l h. flipped (get_or entries k d).0 name Greater Less (there.1 k d l h) refl))

-- ---- where the name is

pub set_is : (entries later : Entries) (name : List ℕ) (i id : ℕ) → EntriesAreOrdered entries → i < length entries → IsNamedAt name entries i →
    IfSome (slice_get entries i) (λ r. later ≡ set entries i (r.0, id)) → later ≡ insert_entry name_cmp entries name id
set_is entries later name i id ordered h named held =
    let d : List ℕ × ℕ = ([], 0) in
    let is : later ≡ set entries i ((get_or entries i d).0, id) = rw (slice_get-get_or entries i d h) at held in
    is ∙ sym (insert_at_place total name id entries i d ordered.rising h named)

pub IsOrdered-remove : (entries : Entries) (i : ℕ) → EntriesAreOrdered entries → i < length entries → EntriesAreOrdered (remove entries i)
IsOrdered-remove entries i ordered h = record {
  rising = all_pairs_remove (λ a b. name_cmp a.0 b.0 ≡ Less) entries i h ordered.rising;
  few = omega (arith, length-remove entries i h, ordered.few);
}

pub remove_is : (entries : Entries) (name : List ℕ) (i : ℕ) → EntriesAreOrdered entries → i < length entries
    → IsNamedAt name entries i → remove entries i ≡ remove_entry (is_at (name_cmp name)) entries
remove_is entries name i ordered h named = sym (remove_at_place total name entries i ordered.rising h named)

-- ---- where the name would go

pub IsOrdered-insert : (entries : Entries) (name : List ℕ) (i id : ℕ) → EntriesAreOrdered entries → i ≤ length entries → IsGapFor name entries i →
    length entries < MOST_ENTRIES → EntriesAreOrdered (insert entries i (name, id))
IsOrdered-insert entries name i id ordered h gap room = record {
  rising = rises-insert total name id entries i ordered.rising h gap;
  few = omega (arith, length-insert entries i (name, id) h);
}

pub insert_is : (entries : Entries) (name : List ℕ) (i id : ℕ) → i ≤ length entries → IsGapFor name entries i → insert entries i (name, id) ≡ insert_entry name_cmp entries name id
insert_is entries name i id h gap = sym (insert_at_gap total name id entries i h gap)

pub remove_none : (entries : Entries) (name : List ℕ) (i : ℕ) → i ≤ length entries → IsGapFor name entries i → entries ≡ remove_entry (is_at (name_cmp name)) entries
remove_none entries name i h gap = sym (remove_at_gap total name entries i h gap)

pub lookup_none : (entries : Entries) (name : List ℕ) (i : ℕ) → i ≤ length entries → IsGapFor name entries i → lookup (is_at (name_cmp name)) entries ≡ None
lookup_none entries name i h gap = lookup-gap total name entries i h gap

-- the number of the name
pub number_is : (entries : Entries) (name : List ℕ) (i : ℕ) (e : List ℕ × ℕ) → EntriesAreOrdered entries → i < length entries → IsNamedAt name entries i →
    slice_get entries i ≡ Some e → lookup (is_at (name_cmp name)) entries ≡ Some e.1
number_is entries name i e ordered h named at =
    lookup-place total name entries i e ordered.rising h named ∙ ap (λ (f : List ℕ × ℕ). Some f.1) (get_or_from_slice_get entries i e e at)

-- the search finds the name exactly where a look-up does
pub found_is : (entries : Entries) (name : List ℕ) (r : Result ℕ ℕ) → EntriesAreOrdered entries → IsSearchInRange r (length entries) →
    IfOk r (IsNamedAt name entries) → IfErr r (IsGapFor name entries) → is_ok r ≡ is_some (lookup (is_at (name_cmp name)) entries)
found_is entries name (Ok i) ordered h named gap = sym (ap is_some (lookup-place total name entries i ([], 0) ordered.rising h named))
found_is entries name (Err i) ordered h named gap = ap is_some (sym (lookup-gap total name entries i h gap))

-- ---- entries are taken away by what they hold

pub IsOrdered-cleared : (ids : List (ℕ × ℕ)) (flags : List Bool) (entries : Entries) → EntriesAreOrdered entries → EntriesAreOrdered (roots_cleared ids flags entries)
IsOrdered-cleared ids flags entries ordered = record {
  rising = AllPairs-filter (λ a b. name_cmp a.0 b.0 ≡ Less) (λ r. not (is_marked_id ids flags r.1)) entries ordered.rising;
  few = omega (arith, length-filter_le (λ r. not (is_marked_id ids flags r.1)) entries, ordered.few);
}

-- what is left and what is taken away
pub cleared_count : (ids : List (ℕ × ℕ)) (flags : List Bool) (entries : Entries) → length (roots_cleared ids flags entries) + count_by (λ r. is_marked_id ids flags r.1) entries ≡ length entries
cleared_count ids flags entries =
    let all = length-filter_both (λ r. is_marked_id ids flags r.1) (λ r. not (is_marked_id ids flags r.1)) (λ r. refl) entries in
    let taken = length-filter (λ r. is_marked_id ids flags r.1) entries in
    omega arith

-- what holds anyway holds where a call fails
pub OnErr-always : {T E P : Type 0} (r : Result T E) → P → OnErr r P
OnErr-always (Ok x) p = tt
OnErr-always (Err e) p = p
