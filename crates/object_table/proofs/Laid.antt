-- Lists that stand in runs, one after another: where a run starts, and what an edit of one run does to the list.
use Rattle.std.proofs.Common.{◌≡◌, ℕ, zero, suc, ◌+◌, ◌<◌, ◌≤◌, List, [], ◌∷◌, ◌++◌, length, map, filter, not, Bool, cond, take, drop, get_or, true}
use Rattle.std.proofs.Common.{false, leb, refl, sym, ◌∙◌, ap, arith, length-append}
use Rattle.std.specs.Prelude.{nat_lt}
use Rattle.std.specs.List.Sorted.{IsPartitionPoint, IsNonDecreasingBy}
use Rattle.std.proofs.lemmas.Bool.{leb-true, leb-false}
use Rattle.std.proofs.lemmas.Bool.Decides.{nat_tests}
use Rattle.std.proofs.lemmas.List.{take_more, take_all, take-append-drop}
use Rattle.std.proofs.lemmas.List.Concat.{flat_map-append}
use Rattle.std.proofs.lemmas.List.Elements.{All-weaker, filter-append, filter_passes}
use Rattle.std.proofs.lemmas.List.Sorted.{IsNonDecreasingBy-from_all_adjacent}
use Rattle.object_table.specs.Blocks.{EntryBlock, all_entries, IsLaid, IsRunOf, NoneEmpty, roots_cleared, run_cleared}
use Rattle.object_table.specs.Located.{is_marked_id}

module _ {X : Type 0} where
  pub all_entries-append : (qs rs : List (EntryBlock X)) → all_entries (qs ++ rs) ≡ all_entries qs ++ all_entries rs
  all_entries-append qs rs = flat_map-append (λ r. r.entries) qs rs

  -- ---- where a run starts

  pub start-at : (n : ℕ) (runs : List (EntryBlock X)) (k : ℕ) (d : EntryBlock X) → IsLaid n runs → k < length runs → (get_or runs k d).start ≡ n + length (all_entries (take k runs))
  start-at n [] k d laid h = absurd (omega arith)
  start-at n (r ∷ runs) zero d laid h = omega (arith, laid.0)
  start-at n (r ∷ runs) (suc k) d laid h = omega (arith, start-at (n + length r.entries) runs k d laid.2 (omega arith), length-append r.entries (all_entries (take k runs)))

  pub start_is : (runs : List (EntryBlock X)) (k : ℕ) (d : EntryBlock X) → IsLaid 0 runs → k < length runs → (get_or runs k d).start ≡ length (all_entries (take k runs))
  start_is runs k d laid h = omega (arith, start-at 0 runs k d laid h)

  -- the runs up to the end of the k-th
  pub length-more : (runs : List (EntryBlock X)) (k : ℕ) (d : EntryBlock X) → k < length runs
      → length (all_entries (take (k + 1) runs)) ≡ length (all_entries (take k runs)) + length (get_or runs k d).entries
  length-more runs k d h =
      ap (λ l. length (all_entries l)) (take_more runs k d h) ∙ ap length (all_entries-append (take k runs) (get_or runs k d ∷ []))
      ∙ omega (arith, length-append (all_entries (take k runs)) ((get_or runs k d).entries ++ []), length-append (get_or runs k d).entries [])

  pub length-all : (runs : List (EntryBlock X)) (k : ℕ) → length runs ≤ k → length (all_entries (take k runs)) ≡ length (all_entries runs)
  length-all runs k h = ap (λ l. length (all_entries l)) (take_all k runs h)

  pub starts_rise : (runs : List (EntryBlock X)) → IsLaid 0 runs → IsNonDecreasingBy (λ r. r.start) runs
  starts_rise runs laid =
      IsNonDecreasingBy-from_all_adjacent (λ r. r.start) runs
      (λ k d h. omega (arith, start_is runs k d laid (omega arith), start_is runs (k + 1) d laid (omega arith), length-more runs k d (omega arith)))

  pub length_take : (runs : List (EntryBlock X)) (k : ℕ) → length (all_entries (take k runs)) ≤ length (all_entries runs)
  length_take runs k =
      omega (
        arith,
        ap (λ l. length (all_entries l)) (take-append-drop k runs),
        ap length (all_entries-append (take k runs) (drop k runs)),
        length-append (all_entries (take k runs)) (all_entries (drop k runs)),
      )

  -- ---- the run of a place

  abbrev empty_run : EntryBlock X
  empty_run = record { start = 0; entries = [] }

  abbrev StartsWithin : ℕ → List (EntryBlock X) → ℕ → Type 0
  StartsWithin place runs i = IsPartitionPoint (λ r. leb r.start place ≡ true) (λ r. leb r.start place ≡ false) runs i

  -- the first run starts at 0
  pub starts_before : (runs : List (EntryBlock X)) (place i : ℕ) → IsLaid 0 runs → 0 < length runs → StartsWithin place runs i → 0 < i
  starts_before runs place zero laid some parted =
      absurd (omega (arith, start_is runs 0 empty_run laid some, leb-false (get_or runs 0 empty_run).start place (parted.1 0 empty_run (omega arith) some)))
  starts_before runs place (suc i) laid some parted = omega arith

  pub run_found : (runs : List (EntryBlock X)) (place i k : ℕ) → IsLaid 0 runs → place ≤ length (all_entries runs) → i ≤ length runs → k + 1 ≡ i → StartsWithin place runs i → IsRunOf runs place k
  run_found runs place i k laid within h next parted =
      let begins : length (all_entries (take k runs)) ≤ place =
      omega (arith, start_is runs k empty_run laid (omega arith), leb-true (get_or runs k empty_run).start place (parted.0 k empty_run (omega arith) (omega arith))) in
      let inner : k + 1 < length runs → place < length (all_entries (take (k + 1) runs)) =
      λ l. omega (arith, start_is runs (k + 1) empty_run laid l, leb-false (get_or runs (k + 1) empty_run).start place (parted.1 (k + 1) empty_run (omega arith) l)) in
      let last : length runs ≤ k + 1 → length (all_entries (take (k + 1) runs)) ≡ length (all_entries runs) = length-all runs (k + 1) in
      record { in_range = omega arith; begins = begins; reaches = grind (arith, inner, last); ends = λ l. grind (arith, inner, last) }

  -- ---- runs are taken away that have no entry

  -- the runs that have one
  abbrev pub with_roots : List (EntryBlock X) → List (EntryBlock X)
  with_roots runs = filter (λ r. nat_lt 0 (length r.entries)) runs

  pub all_entries-some : (runs : List (EntryBlock X)) → all_entries (with_roots runs) ≡ all_entries runs
  all_entries-some [] = refl
  all_entries-some (r ∷ runs) = go r.entries (all_entries-some runs)
    where
      go : (entries : List X) → all_entries (with_roots runs) ≡ all_entries runs →
          all_entries (cond (nat_lt 0 (length entries)) (record { start = r.start; entries = entries } ∷ with_roots runs) (with_roots runs)) ≡ entries ++ all_entries runs
      go [] rest = rest
      go (x ∷ entries) rest =
          let some : nat_lt 0 (length (x ∷ entries)) ≡ true = grind (arith, nat_tests) in
          rw some (ap (λ l. (x ∷ entries) ++ l) rest)

  pub none_empty-some : (runs : List (EntryBlock X)) → NoneEmpty (with_roots runs)
  none_empty-some runs =
      All-weaker (λ r. nat_lt 0 (length r.entries) ≡ true) (λ r. 0 < length r.entries) (λ r some. grind (arith, nat_tests)) (with_roots runs) (filter_passes (λ r. nat_lt 0 (length r.entries)) runs)

-- the entries of runs that were cleared
pub all_entries-cleared : (ids : List (ℕ × ℕ)) (flags : List Bool) (runs : List (EntryBlock (List ℕ × ℕ))) → all_entries (map (run_cleared ids flags) runs) ≡ roots_cleared ids flags (all_entries runs)
all_entries-cleared ids flags [] = refl
all_entries-cleared ids flags (r ∷ runs) =
    ap (λ l. roots_cleared ids flags r.entries ++ l) (all_entries-cleared ids flags runs) ∙ sym (filter-append (λ e. not (is_marked_id ids flags e.1)) r.entries (all_entries runs))
