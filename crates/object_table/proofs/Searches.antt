-- A search for a name among entries that stand in runs: first for the run, then within it.
use Rattle.std.proofs.Common.{◌≡◌, ℕ, zero, suc, ◌+◌, ◌-◌, ◌<◌, ◌≤◌, List, [], ◌∷◌, length, take, get_or, Bool, true, false, not, ltb, Ordering, Less, Equal, Greater, refl, sym, ◌∙◌, ap, arith}
use Rattle.std.specs.List.Sorted.{IsPartitionPoint, IsPartitionedBy}
use Rattle.std.specs.Ordering.{ordering_index, is_gt}
use Rattle.std.proofs.lemmas.Bool.{ltb-true, ltb-false}
use Rattle.std.proofs.lemmas.List.{get_or_default}
use Rattle.graph_meaning.specs.Heap.{name_cmp}
use Rattle.object_table.specs.Blocks.{EntryBlock, all_entries, IsLaid, begins_above}
use Rattle.object_table.specs.Ordered.{RisesByName, IsNamedAt, IsGapFor}
use Rattle.object_table.proofs.Laid.{starts_rise, start_is, length-all}
use Rattle.object_table.proofs.Named.{Entries, flipped, names_rise}
use Rattle.object_table.proofs.Parted.{IsParted, parted, length_is, to_end, entry_in}

abbrev pub Runs : Type 0
Runs = List (EntryBlock (List ℕ × ℕ))

by_cases : {P : Type 0} (a b : ℕ) (t : Bool) → ltb a b ≡ t → (a < b → P) → (b ≤ a → P) → P
by_cases a b true is below above = below (ltb-true a b is)
by_cases a b false is below above = above (ltb-false a b is)

-- ---- a name between two neighbours

low : (o : Ordering) → ordering_index o ≤ 0 → o ≡ Less
low Less h = refl
low Equal h = absurd (omega arith)
low Greater h = absurd (omega arith)

high : (o : Ordering) → 2 ≤ ordering_index o → o ≡ Greater
high Less h = absurd (omega arith)
high Equal h = absurd (omega arith)
high Greater h = refl

-- A name that is above the entry before a place and below the entry at it goes there.
gap_between : (entries : Entries) (name : List ℕ) (i : ℕ) → RisesByName entries → i ≤ length entries →
    ((j : ℕ) (d : List ℕ × ℕ) → j + 1 ≡ i → name_cmp (get_or entries j d).0 name ≡ Less) →
    ((d : List ℕ × ℕ) → i < length entries → name_cmp (get_or entries i d).0 name ≡ Greater) → IsGapFor name entries i
gap_between entries name i rises within below above =
    let rise = names_rise entries rises name in
    let before : (k : ℕ) (d : List ℕ × ℕ) → 0 ≤ k → k < i → name_cmp name (get_or entries k d).0 ≡ Greater = λ k d l h.
    let next : i - 1 + 1 ≡ i = omega arith in
    let last : ordering_index (name_cmp (get_or entries (i - 1) d).0 name) ≡ 0 = ap ordering_index (below (i - 1) d next) in
    let no_higher : ordering_index (name_cmp (get_or entries k d).0 name) ≤ ordering_index (name_cmp (get_or entries (i - 1) d).0 name) = rise k (i - 1) d (omega arith) (omega arith) in
    flipped (get_or entries k d).0 name Less Greater (low (name_cmp (get_or entries k d).0 name) (omega arith)) refl in
    let after : (k : ℕ) (d : List ℕ × ℕ) → i ≤ k → k < length entries → name_cmp name (get_or entries k d).0 ≡ Less = λ k d l h.
    let first : ordering_index (name_cmp (get_or entries i d).0 name) ≡ 2 = ap ordering_index (above d (omega arith)) in
    let no_lower : ordering_index (name_cmp (get_or entries i d).0 name) ≤ ordering_index (name_cmp (get_or entries k d).0 name) = rise i k d l h in
    flipped (get_or entries k d).0 name Greater Less (high (name_cmp (get_or entries k d).0 name) (omega arith)) refl in
    (before, after)

-- ---- the first name of a run

begins_is : (name : List ℕ) (entries : Entries) (d : List ℕ × ℕ) → 0 < length entries → begins_above name entries ≡ is_gt (name_cmp (get_or entries 0 d).0 name)
begins_is name [] d h = absurd (omega arith)
begins_is name (r ∷ entries) d h = refl

first_in : (runs : Runs) (name : List ℕ) (k : ℕ) (r : EntryBlock (List ℕ × ℕ)) (d : List ℕ × ℕ) → IsParted runs k r →
    begins_above name r.entries ≡ is_gt (name_cmp (get_or (all_entries runs) r.start d).0 name)
first_in runs name k r d p =
    let here : get_or (all_entries runs) (r.start + 0) d ≡ get_or r.entries 0 d = entry_in runs k 0 r d p p.some in
    let there : r.start + 0 ≡ r.start = omega arith in
    begins_is name r.entries d p.some ∙ ap (λ e. is_gt (name_cmp e.0 name)) (sym here ∙ ap (λ n. get_or (all_entries runs) n d) there)

greater : (o : Ordering) → is_gt o ≡ true → o ≡ Greater
greater Less h = cc
greater Equal h = cc
greater Greater h = refl

-- a run that begins above the name begins with a higher one
first_above : (runs : Runs) (name : List ℕ) (k : ℕ) (r : EntryBlock (List ℕ × ℕ)) (d : List ℕ × ℕ) → IsParted runs k r →
    begins_above name r.entries ≡ true → name_cmp (get_or (all_entries runs) r.start d).0 name ≡ Greater
first_above runs name k r d p above = greater (name_cmp (get_or (all_entries runs) r.start d).0 name) (sym (first_in runs name k r d p) ∙ above)

no_greater : (o u : Ordering) → ordering_index o ≤ ordering_index u → not (is_gt u) ≡ true → not (is_gt o) ≡ true
no_greater Less u h passes = refl
no_greater Equal u h passes = refl
no_greater Greater Less h passes = absurd (omega arith)
no_greater Greater Equal h passes = absurd (omega arith)
no_greater Greater Greater h passes = passes

true_is_false : true ≡ false → ⊥
true_is_false h = cc

some_run : {X : Type 0} (runs : List (EntryBlock X)) → 0 < length (all_entries runs) → 0 < length runs
some_run [] h = absurd (omega arith)
some_run (r ∷ runs) h = omega arith

parted_at : {X : Type 0} (runs : List (EntryBlock X)) (k : ℕ) (q : EntryBlock X) → IsLaid 0 runs → k < length runs → IsParted runs k (get_or runs k q)
parted_at runs k q laid h = parted runs k (get_or runs k q) laid h (get_or_default runs k q (get_or runs k q) h)

-- no run that begins above the name stands before one that does not
pub runs_parted : (runs : Runs) (name : List ℕ) → IsLaid 0 runs → RisesByName (all_entries runs) → IsPartitionedBy (λ r. not (begins_above name r.entries)) runs
runs_parted runs name laid rises i j q l h passes =
    let d : List ℕ × ℕ = ([], 0) in
    let first = parted_at runs i q laid (omega arith) in
    let second = parted_at runs j q laid h in
    let starts : (get_or runs i q).start ≤ (get_or runs j q).start = starts_rise runs laid i j q l h in
    let within : (get_or runs j q).start < length (all_entries runs) = omega (arith, second.some, second.start, length_is runs j (get_or runs j q) second) in
    let rise = names_rise (all_entries runs) rises name (get_or runs i q).start (get_or runs j q).start d starts within in
    ap not (first_in runs name i (get_or runs i q) d first)
    ∙ no_greater (name_cmp (get_or (all_entries runs) (get_or runs i q).start d).0 name)
    (name_cmp (get_or (all_entries runs) (get_or runs j q).start d).0 name) rise
    (ap not (sym (first_in runs name j (get_or runs j q) d second)) ∙ passes)

-- ---- what the search for the run answers

-- the runs before i don't begin above the name, and those from it on do
abbrev pub PartsRuns : Runs → List ℕ → ℕ → Type 0
PartsRuns runs name i = IsPartitionPoint (λ r. not (begins_above name r.entries) ≡ true) (λ r. not (begins_above name r.entries) ≡ false) runs i

from_not : (b : Bool) → not b ≡ false → b ≡ true
from_not true h = refl
from_not false h = cc

-- the first name of a later run is above the name
later_above : (runs : Runs) (name : List ℕ) (i k : ℕ) (q : EntryBlock (List ℕ × ℕ)) (d : List ℕ × ℕ) → IsLaid 0 runs → PartsRuns runs name i → i ≤ k →
    k < length runs → name_cmp (get_or (all_entries runs) (get_or runs k q).start d).0 name ≡ Greater
later_above runs name i k q d laid parts l h = first_above runs name k (get_or runs k q) d (parted_at runs k q laid h) (from_not (begins_above name (get_or runs k q).entries) (parts.1 k q l h))

abbrev no_run : EntryBlock (List ℕ × ℕ)
no_run = record { start = 0; entries = [] }

-- Where each run begins above the name, it goes first.
pub gap_first : (runs : Runs) (name : List ℕ) (m : ℕ) → IsLaid 0 runs → RisesByName (all_entries runs) → PartsRuns runs name m → m ≡ 0 → IsGapFor name (all_entries runs) 0
gap_first runs name m laid rises parts none = gap_between (all_entries runs) name 0 rises (omega arith) (λ j d next. absurd (omega arith)) (λ d h.
    let some : 0 < length runs = some_run runs h in
    let start : (get_or runs 0 no_run).start ≡ 0 = start_is runs 0 no_run laid some in
    ap (λ n. name_cmp (get_or (all_entries runs) n d).0 name) (sym start) ∙ later_above runs name m 0 no_run d laid parts (omega arith) some)

-- the last run that doesn't begin above the name
pub last_parted : (runs : Runs) (m : ℕ) (r : EntryBlock (List ℕ × ℕ)) → IsLaid 0 runs → m ≤ length runs → (m ≡ 0 → ⊥) → r ≡ get_or runs (m - 1) r → IsParted runs (m - 1) r
last_parted runs m r laid h some is = parted runs (m - 1) r laid (omega arith) is

-- a part of entries that rise
pub rises_in : (runs : Runs) (k : ℕ) (r : EntryBlock (List ℕ × ℕ)) → IsParted runs k r → RisesByName (all_entries runs) → RisesByName r.entries
rises_in runs k r p rises i j d l h =
    rw (← entry_in runs k i r d p (omega arith), ← entry_in runs k j r d p h) (rises (r.start + i) (r.start + j) d (omega arith) (omega (arith, p.start, length_is runs k r p)))

pub in_list : (runs : Runs) (k i : ℕ) (r : EntryBlock (List ℕ × ℕ)) → IsParted runs k r → i ≤ length r.entries → r.start + i ≤ length (all_entries runs)
in_list runs k i r p h = omega (arith, p.start, length_is runs k r p)

pub in_list_below : (runs : Runs) (k i : ℕ) (r : EntryBlock (List ℕ × ℕ)) → IsParted runs k r → i < length r.entries → r.start + i < length (all_entries runs)
in_list_below runs k i r p h = omega (arith, p.start, length_is runs k r p)

pub named_in : (runs : Runs) (name : List ℕ) (k i : ℕ) (r : EntryBlock (List ℕ × ℕ)) → IsParted runs k r
    → i < length r.entries → IsNamedAt name r.entries i → IsNamedAt name (all_entries runs) (r.start + i)
named_in runs name k i r p h named d = rw (entry_in runs k i r d p h) (named d)

-- the name goes after the first of its run
after_first : (runs : Runs) (name : List ℕ) (k i : ℕ) (r : EntryBlock (List ℕ × ℕ)) → IsParted runs k r → not (begins_above name r.entries) ≡ true → IsGapFor name r.entries i → 0 < i
after_first runs name k zero r p passes gap =
    let d : List ℕ × ℕ = ([], 0) in
    let first : name_cmp (get_or r.entries 0 d).0 name ≡ Greater = flipped name (get_or r.entries 0 d).0 Less Greater (gap.1 0 d (omega arith) p.some) refl in
    let above : begins_above name r.entries ≡ true = begins_is name r.entries d p.some ∙ ap is_gt first in
    absurd (true_is_false (sym passes ∙ ap not above))
after_first runs name k (suc i) r p passes gap = omega arith

-- The gap in the last run that doesn't begin above the name is the gap in the list.
pub gap_in : (runs : Runs) (name : List ℕ) (m k i : ℕ) (r : EntryBlock (List ℕ × ℕ)) → IsLaid 0 runs → RisesByName (all_entries runs) →
    IsParted runs k r → PartsRuns runs name m → k + 1 ≡ m → i ≤ length r.entries → IsGapFor name r.entries i →
    IsGapFor name (all_entries runs) (r.start + i)
gap_in runs name m k i r laid rises p parts last h gap =
    let passes : not (begins_above name r.entries) ≡ true = ap (λ q. not (begins_above name q.entries)) p.is ∙ parts.0 k r (omega arith) (omega arith) in
    let some : 0 < i = after_first runs name k i r p passes gap in
    let below : (j : ℕ) (d : List ℕ × ℕ) → j + 1 ≡ r.start + i → name_cmp (get_or (all_entries runs) j d).0 name ≡ Less = λ j d next.
    let here : j ≡ r.start + (i - 1) = omega arith in
    ap (λ n. name_cmp (get_or (all_entries runs) n d).0 name) here
    ∙ ap (λ e. name_cmp e.0 name) (entry_in runs k (i - 1) r d p (omega arith))
    ∙ flipped name (get_or r.entries (i - 1) d).0 Greater Less (gap.0 (i - 1) d (omega arith) (omega arith)) refl in
    let above : (d : List ℕ × ℕ) → r.start + i < length (all_entries runs) → name_cmp (get_or (all_entries runs) (r.start + i) d).0 name ≡ Greater = λ d l.
    by_cases i (length r.entries) (ltb i (length r.entries)) refl
    (λ in'. ap (λ e. name_cmp e.0 name) (entry_in runs k i r d p in') ∙ flipped name (get_or r.entries i d).0 Less Greater (gap.1 i d (omega arith) in') refl)
    (λ past.
    let end : r.start + i ≡ length (all_entries (take (k + 1) runs)) = omega (arith, p.start, to_end runs k r p) in
    let more : k + 1 < length runs = grind (arith, end, length-all runs (k + 1)) in
    let start : r.start + i ≡ (get_or runs (k + 1) no_run).start = end ∙ sym (start_is runs (k + 1) no_run laid more) in
    ap (λ n. name_cmp (get_or (all_entries runs) n d).0 name) start ∙ later_above runs name m (k + 1) no_run d laid parts (omega arith) more) in
    gap_between (all_entries runs) name (r.start + i) rises (in_list runs k i r p h) below above
