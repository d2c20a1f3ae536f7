-- A list in runs, parted at one of them: what an edit of that run does to the list.
use Rattle.std.proofs.Common.{◌≡◌, ℕ, zero, suc, ◌+◌, ◌-◌, ◌<◌, ◌≤◌, List, [], ◌∷◌, ◌++◌, length, take, drop, set, get_or, slice_get, Some, IfSome}
use Rattle.std.proofs.Common.{refl, sym, ◌∙◌, ap, subst, add-one, arith, length-append}
use Rattle.std.specs.List.{insert, remove}
use Rattle.std.proofs.lemmas.Option.{slice_get-get_or, get_or_from_slice_get, slice_get_within}
use Rattle.std.proofs.lemmas.List.{append_assoc, get_or-append-add, get_or_append_left, take-append-drop, drop_more, set_split, length-set}
use Rattle.std.proofs.lemmas.List.{length-drop, set-append_left, set-append_right, take_more_set, drop-set-lt, length-take-le, get_or-set_other}
use Rattle.std.proofs.lemmas.List.{get_or_default}
use Rattle.std.proofs.lemmas.List.Edits.{insert-append_left, insert-append_right, remove-append_left, remove-append_right}
use Rattle.object_table.specs.Blocks.{EntryBlock, all_entries, IsLaid, IsRunOf, NoneEmpty}
use Rattle.std.proofs.lemmas.List.Elements.{All-nil, All-cons, All-head, All-tail, All-append, All-take, All-drop, All-set}
use Rattle.object_table.proofs.Laid.{all_entries-append, length-more, length-all}

module _ {X : Type 0} where
  pub IsLaid-at : (n m : ℕ) (runs : List (EntryBlock X)) → m ≡ n → IsLaid n runs → IsLaid m runs
  IsLaid-at n m runs same laid = rw same laid

  pub IsLaid-split : (n : ℕ) (qs rs : List (EntryBlock X)) → IsLaid n (qs ++ rs) → IsLaid n qs × IsLaid (n + length (all_entries qs)) rs
  IsLaid-split n [] rs laid = (tt, IsLaid-at n (n + 0) rs (omega arith) laid)
  IsLaid-split n (q ∷ qs) rs laid =
      let rest = IsLaid-split (n + length q.entries) qs rs laid.2 in
      ((laid.0, laid.1, rest.0), IsLaid-at _ _ rs (omega (arith, length-append q.entries (all_entries qs))) rest.1)

  pub IsLaid-append : (n : ℕ) (qs rs : List (EntryBlock X)) → IsLaid n qs → IsLaid (n + length (all_entries qs)) rs → IsLaid n (qs ++ rs)
  IsLaid-append n [] rs first last = IsLaid-at (n + 0) n rs (omega arith) last
  IsLaid-append n (q ∷ qs) rs first last = (first.0, first.1, IsLaid-append (n + length q.entries) qs rs first.2 (IsLaid-at _ _ rs (omega (arith, length-append q.entries (all_entries qs))) last))

  -- The list before a run, the run, and the list after it.
  pub record IsParted (runs : List (EntryBlock X)) (k : ℕ) (r : EntryBlock X) : Type 0 where
    pub in_range : k < length runs
    pub is : r ≡ get_or runs k r
    pub before : IsLaid 0 (take k runs)
    pub start : r.start ≡ length (all_entries (take k runs))
    pub some : 0 < length r.entries
    pub after : IsLaid (length (all_entries (take k runs)) + length r.entries) (drop (k + 1) runs)
    pub list : all_entries runs ≡ all_entries (take k runs) ++ (r.entries ++ all_entries (drop (k + 1) runs))

  pub parted : (runs : List (EntryBlock X)) (k : ℕ) (r : EntryBlock X) → IsLaid 0 runs → k < length runs → r ≡ get_or runs k r → IsParted runs k r
  parted runs k r laid h is =
      let parts : runs ≡ take k runs ++ (r ∷ drop (k + 1) runs) = sym (take-append-drop k runs) ∙ ap (λ l. take k runs ++ l) (drop_more runs k r h ∙ ap (λ q. q ∷ drop (k + 1) runs) (sym is)) in
      let laid_parts : IsLaid 0 (take k runs ++ (r ∷ drop (k + 1) runs)) = rw parts at laid in
      let both = IsLaid-split 0 (take k runs) (r ∷ drop (k + 1) runs) laid_parts in
      record {
        in_range = h;
        is = is;
        before = both.0;
        start = omega (arith, both.1.0);
        some = both.1.1;
        after = IsLaid-at _ _ (drop (k + 1) runs) (omega arith) both.1.2;
        list = ap all_entries parts ∙ all_entries-append (take k runs) (r ∷ drop (k + 1) runs);
      }

  -- the list's length
  pub length_is : (runs : List (EntryBlock X)) (k : ℕ) (r : EntryBlock X) → IsParted runs k r →
      length (all_entries runs) ≡ length (all_entries (take k runs)) + length r.entries + length (all_entries (drop (k + 1) runs))
  length_is runs k r p = omega
      (arith, ap length p.list, length-append (all_entries (take k runs)) (r.entries ++ all_entries (drop (k + 1) runs)), length-append r.entries (all_entries (drop (k + 1) runs)))

  -- ---- a place of the run

  pub to_end : (runs : List (EntryBlock X)) (k : ℕ) (r : EntryBlock X) → IsParted runs k r → length (all_entries (take (k + 1) runs)) ≡ length (all_entries (take k runs)) + length r.entries
  to_end runs k r p = length-more runs k r p.in_range ∙ ap (λ q. length (all_entries (take k runs)) + length q.entries) (sym p.is)

  -- The run that has the place, and at the list's end the last run; its first entry has the place n.
  pub record IsHolder (runs : List (EntryBlock X)) (k place n : ℕ) (r : EntryBlock X) : Type 0 where
    pub parted : IsParted runs k r
    pub start : n ≡ r.start
    pub begins : n ≤ place
    pub reaches : place - n ≤ length r.entries
    pub ends : place < length (all_entries runs) → place - n < length r.entries

  pub holder : (runs : List (EntryBlock X)) (k place n : ℕ) (r : EntryBlock X) → IsLaid 0 runs → IsRunOf runs place k → r ≡ get_or runs k r → n ≡ r.start → IsHolder runs k place n r
  holder runs k place n r laid run is at =
      let p = parted runs k r laid run.in_range is in
      let end = to_end runs k r p in
      record {
        parted = p;
        start = at;
        begins = omega (arith, p.start, run.begins);
        reaches = omega (arith, p.start, run.begins, run.reaches, end);
        ends = λ h. omega (arith, p.start, run.begins, run.ends h, end);
      }

  -- the entry of the list at a place of the run
  pub entry_in : (runs : List (EntryBlock X)) (k i : ℕ) (r : EntryBlock X) (d : X) → IsParted runs k r → i < length r.entries → get_or (all_entries runs) (r.start + i) d ≡ get_or r.entries i d
  entry_in runs k i r d p h =
      ap (λ l. get_or l (r.start + i) d) p.list
      ∙ ap (λ n. get_or (all_entries (take k runs) ++ (r.entries ++ all_entries (drop (k + 1) runs))) (n + i) d) p.start
      ∙ get_or-append-add (all_entries (take k runs)) (r.entries ++ all_entries (drop (k + 1) runs)) i d
      ∙ get_or_append_left r.entries (all_entries (drop (k + 1) runs)) d i h

  pub entry_is : (runs : List (EntryBlock X)) (k place n : ℕ) (r : EntryBlock X) (x : X) → IsParted runs k r → n ≡ r.start → n ≤ place →
      place - n < length r.entries → slice_get r.entries (place - n) ≡ Some x → slice_get (all_entries runs) place ≡ Some x
  entry_is runs k place n r x p at begins h is =
      let there : place ≡ r.start + (place - n) = omega arith in
      let within : place < length (all_entries runs) = omega (arith, length_is runs k r p, p.start) in
      slice_get-get_or (all_entries runs) place x within
      ∙ ap Some (ap (λ m. get_or (all_entries runs) m x) there ∙ entry_in runs k (place - n) r x p h ∙ get_or_from_slice_get r.entries (place - n) x x is)

  -- what holds of the entry at a place, if there is one
  pub held_at : (xs : List X) (i : ℕ) (d : X) (P : X → Type 0) → i < length xs → IfSome (slice_get xs i) P → P (get_or xs i d)
  held_at xs i d P h holds = rw (slice_get-get_or xs i d h) at holds

  -- the last run reaches to the end
  pub last_is : (runs : List (EntryBlock X)) (r : EntryBlock X) → IsLaid 0 runs → slice_get runs (length runs - 1) ≡ Some r → r.start + length r.entries ≡ length (all_entries runs)
  last_is runs r laid is =
      let some : length runs - 1 < length runs = slice_get_within runs (length runs - 1) r is in
      let p = parted runs (length runs - 1) r laid some (sym (get_or_from_slice_get runs (length runs - 1) r r is)) in
      omega (arith, p.start, to_end runs (length runs - 1) r p, length-all runs (length runs - 1 + 1) (omega arith))

  -- ---- the run is written

  -- the list, where the run has other entries and the later runs keep theirs
  all_roots_edited : (runs later : List (EntryBlock X)) (k : ℕ) (s : EntryBlock X) → all_entries later ≡ all_entries (drop (k + 1) runs) →
      all_entries (take k runs ++ (s ∷ later)) ≡ all_entries (take k runs) ++ (s.entries ++ all_entries (drop (k + 1) runs))
  all_roots_edited runs later k s same = all_entries-append (take k runs) (s ∷ later) ∙ ap (λ l. all_entries (take k runs) ++ (s.entries ++ l)) same

  laid_edited : (runs later : List (EntryBlock X)) (k : ℕ) (r s : EntryBlock X) → IsParted runs k r → s.start ≡ r.start → 0 < length s.entries →
      IsLaid (length (all_entries (take k runs)) + length s.entries) later → IsLaid 0 (take k runs ++ (s ∷ later))
  laid_edited runs later k r s p start some laid = IsLaid-append 0 (take k runs) (s ∷ later) p.before (omega (arith, p.start), some, IsLaid-at _ _ later (omega arith) laid)

  -- ---- an entry of the run is replaced, put into it, or taken from it

  replaced : (runs : List (EntryBlock X)) (k : ℕ) (s : EntryBlock X) → k < length runs → set runs k s ≡ take k runs ++ (s ∷ drop (k + 1) runs)
  replaced runs k s h = rw add-one (set_split runs k s h)

  pub set_laid : (runs : List (EntryBlock X)) (k i : ℕ) (r s : EntryBlock X) (x : X) → IsParted runs k r → s.start ≡ r.start → s.entries ≡ set r.entries i x → IsLaid 0 (set runs k s)
  set_laid runs k i r s x p start is =
      let same : length s.entries ≡ length r.entries = ap length is ∙ length-set r.entries i x in
      rw (replaced runs k s p.in_range) (laid_edited runs (drop (k + 1) runs) k r s p start (omega (arith, p.some)) (IsLaid-at _ _ (drop (k + 1) runs) (omega arith) p.after))

  -- an edit at a place of the list is the same edit of the run that has the place
  edited_is : (edit : List X → ℕ → List X) (runs : List (EntryBlock X)) (k place n : ℕ) (r s : EntryBlock X) → IsParted runs k r → n ≡ length (all_entries (take k runs)) →
      ((ys : List X) → edit (r.entries ++ ys) (place - n) ≡ edit r.entries (place - n) ++ ys) →
      ((xs ys : List X) → length xs ≡ n → edit (xs ++ ys) place ≡ xs ++ edit ys (place - n)) →
      s.entries ≡ edit r.entries (place - n) → all_entries (set runs k s) ≡ edit (all_entries runs) place
  edited_is edit runs k place n r s p at left right is =
      ap all_entries (replaced runs k s p.in_range)
      ∙ all_roots_edited runs (drop (k + 1) runs) k s refl
      ∙ ap (λ l. all_entries (take k runs) ++ (l ++ all_entries (drop (k + 1) runs))) is
      ∙ ap (λ l. all_entries (take k runs) ++ l) (sym (left (all_entries (drop (k + 1) runs))))
      ∙ sym (right (all_entries (take k runs)) (r.entries ++ all_entries (drop (k + 1) runs)) (sym at))
      ∙ ap (λ l. edit l place) (sym p.list)

  pub set_is : (runs : List (EntryBlock X)) (k place n : ℕ) (r s : EntryBlock X) (x : X) → IsParted runs k r → n ≡ length (all_entries (take k runs)) →
      n ≤ place → place - n < length r.entries → s.entries ≡ set r.entries (place - n) x → all_entries (set runs k s) ≡ set (all_entries runs) place x
  set_is runs k place n r s x p at begins within =
      edited_is (λ l i. set l i x) runs k place n r s p at (λ ys. set-append_left r.entries ys (place - n) x within) (λ xs ys long. set-append_right xs ys n place x long begins)

  pub put_is : (runs : List (EntryBlock X)) (k place n : ℕ) (r s : EntryBlock X) (x : X) → IsParted runs k r → n ≡ length (all_entries (take k runs)) →
      n ≤ place → place - n ≤ length r.entries → s.entries ≡ insert r.entries (place - n) x → all_entries (set runs k s) ≡ insert (all_entries runs) place x
  put_is runs k place n r s x p at begins within =
      edited_is (λ l i. insert l i x) runs k place n r s p at (λ ys. insert-append_left r.entries ys (place - n) x within) (λ xs ys long. insert-append_right xs ys n place x long begins)

  pub take_is : (runs : List (EntryBlock X)) (k place n : ℕ) (r s : EntryBlock X) → IsParted runs k r → n ≡ length (all_entries (take k runs)) → n ≤ place →
      place - n < length r.entries → s.entries ≡ remove r.entries (place - n) → all_entries (set runs k s) ≡ remove (all_entries runs) place
  take_is runs k place n r s p at begins within =
      edited_is remove runs k place n r s p at (λ ys. remove-append_left r.entries ys (place - n) within) (λ xs ys long. remove-append_right xs ys n place long begins)

  -- ---- the run is taken away

  removed : (runs : List (EntryBlock X)) (k : ℕ) → remove runs k ≡ take k runs ++ drop (k + 1) runs
  removed runs k = rw add-one refl

  remove_one : (xs ys : List X) (i : ℕ) → length xs ≡ 1 → i ≡ 0 → ys ≡ remove (xs ++ ys) i
  remove_one [] ys i one first = absurd (omega arith)
  remove_one (x ∷ []) ys i one first = rw first refl
  remove_one (x ∷ z ∷ xs) ys i one first = absurd (omega arith)

  pub take_run_is : (runs : List (EntryBlock X)) (k place n : ℕ) (r : EntryBlock X) → IsParted runs k r → length r.entries ≡ 1 →
      n ≡ length (all_entries (take k runs)) → n ≤ place → place - n < length r.entries → all_entries (remove runs k) ≡ remove (all_entries runs) place
  take_run_is runs k place n r p one at begins within =
      ap all_entries (removed runs k)
      ∙ all_entries-append (take k runs) (drop (k + 1) runs)
      ∙ ap (λ l. all_entries (take k runs) ++ l) (remove_one r.entries (all_entries (drop (k + 1) runs)) (place - n) one (omega arith))
      ∙ sym (remove-append_right (all_entries (take k runs)) (r.entries ++ all_entries (drop (k + 1) runs)) n place (sym at) begins)
      ∙ ap (λ l. remove l place) (sym p.list)

  -- ---- the run is split

  drop_written : (runs : List (EntryBlock X)) (k : ℕ) (r : EntryBlock X) → drop (k + 1) (set runs k r) ≡ drop (k + 1) runs
  drop_written runs k r = drop-set-lt (k + 1) runs k r (omega arith)

  split_is : (runs : List (EntryBlock X)) (k : ℕ) (s t : EntryBlock X) → k < length runs → insert (set runs k s) (k + 1) t ≡ take k runs ++ (s ∷ (t ∷ drop (k + 1) runs))
  split_is runs k s t h = rw (take_more_set runs k s h, drop_written runs k s) (append_assoc (take k runs) (s ∷ []) (t ∷ drop (k + 1) runs))

  pub split_laid : (runs : List (EntryBlock X)) (k i : ℕ) (r s t : EntryBlock X) → IsParted runs k r → 0 < i → i < length r.entries →
      s ≡ record { start = r.start; entries = take i r.entries } → t ≡ record { start = r.start + i; entries = drop i r.entries } →
      IsLaid 0 (insert (set runs k s) (k + 1) t)
  split_laid runs k i r s t p some rest front tail =
      let front_long : length s.entries ≡ i = ap (λ q. length q.entries) front ∙ length-take-le i r.entries (omega arith) in
      let tail_long : length t.entries ≡ length r.entries - i = ap (λ q. length q.entries) tail ∙ length-drop i r.entries in
      let tail_start : t.start ≡ r.start + i = ap (λ q. q.start) tail in
      rw (split_is runs k s t p.in_range)
      (laid_edited runs (t ∷ drop (k + 1) runs) k r s p (ap (λ q. q.start) front) (omega arith)
      (omega (arith, p.start), omega arith, IsLaid-at _ _ (drop (k + 1) runs) (omega arith) p.after))

  pub split_same : (runs : List (EntryBlock X)) (k i : ℕ) (r s t : EntryBlock X) → IsParted runs k r →
      s ≡ record { start = r.start; entries = take i r.entries } → t ≡ record { start = r.start + i; entries = drop i r.entries } →
      all_entries (insert (set runs k s) (k + 1) t) ≡ all_entries runs
  split_same runs k i r s t p front tail =
      ap all_entries (split_is runs k s t p.in_range)
      ∙ all_entries-append (take k runs) (s ∷ (t ∷ drop (k + 1) runs))
      ∙ ap (λ l. all_entries (take k runs) ++ l)
      (rw (front, tail)
      (sym (append_assoc (take i r.entries) (drop i r.entries) (all_entries (drop (k + 1) runs)))
      ∙ ap (λ l. l ++ all_entries (drop (k + 1) runs)) (take-append-drop i r.entries)))
      ∙ sym p.list

  -- ---- no run is empty

  pub none_empty : (n : ℕ) (runs : List (EntryBlock X)) → IsLaid n runs → NoneEmpty runs
  none_empty n [] laid = All-nil (λ r. 0 < length r.entries)
  none_empty n (r ∷ runs) laid = All-cons (λ r. 0 < length r.entries) r runs laid.1 (none_empty (n + length r.entries) runs laid.2)

  -- a run is written that is not empty
  pub none_empty_set : (runs : List (EntryBlock X)) (k : ℕ) (s : EntryBlock X) → IsLaid 0 runs → 0 < length s.entries → NoneEmpty (set runs k s)
  none_empty_set runs k s laid some = All-set (λ r. 0 < length r.entries) runs k s some (none_empty 0 runs laid)

  pub none_empty_removed : (runs : List (EntryBlock X)) (k : ℕ) → NoneEmpty runs → NoneEmpty (remove runs k)
  none_empty_removed runs k some =
      subst NoneEmpty (sym (removed runs k))
      (All-append (λ r. 0 < length r.entries) (take k runs) (drop (k + 1) runs) (All-take (λ r. 0 < length r.entries) k runs some)
      (All-drop (λ r. 0 < length r.entries) (k + 1) runs some))

  -- ---- two runs become one

  -- the next run is taken out, this one gets its entries, and the place of the next one is closed
  merged : (runs : List (EntryBlock X)) (k : ℕ) (s e d : EntryBlock X) → suc k < length runs →
      s.entries ≡ (get_or runs k d).entries ++ (get_or runs (suc k) d).entries →
      all_entries (remove (set (set runs (suc k) e) k s) (suc k)) ≡ all_entries runs
  merged [] k s e d h is = absurd (omega arith)
  merged (r ∷ []) k s e d h is = absurd (omega arith)
  merged (r ∷ (t ∷ runs)) zero s e d h is = ap (λ l. l ++ all_entries runs) is ∙ append_assoc r.entries t.entries (all_entries runs)
  merged (r ∷ (t ∷ runs)) (suc k) s e d h is = ap (λ l. r.entries ++ l) (merged (t ∷ runs) k s e d (omega arith) is)

  merged_some : (runs : List (EntryBlock X)) (k : ℕ) (s e : EntryBlock X) → suc k < length runs → 0 < length s.entries → NoneEmpty runs → NoneEmpty (remove (set (set runs (suc k) e) k s) (suc k))
  merged_some [] k s e h one some = absurd (omega arith)
  merged_some (r ∷ []) k s e h one some = absurd (omega arith)
  merged_some (r ∷ (t ∷ runs)) zero s e h one some =
      All-cons (λ q. 0 < length q.entries) s runs one (All-tail (λ q. 0 < length q.entries) t runs (All-tail (λ q. 0 < length q.entries) r (t ∷ runs) some))
  merged_some (r ∷ (t ∷ runs)) (suc k) s e h one some =
      All-cons (λ q. 0 < length q.entries) r (remove (set (set (t ∷ runs) (suc k) e) k s) (suc k))
      (All-head (λ q. 0 < length q.entries) r (t ∷ runs) some)
      (merged_some (t ∷ runs) k s e (omega arith) one (All-tail (λ q. 0 < length q.entries) r (t ∷ runs) some))

  -- the next run is put back
  unmerged : (runs : List (EntryBlock X)) (k : ℕ) (s e t d : EntryBlock X) → suc k < length runs → s.entries ≡ (get_or runs k d).entries →
      t.entries ≡ (get_or runs (suc k) d).entries → all_entries (set (set (set runs (suc k) e) k s) (suc k) t) ≡ all_entries runs
  unmerged [] k s e t d h is back = absurd (omega arith)
  unmerged (r ∷ []) k s e t d h is back = absurd (omega arith)
  unmerged (r ∷ (q ∷ runs)) zero s e t d h is back = ap (λ l. l ++ (t.entries ++ all_entries runs)) is ∙ ap (λ l. r.entries ++ (l ++ all_entries runs)) back
  unmerged (r ∷ (q ∷ runs)) (suc k) s e t d h is back = ap (λ l. r.entries ++ l) (unmerged (q ∷ runs) k s e t d (omega arith) is back)

  unmerged_some : (runs : List (EntryBlock X)) (k : ℕ) (s e t : EntryBlock X) → suc k < length runs → 0 < length s.entries → 0 < length t.entries →
      NoneEmpty runs → NoneEmpty (set (set (set runs (suc k) e) k s) (suc k) t)
  unmerged_some [] k s e t h one two some = absurd (omega arith)
  unmerged_some (r ∷ []) k s e t h one two some = absurd (omega arith)
  unmerged_some (r ∷ (q ∷ runs)) zero s e t h one two some =
      All-cons (λ u. 0 < length u.entries) s (t ∷ runs) one
      (All-cons (λ u. 0 < length u.entries) t runs two
      (All-tail (λ u. 0 < length u.entries) q runs (All-tail (λ u. 0 < length u.entries) r (q ∷ runs) some)))
  unmerged_some (r ∷ (q ∷ runs)) (suc k) s e t h one two some =
      All-cons (λ u. 0 < length u.entries) r (set (set (set (q ∷ runs) (suc k) e) k s) (suc k) t)
      (All-head (λ u. 0 < length u.entries) r (q ∷ runs) some)
      (unmerged_some (q ∷ runs) k s e t (omega arith) one two (All-tail (λ u. 0 < length u.entries) r (q ∷ runs) some))

  -- What the calls say: `next` was taken out of the place behind k, and `this` is the run at k then.
  module _ (runs : List (EntryBlock X)) (k : ℕ) (this next e s : EntryBlock X) (h : k + 1 < length runs) (some : NoneEmpty runs)
      (is_next : next ≡ get_or runs (k + 1) next) (is_this : this ≡ get_or (set runs (k + 1) e) k this) where
    this_there : this ≡ get_or runs k this
    this_there = is_this ∙ get_or-set_other runs (k + 1) k e this (λ same. omega arith)

    this_some : 0 < length this.entries
    this_some = rw this_there (some k this (omega arith))

    next_some : 0 < length next.entries
    next_some = rw is_next (some (k + 1) next h)

    next_there : next ≡ get_or runs (suc k) this
    next_there = is_next ∙ ap (λ j. get_or runs j next) (add-one k) ∙ get_or_default runs (suc k) next this (omega arith)

    pub merge_is : s.entries ≡ this.entries ++ next.entries
        → (all_entries (remove (set (set runs (k + 1) e) k s) (k + 1)) ≡ all_entries runs) × NoneEmpty (remove (set (set runs (k + 1) e) k s) (k + 1))
    merge_is is =
        let long : 0 < length s.entries = omega (arith, ap length is, length-append this.entries next.entries, this_some) in
        subst (λ j. (all_entries (remove (set (set runs j e) k s) j) ≡ all_entries runs) × NoneEmpty (remove (set (set runs j e) k s) j)) (sym (add-one k)) (
          merged runs k s e this (omega arith) (is ∙ ap (λ q. q.entries ++ next.entries) this_there ∙ ap (λ q. (get_or runs k this).entries ++ q.entries) next_there),
          merged_some runs k s e (omega arith) long some,
        )

    pub unmerge_is : (t : EntryBlock X) → s.entries ≡ this.entries → t.entries ≡ next.entries →
        (all_entries (set (set (set runs (k + 1) e) k s) (k + 1) t) ≡ all_entries runs) × NoneEmpty (set (set (set runs (k + 1) e) k s) (k + 1) t)
    unmerge_is t is back =
        let one : 0 < length s.entries = omega (arith, ap length is, this_some) in
        let two : 0 < length t.entries = omega (arith, ap length back, next_some) in
        subst (λ j. (all_entries (set (set (set runs j e) k s) j t) ≡ all_entries runs) × NoneEmpty (set (set (set runs j e) k s) j t)) (sym (add-one k))
        (unmerged runs k s e t this (omega arith) (is ∙ ap (λ q. q.entries) this_there) (back ∙ ap (λ q. q.entries) next_there), unmerged_some runs k s e t (omega arith) one two some)
