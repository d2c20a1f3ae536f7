-- Runs that are numbered one after another.
use Rattle.std.proofs.Common.{◌≡◌, ℕ, suc, ◌+◌, ◌<◌, ◌≤◌, List, [], ◌∷◌, ◌++◌, length, take, drop, set, get_or, refl, sym, ◌∙◌, ap, append_assoc, arith, length-append}
use Rattle.std.proofs.Math.Seq.{set-append_seam, get_or-append_seam}
use Rattle.std.proofs.lemmas.List.{append-nil, take_more, take_all, drop_all, drop_more, length-take-le}
use Rattle.std.proofs.lemmas.List.Elements.{All-head, All-tail}
use Rattle.object_table.specs.Blocks.{EntryBlock, all_entries, IsLaid, NoneEmpty, laid_from}
use Rattle.object_table.proofs.Laid.{length-more, length_take}

module _ {X : Type 0} where
  pub all_entries-laid : (n : ℕ) (runs : List (EntryBlock X)) → all_entries (laid_from n runs) ≡ all_entries runs
  all_entries-laid n [] = refl
  all_entries-laid n (r ∷ runs) = ap (λ l. r.entries ++ l) (all_entries-laid (n + length r.entries) runs)

  pub is_laid : (n : ℕ) (runs : List (EntryBlock X)) → NoneEmpty runs → IsLaid n (laid_from n runs)
  is_laid n [] some = tt
  is_laid n (r ∷ runs) some = (refl, All-head (λ q. 0 < length q.entries) r runs some, is_laid (n + length r.entries) runs (All-tail (λ q. 0 < length q.entries) r runs some))

  length-laid : (n : ℕ) (runs : List (EntryBlock X)) → length (laid_from n runs) ≡ length runs
  length-laid n [] = refl
  length-laid n (r ∷ runs) = ap suc (length-laid (n + length r.entries) runs)

  laid_push : (n : ℕ) (runs : List (EntryBlock X)) (r : EntryBlock X) → laid_from n (runs ++ r ∷ []) ≡ laid_from n runs ++ record { start = n + length (all_entries runs); entries = r.entries } ∷ []
  laid_push n [] r = ap (λ m. record { start = m; entries = r.entries } ∷ []) (plus_none n)
    where
      plus_none : (n : ℕ) → n ≡ n + 0
      plus_none n = omega arith
  laid_push n (q ∷ runs) r =
      let further : (n + length q.entries) + length (all_entries runs) ≡ n + length (all_entries (q ∷ runs)) = omega (arith, length-append q.entries (all_entries runs)) in
      ap (λ l. record { start = n; entries = q.entries } ∷ l)
      (laid_push (n + length q.entries) runs r ∙ ap (λ m. laid_from (n + length q.entries) runs ++ record { start = m; entries = r.entries } ∷ []) further)

  -- The runs before place i are numbered, and the next one is to start here.
  pub record IsNumbered (old now : List (EntryBlock X)) (i start : ℕ) : Type 0 where
    pub within : i ≤ length old
    pub runs : now ≡ laid_from 0 (take i old) ++ drop i old
    pub start_is : start ≡ length (all_entries (take i old))

  module _ (old now : List (EntryBlock X)) (i start : ℕ) (x : EntryBlock X) (is : IsNumbered old now i start) (h : i < length old) (at : x ≡ get_or now i x) where
    long : length (laid_from 0 (take i old)) ≡ i
    long = length-laid 0 (take i old) ∙ length-take-le i old is.within

    here : now ≡ laid_from 0 (take i old) ++ (get_or old i x ∷ drop (i + 1) old)
    here = is.runs ∙ ap (λ l. laid_from 0 (take i old) ++ l) (drop_more old i x h)

    x_is : x ≡ get_or old i x
    x_is =
        at ∙ ap (λ l. get_or l i x) here ∙ ap (λ k. get_or (laid_from 0 (take i old) ++ (get_or old i x ∷ drop (i + 1) old)) k x) (sym long)
        ∙ get_or-append_seam (laid_from 0 (take i old)) (get_or old i x) (drop (i + 1) old) x

    next_start : start + length x.entries ≡ length (all_entries (take (i + 1) old))
    next_start = ap (λ n. n + length x.entries) is.start_is ∙ ap (λ q. length (all_entries (take i old)) + length q.entries) x_is ∙ sym (length-more old i x h)

    pub numbered_fits : start + length x.entries ≤ length (all_entries old)
    numbered_fits = omega (arith, next_start, length_take old (i + 1))

    -- the run, numbered
    abbrev y : EntryBlock X
    y = record { start = start; entries = x.entries }

    none_plus : (n : ℕ) → n ≡ 0 + n
    none_plus n = omega arith

    y_is : y ≡ record { start = 0 + length (all_entries (take i old)); entries = (get_or old i x).entries }
    y_is =
        ap (λ n. record { start = n; entries = x.entries }) (is.start_is ∙ none_plus (length (all_entries (take i old))))
        ∙ ap (λ q. record { start = 0 + length (all_entries (take i old)); entries = q.entries }) x_is

    pub numbered_more : IsNumbered old (set now i (record { start = start; entries = x.entries })) (i + 1) (start + length x.entries)
    numbered_more = record {
      within = omega arith;
      runs = ap (λ l. set l i y) here
          ∙ ap (λ k. set (laid_from 0 (take i old) ++ (get_or old i x ∷ drop (i + 1) old)) k y) (sym long)
          ∙ set-append_seam (laid_from 0 (take i old)) (get_or old i x) (drop (i + 1) old) y
          ∙ sym (append_assoc (laid_from 0 (take i old)) (y ∷ []) (drop (i + 1) old))
          ∙ ap (λ l. l ++ drop (i + 1) old) (ap (λ q. laid_from 0 (take i old) ++ q ∷ []) y_is ∙ sym (laid_push 0 (take i old) (get_or old i x)) ∙ ap (laid_from 0) (sym (take_more old i x h)));
      start_is = next_start;
    }

  pub numbered_all : (old now : List (EntryBlock X)) (i start : ℕ) → IsNumbered old now i start → length old ≤ i → now ≡ laid_from 0 old
  numbered_all old now i start is h = is.runs ∙ ap (λ l. laid_from 0 l ++ drop i old) (take_all i old h) ∙ ap (λ l. laid_from 0 old ++ l) (drop_all i old h) ∙ append-nil (laid_from 0 old)
