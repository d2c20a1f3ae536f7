-- The regions of a thread, as they are kept: its ids, and how many there were when each region began.
use Rattle.std.proofs.Common.{◌≡◌, ℕ, ◌+◌, ◌-◌, ◌<◌, ◌≤◌, List, [], ◌∷◌, ◌++◌, length, map, filter, take, drop, reverse, get_or, refl, sym, ap, ◌∙◌}
use Rattle.std.proofs.Common.{arith, subst, All, Bool, length-append, ◌⊎◌, inl, inr}
use Rattle.std.proofs.lemmas.List.{length-map, length-reverse, length-take-le, map_push, reverse-append, take_all, take_at, take_more, take-take}
use Rattle.std.proofs.lemmas.List.{take-append-drop, drop_at, get_or-take, get_or_default, get_or_past, drop-append-le, get_or-map, nil_from_length}
use Rattle.std.proofs.lemmas.List.Elements.{All-head, All-tail, All-push, All-map, All-take, filter-append}
use Rattle.std.proofs.lemmas.Bool.{cases_lt}
use Rattle.std.proofs.lemmas.List.Filters.{FiltersInPlace}
use Rattle.std.proofs.lemmas.List.Quantifiers.{all_pairs_push}
use Rattle.region_log.specs.Regions.{AreNested, AreStarts, outer_without, regions_from, start_kept}
use Rattle.region_log.proofs.Fronts.{map-reverse}

-- ---- what is seen of them

pub length-regions : (ids starts : List ℕ) → length (regions_from ids starts) ≡ length starts
length-regions ids starts =
    length-reverse (map (λ start. drop start ids) starts) ∙ length-map starts (λ start. drop start ids)

regions-push : (ids starts : List ℕ) (start : ℕ) → regions_from ids (starts ++ start ∷ []) ≡ drop start ids ∷ regions_from ids starts
regions-push ids starts start =
    ap reverse (map_push (λ s. drop s ids) starts start) ∙ reverse-append (map (λ s. drop s ids) starts) (drop start ids ∷ [])

-- the innermost region, and the others
regions-last : (ids starts : List ℕ) → 0 < length starts → regions_from ids starts ≡ drop (get_or starts (length starts - 1) 0) ids ∷ regions_from ids (take (length starts - 1) starts)
regions-last ids starts some =
    let whole = sym (take_all (length starts - 1 + 1) starts (omega arith)) ∙ take_more starts (length starts - 1) 0 (omega arith) in
    ap (regions_from ids) whole ∙ regions-push ids (take (length starts - 1) starts) (get_or starts (length starts - 1) 0)

pub regions-innermost : (ids starts : List ℕ) → 0 < length starts → get_or (regions_from ids starts) 0 [] ≡ drop (get_or starts (length starts - 1) 0) ids
regions-innermost ids starts some = ap (λ (rs : List (List ℕ)). get_or rs 0 []) (regions-last ids starts some)

drops-append : (ids more starts : List ℕ) → All (λ start. start ≤ length ids) starts →
    map (λ start. drop start (ids ++ more)) starts ≡ map (λ (r : List ℕ). r ++ more) (map (λ start. drop start ids) starts)
drops-append ids more [] within = refl
drops-append ids more (start ∷ starts) within =
    let here = drop-append-le start ids more (All-head (λ s. s ≤ length ids) start starts within) in
    let others = drops-append ids more starts (All-tail (λ s. s ≤ length ids) start starts within) in
    λ i. here i ∷ others i

-- ids that come behind the others are in each region
pub regions-append : (ids more starts : List ℕ) → All (λ start. start ≤ length ids) starts → regions_from (ids ++ more) starts ≡ map (λ (r : List ℕ). r ++ more) (regions_from ids starts)
regions-append ids more starts within =
    ap reverse (drops-append ids more starts within) ∙ sym (map-reverse (λ (r : List ℕ). r ++ more) (map (λ start. drop start ids) starts))

-- ---- the innermost region ends

cut_each : (inner : List ℕ) (regions : List (List ℕ)) → map (λ (r : List ℕ). take (length r - length inner) r) (map (λ (r : List ℕ). r ++ inner) regions) ≡ regions
cut_each inner [] = refl
cut_each inner (r ∷ regions) =
    let rest : length r ≡ length (r ++ inner) - length inner = omega (arith, length-append r inner) in
    λ i. take_at r inner (length (r ++ inner) - length inner) rest i ∷ cut_each inner regions i

-- regions around one whose ids are the last of theirs, without these
outer_without-inner : (inner : List ℕ) (regions : List (List ℕ)) → outer_without (inner ∷ map (λ (r : List ℕ). r ++ inner) regions) ≡ regions
outer_without-inner inner regions = cut_each inner regions

module _ (ids starts : List ℕ) (are : AreStarts ids starts) (some : 0 < length starts) where
  abbrev pub last : ℕ
  last = get_or starts (length starts - 1) 0

  abbrev pub outer : List ℕ
  outer = take (length starts - 1) starts

  last_within : last ≤ length ids
  last_within = are.within (length starts - 1) 0 (omega arith)

  outer_long : length outer ≡ length starts - 1
  outer_long = length-take-le (length starts - 1) starts (omega arith)

  outer_at : (k d : ℕ) → k < length outer → get_or outer k d ≡ get_or starts k d
  outer_at k d here = get_or-take (length starts - 1) starts k d (omega (arith, here, outer_long))

  -- the others began before the last one did
  before_last : All (λ start. start ≤ last) outer
  before_last k d here =
      let same = outer_at k d here in
      let known = get_or_default starts k d 0 (omega (arith, here, outer_long)) in
      omega (arith, same, known, are.rising k (length starts - 1) 0 (omega (arith, here, outer_long)) (omega arith))

  cut_long : length (take last ids) ≡ last
  cut_long = length-take-le last ids last_within

  within_cut : All (λ start. start ≤ length (take last ids)) outer
  within_cut k d here = omega (arith, cut_long, before_last k d here)

  pub regions-split : regions_from ids starts ≡ drop last ids ∷ map (λ (r : List ℕ). r ++ drop last ids) (regions_from (take last ids) outer)
  regions-split =
      regions-last ids starts some
      ∙ ap (λ (rs : List (List ℕ)). drop last ids ∷ rs)
      (ap (λ (xs : List ℕ). regions_from xs outer) (sym (take-append-drop last ids))
      ∙ regions-append (take last ids) (drop last ids) outer within_cut)

  pub regions-close : regions_from (take last ids) outer ≡ outer_without (regions_from ids starts)
  regions-close =
      sym (ap outer_without regions-split ∙ outer_without-inner (drop last ids) (regions_from (take last ids) outer))

  pub regions-nested : AreNested (regions_from ids starts)
  regions-nested =
      subst AreNested (sym regions-split) (ap (map (λ (r : List ℕ). r ++ drop last ids)) (outer_without-inner (drop last ids) (regions_from (take last ids) outer)))

  pub AreStarts-outer : 0 < length outer → AreStarts ids outer
  AreStarts-outer others = record {
    outermost = outer_at 0 (length ids) others ∙ are.outermost;
    rising = λ i j d below here.
        let at_i = outer_at i d (omega (arith, below, here)) in
        let at_j = outer_at j d here in
        omega (arith, at_i, at_j, are.rising i j d below (omega (arith, here, outer_long)));
    within = All-take (λ start. start ≤ length ids) (length starts - 1) starts are.within;
  }

  pub AreStarts-close : AreStarts (take last ids) outer
  AreStarts-close = record {
    outermost = first (cases_lt 0 (length outer));
    rising = λ i j d below here.
        let at_i = outer_at i d (omega (arith, below, here)) in
        let at_j = outer_at j d here in
        omega (arith, at_i, at_j, are.rising i j d below (omega (arith, here, outer_long)));
    within = within_cut;
  }
    where
      first : (0 < length outer) ⊎ (length outer ≤ 0) → get_or outer 0 (length (take last ids)) ≡ 0
      first (inl others) =
          outer_at 0 (length (take last ids)) others ∙ (get_or_default starts 0 (length (take last ids)) (length ids) some ∙ are.outermost)
      first (inr none) =
          let alone : length starts - 1 ≡ 0 = omega (arith, none, outer_long) in
          get_or_past outer 0 (length (take last ids)) none
          ∙ (cut_long
          ∙ (ap (λ k. get_or starts k 0) alone ∙ (get_or_default starts 0 0 (length ids) some ∙ are.outermost)))

module _ (passes : ℕ → Bool) (ids : List ℕ) where
  parted : (start : ℕ) → filter passes ids ≡ filter passes (take start ids) ++ filter passes (drop start ids)
  parted start = ap (filter passes) (sym (take-append-drop start ids)) ∙ filter-append passes (take start ids) (drop start ids)

  region_kept : (start : ℕ) → drop (start_kept passes ids start) (filter passes ids) ≡ filter passes (drop start ids)
  region_kept start =
      ap (drop (start_kept passes ids start)) (parted start)
      ∙ drop_at (filter passes (take start ids)) (filter passes (drop start ids)) (start_kept passes ids start) refl

  kept_each : (starts : List ℕ) → map (λ start. drop start (filter passes ids)) (map (start_kept passes ids) starts) ≡ map (filter passes) (map (λ start. drop start ids) starts)
  kept_each [] = refl
  kept_each (start ∷ starts) = λ i. region_kept start i ∷ kept_each starts i

  pub regions-keep : (starts : List ℕ) → regions_from (filter passes ids) (map (start_kept passes ids) starts) ≡ map (filter passes) (regions_from ids starts)
  regions-keep starts =
      ap reverse (kept_each starts) ∙ sym (map-reverse (filter passes) (map (λ start. drop start ids) starts))

  -- ---- starts whose ids are filtered

  start_kept-within : (start : ℕ) → start_kept passes ids start ≤ length (filter passes ids)
  start_kept-within start =
      omega (arith, ap length (parted start), length-append (filter passes (take start ids)) (filter passes (drop start ids)))

  start_kept-rises : (a b : ℕ) → a ≤ b → start_kept passes ids a ≤ start_kept passes ids b
  start_kept-rises a b le =
      let front = ap (λ (xs : List ℕ). length (filter passes xs)) (take-take a b ids le) in
      let whole = ap (λ (xs : List ℕ). length (filter passes xs)) (take-append-drop a (take b ids)) in
      let parts = ap length (filter-append passes (take a (take b ids)) (drop a (take b ids))) in
      omega (arith, length-append (filter passes (take a (take b ids))) (filter passes (drop a (take b ids))))

  first_kept : (starts : List ℕ) → get_or starts 0 (length ids) ≡ 0 → get_or (map (start_kept passes ids) starts) 0 (length (filter passes ids)) ≡ 0
  first_kept [] none = ap (λ (xs : List ℕ). length (filter passes xs)) (nil_from_length ids none)
  first_kept (start ∷ starts) first = ap (start_kept passes ids) first

  pub AreStarts-keep : (starts : List ℕ) → AreStarts ids starts → AreStarts (filter passes ids) (map (start_kept passes ids) starts)
  AreStarts-keep starts h = record {
    outermost = first_kept starts h.outermost;
    rising = λ i j d below here.
        let inside : j < length starts = omega (arith, length-map starts (start_kept passes ids)) in
        let at_i = get_or-map (start_kept passes ids) starts i 0 d (omega arith) in
        let at_j = get_or-map (start_kept passes ids) starts j 0 d inside in
        let more = start_kept-rises (get_or starts i 0) (get_or starts j 0) (h.rising i j 0 below inside) in
        omega arith;
    within = All-map (λ start. start ≤ length (filter passes ids)) (start_kept passes ids) starts (λ k d here. start_kept-within (get_or starts k d));
  }

-- ---- starts after an operation

first_open : (ids starts : List ℕ) → get_or starts 0 (length ids) ≡ 0 → get_or (starts ++ length ids ∷ []) 0 (length ids) ≡ 0
first_open ids [] first = first
first_open ids (start ∷ starts) first = first

pub AreStarts-open : (ids starts : List ℕ) → AreStarts ids starts → AreStarts ids (starts ++ length ids ∷ [])
AreStarts-open ids starts h = record {
  outermost = first_open ids starts h.outermost;
  rising = all_pairs_push (λ a b. a ≤ b) starts (length ids) h.rising h.within;
  within = All-push (λ start. start ≤ length ids) starts (length ids) h.within (omega arith);
}

module _ {passes : ℕ → Bool} {xs ys : List ℕ} {k i : ℕ} where
  -- how many there are of those that passed
  pub FiltersInPlace-count : FiltersInPlace passes xs ys k i → k ≡ start_kept passes xs i
  FiltersInPlace-count h = sym (length-take-le k ys (omega (arith, h.behind, h.within, h.long))) ∙ ap length h.front
