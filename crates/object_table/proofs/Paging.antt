-- Lists in pages of 1,024: where an element stands, and what a change in a page is to the whole.
use Rattle.std.proofs.Common.{◌≡◌, ℕ, zero, suc, ◌+◌, ◌-◌, ◌*◌, ◌/◌, ◌%◌, ◌<◌, ◌≤◌, List, [], ◌∷◌, ◌++◌, length, take, set, get_or, slice_get, Some}
use Rattle.std.proofs.Common.{IfSome, refl, inl, inr, sym, ◌∙◌, ap, arith, length-append}
use Rattle.std.specs.List.{All}
use Rattle.std.proofs.lemmas.List.{length-set, get_or_append_left, get_or-append_right, set-append_left, set-append_right, get_or-take, length-take-le}
use Rattle.std.proofs.lemmas.List.Elements.{All-head, All-tail, All-set}
use Rattle.std.proofs.lemmas.Option.{slice_get-get_or, slice_get_cases, get_or_from_slice_get}
use Rattle.std.proofs.lemmas.Grind.{take-set_at}
use Rattle.std.proofs.Math.Nat.{div-add-mod}
use Rattle.std.proofs.Math.Seq.{take-set-lt, take-set-le, take-take}
use Rattle.object_table.specs.Paged.{all_of, in_pages, IsPaged}

module _ {X : Type 0} where
  abbrev pub AreFull : List (List X) → Type 0
  AreFull pages = All (λ p. length p ≡ 1024) pages

  pub length-all_of : (pages : List (List X)) → AreFull pages → length (all_of pages) ≡ 1024 * length pages
  length-all_of [] full = refl
  length-all_of (p ∷ pages) full =
      let here : length p ≡ 1024 = All-head (λ q. length q ≡ 1024) p pages full in
      let rest = length-all_of pages (All-tail (λ q. length q ≡ 1024) p pages full) in
      let whole = length-append p (all_of pages) in
      omega arith

  at_place : (pages : List (List X)) (q r : ℕ) (e : List X) (d : X) → AreFull pages → q < length pages → r < 1024 → get_or (all_of pages) (1024 * q + r) d ≡ get_or (get_or pages q e) r d
  at_place [] q r e d full h l = absurd (omega arith)
  at_place (p ∷ pages) zero r e d full h l =
      let here : length p ≡ 1024 = All-head (λ q. length q ≡ 1024) p pages full in
      let first : 1024 * 0 + r ≡ r = omega arith in
      ap (λ k. get_or (p ++ all_of pages) k d) first ∙ get_or_append_left p (all_of pages) d r (omega arith)
  at_place (p ∷ pages) (suc q) r e d full h l =
      let here : length p ≡ 1024 = All-head (λ q. length q ≡ 1024) p pages full in
      let next : 1024 * q + r ≡ (1024 * suc q + r) - 1024 = omega arith in
      get_or-append_right p (all_of pages) 1024 (1024 * suc q + r) d here (omega arith)
      ∙ ap (λ k. get_or (all_of pages) k d) (sym next)
      ∙ at_place pages q r e d (All-tail (λ q. length q ≡ 1024) p pages full) (omega arith) l

  set_place : (pages : List (List X)) (q r : ℕ) (e : List X) (x : X) → AreFull pages → q < length pages → r < 1024 →
      set (all_of pages) (1024 * q + r) x ≡ all_of (set pages q (set (get_or pages q e) r x))
  set_place [] q r e x full h l = absurd (omega arith)
  set_place (p ∷ pages) zero r e x full h l =
      let here : length p ≡ 1024 = All-head (λ q. length q ≡ 1024) p pages full in
      let first : 1024 * 0 + r ≡ r = omega arith in
      ap (λ k. set (p ++ all_of pages) k x) first ∙ set-append_left p (all_of pages) r x (omega arith)
  set_place (p ∷ pages) (suc q) r e x full h l =
      let here : length p ≡ 1024 = All-head (λ q. length q ≡ 1024) p pages full in
      let next : 1024 * q + r ≡ (1024 * suc q + r) - 1024 = omega arith in
      set-append_right p (all_of pages) 1024 (1024 * suc q + r) x here (omega arith)
      ∙ ap (λ k. p ++ set (all_of pages) k x) (sym next)
      ∙ ap (λ l. p ++ l) (set_place pages q r e x (All-tail (λ q. length q ≡ 1024) p pages full) (omega arith) l)

  -- the page of an element, and its place there
  pub page_within : (pages : List (List X)) (count i : ℕ) → IsPaged pages count → i < length (all_of pages) → i / 1024 < length pages
  page_within pages count i is h =
      let whole = length-all_of pages is.full in
      let parts = div-add-mod i 1024 in
      omega arith

  -- ---- what the calls say, of a list of which the first `count` elements are used

  module _ (pages : List (List X)) (count i : ℕ) (page : List X) (is : IsPaged pages count) (h : i < length (all_of pages)) (at : page ≡ get_or pages (i / 1024) page) where
    long : length page ≡ 1024
    long = rw at (is.full (i / 1024) page (page_within pages count i is h))

    pub place_within : i % 1024 < length page
    place_within = let all = long in omega arith

    got : (d : X) → get_or (all_of pages) i d ≡ get_or page (i % 1024) d
    got d =
        let parts : i ≡ 1024 * (i / 1024) + i % 1024 = sym (div-add-mod i 1024) in
        ap (λ k. get_or (all_of pages) k d) parts
        ∙ at_place pages (i / 1024) (i % 1024) page d is.full (page_within pages count i is h) (omega arith)
        ∙ ap (λ p. get_or p (i % 1024) d) (sym at)

    pub read : (x : X) → i < count → slice_get page (i % 1024) ≡ Some x → slice_get (in_pages pages count).cells i ≡ Some x
    read x used is_x =
        slice_get-get_or (take count (all_of pages)) i x (omega (arith, length-take-le count (all_of pages) is.used))
        ∙ ap Some (get_or-take count (all_of pages) i x used ∙ got x ∙ get_or_from_slice_get page (i % 1024) x x is_x)

    -- the other way round
    pub read_back : (x : X) → i < count → slice_get (in_pages pages count).cells i ≡ Some x → slice_get page (i % 1024) ≡ Some x
    read_back x used is_x =
        slice_get-get_or page (i % 1024) x place_within
        ∙ ap Some (sym (got x) ∙ sym (get_or-take count (all_of pages) i x used) ∙ get_or_from_slice_get (take count (all_of pages)) i x x is_x)

    -- an element is put in its page
    put_all : (x : X) → all_of (set pages (i / 1024) (set page (i % 1024) x)) ≡ set (all_of pages) i x
    put_all x =
        let parts : i ≡ 1024 * (i / 1024) + i % 1024 = sym (div-add-mod i 1024) in
        ap (λ p. all_of (set pages (i / 1024) (set p (i % 1024) x))) at
        ∙ sym (set_place pages (i / 1024) (i % 1024) page x is.full (page_within pages count i is h) (omega arith))
        ∙ ap (λ k. set (all_of pages) k x) (sym parts)

    pub put_keeps : (more : ℕ) (x : X) → more ≤ length (all_of pages) → IsPaged (set pages (i / 1024) (set page (i % 1024) x)) more
    put_keeps more x used = record {
      full = All-set (λ p. length p ≡ 1024) pages (i / 1024) (set page (i % 1024) x) (length-set page (i % 1024) x ∙ long) is.full;
      used = omega (arith, ap length (put_all x), length-set (all_of pages) i x);
    }

    pub put_is : (x : X) → i < count → in_pages (set pages (i / 1024) (set page (i % 1024) x)) count ≡ record (in_pages pages count) { cells = set (in_pages pages count).cells i x }
    put_is x used = rw (put_all x, length-set (all_of pages) i x, take-set-lt count (all_of pages) i x used) refl

    -- one more element is used
    pub pushed_is : (x : X) → i ≡ count →
        in_pages (set pages (i / 1024) (set page (i % 1024) x)) (count + 1) ≡ record { cells = (in_pages pages count).cells ++ x ∷ []; room = (in_pages pages count).room - 1 }
    pushed_is x last =
        let cells : take (count + 1) (set (all_of pages) i x) ≡ take count (all_of pages) ++ x ∷ [] =
        take-set_at (all_of pages) i (count + 1) x (omega arith) h ∙ ap (λ k. take k (all_of pages) ++ x ∷ []) last in
        let room : length (set (all_of pages) i x) - (count + 1) ≡ (length (all_of pages) - count) - 1 = omega (arith, length-set (all_of pages) i x) in
        rw (put_all x, cells, room) refl

    -- the last element is no longer used
    pub popped_is : (x : X) → i + 1 ≡ count → (in_pages (set pages (i / 1024) (set page (i % 1024) x)) i).cells ≡ take i (in_pages pages count).cells
    popped_is x last =
        ap (take i) (put_all x)
        ∙ take-set-le i (all_of pages) i x (omega arith)
        ∙ sym (take-take i count (all_of pages) (omega (arith, last)))

  -- ---- an element that is used, and its page

  pub record IsPageOf (pages : List (List X)) (count i : ℕ) (page : List X) : Type 0 where
    pub is : IsPaged pages count
    pub in_use : i < length (in_pages pages count).cells
    pub at : page ≡ get_or pages (i / 1024) page

  module _ {pages : List (List X)} {count i : ℕ} {page : List X} (u : IsPageOf pages count i page) where
    used_cell : i < count
    used_cell = omega (arith, u.in_use, length-take-le count (all_of pages) u.is.used)

    in_all : i < length (all_of pages)
    in_all = let few = u.is.used in let used = used_cell in omega arith

    pub used_place : i % 1024 < length page
    used_place = place_within pages count i page u.is in_all u.at

    pub used_read : (x : X) → slice_get page (i % 1024) ≡ Some x → slice_get (in_pages pages count).cells i ≡ Some x
    used_read x is_x = read pages count i page u.is in_all u.at x used_cell is_x

    pub used_read_back : (x : X) → slice_get (in_pages pages count).cells i ≡ Some x → slice_get page (i % 1024) ≡ Some x
    used_read_back x is_x = read_back pages count i page u.is in_all u.at x used_cell is_x

    pub used_put : (x : X) (later : List X) → later ≡ set page (i % 1024) x →
        IsPaged (set pages (i / 1024) later) count × (in_pages (set pages (i / 1024) later) count ≡ record (in_pages pages count) { cells = set (in_pages pages count).cells i x })
    used_put x later put = rw put (put_keeps pages count i page u.is in_all u.at count x u.is.used, put_is pages count i page u.is in_all u.at x used_cell)

    pub used_holds : (P : X → Type 0) → IfSome (slice_get (in_pages pages count).cells i) P → IfSome (slice_get page (i % 1024)) P
    used_holds P holds = elim (slice_get_cases page (i % 1024)).1 [
      | inl there ↦ rw there.2 (rw (used_read there.0 there.2) at holds)
      | inr past ↦ absurd (omega (arith, past.0, used_place))
    ]

    -- the other way round
    pub used_holds_back : (P : X → Type 0) → IfSome (slice_get page (i % 1024)) P → IfSome (slice_get (in_pages pages count).cells i) P
    used_holds_back P holds = elim (slice_get_cases (in_pages pages count).cells i).1 [
      | inl there ↦ rw there.2 (rw (used_read_back there.0 there.2) at holds)
      | inr past ↦ absurd (omega (arith, past.0, u.in_use))
    ]

    -- the element that stood there, changed
    pub used_change : (f : X → X) (later : List X) → IfSome (slice_get page (i % 1024)) (λ x. later ≡ set page (i % 1024) (f x)) →
        IsPaged (set pages (i / 1024) later) count
        × IfSome (slice_get (in_pages pages count).cells i) (λ x. in_pages (set pages (i / 1024) later) count ≡ record (in_pages pages count) { cells = set (in_pages pages count).cells i (f x) })
    used_change f later changed = elim (slice_get_cases (in_pages pages count).cells i).1 [
      | inl there ↦
          let put = used_put (f there.0) later (rw (used_read_back there.0 there.2) at changed) in
          (put.0, rw there.2 put.1)
      | inr past ↦ absurd (omega (arith, past.0, u.in_use))
    ]

  -- there is room where the next element has a page
  pub room_left : (pages : List (List X)) (count : ℕ) → IsPaged pages count → count / 1024 < length pages → 0 < (in_pages pages count).room
  room_left pages count is h =
      let all = length-all_of pages is.full in
      let parts = div-add-mod count 1024 in
      omega arith

  pub page_of_used : (pages : List (List X)) (count i : ℕ) → IsPaged pages count → i < length (in_pages pages count).cells → i / 1024 < length pages
  page_of_used pages count i is h = page_within pages count i is (let few = is.used in omega (arith, length-take-le count (all_of pages) is.used))

  pub room_in_all : (pages : List (List X)) (count : ℕ) → 0 < (in_pages pages count).room → count < length (all_of pages)
  room_in_all pages count room = omega arith

  pub page_of_room : (pages : List (List X)) (count : ℕ) → IsPaged pages count → 0 < (in_pages pages count).room → count / 1024 < length pages
  page_of_room pages count is room = page_within pages count count is (room_in_all pages count room)

  pub last_used : (pages : List (List X)) (count : ℕ) → IsPaged pages count → 0 < length (in_pages pages count).cells → count - 1 < length (in_pages pages count).cells
  last_used pages count is some = let long = length-take-le count (all_of pages) is.used in omega arith

  pub popped : (pages : List (List X)) (count : ℕ) (page later : List X) (x : X) → IsPaged pages count → 0 < length (in_pages pages count).cells →
      page ≡ get_or pages ((count - 1) / 1024) page → later ≡ set page ((count - 1) % 1024) x →
      IsPaged (set pages ((count - 1) / 1024) later) (count - 1)
      × ((in_pages (set pages ((count - 1) / 1024) later) (count - 1)).cells ≡ take (length (in_pages pages count).cells - 1) (in_pages pages count).cells)
  popped pages count page later x is some at put =
      let long : length (in_pages pages count).cells ≡ count = length-take-le count (all_of pages) is.used in
      let all : count - 1 < length (all_of pages) = let few = is.used in omega arith in
      let before : count - 1 ≡ length (in_pages pages count).cells - 1 = omega arith in
      rw put (
        put_keeps pages count (count - 1) page is all at (count - 1) x (omega (arith, all)),
        popped_is pages count (count - 1) page is all at x (omega (arith, some, long)) ∙ ap (λ k. take k (in_pages pages count).cells) before,
      )
