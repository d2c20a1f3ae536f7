-- The regions of all threads, as those of the first ones.
use Rattle.std.proofs.Common.{◌≡◌, ◌<◌, ◌≤◌, ◌-◌, ◌++◌, ℕ, zero, suc, List, [], ◌∷◌, length, map, filter, drop, replicate, get_or, set, refl, sym}
use Rattle.std.proofs.Common.{ap, ◌∙◌, subst, arith, All, AllPairs, Bool, true, false, IsTrue, Result, Ok, Err, OnOk, OnErr}
use Rattle.std.proofs.lemmas.List.{length-set, length-map, map-set, set-get_or, get_or-set_same, length-drop, get_or_default}
use Rattle.std.proofs.lemmas.List.Elements.{All-nil, All-cons, All-get_or, All-set, All-map, All-drop, All-weaker}
use Rattle.std.proofs.lemmas.List.Kept.{AllPairs-filter}
use Rattle.std.proofs.lemmas.List.Quantifiers.{all_pairs_push}
use Rattle.std.proofs.lemmas.Simd.{map-map}
use Rattle.std.proofs.Math.ListN.{get_or-map, get_or-append, get_or-eq_default}
use Rattle.heap_base.specs.declared.limits.TheConstants.{MOST_THREADS, MOST_REGIONS}
use Rattle.graph_meaning.specs.Heap.{regions_of}
use Rattle.graph_meaning.proofs.Membership.{map_agree}
use Rattle.region_log.specs.Regions.{ThreadRegions, RegionTable, AreRegions, IsRegionTable, IsAbove, is_reserved, thread_with_ids, table_with_ids}
use Rattle.region_log.specs.Regions.{unused_thread, for_each_thread, region_table, AreThreads, no_open_regions}
use Rattle.region_log.proofs.Threads.{map-replicate, get_or-for_each_thread, set-for_each_thread, length-for_each_thread, map-for_each_thread, All-for_each_thread}

-- ---- the table

-- only the list with an element for each thread matters
pub region_table-same : (ts us : List ThreadRegions) → for_each_thread unused_thread ts ≡ for_each_thread unused_thread us → region_table ts ≡ region_table us
region_table-same ts us same = ap (λ (all : List ThreadRegions). record { regions = map (λ t. t.regions) all; unasserted = map (λ t. t.unasserted) all; reserved = map (λ t. t.reserved) all }) same

pub region_table-none : region_table [] ≡ no_open_regions
region_table-none =
    λ i. record {
      regions = map-replicate (λ (t : ThreadRegions). t.regions) MOST_THREADS unused_thread i;
      unasserted = map-replicate (λ (t : ThreadRegions). t.unasserted) MOST_THREADS unused_thread i;
      reserved = map-replicate (λ (t : ThreadRegions). t.reserved) MOST_THREADS unused_thread i;
    }

pub regions_of-table : (ts : List ThreadRegions) (i : ℕ) → regions_of (region_table ts).regions i ≡ (let t : ThreadRegions = get_or ts i unused_thread in t.regions)
regions_of-table ts i =
    get_or-map (λ (t : ThreadRegions). t.regions) (for_each_thread unused_thread ts) i unused_thread ∙ ap (λ (t : ThreadRegions). t.regions) (get_or-for_each_thread unused_thread ts i)

unasserted_of-table : (ts : List ThreadRegions) (i : ℕ) → regions_of (region_table ts).unasserted i ≡ (let t : ThreadRegions = get_or ts i unused_thread in t.unasserted)
unasserted_of-table ts i =
    get_or-map (λ (t : ThreadRegions). t.unasserted) (for_each_thread unused_thread ts) i unused_thread ∙ ap (λ (t : ThreadRegions). t.unasserted) (get_or-for_each_thread unused_thread ts i)

pub is_reserved-table : (ts : List ThreadRegions) (i : ℕ) → is_reserved (region_table ts) i ≡ (let t : ThreadRegions = get_or ts i unused_thread in t.reserved)
is_reserved-table ts i =
    get_or-map (λ (t : ThreadRegions). t.reserved) (for_each_thread unused_thread ts) i unused_thread ∙ ap (λ (t : ThreadRegions). t.reserved) (get_or-for_each_thread unused_thread ts i)

pub region_table-set : (ts : List ThreadRegions) (i : ℕ) (t : ThreadRegions) → i < length ts →
    region_table (set ts i t)
    ≡ record { regions = set (region_table ts).regions i t.regions; unasserted = set (region_table ts).unasserted i t.unasserted; reserved = set (region_table ts).reserved i t.reserved }
region_table-set ts i t here =
    let all = set-for_each_thread unused_thread ts i t here in
    λ j. record {
      regions = (ap (map (λ (u : ThreadRegions). u.regions)) (sym all) ∙ map-set (λ (u : ThreadRegions). u.regions) (for_each_thread unused_thread ts) i t) j;
      unasserted = (ap (map (λ (u : ThreadRegions). u.unasserted)) (sym all) ∙ map-set (λ (u : ThreadRegions). u.unasserted) (for_each_thread unused_thread ts) i t) j;
      reserved = (ap (map (λ (u : ThreadRegions). u.reserved)) (sym all) ∙ map-set (λ (u : ThreadRegions). u.reserved) (for_each_thread unused_thread ts) i t) j;
    }

-- a thread of which something is so that is not so of an unused one has its place
pub used : (P : ThreadRegions → Type 0) → (P unused_thread → ⊥) → (ts : List ThreadRegions) (i : ℕ) → P (get_or ts i unused_thread) → i < length ts
used P never [] i p = absurd (never p)
used P never (t ∷ ts) zero p = omega arith
used P never (t ∷ ts) (suc i) p = let below = used P never ts i p in omega arith

-- ---- the order of the regions

pub AreRegions-none : AreRegions []
AreRegions-none = record { few = omega arith; rising = All-nil _ }

pub AreRegions-start : (rs : List (List ℕ)) → AreRegions rs → length rs < MOST_REGIONS → AreRegions ([] ∷ rs)
AreRegions-start rs r few = record { few = omega arith; rising = All-cons (AllPairs (λ a b. a < b)) [] rs (λ i j d l m. absurd (omega arith)) r.rising }

pub AreRegions-end : (rs : List (List ℕ)) → AreRegions rs → AreRegions (drop 1 rs)
AreRegions-end rs r = record { few = (let e = length-drop 1 rs in let few = r.few in omega arith); rising = All-drop (AllPairs (λ a b. a < b)) 1 rs r.rising }

pub AreRegions-keep : (p : ℕ → Bool) (rs : List (List ℕ)) → AreRegions rs → AreRegions (map (filter p) rs)
AreRegions-keep p rs r = record {
  few = (let e = length-map rs (filter p) in let few = r.few in omega arith);
  rising =
      All-map (AllPairs (λ a b. a < b)) (filter p) rs
      (All-weaker (AllPairs (λ a b. a < b)) (λ ids. AllPairs (λ a b. a < b) (filter p ids)) (λ ids h. AllPairs-filter (λ a b. a < b) p ids h) rs
      r.rising);
}

pub AreRegions-note : (id : ℕ) (rs : List (List ℕ)) → AreRegions rs → IsAbove id rs → AreRegions (map (λ ids. ids ++ id ∷ []) rs)
AreRegions-note id rs r above = record {
  few = (let e = length-map rs (λ ids. ids ++ id ∷ []) in let few = r.few in omega arith);
  rising = All-map (AllPairs (λ a b. a < b)) (λ ids. ids ++ id ∷ []) rs (λ k d here. all_pairs_push (λ a b. a < b) (get_or rs k d) id (r.rising k d here) (above k d here));
}

-- ---- the order of the table

pub AreThreads-set : (ts : List ThreadRegions) (i : ℕ) (t : ThreadRegions) → AreThreads ts → AreRegions t.regions → AreThreads (set ts i t)
AreThreads-set ts i t r h = record { few = (let e = length-set ts i t in let few = r.few in omega arith); each = All-set (λ (u : ThreadRegions). AreRegions u.regions) ts i t h r.each }

-- only the list with an element for each thread matters
pub AreThreads-same : (ts us : List ThreadRegions) → for_each_thread unused_thread ts ≡ for_each_thread unused_thread us → length ts ≤ MOST_THREADS → AreThreads us → AreThreads ts
AreThreads-same ts us same few r = record {
  few = few;
  each = λ k d here.
      let all = subst (All (λ (t : ThreadRegions). AreRegions t.regions)) (sym same) (All-for_each_thread unused_thread (λ (t : ThreadRegions). AreRegions t.regions) us AreRegions-none r.each) in
      let within = length-for_each_thread unused_thread ts few in
      subst (λ (t : ThreadRegions). AreRegions t.regions) (get_or-append ts (replicate (MOST_THREADS - length ts) unused_thread) d k here) (all k d (omega arith));
}

pub AreRegions-at : (ts : List ThreadRegions) (i : ℕ) (d : ThreadRegions) → AreThreads ts → i < length ts → AreRegions (let t : ThreadRegions = get_or ts i d in t.regions)
AreRegions-at ts i d r here = All-get_or (λ (u : ThreadRegions). AreRegions u.regions) ts i d here r.each

pub IsRegionTable-table : (ts : List ThreadRegions) → AreThreads ts → IsRegionTable (region_table ts)
IsRegionTable-table ts r = record {
  each = length-map (for_each_thread unused_thread ts) (λ (t : ThreadRegions). t.regions) ∙ length-for_each_thread unused_thread ts r.few;
  reservations = length-map (for_each_thread unused_thread ts) (λ (t : ThreadRegions). t.reserved) ∙ length-for_each_thread unused_thread ts r.few;
  regions =
      All-map AreRegions (λ (t : ThreadRegions). t.regions) (for_each_thread unused_thread ts)
      (All-for_each_thread unused_thread (λ (t : ThreadRegions). AreRegions t.regions) ts AreRegions-none r.each);
}

-- ---- the table after a change of one thread

module _ (ts : List ThreadRegions) (old : RegionTable) (is : region_table ts ≡ old) (n i : ℕ) (at : n ≡ i) where
  -- what a thread that has its place is in the table
  pub regions-at : (t d : ThreadRegions) → n < length ts → t ≡ get_or ts n d → t.regions ≡ regions_of old.regions i
  regions-at t d here same =
      ap (λ (u : ThreadRegions). u.regions) (same ∙ get_or_default ts n d unused_thread here) ∙ (sym (regions_of-table ts n) ∙ (λ j. regions_of (let o : RegionTable = is j in o.regions) (at j)))

  pub unasserted-at : (t d : ThreadRegions) → n < length ts → t ≡ get_or ts n d → t.unasserted ≡ regions_of old.unasserted i
  unasserted-at t d here same =
      ap (λ (u : ThreadRegions). u.unasserted) (same ∙ get_or_default ts n d unused_thread here)
      ∙ (sym (unasserted_of-table ts n) ∙ (λ j. regions_of (let o : RegionTable = is j in o.unasserted) (at j)))

  pub reserved-at : (t d : ThreadRegions) → n < length ts → t ≡ get_or ts n d → t.reserved ≡ is_reserved old i
  reserved-at t d here same =
      ap (λ (u : ThreadRegions). u.reserved) (same ∙ get_or_default ts n d unused_thread here) ∙ (sym (is_reserved-table ts n) ∙ (λ j. is_reserved (is j) (at j)))

  pub thread_changed : (t u : ThreadRegions) → n < length ts → t ≡ u →
      region_table (set ts n t) ≡ record { regions = set old.regions i u.regions; unasserted = set old.unasserted i u.unasserted; reserved = set old.reserved i u.reserved }
  thread_changed t u here same =
      region_table-set ts n t here
      ∙ (λ j. record {
        regions = set (let o : RegionTable = is j in o.regions) (at j) (let v : ThreadRegions = same j in v.regions);
        unasserted = set (let o : RegionTable = is j in o.unasserted) (at j) (let v : ThreadRegions = same j in v.unasserted);
        reserved = set (let o : RegionTable = is j in o.reserved) (at j) (let v : ThreadRegions = same j in v.reserved);
      })

  -- the thread as the table has it
  abbrev pub thread_in : ThreadRegions
  thread_in = record { regions = regions_of old.regions i; unasserted = regions_of old.unasserted i; reserved = is_reserved old i }

  pub thread-at : (t d : ThreadRegions) → n < length ts → t ≡ get_or ts n d → t ≡ thread_in
  thread-at t d here same =
      λ j. record { regions = regions-at t d here same j; unasserted = unasserted-at t d here same j; reserved = reserved-at t d here same j }

  -- where it stays reserved or not
  pub regions_changed : (t : ThreadRegions) (regions unasserted : List (List ℕ)) → n < length ts →
      t ≡ record { regions = regions; unasserted = unasserted; reserved = is_reserved old i } →
      region_table (set ts n t) ≡ record old { regions = set old.regions i regions; unasserted = set old.unasserted i unasserted }
  regions_changed t regions unasserted here same =
      thread_changed t (record { regions = regions; unasserted = unasserted; reserved = is_reserved old i }) here same
      ∙ (λ j. record { regions = set old.regions i regions; unasserted = set old.unasserted i unasserted; reserved = set-get_or old.reserved i false j })

  -- where its regions stay
  pub reservation_changed : (t : ThreadRegions) (reserved : Bool) → n < length ts → t ≡ record thread_in { reserved = reserved } →
      region_table (set ts n t) ≡ record old { reserved = set old.reserved i reserved }
  reservation_changed t reserved here same =
      thread_changed t (record thread_in { reserved = reserved }) here same
      ∙ (λ j. record { regions = set-get_or old.regions i [] j; unasserted = set-get_or old.unasserted i [] j; reserved = set old.reserved i reserved })

  -- a reserved thread has its place, and so has one with an open region
  pub place_of_reserved : IsTrue (is_reserved old i) → n < length ts
  place_of_reserved h =
      used (λ t. t.reserved ≡ true) (λ no. cc) ts n (sym (is_reserved-table ts n) ∙ ((λ j. is_reserved (is j) (at j)) ∙ h))

  pub place_of_open : 0 < length (regions_of old.regions i) → n < length ts
  place_of_open h =
      used (λ t. 0 < length t.regions) (λ no. omega arith) ts n
      (subst (λ (rs : List (List ℕ)). 0 < length rs)
      (sym (sym (regions_of-table ts n) ∙ (λ j. regions_of (let o : RegionTable = is j in o.regions) (at j)))) h)

  -- a thread that has no place has no open region
  pub none_open : length ts ≤ n → regions_of old.regions i ≡ []
  none_open past =
      sym (sym (regions_of-table ts n) ∙ (λ j. regions_of (let o : RegionTable = is j in o.regions) (at j)))
      ∙ ap (λ (t : ThreadRegions). t.regions) (get_or-eq_default ts unused_thread past)

-- The stack of a thread, in a list of stacks that makes the table.
pub record IsStackOf (ts : List ThreadRegions) (old : RegionTable) (n i : ℕ) (t : ThreadRegions) : Type 0 where
  pub is : region_table ts ≡ old
  pub at : n ≡ i
  pub here : n < length ts
  pub thread : t ≡ thread_in ts old is n i at

-- the list may have got unused stacks since it made the table
pub stack_of : (ts us : List ThreadRegions) (old : RegionTable) (n i : ℕ) (t : ThreadRegions) → for_each_thread unused_thread ts ≡ for_each_thread unused_thread us →
    region_table us ≡ old → n ≡ i → n < length ts → t ≡ get_or ts n t → IsStackOf ts old n i t
stack_of ts us old n i t same is at here stands =
    let now = region_table-same ts us same ∙ is in
    record { is = now; at = at; here = here; thread = thread-at ts old now n i at t t here stands }

-- a thread that was put reserved is reserved
pub reserved_then : (ts : List ThreadRegions) (n i : ℕ) → n ≡ i → n < length ts → (t : ThreadRegions) → t.reserved ≡ true → IsTrue (is_reserved (region_table (set ts n t)) i)
reserved_then ts n i at here t reserved =
    (λ j. is_reserved (region_table (set ts n t)) (sym at j))
    ∙ (is_reserved-table (set ts n t) n
    ∙ (ap (λ (u : ThreadRegions). u.reserved) (get_or-set_same ts n t unused_thread here) ∙ reserved))

-- ---- the table without some ids

pub region_table-kept : (p : ℕ → Bool) (ts : List ThreadRegions) → region_table (map (thread_with_ids p) ts) ≡ table_with_ids p (region_table ts)
region_table-kept p ts =
    let all = sym (map-for_each_thread unused_thread (thread_with_ids p) ts) in
    λ j. record {
      regions =
          (ap (map (λ (t : ThreadRegions). t.regions)) all
          ∙ (map-map (λ (t : ThreadRegions). t.regions) (thread_with_ids p) (for_each_thread unused_thread ts)
          ∙ sym (map-map (map (filter p)) (λ (t : ThreadRegions). t.regions) (for_each_thread unused_thread ts)))) j;
      unasserted =
          (ap (map (λ (t : ThreadRegions). t.unasserted)) all
          ∙ (map-map (λ (t : ThreadRegions). t.unasserted) (thread_with_ids p) (for_each_thread unused_thread ts)
          ∙ sym (map-map (map (filter p)) (λ (t : ThreadRegions). t.unasserted) (for_each_thread unused_thread ts)))) j;
      reserved = (ap (map (λ (t : ThreadRegions). t.reserved)) all ∙ map_agree (thread_with_ids p) (λ (t : ThreadRegions). t.reserved) (λ t. refl) (for_each_thread unused_thread ts)) j;
    }

pub AreThreads-kept : (p : ℕ → Bool) (ts : List ThreadRegions) → AreThreads ts → AreThreads (map (thread_with_ids p) ts)
AreThreads-kept p ts r = record {
  few = (let e = length-map ts (thread_with_ids p) in let few = r.few in omega arith);
  each =
      All-map (λ (t : ThreadRegions). AreRegions t.regions) (thread_with_ids p) ts
      (All-weaker (λ (t : ThreadRegions). AreRegions t.regions) (λ (t : ThreadRegions). AreRegions (map (filter p) t.regions))
      (λ t h. AreRegions-keep p t.regions h) ts r.each);
}

-- what follows from either outcome
pub either_way : {T E A B P : Type 0} (result : Result T E) → OnOk result A → OnErr result B → (A → P) → (B → P) → P
either_way (Ok x) a b f g = f a
either_way (Err e) a b f g = g b
