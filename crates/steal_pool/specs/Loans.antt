-- Hands that workers lend to each other for a run, and take back.
use Rattle.std.specs.Prelude.{◌≡◌, ℕ, ◌+◌, ◌<◌, ◌≤◌, List, [], ◌∷◌, ◌++◌, length, map, vec_len, vec_capacity}
use Rattle.std.specs.List.{AllByRecursion}
use Rattle.std.specs.declared.alloc.Global.{Global}
use Rattle.steal_pool.specs.declared.task.Task.{Task}
use Rattle.crossbeam_deque.specs.Handles.{view, worker_deque, stealer_deque, stealer_flavor}
use Rattle.crossbeam_deque.specs.declared.handles.Stealer.{Stealer}
use Rattle.crossbeam_utils.specs.Padded.{padded_value}
use Rattle.crossbeam_utils.specs.declared.cache_padded.CachePadded.{CachePadded}
use Rattle.steal_pool.specs.declared.hand.DequeRule.{DequeRule}
use Rattle.steal_pool.specs.declared.hand.Hand.{Hand}
use Rattle.steal_pool.specs.declared.lane.Lane.{Lane}
use Rattle.steal_pool.specs.declared.victim.Victim.{Victim}
use Rattle.steal_pool.specs.declared.place.Place.{Place}
use Rattle.heap_base.specs.Counting.{total}
use Rattle.steal_pool.specs.Steps.{lent_hand}
use Rattle.steal_pool.specs.Victims.{total_took}
use Rattle.steal_pool.specs.Lanes.{own_hand}

-- For each place the keys of the others, in order. `before` are those of the places before these.
abbrev pub keys_of_others : {D : Type 0} → List D → List D → List (List D)
keys_of_others before [] = []
keys_of_others before (d ∷ ds) = (before ++ ds) ∷ keys_of_others (before ++ d ∷ []) ds

-- What tells hands apart: the deque, and what the hand holds but for what it took.
abbrev pub HandKey : Type 0
HandKey = ((ℕ × ℕ) × Global) × Hand

abbrev pub hand_key : Lane → HandKey
hand_key l = (worker_deque l.owner, lent_hand (own_hand l))

-- the key of a hand, whatever it took
abbrev pub victim_key : Victim → HandKey
victim_key r = (stealer_deque r.thief, (let v : Hand = view r.pass in record v { took = [] }))

abbrev pub IsThiefOf : (ℕ × ℕ) × Global → Stealer Task Global Hand DequeRule → Type 0
IsThiefOf d t = (stealer_deque t ≡ d) × (stealer_flavor t ≡ 0)

abbrev pub IsUnused : Victim → Type 0
IsUnused r = let v : Hand = view r.pass in v.took ≡ []

module _ {J : Type 0} where
  -- the keys of the hands that a place has on the others
  abbrev pub keys_of : Place J → List HandKey
  keys_of p = map victim_key p.others.items

  abbrev pub keys_in : CachePadded (Place J) → List HandKey
  keys_in p = keys_of (padded_value p)

  abbrev pub key_in : CachePadded (Place J) → HandKey
  key_in p = hand_key (padded_value p).lane

  abbrev pub IsFresh : Place J → Type 0
  IsFresh p = AllByRecursion IsUnused p.others.items

  pub record CanLend (k : ℕ) (p : Place J) : Type 0 where
    pub rights : k < (own_hand p.lane).rights
    pub stock : k ≤ vec_len p.spare
    pub kin : AllByRecursion (IsThiefOf (worker_deque p.lane.owner)) p.spare.items

  abbrev pub CanReceive : ℕ → Place J → Type 0
  CanReceive k p = vec_len p.others + k ≤ vec_capacity p.others

  -- of the deque and its thieves' ends: k hands went out
  pub record LendsHands (k : ℕ) (p q : Place J) : Type 0 where
    pub view : own_hand q.lane ≡ record (own_hand p.lane) { rights = (own_hand q.lane).rights }
    pub rights : (own_hand q.lane).rights + k ≡ (own_hand p.lane).rights
    pub deque : worker_deque q.lane.owner ≡ worker_deque p.lane.owner
    pub stock : vec_len q.spare + k ≡ vec_len p.spare
    pub kin : AllByRecursion (IsThiefOf (worker_deque q.lane.owner)) q.spare.items
    pub space : vec_capacity q.spare ≡ vec_capacity p.spare

  abbrev pub OnlyLends : ℕ → Place J → Place J → Type 0
  OnlyLends k p q = (q ≡ record p { lane = q.lane; spare = q.spare }) × LendsHands k p q

  -- hands of these keys came
  pub record ReceivesHands (ms : List HandKey) (p q : Place J) : Type 0 where
    pub rest : q ≡ record p { others = q.others }
    pub came : keys_of q ≡ keys_of p ++ ms
    pub fresh : IsFresh p → IsFresh q
    pub space : vec_capacity q.others ≡ vec_capacity p.others
    pub count : vec_len q.others ≡ vec_len p.others + length ms

  pub record ExchangesHands (k : ℕ) (p q : Place J) : Type 0 where
    pub rest : q ≡ record p { lane = q.lane; spare = q.spare; others = q.others }
    pub lent : LendsHands k p q
    pub fresh : IsFresh p → IsFresh q
    pub space : vec_capacity q.others ≡ vec_capacity p.others

  pub record CanTakeBack (k : ℕ) (p : Place J) : Type 0 where
    pub space : vec_len p.spare + k ≤ vec_capacity p.spare
    pub kin : AllByRecursion (IsThiefOf (worker_deque p.lane.owner)) p.spare.items

  -- of the deque and its thieves' ends: k hands came back
  pub record TakesBackHands (k : ℕ) (p q : Place J) : Type 0 where
    pub rights : (own_hand q.lane).rights ≡ (own_hand p.lane).rights + k
    pub terms : (own_hand q.lane).fit ≡ (own_hand p.lane).fit
    pub bound : (own_hand q.lane).bound ≡ (own_hand p.lane).bound
    pub put : (own_hand q.lane).put ≡ (own_hand p.lane).put
    pub more : (h : Task → ℕ) → total h (own_hand p.lane).took ≤ total h (own_hand q.lane).took
    pub deque : worker_deque q.lane.owner ≡ worker_deque p.lane.owner
    pub stock : vec_len q.spare ≡ vec_len p.spare + k
    pub kin : AllByRecursion (IsThiefOf (worker_deque q.lane.owner)) q.spare.items
    pub space : vec_capacity q.spare ≡ vec_capacity p.spare

  abbrev pub OnlyTakesBack : ℕ → Place J → Place J → Type 0
  OnlyTakesBack k p q = (q ≡ record p { lane = q.lane; spare = q.spare }) × TakesBackHands k p q

  -- hands of these keys left, the last ones
  pub record ReturnsHands (ms : List HandKey) (p q : Place J) : Type 0 where
    pub rest : q ≡ record p { others = q.others }
    pub left : keys_of p ≡ keys_of q ++ ms
    pub space : vec_capacity q.others ≡ vec_capacity p.others

  pub record RestoresHands (k : ℕ) (p q : Place J) : Type 0 where
    pub rest : q ≡ record p { lane = q.lane; spare = q.spare; others = q.others }
    pub joined : TakesBackHands k p q
    pub space : vec_capacity q.others ≡ vec_capacity p.others

  abbrev pub own_took : (Task → ℕ) → CachePadded (Place J) → ℕ
  own_took h p = let q : Place J = padded_value p in total h (own_hand q.lane).took

  abbrev pub others_took : (Task → ℕ) → CachePadded (Place J) → ℕ
  others_took h p = let q : Place J = padded_value p in total_took h q.others.items

  -- what the worker's hands took, in all
  abbrev pub all_took : (Task → ℕ) → CachePadded (Place J) → ℕ
  all_took h p = own_took h p + others_took h p
