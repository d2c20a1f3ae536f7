-- The whole run, step by step.
use Rattle.std.proofs.Common.{◌≡◌, ℕ, zero, suc, ◌+◌, ◌-◌, ◌<◌, ◌≤◌, List, [], ◌∷◌, ◌++◌, ◌∙◌, Some, None}
use Rattle.std.proofs.Common.{length, map, drop, get_or, sym, refl, ap, subst, arith, length-append, vec_len, vec_capacity, is_some}
use Rattle.std.specs.List.{All, AllByRecursion, Contains}
use Rattle.std.specs.Global.{Vec}
use Rattle.std.specs.declared.alloc.Global.{Global}
use Rattle.steal_pool.specs.declared.task.Task.{Task}
use Rattle.heap_base.specs.Counting.{total}
use Rattle.heap_base.proofs.Counting.{total-append, total-flat_map, total-ones, total-same}
use Rattle.crossbeam_deque.specs.Handles.{view, worker_deque}
use Rattle.crossbeam_deque.specs.declared.handles.Stealer.{Stealer}
use Rattle.crossbeam_utils.specs.Padded.{padded_value}
use Rattle.crossbeam_utils.specs.declared.cache_padded.CachePadded.{CachePadded}
use Rattle.steal_pool.specs.declared.hand.DequeRule.{DequeRule}
use Rattle.steal_pool.specs.declared.hand.Hand.{Hand}
use Rattle.steal_pool.specs.declared.place.Place.{Place}
use Rattle.steal_pool.specs.declared.victim.Victim.{Victim}
use Rattle.steal_pool.specs.Hands.{one}
use Rattle.steal_pool.specs.Jobs.{Meaning, Does, AllFit}
use Rattle.steal_pool.specs.Lanes.{own_hand}
use Rattle.steal_pool.specs.Lists.{Each, Pairs}
use Rattle.steal_pool.specs.Loans.{HandKey, IsFresh, IsUnused, IsThiefOf, CanLend, CanReceive, ExchangesHands, CanTakeBack, RestoresHands}
use Rattle.steal_pool.specs.Loans.{keys_of_others, hand_key, victim_key, keys_of, keys_in, key_in, all_took}
use Rattle.steal_pool.specs.Needs.{CanRun, HasRun}
use Rattle.steal_pool.specs.Places.{MayStart, MayFinish, FinishesWork}
use Rattle.steal_pool.specs.Queues.{Waiting}
use Rattle.steal_pool.specs.Rests.{IsEmpty, IsAtRest}
use Rattle.steal_pool.specs.Runs.{Work, HaveRoom, fit_tasks, most_tasks, all_first, all_put, Run}
use Rattle.steal_pool.specs.Seats.{TakesJob, GivesJob, HasSomeJob, opening, CanBegin, Begins}
use Rattle.steal_pool.specs.Steps.{renewed_hand, lent_hand}
use Rattle.steal_pool.specs.Victims.{total_took, total_bound, AreSameButTook, AreOnTerms}
use Rattle.steal_pool.specs.Workers.{CanStart, EndsWork}
use Rattle.steal_pool.proofs.ListLemmas.{does_append, each_length}
use Rattle.steal_pool.proofs.LoanLemmas.{Places}
use Rattle.steal_pool.proofs.PlaceTurns.{same_job}
use Rattle.steal_pool.proofs.TurnLemmas.{few_all, all_append}

pub all_rec : {X : Type 0} (P : X → Type 0) (xs : List X) → All P xs → AllByRecursion P xs
all_rec P [] a = tt
all_rec P (x ∷ xs) a = (a 0 x (omega arith), all_rec P xs (λ k d l. a (suc k) d (omega arith)))

pub rec_all : {X : Type 0} (P : X → Type 0) (xs : List X) → AllByRecursion P xs → All P xs
rec_all P [] a k d l = absurd (omega arith)
rec_all P (x ∷ xs) a zero d l = a.0
rec_all P (x ∷ xs) a (suc k) d l = rec_all P xs a.1 k d (omega arith)

none_of : {X : Type 0} (xs : List X) → length xs ≡ 0 → xs ≡ []
none_of [] e = refl
none_of (x ∷ xs) e = absurd (omega arith)

pub none_left : {X : Type 0} (xs : List X) → length xs ≡ 0 → xs ≡ []
none_left xs e = none_of xs e

pub each_from : {X : Type 0} (R : X → X → Type 0) (xs ys : List X) → length ys ≡ length xs
    → ((i : ℕ) (d : X) → i < length xs → R (get_or xs i d) (get_or ys i d)) → Each (λ x (_ : X) y. R x y) xs xs ys
each_from R [] [] e h = (refl, refl)
each_from R [] (y ∷ ys) e h = absurd (omega arith)
each_from R (x ∷ xs) [] e h = absurd (omega arith)
each_from R (x ∷ xs) (y ∷ ys) e h = (h 0 x (omega arith), each_from R xs ys (omega arith) (λ i d l. h (suc i) d (omega arith)))

same_length : {X : Type 0} (R : X → X → Type 0) (xs ys : List X) → Each (λ x (_ : X) y. R x y) xs xs ys → length ys ≡ length xs
same_length R xs ys e = each_length (λ x (_ : _) y. R x y) xs xs ys e

-- ---- the hands that the workers have on each other's deques

length_map : (rs : List Victim) → length (map victim_key rs) ≡ length rs
length_map [] = refl
length_map (r ∷ rs) = let e = length_map rs in omega arith

key_bounds : (rs : List Victim) → total_bound rs ≡ total (λ (m : HandKey). m.1.bound) (map victim_key rs)
key_bounds [] = refl
key_bounds (r ∷ rs) = let e = key_bounds rs in omega arith

key_terms : (F : List Task) (rs : List Victim) → AllByRecursion (λ (m : HandKey). m.1.fit ≡ F) (map victim_key rs) → AreOnTerms F rs
key_terms F [] a = tt
key_terms F (r ∷ rs) a = (a.0, key_terms F rs a.1)

fresh_none : (h : Task → ℕ) (rs : List Victim) → AllByRecursion IsUnused rs → total_took h rs ≡ 0
fresh_none h [] a = refl
fresh_none h (r ∷ rs) a = let e = fresh_none h rs a.1 in let f = ap (total h) a.0 in omega arith

keys_same : (rs ss : List Victim) → AreSameButTook rs ss → map victim_key ss ≡ map victim_key rs
keys_same [] [] a = refl
keys_same [] (s ∷ ss) a = absurd a
keys_same (r ∷ rs) [] a = absurd a
keys_same (r ∷ rs) (s ∷ ss) a = λ i. (a.0.0 i, (let v : Hand = view r.pass in record (a.0.1 i) { took = [] })) ∷ keys_same rs ss a.1 i

both_all : (P : HandKey → Type 0) (xs ys : List HandKey) → AllByRecursion P xs → AllByRecursion P ys → AllByRecursion P (xs ++ ys)
both_all P [] ys a b = b
both_all P (x ∷ xs) ys a b = (a.0, both_all P xs ys a.1 b)

module _ {J : Type 0} where
  -- a sum over the keys of each place's hands and its own key is the sum over all keys
  pub others_total : (f : HandKey → ℕ) (N : ℕ) (b : List HandKey) (ps : Places J) → map keys_in ps ≡ keys_of_others b (map key_in ps)
      → total f b + total f (map key_in ps) ≡ N → AllByRecursion (λ p. total f (keys_in p) + f (key_in p) ≡ N) ps
  others_total f N b [] e n = tt
  others_total f N b (p ∷ ps) e n =
      let head : keys_in p ≡ b ++ map key_in ps = ap (λ xs. get_or xs 0 []) e in
      let rest : map keys_in ps ≡ keys_of_others (b ++ key_in p ∷ []) (map key_in ps) = ap (drop 1) e in
      let a = ap (total f) head in
      let c = total-append f b (map key_in ps) in
      let d = total-append f b (key_in p ∷ []) in
      (omega arith, others_total f N (b ++ key_in p ∷ []) ps rest (omega arith))

  pub others_all : (P : HandKey → Type 0) (b : List HandKey) (ps : Places J) → map keys_in ps ≡ keys_of_others b (map key_in ps)
      → AllByRecursion P b → AllByRecursion P (map key_in ps) → AllByRecursion (λ p. AllByRecursion P (keys_in p)) ps
  others_all P b [] e a c = tt
  others_all P b (p ∷ ps) e a c =
      let head : keys_in p ≡ b ++ map key_in ps = ap (λ xs. get_or xs 0 []) e in
      let rest : map keys_in ps ≡ keys_of_others (b ++ key_in p ∷ []) (map key_in ps) = ap (drop 1) e in
      (subst (AllByRecursion P) (sym head) (both_all P b (map key_in ps) a c.1), others_all P (b ++ key_in p ∷ []) ps rest (both_all P b (key_in p ∷ []) a (c.0, tt)) c.1)

  total_keys : (f : HandKey → ℕ) (ps : Places J) → total f (map key_in ps) ≡ total (λ p. f (key_in p)) ps
  total_keys f [] = refl
  total_keys f (p ∷ ps) = let e = total_keys f ps in omega arith

  no_others : (p : Place J) → keys_of p ≡ [] → p.others.items ≡ []
  no_others p e = none_of p.others.items (sym (length_map p.others.items) ∙ ap length e)

  -- the spare ends are still of the place's own deque
  abbrev HasKin : Place J → Type 0
  HasKin p = AllByRecursion (IsThiefOf (worker_deque p.lane.owner)) p.spare.items

  same_kin : (p q : Place J) → worker_deque q.lane.owner ≡ worker_deque p.lane.owner → q.spare ≡ p.spare → HasKin p → HasKin q
  same_kin p q deque spare kin =
      let thieves-are = ap (λ (x : Vec (Stealer Task Global Hand DequeRule)). x.items) spare in
      subst (λ d. AllByRecursion (IsThiefOf d) q.spare.items) (sym deque) (subst (AllByRecursion (IsThiefOf (worker_deque p.lane.owner))) (sym thieves-are) kin)

abbrev done_in : (Task → ℕ) → List Work → ℕ
done_in h ds = total (λ (d : Work). total h d.done) ds

abbrev put_in : (Task → ℕ) → List Work → ℕ
put_in h ds = total (λ (d : Work). total h d.put) ds

abbrev first_in : (Task → ℕ) → List (List Task) → ℕ
first_in h fs = total (total h) fs

-- what holds throughout a run: what the jobs mean and share, the fit tasks, how many workers there are, how many tasks they do at most, and
-- the room of each place
pub record Setting (J S : Type 0) : Type 1 where
  pub meaning : Meaning J S
  pub shared : S
  pub fit : List Task
  pub workers : ℕ
  pub bound : ℕ
  pub room : ℕ

module _ {J S : Type 0} (setting : Setting J S) where
  abbrev M : Meaning J S
  M = setting.meaning

  abbrev s : S
  s = setting.shared

  abbrev F : List Task
  F = setting.fit

  abbrev n : ℕ
  n = setting.workers

  abbrev B : ℕ
  B = setting.bound

  abbrev room : ℕ
  room = setting.room

  -- a place with its job and its first tasks: whole is how many of the 16 rights are there, kept how many thieves' ends
  pub record IsStarting (whole kept : ℕ) (q : Place J) (j : J) (f : List Task) : Type 0 where
    pub is : q.job ≡ Some j
    pub ready : M.ready j s
    pub same_fit : M.fit j s ≡ F
    pub turns : B ≤ M.turns j
    pub first_fit : AllFit F f
    pub hand : own_hand q.lane ≡ record (renewed_hand F (length f + M.room j)) { rights = whole }
    pub tasks : q.queue.tasks ≡ f
    pub spare : M.room j ≤ q.queue.spare
    pub enough : room ≤ q.queue.room
    pub stock : vec_len q.spare ≡ kept
    pub space : n ≤ vec_capacity q.spare + 1
    pub kin : AllByRecursion (IsThiefOf (worker_deque q.lane.owner)) q.spare.items
    pub fresh : IsFresh q
    pub others_space : n ≤ vec_capacity q.others + 1

  abbrev pub AreStarting : ℕ → ℕ → Places J → List J → List (List Task) → Type 0
  AreStarting whole kept qs js fs = Each (λ q j f. IsStarting whole kept (padded_value q) j f) qs js fs

  abbrev TakeJobs : Places J → List J → Places J → Type 0
  TakeJobs ps js bs = Each (λ p j q. TakesJob (padded_value p) j (padded_value q)) ps js bs

  abbrev AllBegin : Places J → List (List Task) → Places J → Type 0
  AllBegin bs fs os = Each (λ p f q. Begins M s (opening (padded_value p) f) (padded_value q)) bs fs os

  abbrev AreAtRest : Places J → Type 0
  AreAtRest ps = AllByRecursion (λ p. IsAtRest n room (padded_value p)) ps

  can_begin_one : (p : Place J) (j : J) (f : List Task) (q : Place J) → TakesJob p j q → IsAtRest n room p → length f + M.room j < room
      → AllFit F f → M.fit j s ≡ F → CanBegin M s (opening q f)
  can_begin_one p j f q b r h a c =
      let space = r.2 in
      subst (λ (u : Place J). CanBegin M s (opening u f)) (sym b)
      (record { job = j; is = refl; whole = r.0.6; emptied = r.1.1; room = omega arith; are_fit = subst (λ xs. AllFit xs f) (sym c) a })

  pub can_begin : (ps : Places J) (js : List J) (fs : List (List Task)) (bs : Places J) → TakeJobs ps js bs → AreAtRest ps
      → HaveRoom M room js fs → AllByRecursion (AllFit F) fs → AllByRecursion (λ j. M.fit j s ≡ F) js
      → Each (λ p f _. CanBegin M s (opening (padded_value p) f)) bs fs bs
  can_begin [] [] fs [] b r h a c = (h, refl)
  can_begin [] [] fs (q ∷ bs) b r h a c = absurd (let l = ap length b.1 in omega arith)
  can_begin [] (j ∷ js) fs bs b r h a c = absurd (let l = ap length b.0 in omega arith)
  can_begin (p ∷ ps) [] fs bs b r h a c = absurd b
  can_begin (p ∷ ps) (j ∷ js) fs [] b r h a c = absurd b
  can_begin (p ∷ ps) (j ∷ js) [] (q ∷ bs) b r h a c = absurd h
  can_begin (p ∷ ps) (j ∷ js) (f ∷ fs) (q ∷ bs) b r h a c = (can_begin_one (padded_value p) j f (padded_value q) b.0 r.0 h.0 a.0 c.0, can_begin ps js fs bs b.1 r.1 h.1 a.1 c.1)

  starting_one : (p : Place J) (j : J) (f : List Task) (q u : Place J) → TakesJob p j q → IsAtRest n room p → length f + M.room j < room
      → M.ready j s → M.fit j s ≡ F → B ≤ M.turns j → AllFit F f → Begins M s (opening q f) u → IsStarting 16 (n - 1) u j f × (keys_of u ≡ [])
  starting_one p j f q u b r h y c t a o =
      let same : o.job ≡ j = same_job q.job o.job j o.is (ap (λ (x : Place J). x.job) b) in
      let hand-is : own_hand u.lane ≡ renewed_hand F (length f + M.room j) = o.hand ∙ (λ i. renewed_hand (c' same i) (length f + M.room (same i))) in
      let spare-is : u.spare ≡ p.spare = ap (λ (x : Place J). x.spare) o.rest ∙ ap (λ (x : Place J). x.spare) b in
      let others-is : u.others ≡ p.others = ap (λ (x : Place J). x.others) o.rest ∙ ap (λ (x : Place J). x.others) b in
      let deque-is : worker_deque u.lane.owner ≡ worker_deque p.lane.owner = o.deque ∙ ap (λ (x : Place J). worker_deque x.lane.owner) b in
      let queue-room : u.queue.room ≡ p.queue.room = o.room ∙ ap (λ (x : Place J). x.queue.room) b in
      let old-room : q.queue.room ≡ p.queue.room = ap (λ (x : Place J). x.queue.room) b in
      let left = o.spare in
      let enough = r.2 in
      let stock = r.0.3 in
      let stock' : vec_len u.spare ≡ vec_len p.spare = ap vec_len spare-is in
      let none : u.others.items ≡ [] = ap (λ (x : Vec Victim). x.items) others-is ∙ none_of p.others.items (sym p.others.ok.0 ∙ r.0.1) in (
        record {
          is = ap (λ (x : Place J). x.job) o.rest ∙ ap (λ (x : Place J). x.job) b;
          ready = y;
          same_fit = c;
          turns = t;
          first_fit = a;
          hand = hand-is;
          tasks = o.tasks;
          spare = omega arith;
          enough = omega arith;
          stock = omega arith;
          space = subst (λ (x : Vec (Stealer Task Global Hand DequeRule)). n ≤ vec_capacity x + 1) (sym spare-is) r.0.4;
          kin = same_kin p u deque-is spare-is (all_rec (IsThiefOf (worker_deque p.lane.owner)) p.spare.items r.0.5);
          fresh = subst (AllByRecursion IsUnused) (sym none) tt;
          others_space = subst (λ (x : Vec Victim). n ≤ vec_capacity x + 1) (sym others-is) r.0.2;
        },
        ap (map victim_key) none,
      )
    where
      c' : {i : J} → i ≡ j → M.fit i s ≡ F
      c' e = ap (λ x. M.fit x s) e ∙ c

  pub starting : (ps : Places J) (js : List J) (fs : List (List Task)) (bs os : Places J) → TakeJobs ps js bs → AreAtRest ps
      → HaveRoom M room js fs → AllByRecursion (λ j. M.ready j s) js → AllByRecursion (λ j. M.fit j s ≡ F) js
      → AllByRecursion (λ j. B ≤ M.turns j) js → AllByRecursion (AllFit F) fs → AllBegin bs fs os
      → AreStarting 16 (n - 1) os js fs × AllByRecursion (λ p. keys_in p ≡ []) os
  starting [] [] fs [] os b r h y c t a o = (subst (λ xs. AreStarting 16 (n - 1) xs [] fs) (sym o.1) (refl, h), subst (AllByRecursion (λ p. keys_in p ≡ [])) (sym o.1) tt)
  starting [] [] fs (q ∷ bs) os b r h y c t a o = absurd (let l = ap length b.1 in omega arith)
  starting [] (j ∷ js) fs bs os b r h y c t a o = absurd (let l = ap length b.0 in omega arith)
  starting (p ∷ ps) [] fs bs os b r h y c t a o = absurd b
  starting (p ∷ ps) (j ∷ js) fs [] os b r h y c t a o = absurd b
  starting (p ∷ ps) (j ∷ js) [] (q ∷ bs) os b r h y c t a o = absurd h
  starting (p ∷ ps) (j ∷ js) (f ∷ fs) (q ∷ bs) [] b r h y c t a o = absurd o
  starting (p ∷ ps) (j ∷ js) (f ∷ fs) (q ∷ bs) (u ∷ os) b r h y c t a o =
      let k = starting ps js fs bs os b.1 r.1 h.1 y.1 c.1 t.1 a.1 o.1 in
      let m = starting_one (padded_value p) j f (padded_value q) (padded_value u) b.0 r.0 h.0 y.0 c.0 t.0 a.0 o.0 in
      ((m.0, k.0), (m.1, k.1))

  -- all deques together have as many tasks to come as the run
  pub bounds_total : (whole kept : ℕ) (qs : Places J) (js : List J) (fs : List (List Task)) → AreStarting whole kept qs js fs
      → total (λ (m : HandKey). m.1.bound) (map key_in qs) ≡ most_tasks M js fs
  bounds_total whole kept [] js fs a = (let x = ap (total M.room) a.0 in let y = ap (total length) a.1 in omega arith)
  bounds_total whole kept (q ∷ qs) [] fs a = absurd a
  bounds_total whole kept (q ∷ qs) (j ∷ js) [] a = absurd a
  bounds_total whole kept (q ∷ qs) (j ∷ js) (f ∷ fs) a = let e = ap (λ (v : Hand). v.bound) a.0.hand in let r = bounds_total whole kept qs js fs a.1 in omega arith

  pub give_get : (qs : Places J) (js : List J) (fs : List (List Task)) → n ≤ 16 → 1 ≤ n → AreStarting 16 (n - 1) qs js fs
      → AllByRecursion (λ p. keys_in p ≡ []) qs
      → AllByRecursion (λ p. CanLend (n - 1) (padded_value p)) qs × AllByRecursion (λ p. CanReceive (n - 1) (padded_value p)) qs
  give_get [] js fs l k a b = (tt, tt)
  give_get (q ∷ qs) [] fs l k a b = absurd a
  give_get (q ∷ qs) (j ∷ js) [] l k a b = absurd a
  give_get (q ∷ qs) (j ∷ js) (f ∷ fs) l k a b =
      let r = give_get qs js fs l k a.1 b.1 in
      let m = a.0 in
      let rights = ap (λ (v : Hand). v.rights) m.hand in
      let stock = m.stock in
      let space = m.others_space in
      let u : Place J = padded_value q in
      let none : length u.others.items ≡ 0 = ap length (no_others u b.0) in
      let count = u.others.ok.0 in
      ((record { rights = omega arith; stock = omega arith; kin = m.kin }, r.0), (omega arith, r.1))

  exchanged_one : (q u : Place J) (j : J) (f : List Task) → 1 ≤ n → n ≤ 16 → IsStarting 16 (n - 1) q j f → ExchangesHands (n - 1) q u
      → IsStarting (17 - n) 0 u j f
  exchanged_one q u j f k l m d =
      let had = ap (λ (v : Hand). v.rights) m.hand in
      let gone = d.lent.rights in
      let whole : (own_hand u.lane).rights ≡ 17 - n = omega arith in
      let stock = m.stock in
      let lent = d.lent.stock in
      let space = m.space in
      let same = d.lent.space in
      let others = m.others_space in
      let same' = d.space in
      let queue-is : u.queue ≡ q.queue = ap (λ (x : Place J). x.queue) d.rest in
      let spare-is : u.queue.spare ≡ q.queue.spare = ap (λ (w : Waiting). w.spare) queue-is in
      let room-is : u.queue.room ≡ q.queue.room = ap (λ (w : Waiting). w.room) queue-is in
      let spare = m.spare in
      let enough = m.enough in
      record {
        is = ap (λ (x : Place J). x.job) d.rest ∙ m.is;
        ready = m.ready;
        same_fit = m.same_fit;
        turns = m.turns;
        first_fit = m.first_fit;
        hand = d.lent.view ∙ (λ i. record (m.hand i) { rights = whole i });
        tasks = ap (λ (w : Waiting). w.tasks) queue-is ∙ m.tasks;
        spare = omega arith;
        enough = omega arith;
        stock = omega arith;
        space = omega arith;
        kin = d.lent.kin;
        fresh = d.fresh m.fresh;
        others_space = omega arith;
      }

  pub exchanged_all : (qs us : Places J) (js : List J) (fs : List (List Task)) → 1 ≤ n → n ≤ 16 → AreStarting 16 (n - 1) qs js fs
      → Each (λ p _ q. ExchangesHands (n - 1) (padded_value p) (padded_value q)) qs qs us → AreStarting (17 - n) 0 us js fs
  exchanged_all [] us js fs k l a d = subst (λ xs. AreStarting (17 - n) 0 xs js fs) (sym d.1) a
  exchanged_all (q ∷ qs) [] js fs k l a d = absurd d
  exchanged_all (q ∷ qs) (u ∷ us) [] fs k l a d = absurd a
  exchanged_all (q ∷ qs) (u ∷ us) (j ∷ js) [] k l a d = absurd a
  exchanged_all (q ∷ qs) (u ∷ us) (j ∷ js) (f ∷ fs) k l a d = (exchanged_one (padded_value q) (padded_value u) j f k l a.0 d.0, exchanged_all qs us js fs k l a.1 d.1)

  pub terms_all : (whole kept : ℕ) (qs : Places J) (js : List J) (fs : List (List Task)) → AreStarting whole kept qs js fs
      → AllByRecursion (λ (m : HandKey). m.1.fit ≡ F) (map key_in qs)
  terms_all whole kept [] js fs a = tt
  terms_all whole kept (q ∷ qs) [] fs a = absurd a
  terms_all whole kept (q ∷ qs) (j ∷ js) [] a = absurd a
  terms_all whole kept (q ∷ qs) (j ∷ js) (f ∷ fs) a = (ap (λ (v : Hand). v.fit) a.0.hand, terms_all whole kept qs js fs a.1)

  start_one : (whole kept : ℕ) (q : Place J) (j : J) (f : List Task) → IsStarting whole kept q j f
      → total (λ (m : HandKey). m.1.bound) (keys_of q) + (hand_key q.lane).1.bound ≡ B
      → AllByRecursion (λ (m : HandKey). m.1.fit ≡ F) (keys_of q) → MayStart M s q
  start_one whole kept q j f m sum terms =
      let turns = m.turns in
      let bounds = key_bounds q.others.items in
      let bound : (own_hand q.lane).bound ≡ length f + M.room j = ap (λ (v : Hand). v.bound) m.hand in
      let put : total one (own_hand q.lane).put ≡ 0 = ap (λ (v : Hand). total one v.put) m.hand in
      let took : total one (own_hand q.lane).took ≡ 0 = ap (λ (v : Hand). total one v.took) m.hand in
      let tasks : total one q.queue.tasks ≡ length f = ap (total one) m.tasks ∙ total-ones f in
      record {
        can = record {
          job = j;
          is = m.is;
          can = record {
            ready = m.ready;
            terms = ap (λ (v : Hand). v.fit) m.hand ∙ sym m.same_fit;
            others = subst (λ xs. AreOnTerms xs q.others.items) (sym m.same_fit) (key_terms F q.others.items terms);
            waiting = subst (λ fit. AllFit fit q.queue.tasks) (sym m.same_fit) (subst (AllFit F) (sym m.tasks) m.first_fit);
            spare = m.spare;
            bound = omega arith;
            turns = omega arith;
          };
        };
        few = omega arith;
      }

  pub start_all : (whole kept : ℕ) (qs : Places J) (js : List J) (fs : List (List Task)) → AreStarting whole kept qs js fs
      → AllByRecursion (λ q. total (λ (m : HandKey). m.1.bound) (keys_in q) + (key_in q).1.bound ≡ B) qs
      → AllByRecursion (λ q. AllByRecursion (λ (m : HandKey). m.1.fit ≡ F) (keys_in q)) qs
      → AllByRecursion (λ q. MayStart M s (padded_value q)) qs
  start_all whole kept [] js fs m a b = tt
  start_all whole kept (q ∷ qs) [] fs m a b = absurd m
  start_all whole kept (q ∷ qs) (j ∷ js) [] m a b = absurd m
  start_all whole kept (q ∷ qs) (j ∷ js) (f ∷ fs) m a b = (start_one whole kept (padded_value q) j f m.0 a.0 b.0, start_all whole kept qs js fs m.1 a.1 b.1)

  -- a place that may go on
  pub record IsGoing (whole kept : ℕ) (q : Place J) : Type 0 where
    pub start : CanStart M s q
    pub same_fit : M.fit start.job s ≡ F
    pub rights : (own_hand q.lane).rights ≡ whole
    pub enough : room ≤ q.queue.room
    pub stock : vec_len q.spare ≡ kept
    pub space : n ≤ vec_capacity q.spare + 1
    pub kin : AllByRecursion (IsThiefOf (worker_deque q.lane.owner)) q.spare.items
    pub others_space : n ≤ vec_capacity q.others + 1

  abbrev pub AreGoing : ℕ → ℕ → Places J → Type 0
  AreGoing whole kept qs = AllByRecursion (λ q. IsGoing whole kept (padded_value q)) qs

  abbrev pub AllEnd : Places J → Places J → Type 0
  AllEnd ps qs = Each (λ p _ q. EndsWork M s (padded_value p) (padded_value q)) ps ps qs

  going_one : (whole kept : ℕ) (p q : Place J) (j : J) → p.job ≡ Some j → M.fit j s ≡ F → (own_hand p.lane).rights ≡ whole
      → room ≤ p.queue.room → vec_len p.spare ≡ kept → n ≤ vec_capacity p.spare + 1
      → AllByRecursion (IsThiefOf (worker_deque p.lane.owner)) p.spare.items → n ≤ vec_capacity p.others + 1 → EndsWork M s p q
      → IsGoing whole kept q
  going_one whole kept p q j is terms rights enough stock space kin others e =
      let same-space = e.space in
      let same-room = e.went.room in
      record {
        start = record { job = e.new; is = e.is; can = e.can };
        same_fit = e.went.same_fit ∙ (ap (λ x. M.fit x s) (same_job p.job e.old j e.was is) ∙ terms);
        rights = ap (λ (x : Hand). x.rights) e.went.hand ∙ rights;
        enough = omega arith;
        stock = ap vec_len e.spare ∙ stock;
        space = subst (λ (x : Vec (Stealer Task Global Hand DequeRule)). n ≤ vec_capacity x + 1) (sym e.spare) space;
        kin = same_kin p q e.went.deque e.spare kin;
        others_space = omega arith;
      }

  pub ended_all : (ps qs : Places J) (js : List J) (fs : List (List Task)) → AreStarting (17 - n) 0 ps js fs → AllEnd ps qs
      → AreGoing (17 - n) 0 qs × (map keys_in qs ≡ map keys_in ps) × (map key_in qs ≡ map key_in ps)
  ended_all [] [] js fs m e = (tt, refl, refl)
  ended_all [] (q ∷ qs) js fs m e = absurd (let l = ap length e.1 in omega arith)
  ended_all (p ∷ ps) [] js fs m e = absurd e
  ended_all (p ∷ ps) (q ∷ qs) [] fs m e = absurd m
  ended_all (p ∷ ps) (q ∷ qs) (j ∷ js) [] m e = absurd m
  ended_all (p ∷ ps) (q ∷ qs) (j ∷ js) (f ∷ fs) m e =
      let r = ended_all ps qs js fs m.1 e.1 in
      let a = m.0 in
      let x : Place J = padded_value p in
      let y : Place J = padded_value q in
      let w = e.0.went in
      let rows = keys_same x.others.items y.others.items w.others in
      let own-key : hand_key y.lane ≡ hand_key x.lane = λ i. (w.deque i, lent_hand (w.hand i)) in (
        (going_one (17 - n) 0 x y j a.is a.same_fit (ap (λ (v : Hand). v.rights) a.hand) a.enough a.stock a.space a.kin a.others_space e.0, r.0),
        (λ i. rows i ∷ r.1 i),
        (λ i. own-key i ∷ r.2 i),
      )

  pub can_take_back : (qs : Places J) → AreGoing (17 - n) 0 qs → AllByRecursion (λ p. CanTakeBack (n - 1) (padded_value p)) qs
  can_take_back [] a = tt
  can_take_back (q ∷ qs) a = (record { space = (let x = a.0.stock in let y = a.0.space in omega arith); kin = a.0.kin }, can_take_back qs a.1)

  restored_one : (q g : Place J) → 1 ≤ n → n ≤ 16 → IsGoing (17 - n) 0 q → RestoresHands (n - 1) q g → keys_of g ≡ [] → IsGoing 16 (n - 1) g
  restored_one q g k l a h none =
      let c = a.start.can in
      let j = a.start.job in
      let t = h.joined in
      let empty = no_others g none in
      let queue-is : g.queue ≡ q.queue = ap (λ (x : Place J). x.queue) h.rest in
      let tasks-is : total one g.queue.tasks ≡ total one q.queue.tasks = ap (λ (w : Waiting). total one w.tasks) queue-is in
      let spare-is : g.queue.spare ≡ q.queue.spare = ap (λ (w : Waiting). w.spare) queue-is in
      let room-is : g.queue.room ≡ q.queue.room = ap (λ (w : Waiting). w.room) queue-is in
      let bounds : total_bound g.others.items ≡ 0 = ap total_bound empty in
      let bound-is = t.bound in
      let put : total one (own_hand g.lane).put ≡ total one (own_hand q.lane).put = ap (total one) t.put in
      let more = t.more one in
      let few = few_all q.others.items in
      let spare = c.spare in
      let bound = c.bound in
      let turns = c.turns in
      let rights = a.rights in
      let rights' = t.rights in
      let stock = a.stock in
      let stock' = t.stock in
      let space = a.space in
      let space' = t.space in
      let others = a.others_space in
      let others' = h.space in
      let enough = a.enough in
      record {
        start = record {
          job = j;
          is = ap (λ (x : Place J). x.job) h.rest ∙ a.start.is;
          can = record {
            ready = c.ready;
            terms = t.terms ∙ c.terms;
            others = subst (AreOnTerms (M.fit j s)) (sym empty) tt;
            waiting = subst (λ (w : Waiting). AllFit (M.fit j s) w.tasks) (sym queue-is) c.waiting;
            spare = omega arith;
            bound = omega arith;
            turns = omega arith;
          };
        };
        same_fit = a.same_fit;
        rights = omega arith;
        enough = omega arith;
        stock = omega arith;
        space = omega arith;
        kin = t.kin;
        others_space = omega arith;
      }

  pub restored_all : (qs gs : Places J) → 1 ≤ n → n ≤ 16 → AreGoing (17 - n) 0 qs
      → Each (λ p _ q. RestoresHands (n - 1) (padded_value p) (padded_value q)) qs qs gs → AllByRecursion (λ q. keys_in q ≡ []) gs
      → AreGoing 16 (n - 1) gs
  restored_all [] [] k l a h r = tt
  restored_all [] (g ∷ gs) k l a h r = absurd (let e = ap length h.1 in omega arith)
  restored_all (q ∷ qs) [] k l a h r = absurd h
  restored_all (q ∷ qs) (g ∷ gs) k l a h r = (restored_one (padded_value q) (padded_value g) k l a.0 h.0 r.0, restored_all qs gs k l a.1 h.1 r.1)

  pub may_finish : (qs : Places J) → AreGoing 16 (n - 1) qs → AllByRecursion (λ q. MayFinish M s (padded_value q)) qs
  may_finish [] a = tt
  may_finish (q ∷ qs) a = (record { can = a.0.start; whole = a.0.rights }, may_finish qs a.1)

  abbrev pub AllFinish : Places J → Places J → Type 0
  AllFinish gs rs = Each (λ p _ q. FinishesWork M s (padded_value p) (padded_value q)) gs gs rs

  pub finished_all : (gs rs : Places J) → AreGoing 16 (n - 1) gs → AllByRecursion (λ q. keys_in q ≡ []) gs → AllFinish gs rs
      → AreGoing 16 (n - 1) rs × AllByRecursion (λ q. keys_in q ≡ []) rs × AllByRecursion (λ q. IsEmpty (padded_value q)) rs
  finished_all [] [] a r e = (tt, tt, tt)
  finished_all [] (u ∷ us) a r e = absurd (let l = ap length e.1 in omega arith)
  finished_all (g ∷ gs) [] a r e = absurd e
  finished_all (g ∷ gs) (u ∷ us) a r e =
      let k = finished_all gs us a.1 r.1 e.1 in
      let b = a.0 in
      let x : Place J = padded_value g in
      let y : Place J = padded_value u in
      let w = e.0.ended in
      let m = going_one 16 (n - 1) x y b.start.job b.start.is b.same_fit b.rights b.enough b.stock b.space b.kin b.others_space w in
      ((m, k.0), (keys_same x.others.items y.others.items w.went.others ∙ r.0, k.1), ((ap length e.0.none.waits, e.0.none.emptied m.rights), k.2))

  pub have_jobs : (rs : Places J) → AreGoing 16 (n - 1) rs → AllByRecursion HasSomeJob rs
  have_jobs [] a = tt
  have_jobs (r ∷ rs) a = (ap is_some a.0.start.is, have_jobs rs a.1)

  abbrev pub GiveJobs : Places J → List J → Places J → Type 0
  GiveJobs rs ks zs = Each (λ p k q. GivesJob (padded_value p) k (padded_value q)) rs ks zs

  pub rest_all : (rs : Places J) (ks : List J) (zs : Places J) → AreGoing 16 (n - 1) rs → 1 ≤ n → AllByRecursion (λ q. keys_in q ≡ []) rs
      → AllByRecursion (λ q. IsEmpty (padded_value q)) rs → GiveJobs rs ks zs → AreAtRest zs
  rest_all [] ks [] a c b e l = tt
  rest_all [] ks (z ∷ zs) a c b e l = absurd (let x = ap length l.1 in omega arith)
  rest_all (r ∷ rs) [] zs a c b e l = absurd l
  rest_all (r ∷ rs) (k ∷ ks) [] a c b e l = absurd l
  rest_all (r ∷ rs) (k ∷ ks) (z ∷ zs) a c b e l =
      let q : Place J = padded_value r in
      let stock = a.0.stock in
      let none : length q.others.items ≡ 0 = ap length (no_others q b.0) in
      let kin = rec_all (IsThiefOf (worker_deque q.lane.owner)) q.spare.items a.0.kin in
      let is : IsAtRest n room (record q { job = None }) =
      ((refl, q.others.ok.0 ∙ none, a.0.others_space, omega arith, a.0.space, kin, a.0.rights), e.0, a.0.enough) in
      (subst (IsAtRest n room) (sym l.0.1) is, rest_all rs ks zs a.1 c b.1 e.1 l.1)

  -- what the whole run did
  pub record Result (js : List J) (fs : List (List Task)) (es gs : Places J) (ks : List J) : Type 0 where
    pub work : List Work
    pub each : Each (λ j (w : Work) k. Does (M.works s) j w.done (record { job = k; put = w.put })) js work ks
    pub falls : Each (λ j (w : Work) k. M.room k + length w.put ≤ M.room j) js work ks
    pub turns : Each (λ j (w : Work) k. M.turns j ≤ M.turns k + length w.done) js work ks
    pub are_fit : AllByRecursion (λ (w : Work). AllFit F w.done) work
    pub ready : AllByRecursion (λ k. M.ready k s) ks
    pub same_fit : AllByRecursion (λ k. M.fit k s ≡ F) ks
    pub sum : (h : Task → ℕ) → done_in h work + total (all_took h) gs ≡ first_in h fs + put_in h work + total (all_took h) es

  pub result : (ds : Places J) (js : List J) (fs : List (List Task)) (es gs rs : Places J) (ks : List J) (zs : Places J)
      → AreStarting (17 - n) 0 ds js fs → AllEnd ds es → Each (λ p _ q. RestoresHands (n - 1) (padded_value p) (padded_value q)) es es gs
      → AllByRecursion (λ q. keys_in q ≡ []) gs → AllFinish gs rs → AllByRecursion (λ q. keys_in q ≡ []) rs
      → AllByRecursion (λ q. IsEmpty (padded_value q)) rs → GiveJobs rs ks zs → Result js fs es gs ks
  result [] [] [] [] [] [] [] [] m e h w x y v l = record { work = []; each = (refl, refl); falls = (refl, refl); turns = (refl, refl); are_fit = tt; ready = tt; same_fit = tt; sum = λ c. refl }
  result [] (j ∷ js) fs es gs rs ks zs m e h w x y v l = absurd (let a = ap length m.0 in omega arith)
  result [] [] (f ∷ fs) es gs rs ks zs m e h w x y v l = absurd (let a = ap length m.1 in omega arith)
  result [] [] [] (e' ∷ es) gs rs ks zs m e h w x y v l = absurd (let a = ap length e.1 in omega arith)
  result [] [] [] [] (g ∷ gs) rs ks zs m e h w x y v l = absurd (let a = ap length h.1 in omega arith)
  result [] [] [] [] [] (r ∷ rs) ks zs m e h w x y v l = absurd (let a = ap length x.1 in omega arith)
  result [] [] [] [] [] [] (k ∷ ks) zs m e h w x y v l = absurd (let a = ap length l.0 in omega arith)
  result [] [] [] [] [] [] [] (z ∷ zs) m e h w x y v l = absurd (let a = ap length l.1 in omega arith)
  result (d ∷ ds) [] fs es gs rs ks zs m e h w x y v l = absurd m
  result (d ∷ ds) (j ∷ js) [] es gs rs ks zs m e h w x y v l = absurd m
  result (d ∷ ds) (j ∷ js) (f ∷ fs) [] gs rs ks zs m e h w x y v l = absurd e
  result (d ∷ ds) (j ∷ js) (f ∷ fs) (e' ∷ es) [] rs ks zs m e h w x y v l = absurd h
  result (d ∷ ds) (j ∷ js) (f ∷ fs) (e' ∷ es) (g ∷ gs) [] ks zs m e h w x y v l = absurd x
  result (d ∷ ds) (j ∷ js) (f ∷ fs) (e' ∷ es) (g ∷ gs) (r ∷ rs) [] zs m e h w x y v l = absurd l
  result (d ∷ ds) (j ∷ js) (f ∷ fs) (e' ∷ es) (g ∷ gs) (r ∷ rs) (k ∷ ks) [] m e h w x y v l = absurd l
  result (d ∷ ds) (j ∷ js) (f ∷ fs) (e' ∷ es) (g ∷ gs) (r ∷ rs) (k ∷ ks) (z ∷ zs) m e h w x y v l =
      let a = result ds js fs es gs rs ks zs m.1 e.1 h.1 w.1 x.1 y.1 v.1 l.1 in
      let p : Place J = padded_value d in
      let q : Place J = padded_value e' in
      let u : Place J = padded_value g in
      let t : Place J = padded_value r in
      let E = e.0 in
      let X = x.0.ended in
      let we = E.went in
      let wx = X.went in
      let je : E.old ≡ j = same_job p.job E.old j E.was m.0.is in
      let mid : X.old ≡ E.new = same_job u.job X.old E.new X.was (ap (λ (c : Place J). c.job) h.0.rest ∙ E.is) in
      let jk : X.new ≡ k = same_job t.job X.new k X.is l.0.0 in
      let done = we.done ++ wx.done in
      let put = we.put ++ wx.put in
      let then-does : Does (M.works s) E.new wx.done (record { job = X.new; put = wx.put }) = subst (λ c. Does (M.works s) c wx.done (record { job = X.new; put = wx.put })) mid wx.does in
      let does : Does (M.works s) E.old done (record { job = X.new; put = put }) = does_append (M.works s) E.old E.new X.new we.done wx.done we.put wx.put we.does then-does in
      let does' : Does (M.works s) j done (record { job = k; put = put }) =
      subst (λ c. Does (M.works s) j done (record { job = c; put = put })) jk (subst (λ c. Does (M.works s) c done (record { job = X.new; put = put })) je does) in
      let fe : M.fit E.old s ≡ F = ap (λ c. M.fit c s) je ∙ m.0.same_fit in
      let fx : M.fit X.old s ≡ F = ap (λ c. M.fit c s) mid ∙ (we.same_fit ∙ fe) in
      record {
        work = record { done = done; put = put } ∷ a.work;
        each = (does', a.each);
        falls = (omega (arith, we.falls, wx.falls, ap M.room je, ap M.room mid, ap M.room jk, length-append we.put wx.put), a.falls);
        turns = (omega (arith, we.turns, wx.turns, ap M.turns je, ap M.turns mid, ap M.turns jk, length-append we.done wx.done), a.turns);
        are_fit = (all_append (Contains F) we.done wx.done (subst (λ c. AllFit c we.done) fe we.are_fit) (subst (λ c. AllFit c wx.done) fx wx.are_fit), a.are_fit);
        ready = (subst (λ c. M.ready c s) jk X.can.ready, a.ready);
        same_fit = (sym (ap (λ c. M.fit c s) jk) ∙ (wx.same_fit ∙ fx), a.same_fit);
        sum = λ c. (
            let s0 = a.sum c in
            let s1 = we.sum c in
            let s2 = wx.sum c in
            let d0 = total-append c we.done wx.done in
            let p0 = total-append c we.put wx.put in
            let q0 : total c p.queue.tasks ≡ total c f = ap (total c) m.0.tasks in
            let o0 : total c (own_hand p.lane).put ≡ 0 = ap (λ (i : Hand). total c i.put) m.0.hand in
            let t0 : total c (own_hand p.lane).took ≡ 0 = ap (λ (i : Hand). total c i.took) m.0.hand in
            let t1 = fresh_none c p.others.items m.0.fresh in
            let q1 : total c u.queue.tasks ≡ total c q.queue.tasks = ap (λ (i : Place J). total c i.queue.tasks) h.0.rest in
            let o1 : total c (own_hand u.lane).put ≡ total c (own_hand q.lane).put = ap (total c) h.0.joined.put in
            let q2 : total c t.queue.tasks ≡ 0 = ap (total c) (none_of t.queue.tasks v.0.0) in
            let o2 = v.0.1 c in
            let t2 : total_took c t.others.items ≡ 0 = ap (total_took c) (no_others t y.0) in
            omega arith);
      }

  as_often_from : (js : List J) (fs : List (List Task)) (es gs : Places J) (ks : List J) → (w : Result js fs es gs ks)
      → ((h : Task → ℕ) → total (all_took h) gs ≡ total (all_took h) es) → (h : Task → ℕ)
      → done_in h w.work ≡ first_in h fs + put_in h w.work
  as_often_from js fs es gs ks w same h = let a = w.sum h in let b = same h in omega arith

  pub run_from : (js : List J) (fs : List (List Task)) (es gs : Places J) (ks : List J) → Result js fs es gs ks → fit_tasks M s js ≡ F
      → ((h : Task → ℕ) → total (all_took h) gs ≡ total (all_took h) es) → Run M s (record { jobs = js; first = fs }) ks
  run_from js fs es gs ks w is same =
      record {
        work = w.work;
        each = w.each;
        are_fit = subst (λ f. All (λ (d : Work). AllFit f d.done) w.work) (sym is) (rec_all (λ (d : Work). AllFit F d.done) w.work w.are_fit);
        as_often = λ h. (
            let a = as_often_from js fs es gs ks w same h in
            let b = total-flat_map h (λ (d : Work). d.done) w.work in
            let c = total-flat_map h (λ (f : List Task). f) fs in
            let d = total-flat_map h (λ (d : Work). d.put) w.work in
            let e = total-append h (all_first fs) (all_put w.work) in
            omega arith);
      }

  turns_each : (N : ℕ) (js : List J) (ws : List Work) (ks : List J)
      → Each (λ j (w : Work) k. M.turns j ≤ M.turns k + length w.done) js ws ks → total (λ (w : Work). length w.done) ws ≤ N
      → Pairs (λ j k. M.turns j ≤ M.turns k + N) js ks
  turns_each N [] ws ks e l = e.1
  turns_each N (j ∷ js) [] ks e l = absurd e
  turns_each N (j ∷ js) (w ∷ ws) [] e l = absurd e
  turns_each N (j ∷ js) (w ∷ ws) (k ∷ ks) e l = ((let x = e.0 in omega arith), turns_each N js ws ks e.1 (omega arith))

  puts_below : (js : List J) (ws : List Work) (ks : List J) → Each (λ j (w : Work) k. M.room k + length w.put ≤ M.room j) js ws ks
      → total (λ (w : Work). length w.put) ws ≤ total M.room js
  puts_below [] ws ks e = (let x = ap (total (λ (w : Work). length w.put)) e.0 in omega arith)
  puts_below (j ∷ js) [] ks e = absurd e
  puts_below (j ∷ js) (w ∷ ws) [] e = absurd e
  puts_below (j ∷ js) (w ∷ ws) (k ∷ ks) e = (let x = e.0 in let r = puts_below js ws ks e.1 in omega arith)

  -- no job's turns fall by more than all tasks of the run
  pub turns_from : (js : List J) (fs : List (List Task)) (es gs : Places J) (ks : List J) → Result js fs es gs ks
      → ((h : Task → ℕ) → total (all_took h) gs ≡ total (all_took h) es) → Pairs (λ j k. M.turns j ≤ M.turns k + most_tasks M js fs) js ks
  turns_from js fs es gs ks w same =
      let a = as_often_from js fs es gs ks w same (λ _. 1) in
      let b = total-same (λ (d : Work). total (λ _. 1) d.done) (λ (d : Work). length d.done) (λ (d : Work). total-ones d.done) w.work in
      let c = total-same (λ (d : Work). total (λ _. 1) d.put) (λ (d : Work). length d.put) (λ (d : Work). total-ones d.put) w.work in
      let d = total-same (λ (f : List Task). total (λ _. 1) f) (λ (f : List Task). length f) (λ (f : List Task). total-ones f) fs in
      let e = puts_below js w.work ks w.falls in
      turns_each (most_tasks M js fs) js w.work ks w.turns (omega arith)

-- ---- the same from what the run needs, call by call

module _ {J S : Type 0} {M : Meaning J S} {s : S} {ps : Places J} {room : ℕ} {js : List J} {fs : List (List Task)}
    (k : CanRun M s (record { places = ps; room = room; load = record { jobs = js; first = fs } })) where
  abbrev the_run : Setting J S
  the_run = record { meaning = M; shared = s; fit = fit_tasks M s js; workers = length ps; bound = most_tasks M js fs; room = room }

  fits : AllByRecursion (AllFit the_run.fit) fs
  fits = all_rec (AllFit the_run.fit) fs k.fit

  sames : AllByRecursion (λ j. M.fit j s ≡ the_run.fit) js
  sames = all_rec (λ j. M.fit j s ≡ the_run.fit) js k.same_fit

  rests : AreAtRest the_run ps
  rests = all_rec (λ p. IsAtRest (length ps) room (padded_value p)) ps k.rest

  -- the jobs are at their places
  pub record AreSeated (bs : Places J) : Type 0 where
    pub each : TakeJobs the_run ps js bs
    pub count : length bs ≡ length ps

  pub seated_from : (left : List J) (bs : Places J) → (last : List J) × (js ≡ left ++ last) × TakeJobs the_run ps last bs → length left ≡ 0
      → AreSeated bs
  seated_from left bs moved none =
      let all-moved : moved.0 ≡ js = sym (moved.1 ∙ ap (λ xs. xs ++ moved.0) (none_of left none)) in
      let each = subst (λ xs. TakeJobs the_run ps xs bs) all-moved moved.2 in
      record { each = each; count = each_length (λ p j q. TakesJob (padded_value p) j (padded_value q)) ps js bs each }

  pub can_begin_all : {bs : Places J} → AreSeated bs → Each (λ p f _. CanBegin M s (opening (padded_value p) f)) bs fs bs
  can_begin_all {bs = bs} b = can_begin the_run ps js fs bs b.each rests k.room fits sames

  -- the run has begun at each place
  pub record HaveBegun (os : Places J) : Type 0 where
    pub starting : AreStarting the_run 16 (length ps - 1) os js fs
    pub none : AllByRecursion (λ p. keys_in p ≡ []) os
    pub count : length os ≡ length ps

  pub begun_from : {bs : Places J} (os : Places J) → AreSeated bs → AllBegin the_run bs fs os → HaveBegun os
  begun_from {bs = bs} os b o =
      let ready = all_rec (λ j. M.ready j s) js k.ready in
      let turns = all_rec (λ j. the_run.bound ≤ M.turns j) js k.turns in
      let t = starting the_run ps js fs bs os b.each rests k.room ready sames turns fits o in
      record { starting = t.0; none = t.1; count = each_length (λ p f q. Begins M s (opening (padded_value p) f) (padded_value q)) bs fs os o ∙ b.count }

  pub can_lend : {os : Places J} → HaveBegun os
      → AllByRecursion (λ p. CanLend (length os - 1) (padded_value p)) os × AllByRecursion (λ p. CanReceive (length os - 1) (padded_value p)) os
  can_lend {os = os} o =
      subst (λ m. AllByRecursion (λ p. CanLend (m - 1) (padded_value p)) os × AllByRecursion (λ p. CanReceive (m - 1) (padded_value p)) os)
      (sym o.count) (give_get the_run os js fs k.few k.some o.starting o.none)

  -- each worker has a hand on each other deque
  pub record HaveHands (ds : Places J) : Type 0 where
    pub starting : AreStarting the_run (17 - length ps) 0 ds js fs
    pub keys : map keys_in ds ≡ keys_of_others [] (map key_in ds)
    pub count : length ds ≡ length ps

  pub handed_from : {os ds : Places J} → HaveBegun os
      → Each (λ p _ q. ExchangesHands (length os - 1) (padded_value p) (padded_value q)) os os ds
      → ((before : List HandKey) → AllByRecursion (λ p. keys_in p ≡ before) os → map keys_in ds ≡ keys_of_others before (map key_in ds))
      → HaveHands ds
  handed_from {os = os} {ds = ds} o e rows =
      let each = subst (λ m. Each (λ p _ q. ExchangesHands (m - 1) (padded_value p) (padded_value q)) os os ds) o.count e in
      let count = same_length (λ p q. ExchangesHands (length os - 1) (padded_value p) (padded_value q)) os ds e in
      record { starting = exchanged_all the_run os ds js fs k.some k.few o.starting each; keys = rows [] o.none; count = count ∙ o.count }

  pub may_start : {ds : Places J} → HaveHands ds → All (λ p. MayStart M s (padded_value p)) ds
  may_start {ds = ds} d =
      let whole = 17 - length ps in
      let bounds = bounds_total the_run whole 0 ds js fs d.starting in
      let terms = terms_all the_run whole 0 ds js fs d.starting in
      rec_all (λ p. MayStart M s (padded_value p)) ds
      (start_all the_run whole 0 ds js fs d.starting
      (others_total (λ m. m.1.bound) the_run.bound [] ds d.keys (omega (arith, bounds)))
      (others_all (λ m. m.1.fit ≡ the_run.fit) [] ds d.keys tt terms))

  -- the workers have stopped
  pub record HaveStopped (ds es : Places J) : Type 0 where
    pub handed : HaveHands ds
    pub each : AllEnd the_run ds es
    pub going : AreGoing the_run (17 - length ps) 0 es
    pub keys : map keys_in es ≡ keys_of_others [] (map key_in es)
    pub count : length es ≡ length ps

  pub stopped_from : {ds : Places J} (es : Places J) → HaveHands ds → length es ≡ length ds
      → ((i : ℕ) (d : CachePadded (Place J)) → i < length ds → EndsWork M s (padded_value (get_or ds i d)) (padded_value (get_or es i d)))
      → HaveStopped ds es
  stopped_from {ds = ds} es d l h =
      let each = each_from (λ p q. EndsWork M s (padded_value p) (padded_value q)) ds es l h in
      let e = ended_all the_run ds es js fs d.starting each in
      record { handed = d; each = each; going = e.0; keys = e.1 ∙ (d.keys ∙ ap (keys_of_others []) (sym e.2)); count = l ∙ d.count }

  pub can_take : {ds es : Places J} → HaveStopped ds es → AllByRecursion (λ p. CanTakeBack (length es - 1) (padded_value p)) es
  can_take {es = es} e = subst (λ m. AllByRecursion (λ p. CanTakeBack (m - 1) (padded_value p)) es) (sym e.count) (can_take_back the_run es e.going)

  -- all hands are back
  pub record AreWhole (ds es gs : Places J) : Type 0 where
    pub stopped : HaveStopped ds es
    pub each : Each (λ p _ q. RestoresHands (length ps - 1) (padded_value p) (padded_value q)) es es gs
    pub going : AreGoing the_run 16 (length ps - 1) gs
    pub none : AllByRecursion (λ q. keys_in q ≡ []) gs
    pub count : length gs ≡ length ps

  pub whole_from : {ds es : Places J} (gs : Places J) → HaveStopped ds es
      → Each (λ p _ q. RestoresHands (length es - 1) (padded_value p) (padded_value q)) es es gs
      → ((before : List HandKey) → map keys_in es ≡ keys_of_others before (map key_in es) → AllByRecursion (λ q. keys_in q ≡ before) gs)
      → AreWhole ds es gs
  whole_from {es = es} gs e r rows =
      let each = subst (λ m. Each (λ p _ q. RestoresHands (m - 1) (padded_value p) (padded_value q)) es es gs) e.count r in
      let none = rows [] e.keys in
      let count = same_length (λ p q. RestoresHands (length es - 1) (padded_value p) (padded_value q)) es gs r in
      record { stopped = e; each = each; going = restored_all the_run es gs k.some k.few e.going each none; none = none; count = count ∙ e.count }

  pub finish_needs : {ds es gs : Places J} → AreWhole ds es gs → AllByRecursion (λ p. MayFinish M s (padded_value p)) gs
  finish_needs {gs = gs} w = may_finish the_run gs w.going

  -- no task is left
  pub record AreDone (ds es gs rs : Places J) : Type 0 where
    pub whole : AreWhole ds es gs
    pub each : AllFinish the_run gs rs
    pub going : AreGoing the_run 16 (length ps - 1) rs
    pub none : AllByRecursion (λ q. keys_in q ≡ []) rs
    pub empty : AllByRecursion (λ q. IsEmpty (padded_value q)) rs
    pub count : length rs ≡ length ps

  pub done_from : {ds es gs : Places J} (rs : Places J) → AreWhole ds es gs → AllFinish the_run gs rs → AreDone ds es gs rs
  done_from {gs = gs} rs w r =
      let a = finished_all the_run gs rs w.going w.none r in
      let count = same_length (λ p q. FinishesWork M s (padded_value p) (padded_value q)) gs rs r in
      record { whole = w; each = r; going = a.0; none = a.1; empty = a.2; count = count ∙ w.count }

  pub have_jobs_all : {ds es gs rs : Places J} → AreDone ds es gs rs → AllByRecursion HasSomeJob rs
  have_jobs_all {rs = rs} r = have_jobs the_run rs r.going

  -- each job is given back, and none has taken a task that was not put
  pub has_run : {ds es gs rs : Places J} {ks : List J} {zs : Places J} → AreDone ds es gs rs → GiveJobs the_run rs ks zs
      → ((h : Task → ℕ) → total (all_took h) gs ≡ total (all_took h) es) → HasRun M s (record { places = ps; room = room; load = record { jobs = js; first = fs } }) (ks, zs)
  has_run {ds = ds} {es = es} {gs = gs} {rs = rs} {ks = ks} {zs = zs} r given sum =
      let g = r.whole in
      let e = g.stopped in
      let w = result the_run ds js fs es gs rs ks zs e.handed.starting e.each g.each g.none r.each r.none r.empty given in
      record {
        ran = run_from the_run js fs es gs ks w refl sum;
        ready = rec_all (λ j. M.ready j s) ks w.ready;
        same_fit = rec_all (λ j. M.fit j s ≡ the_run.fit) ks w.same_fit;
        turns = turns_from the_run js fs es gs ks w sum;
        count = each_length (λ p j q. GivesJob (padded_value p) j (padded_value q)) rs ks zs given ∙ r.count;
        rest = rec_all (λ p. IsAtRest (length ps) room (padded_value p)) zs (rest_all the_run rs ks zs r.going k.some r.none r.empty given);
      }
