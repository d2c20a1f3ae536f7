-- Hands taken back.
use Rattle.std.proofs.Common.{◌≡◌, ℕ, ◌+◌, ◌<◌, ◌≤◌, true, List, [], ◌∷◌, ◌++◌, length, map, get_or, sym, refl, ap, ◌∙◌, subst, arith, append-nil, vec_len, vec_capacity}
use Rattle.std.proofs.lemmas.List.{same_from_push, append_cancel_right, map-append}
use Rattle.std.specs.List.{AllByRecursion}
use Rattle.steal_pool.specs.declared.task.Task.{Task}
use Rattle.crossbeam_deque.specs.Handles.{view, worker_deque, stealer_deque}
use Rattle.crossbeam_utils.specs.Padded.{padded_value}
use Rattle.crossbeam_utils.specs.declared.cache_padded.CachePadded.{CachePadded}
use Rattle.steal_pool.specs.declared.hand.Hand.{Hand}
use Rattle.steal_pool.specs.declared.lane.Lane.{Lane}
use Rattle.steal_pool.specs.declared.victim.Victim.{Victim}
use Rattle.steal_pool.specs.declared.place.Place.{Place}
use Rattle.heap_base.specs.Counting.{total}
use Rattle.steal_pool.specs.Steps.{joined_hand}
use Rattle.steal_pool.specs.Victims.{total_took}
use Rattle.steal_pool.specs.Lanes.{own_hand}
use Rattle.steal_pool.specs.Loans.{HandKey, CanTakeBack, TakesBackHands, OnlyTakesBack, ReturnsHands, RestoresHands, IsThiefOf}
use Rattle.steal_pool.specs.Loans.{keys_of_others, hand_key, victim_key, keys_of, keys_in, key_in, own_took, others_took, all_took}
use Rattle.heap_base.proofs.Counting.{total-append, total-snoc}
use Rattle.steal_pool.proofs.Elements.{all-snoc}
use Rattle.steal_pool.proofs.ListLemmas.{each_thrice}
use Rattle.steal_pool.proofs.LoanLemmas.{Places, AllPlaces, EachBecomes, EachMoves, kept_by, same_rest}

-- the last hand is the one with this key
pub last_seen : (xs : List Victim) (r : Victim) (front : List HandKey) (m : HandKey) → map victim_key (xs ++ r ∷ []) ≡ front ++ m ∷ []
    → (map victim_key xs ≡ front) × (victim_key r ≡ m)
last_seen xs r front m e = same_from_push (map victim_key xs) front (victim_key r) m (sym (map-append victim_key xs (r ∷ [])) ∙ e)

pub sum_one : (h : Task → ℕ) (l m : Lane) (rs : List Victim) (r : Victim) → own_hand m ≡ joined_hand (own_hand l) (view r.pass)
    → total h (own_hand m).took + total_took h rs ≡ total h (own_hand l).took + total_took h (rs ++ r ∷ [])
sum_one h l m rs r e =
    let v : Hand = view r.pass in
    let a : total h (own_hand m).took ≡ total h (own_hand l).took + total h v.took = ap (λ (u : Hand). total h u.took) e ∙ total-append h (own_hand l).took v.took in
    let b = total-snoc (λ (s : Victim). let u : Hand = view s.pass in total h u.took) rs r in
    omega arith

module _ {J : Type 0} where
  pub joined_on : (j k : ℕ) (p q r : Place J) → TakesBackHands j p q → TakesBackHands k q r → TakesBackHands (j + k) p r
  joined_on j k p q r a b =
      record {
        rights = (let x = a.rights in let y = b.rights in omega arith);
        terms = b.terms ∙ a.terms;
        bound = b.bound ∙ a.bound;
        put = b.put ∙ a.put;
        more = λ h. (let x = a.more h in let y = b.more h in omega arith);
        deque = b.deque ∙ a.deque;
        stock = (let x = a.stock in let y = b.stock in omega arith);
        kin = b.kin;
        space = b.space ∙ a.space;
      }

  pub joins_on : (j k : ℕ) (p q r : Place J) → OnlyTakesBack j p q → OnlyTakesBack k q r → OnlyTakesBack (j + k) p r
  joins_on j k p q r a b = (b.0 ∙ (λ i. record (a.0 i) { lane = r.lane; spare = r.spare }), joined_on j k p q r a.1 b.1)

  pub join_less : (k j : ℕ) (ps : Places J) → (0 < length ps → j ≤ k) → AllPlaces (CanTakeBack k) ps → AllPlaces (CanTakeBack j) ps
  join_less k j [] l a = tt
  join_less k j (p ∷ ps) l a = let n = l (omega arith) in (record { space = (let x = a.0.space in omega arith); kin = a.0.kin }, join_less k j ps (λ _. n) a.1)

  join_after : (k j : ℕ) (p q r : Place J) (ms : List HandKey) → j + 1 ≤ k → CanTakeBack k p → RestoresHands j p q → ReturnsHands ms q r
      → CanTakeBack 1 r
  join_after k j p q r ms l c g h =
      record {
        space = (
            let stock = ap (λ (u : Place J). vec_len u.spare) h.rest in
            let space = ap (λ (u : Place J). vec_capacity u.spare) h.rest in
            omega (arith, c.space, g.joined.stock, g.joined.space, stock, space));
        kin = subst (λ (u : Place J). AllByRecursion (IsThiefOf (worker_deque u.lane.owner)) u.spare.items) (sym h.rest) g.joined.kin;
      }

  pub can_join_one : (k j : ℕ) (m : HandKey) (ps qs rs : Places J) → (0 < length ps → j + 1 ≤ k) → AllPlaces (CanTakeBack k) ps → EachBecomes (RestoresHands j) ps qs
      → EachMoves ReturnsHands m qs rs → AllPlaces (CanTakeBack 1) rs
  can_join_one k j m [] [] [] l a g h = tt
  can_join_one k j m [] [] (r ∷ rs) l a g h = absurd (let n = ap length h.1 in omega arith)
  can_join_one k j m [] (q ∷ qs) rs l a g h = absurd (let n = ap length g.1 in omega arith)
  can_join_one k j m (p ∷ ps) [] rs l a g h = absurd g
  can_join_one k j m (p ∷ ps) (q ∷ qs) [] l a g h = absurd h
  can_join_one k j m (p ∷ ps) (q ∷ qs) (r ∷ rs) l a g h =
      let n = l (omega arith) in
      (join_after k j (padded_value p) (padded_value q) (padded_value r) (m ∷ []) n a.0 g.0 h.0, can_join_one k j m ps qs rs (λ _. n) a.1 g.1 h.1)

  pub lasts : (b : List HandKey) (m : HandKey) (ps : Places J) → AllByRecursion (λ p. keys_in p ≡ b ++ m ∷ []) ps
      → AllByRecursion (λ p. (front : List HandKey) × (keys_in p ≡ front ++ m ∷ [])) ps
  lasts b m [] a = tt
  lasts b m (p ∷ ps) a = ((b, a.0), lasts b m ps a.1)

  pub tails : (m n : HandKey) (ps : Places J) → m ≡ n → AllByRecursion (λ p. (front : List HandKey) × (keys_in p ≡ front ++ m ∷ [])) ps
      → AllByRecursion (λ p. (front : List HandKey) × (keys_in p ≡ front ++ n ∷ [])) ps
  tails m n ps e a = subst (λ x. AllByRecursion (λ p. (front : List HandKey) × (keys_in p ≡ front ++ x ∷ [])) ps) e a

  -- the keys of the first place, and those of the rest
  pub first_row : (b : List HandKey) (p : CachePadded (Place J)) (ps : Places J)
      → map keys_in (p ∷ ps) ≡ keys_of_others b (map key_in (p ∷ ps))
      → (keys_in p ≡ b ++ map key_in ps) × (map keys_in ps ≡ keys_of_others (b ++ key_in p ∷ []) (map key_in ps))
  first_row b p ps e = (ap (λ xs. get_or xs 0 []) e, ap tail e)
    where
      tail : List (List HandKey) → List (List HandKey)
      tail [] = []
      tail (x ∷ xs) = xs

  -- the same of a place that only gave hands back since
  joined_still : (k : ℕ) (p q r : Place J) → r ≡ record q { others = r.others } → TakesBackHands k p q → TakesBackHands k p r
  joined_still k p q r same a =
      subst (TakesBackHands k p) (sym same) (record {
        rights = a.rights;
        terms = a.terms;
        bound = a.bound;
        put = a.put;
        more = a.more;
        deque = a.deque;
        stock = a.stock;
        kin = a.kin;
        space = a.space;
      })

  pub restored_head : (k : ℕ) (ms : List HandKey) (p q r : Place J) → OnlyTakesBack k p q → ReturnsHands ms q r → RestoresHands k p r
  restored_head k ms p q r a b =
      record {
        rest = same_rest p r (ap kept_by b.rest ∙ ap kept_by a.0);
        joined = joined_still k p q r b.rest a.1;
        space = b.space ∙ ap (λ (u : Place J). vec_capacity u.others) a.0;
      }

  restored_later : (k j : ℕ) (ms : List HandKey) (p q r s : Place J) → j + 1 ≡ k → RestoresHands j p q → ReturnsHands ms q r
      → OnlyTakesBack 1 r s → RestoresHands k p s
  restored_later k j ms p q r s l a b c =
      record {
        rest = same_rest p s (ap kept_by c.0 ∙ (ap kept_by b.rest ∙ ap kept_by a.rest));
        joined = subst (λ n. TakesBackHands n p s) l (joined_on j 1 p r s (joined_still j p q r b.rest a.joined) c.1);
        space = ap (λ (u : Place J). vec_capacity u.others) c.0 ∙ (b.space ∙ a.space);
      }

  pub restored_rest : (k j : ℕ) (m : HandKey) (ps qs rs ss : Places J) → (0 < length ps → j + 1 ≡ k) → EachBecomes (RestoresHands j) ps qs
      → EachMoves ReturnsHands m qs rs → EachBecomes (OnlyTakesBack 1) rs ss → EachBecomes (RestoresHands k) ps ss
  restored_rest k j m ps qs rs ss l =
      each_thrice (λ p _ q. RestoresHands j (padded_value p) (padded_value q)) (λ q n r. ReturnsHands (n ∷ []) (padded_value q) (padded_value r))
      (λ r _ s. OnlyTakesBack 1 (padded_value r) (padded_value s)) (λ p s. RestoresHands k (padded_value p) (padded_value s)) ps ps qs (map (λ _. m) qs) rs rs ss
      (λ some p _ q n r _ s. restored_later k j (n ∷ []) (padded_value p) (padded_value q) (padded_value r) (padded_value s) (l some))

  -- each place has one key less
  pub rows_returned : (b : List HandKey) (m : HandKey) (qs rs ss : Places J) → AllByRecursion (λ q. keys_in q ≡ b ++ m ∷ []) qs
      → EachMoves ReturnsHands m qs rs → EachBecomes (OnlyTakesBack 1) rs ss → AllByRecursion (λ q. keys_in q ≡ b) ss
  rows_returned b m [] [] [] a e f = tt
  rows_returned b m [] [] (s ∷ ss) a e f = absurd (let n = ap length f.1 in omega arith)
  rows_returned b m [] (r ∷ rs) ss a e f = absurd (let n = ap length e.1 in omega arith)
  rows_returned b m (q ∷ qs) [] ss a e f = absurd e
  rows_returned b m (q ∷ qs) (r ∷ rs) [] a e f = absurd f
  rows_returned b m (q ∷ qs) (r ∷ rs) (s ∷ ss) a e f = (ap keys_of f.0.0 ∙ append_cancel_right (keys_in r) b (m ∷ []) (sym e.0.left ∙ a.0), rows_returned b m qs rs ss a.1 e.1 f.1)

  -- what the hands took is counted at the owners, as they go back
  pub took_returned : (h : Task → ℕ) (m : HandKey) (qs rs ss : Places J) → EachMoves ReturnsHands m qs rs → EachBecomes (OnlyTakesBack 1) rs ss
      → (total (own_took h) rs ≡ total (own_took h) qs) × (total (others_took h) ss ≡ total (others_took h) rs)
  took_returned h m [] [] [] e f = (refl, refl)
  took_returned h m [] [] (s ∷ ss) e f = absurd (let n = ap length f.1 in omega arith)
  took_returned h m [] (r ∷ rs) ss e f = absurd (let n = ap length e.1 in omega arith)
  took_returned h m (q ∷ qs) [] ss e f = absurd e
  took_returned h m (q ∷ qs) (r ∷ rs) [] e f = absurd f
  took_returned h m (q ∷ qs) (r ∷ rs) (s ∷ ss) e f =
      let t = took_returned h m qs rs ss e.1 f.1 in
      let a : own_took h r ≡ own_took h q = ap (λ (u : Place J). total h (own_hand u.lane).took) e.0.rest in
      let b : others_took h s ≡ others_took h r = ap (λ (u : Place J). total_took h u.others.items) f.0.0 in
      let x = t.0 in
      let y = t.1 in
      (omega arith, omega arith)

  pub total_all : (h : Task → ℕ) (ps : Places J) → total (all_took h) ps ≡ total (own_took h) ps + total (others_took h) ps
  total_all h [] = refl
  total_all h (p ∷ ps) = let t = total_all h ps in omega arith

  -- one hand goes back to its owner
  pub join_one : (p q : Place J) (r : Victim) → victim_key r ≡ hand_key p.lane
      → own_hand q.lane ≡ joined_hand (own_hand p.lane) (view r.pass) → (own_hand p.lane).owner ≡ true
      → worker_deque q.lane.owner ≡ worker_deque p.lane.owner → q.spare.items ≡ p.spare.items ++ r.thief ∷ []
      → vec_len q.spare ≡ vec_len p.spare + 1 → vec_capacity q.spare ≡ vec_capacity p.spare → CanTakeBack 1 p → TakesBackHands 1 p q
  join_one p q r at view-is owns deque items len space can =
      let v : Hand = view r.pass in
      let one : v.rights ≡ 1 = ap (λ (m : HandKey). m.1.rights) at in
      let none : v.put ≡ [] = ap (λ (m : HandKey). m.1.put) at in
      let thief : stealer_deque r.thief ≡ worker_deque p.lane.owner = ap (λ (m : HandKey). m.0) at in
      let IsKin = IsThiefOf (worker_deque p.lane.owner) in
      let kin = all-snoc IsKin p.spare.items r.thief can.kin (thief, r.fifo) in
      record {
        rights = (let e = ap (λ (u : Hand). u.rights) view-is in omega arith);
        terms = ap (λ (u : Hand). u.fit) view-is;
        bound = ap (λ (u : Hand). u.bound) view-is;
        put = ap (λ (u : Hand). u.put) view-is ∙ (ap (λ xs. (own_hand p.lane).put ++ xs) none ∙ append-nil (own_hand p.lane).put);
        more = λ h. (let e = ap (λ (u : Hand). total h u.took) view-is in let w = total-append h (own_hand p.lane).took v.took in omega arith);
        deque = deque;
        stock = len;
        kin = subst (λ d. AllByRecursion (IsThiefOf d) q.spare.items) (sym deque) (subst (AllByRecursion IsKin) (sym items) kin);
        space = space;
      }
