-- Hands lent.
use Rattle.std.proofs.Common.{◌≡◌, ℕ, zero, suc, ◌+◌, ◌-◌, ◌<◌, ◌≤◌, false, List, [], ◌∷◌, ◌++◌, ◌∙◌, Option}
use Rattle.std.proofs.Common.{length, map, get_or, set, take, drop, sym, refl, ap, subst, arith, append_assoc, append-nil, length-append, vec_len, vec_capacity}
use Rattle.std.specs.List.{AllByRecursion}
use Rattle.crossbeam_deque.specs.Handles.{worker_deque}
use Rattle.crossbeam_utils.specs.Padded.{padded_value}
use Rattle.crossbeam_utils.specs.declared.cache_padded.CachePadded.{CachePadded}
use Rattle.steal_pool.specs.declared.place.Count.{Count}
use Rattle.steal_pool.specs.declared.place.Place.{Place}
use Rattle.steal_pool.specs.Steps.{lent_hand}
use Rattle.steal_pool.specs.Lanes.{own_hand}
use Rattle.steal_pool.specs.Lists.{Each}
use Rattle.steal_pool.specs.Queues.{Waiting}
use Rattle.steal_pool.proofs.ListLemmas.{each_thrice}
use Rattle.steal_pool.specs.Loans.{keys_of_others, HandKey, hand_key, keys_of, keys_in, key_in, IsFresh, CanLend, CanReceive, LendsHands, OnlyLends, ReceivesHands, ExchangesHands, TakesBackHands}

abbrev pub Places : Type 0 → Type 0
Places J = List (CachePadded (Place J))

module _ {X : Type 0} where
  one_front : (head rest : List X) (d : X) → length head ≡ 1 → head ++ rest ≡ get_or head 0 d ∷ rest
  one_front [] rest d e = absurd (omega arith)
  one_front (x ∷ []) rest d e = refl
  one_front (x ∷ y ∷ zs) rest d e = absurd (omega arith)

  one_set : (head rest : List X) (z : X) → length head ≡ 1 → set head 0 z ++ rest ≡ z ∷ rest
  one_set [] rest z e = absurd (omega arith)
  one_set (x ∷ []) rest z e = refl
  one_set (x ∷ y ∷ zs) rest z e = absurd (omega arith)

  -- a list that was split behind its first element
  pub record IsSplit (old head rest : List X) : Type 0 where
    pub whole : old ≡ head ++ rest
    pub one : length head ≡ 1

  pub front_is : {old head rest : List X} → IsSplit old head rest → (d : X) → old ≡ get_or head 0 d ∷ rest
  front_is {head = head} {rest = rest} split d = split.whole ∙ one_front head rest d split.one

  -- what holds of the list by its head and rest, before and after
  pub headed : {old head rest : List X} (P : List X → List X → Type 0) → IsSplit old head rest → (d z : X) (rest' : List X)
      → P (get_or head 0 d ∷ rest) (z ∷ rest') → P old (set head 0 z ++ rest')
  headed {head = head} {rest = rest} P split d z rest' p =
      subst (λ xs. P xs (set head 0 z ++ rest')) (sym (front_is split d)) (subst (P (get_or head 0 d ∷ rest)) (sym (one_set head rest' z split.one)) p)

  pub tail_length : (old rest : List X) (x : X) → old ≡ x ∷ rest → length old - 1 ≡ length rest
  tail_length old rest x e = let l = ap length e in omega arith

module _ {J : Type 0} where
  pub key_lent : (k : ℕ) (p q : Place J) → LendsHands k p q → hand_key q.lane ≡ hand_key p.lane
  key_lent k p q l = λ i. (l.deque i, lent_hand (l.view i))

  pub key_joined : (k : ℕ) (p q : Place J) → TakesBackHands k p q → hand_key q.lane ≡ hand_key p.lane
  key_joined k p q l = λ i. (l.deque i, record { rights = 1; owner = false; fit = l.terms i; bound = l.bound i; put = []; took = [] })

  pub lent_on : (j k : ℕ) (p q r : Place J) → LendsHands j p q → LendsHands k q r → LendsHands (j + k) p r
  lent_on j k p q r a b =
      record {
        view = b.view ∙ (λ i. record (a.view i) { rights = (own_hand r.lane).rights });
        rights = (let x = a.rights in let y = b.rights in omega arith);
        deque = b.deque ∙ a.deque;
        stock = (let x = a.stock in let y = b.stock in omega arith);
        kin = b.kin;
        space = b.space ∙ a.space;
      }

  pub gets_on : {ms ns : List HandKey} {p q r : Place J} → ReceivesHands ms p q → ReceivesHands ns q r → ReceivesHands (ms ++ ns) p r
  gets_on {ms = ms} {ns = ns} {p = p} {r = r} a b =
      record {
        rest = b.rest ∙ (λ i. record (a.rest i) { others = r.others });
        came = b.came ∙ (ap (λ xs. xs ++ ns) a.came ∙ append_assoc (keys_of p) ms ns);
        fresh = λ h. b.fresh (a.fresh h);
        space = b.space ∙ a.space;
        count = (let x = a.count in let y = b.count in let z = length-append ms ns in omega arith);
      }

  pub gets_none : (p : Place J) → ReceivesHands [] p p
  gets_none p = record { rest = refl; came = sym (append-nil (keys_of p)); fresh = λ h. h; space = refl; count = omega arith }

  -- each place became one so related to it
  abbrev pub EachBecomes : (Place J → Place J → Type 0) → Places J → Places J → Type 0
  EachBecomes R ps qs = Each (λ p _ q. R (padded_value p) (padded_value q)) ps ps qs

  -- a hand of this key came to each place, or left it
  abbrev pub EachMoves : (List HandKey → Place J → Place J → Type 0) → HandKey → Places J → Places J → Type 0
  EachMoves R m ps qs = Each (λ p n q. R (n ∷ []) (padded_value p) (padded_value q)) ps (map (λ _. m) ps) qs

  abbrev pub AllPlaces : (Place J → Type 0) → Places J → Type 0
  AllPlaces P ps = AllByRecursion (λ p. P (padded_value p)) ps

  give_after : (p q : Place J) (ms : List HandKey) (k : ℕ) → 1 ≤ k → ReceivesHands ms p q → CanLend k p → CanLend 1 q
  give_after p q ms k l g c = subst (CanLend 1) (sym g.rest) (record { rights = (let r = c.rights in omega arith); stock = (let r = c.stock in omega arith); kin = c.kin })

  -- who could give k hands, and got one, can give one
  pub can_give_one : (m : HandKey) (k : ℕ) (ps qs : Places J) → length ps ≤ k → EachMoves ReceivesHands m ps qs → AllPlaces (CanLend k) ps
      → AllPlaces (CanLend 1) qs
  can_give_one m k [] [] l e a = tt
  can_give_one m k [] (q ∷ qs) l e a = absurd (let f = ap length e.1 in omega arith)
  can_give_one m k (p ∷ ps) [] l e a = absurd e
  can_give_one m k (p ∷ ps) (q ∷ qs) l e a = (give_after (padded_value p) (padded_value q) (m ∷ []) k (omega arith) e.0 a.0, can_give_one m k ps qs (omega arith) e.1 a.1)

  pub get_one : (k : ℕ) (ps : Places J) → length ps ≤ k → AllPlaces (CanReceive k) ps → AllPlaces (CanReceive 1) ps
  get_one k [] l a = tt
  get_one k (p ∷ ps) l a = (let x = a.0 in omega arith, get_one k ps (omega arith) a.1)

  give_less : (p q r : Place J) (ms : List HandKey) (k j : ℕ) → 1 + j ≡ k → ReceivesHands ms p q → OnlyLends 1 q r → CanLend k p
      → CanLend j r
  give_less p q r ms k j l g h c =
      let d : CanLend k q = subst (CanLend k) (sym g.rest) (record { rights = c.rights; stock = c.stock; kin = c.kin }) in
      record {
        rights = (let x = d.rights in let y = h.1.rights in omega arith);
        stock = (let x = d.stock in let y = h.1.stock in omega arith);
        kin = h.1.kin;
      }

  get_less : (p q r : Place J) (m : HandKey) (k j : ℕ) → 1 + j ≡ k → ReceivesHands (m ∷ []) p q → OnlyLends 1 q r → CanReceive k p
      → CanReceive j r
  get_less p q r m k j l g h c = subst (CanReceive j) (sym h.0) (let x = g.count in let y = g.space in omega arith)

  -- who could give and get k hands, and gave and got one, can give and get one less
  pub can_go_on : (m : HandKey) (k j : ℕ) (ps qs rs : Places J) → (0 < length ps → 1 + j ≡ k) → EachMoves ReceivesHands m ps qs
      → EachBecomes (OnlyLends 1) qs rs → AllPlaces (CanLend k) ps → AllPlaces (CanReceive k) ps → AllPlaces (CanLend j) rs × AllPlaces (CanReceive j) rs
  can_go_on m k j [] [] [] l e f a b = (tt, tt)
  can_go_on m k j [] [] (r ∷ rs) l e f a b = absurd (let n = ap length f.1 in omega arith)
  can_go_on m k j [] (q ∷ qs) rs l e f a b = absurd (let n = ap length e.1 in omega arith)
  can_go_on m k j (p ∷ ps) [] rs l e f a b = absurd e
  can_go_on m k j (p ∷ ps) (q ∷ qs) [] l e f a b = absurd f
  can_go_on m k j (p ∷ ps) (q ∷ qs) (r ∷ rs) l e f a b =
      let n = l (omega arith) in
      let t = can_go_on m k j ps qs rs (λ _. n) e.1 f.1 a.1 b.1 in (
        (give_less (padded_value p) (padded_value q) (padded_value r) (m ∷ []) k j n e.0 f.0 a.0, t.0),
        (get_less (padded_value p) (padded_value q) (padded_value r) m k j n e.0 f.0 b.0, t.1),
      )

  -- what neither a loan nor a return changes
  abbrev pub kept_by : Place J → Option J × Waiting × Count
  kept_by p = (p.job, p.queue, p.count)

  pub same_rest : (p r : Place J) → kept_by r ≡ kept_by p → r ≡ record p { lane = r.lane; spare = r.spare; others = r.others }
  same_rest p r same = λ i. (let kept = same i in record r { job = kept.0; queue = kept.1; count = kept.2 })

  pub exchanged_head : (k : ℕ) (ms : List HandKey) (p q r : Place J) → OnlyLends k p q → ReceivesHands ms q r → ExchangesHands k p r
  exchanged_head k ms p q r a b =
      record {
        rest = same_rest p r (ap kept_by b.rest ∙ ap kept_by a.0);
        lent = subst (LendsHands k p) (sym b.rest) (record { view = a.1.view; rights = a.1.rights; deque = a.1.deque; stock = a.1.stock; kin = a.1.kin; space = a.1.space });
        fresh = λ h. b.fresh (subst IsFresh (sym a.0) h);
        space = b.space ∙ ap (λ (u : Place J). vec_capacity u.others) a.0;
      }

  lent_from : (k : ℕ) (p q r : Place J) (ms : List HandKey) → ReceivesHands ms p q → LendsHands k q r → LendsHands k p r
  lent_from k p q r ms g l =
      record {
        view = l.view ∙ ap (λ (u : Place J). record (own_hand u.lane) { rights = (own_hand r.lane).rights }) g.rest;
        rights = l.rights ∙ ap (λ (u : Place J). (own_hand u.lane).rights) g.rest;
        deque = l.deque ∙ ap (λ (u : Place J). worker_deque u.lane.owner) g.rest;
        stock = l.stock ∙ ap (λ (u : Place J). vec_len u.spare) g.rest;
        kin = l.kin;
        space = l.space ∙ ap (λ (u : Place J). vec_capacity u.spare) g.rest;
      }

  exchanged_later : (k j : ℕ) (m : HandKey) (p q r s : Place J) → 1 + j ≡ k → ReceivesHands (m ∷ []) p q → OnlyLends 1 q r
      → ExchangesHands j r s → ExchangesHands k p s
  exchanged_later k j m p q r s l a b c =
      record {
        rest = same_rest p s (ap kept_by c.rest ∙ (ap kept_by b.0 ∙ ap kept_by a.rest));
        lent = subst (λ n. LendsHands n p s) l (lent_from (1 + j) p q s (m ∷ []) a (lent_on 1 j q r s b.1 c.lent));
        fresh = λ h. c.fresh (subst IsFresh (sym b.0) (a.fresh h));
        space = c.space ∙ (ap (λ (u : Place J). vec_capacity u.others) b.0 ∙ a.space);
      }

  pub exchanged_rest : (m : HandKey) (k j : ℕ) (ps qs rs ss : Places J) → (0 < length ps → 1 + j ≡ k) → EachMoves ReceivesHands m ps qs
      → EachBecomes (OnlyLends 1) qs rs → EachBecomes (ExchangesHands j) rs ss → EachBecomes (ExchangesHands k) ps ss
  exchanged_rest m k j ps qs rs ss l =
      each_thrice (λ p n q. ReceivesHands (n ∷ []) (padded_value p) (padded_value q)) (λ q _ r. OnlyLends 1 (padded_value q) (padded_value r))
      (λ r _ s. ExchangesHands j (padded_value r) (padded_value s)) (λ p s. ExchangesHands k (padded_value p) (padded_value s)) ps (map (λ _. m) ps) qs qs rs rs ss
      (λ some p n q _ r _ s. exchanged_later k j n (padded_value p) (padded_value q) (padded_value r) (padded_value s) (l some))

  -- each place has one key more
  pub rows_got : (m : HandKey) (b : List HandKey) (ps qs rs : Places J) → EachMoves ReceivesHands m ps qs → EachBecomes (OnlyLends 1) qs rs
      → AllByRecursion (λ p. keys_in p ≡ b) ps → AllByRecursion (λ p. keys_in p ≡ b ++ m ∷ []) rs
  rows_got m b [] [] [] e f a = tt
  rows_got m b [] [] (r ∷ rs) e f a = absurd (let n = ap length f.1 in omega arith)
  rows_got m b [] (q ∷ qs) rs e f a = absurd (let n = ap length e.1 in omega arith)
  rows_got m b (p ∷ ps) [] rs e f a = absurd e
  rows_got m b (p ∷ ps) (q ∷ qs) [] e f a = absurd f
  rows_got m b (p ∷ ps) (q ∷ qs) (r ∷ rs) e f a = (ap keys_of f.0.0 ∙ (e.0.came ∙ ap (λ xs. xs ++ m ∷ []) a.0), rows_got m b ps qs rs e.1 f.1 a.1)

  -- the keys of the first place and those of the rest are those of all
  pub rows_cross : (b : List HandKey) (p q r : Place J) (ns : List HandKey) (ss : Places J) (k : ℕ) → keys_of p ≡ b → OnlyLends k p q
      → ReceivesHands ns q r → ns ≡ map key_in ss → map keys_in ss ≡ keys_of_others (b ++ hand_key p.lane ∷ []) (map key_in ss)
      → keys_of r ∷ map keys_in ss ≡ keys_of_others b (hand_key r.lane ∷ map key_in ss)
  rows_cross b p q r ns ss k at g h same c =
      let first : keys_of r ≡ b ++ map key_in ss = h.came ∙ (λ i. (ap keys_of g.0 ∙ at) i ++ same i) in
      let m : hand_key r.lane ≡ hand_key p.lane = ap (λ (u : Place J). hand_key u.lane) h.rest ∙ key_lent k p q g.1 in
      λ i. first i ∷ (c ∙ ap (λ n. keys_of_others (b ++ n ∷ []) (map key_in ss)) (sym m)) i

drop_suc : {X : Type 0} (k : ℕ) (xs : List X) (d : X) → k < length xs → drop k xs ≡ get_or xs k d ∷ drop (suc k) xs
drop_suc k [] d l = absurd (omega arith)
drop_suc zero (x ∷ xs) d l = refl
drop_suc (suc k) (x ∷ xs) d l = drop_suc k xs d (omega arith)

pub drop_at : {X : Type 0} (k : ℕ) (xs : List X) (d : X) → k < length xs → drop k xs ≡ get_or xs k d ∷ drop (k + 1) xs
drop_at k xs d l = let e : suc k ≡ k + 1 = omega arith in subst (λ n. drop k xs ≡ get_or xs k d ∷ drop n xs) e (drop_suc k xs d l)

pub split_one : {X : Type 0} (st head rest : List X) (d : X) → 0 < length st → head ≡ take 1 st → rest ≡ drop 1 st
    → st ≡ get_or head 0 d ∷ rest
split_one [] head rest d l a b = absurd (omega arith)
split_one (x ∷ xs) head rest d l a b = λ i. get_or (sym a i) 0 d ∷ sym b i
