-- Each step keeps the rule of a round.
use Rattle.std.proofs.Common.{◌≡◌, ◌≢◌, ℕ, zero, suc, ◌<◌, Option, Some, None, Bool, true, false, List, [], ◌∷◌, ◌++◌, length, get_or, set, sym}
use Rattle.std.proofs.Common.{refl, ap, ◌∙◌, subst, ⊎_elim, ◌⊎◌, inl, inr, arith, length-set}
use mathlib.Core.Option.{some, none, some-injective, some-ne-none}
use mathlib.Core.Option as maybe
use lib.ListN.{get_elem?}
use Rattle.atomic_table.specs.Table.{State, step, Act, keeps, takes, gives, carried_after, Valid, stepped, Allows, Splits, opening}
use Rattle.atomic_table.proofs.Lists.{at_set, set_here, set_else, set_again, at_longer, at_last}
use Rattle.parked_crew.specs.Errands.{Errand}
use Rattle.parked_crew.specs.declared.rule.View.{View}
use Rattle.parked_crew.specs.declared.rule.Role.{Role}
use Rattle.parked_crew.specs.declared.rule.Role.TheVariants.{Nobody, Unsent, Sent, Served, Fresh, AtWork, Ended}
use Rattle.parked_crew.specs.Rounds.{Stage, shut, opened, laid, seated, begun, finished, fetched, opening_word, phase, MayBe, Sides, IsAt, Knows, hired_at}
use Rattle.parked_crew.specs.Rounds.{caller_role, worker_role, seen, IsHome, Slot, At, Turned, Sat, Opens, Sends, Takes, Finishes, Looks}
use Rattle.parked_crew.specs.Rounds.{without_right, the_worker}

abbrev number : Stage → ℕ
number shut = 0
number opened = 1
number laid = 2
number seated = 3
number begun = 4
number finished = 5
number fetched = 6

-- stages of different numbers are two
never : {A : Type 0} {st st' : Stage} → number st ≢ number st' → st ≡ st' → A
never other e = absurd (other (ap number e))

-- the caller, without the worker's right and before it is served, finds 3 where the errand is done, else another number
is_finished : (st : Stage) → MayBe (Sent false) st → (st ≡ finished) ⊎ (phase st ≢ 3)
is_finished st m =
    let early : (z : Stage) → phase z ≢ 3 → st ≡ z → (st ≡ finished) ⊎ (phase st ≢ 3) = λ z other e. inr (λ h. other (sym (ap phase e) ∙ h)) in
    ⊎_elim (early seated (λ e. omega arith)) (⊎_elim (early begun (λ e. omega arith)) inl) m

-- before the round is opened no seat has a part in it
none_yet : (role : Role) → MayBe role shut → role ≡ Nobody
none_yet Nobody m = refl
none_yet Unsent m = never (λ e. omega arith) m
none_yet (Sent true) m = never (λ e. omega arith) m
none_yet (Sent false) m = ⊎_elim (never (λ e. omega arith)) (⊎_elim (never (λ e. omega arith)) (never (λ e. omega arith))) m
none_yet Served m = never (λ e. omega arith) m
none_yet Fresh m = never (λ e. omega arith) m
none_yet AtWork m = never (λ e. omega arith) m
none_yet Ended m = ⊎_elim (never (λ e. omega arith)) (never (λ e. omega arith)) m

abbrev with_worker : Sides → ℕ → Sides
with_worker d worker = record d { worker = worker }

-- A step of the caller: no other seat is the caller's
caller_steps : (st st' : Stage) (d : Sides) (w' id j : ℕ) (role : Role) → id ≡ d.caller → (Knows st d j Fresh → Knows st' (with_worker d w') j Fresh) →
    (Knows st d j AtWork → Knows st' (with_worker d w') j AtWork) → (Knows st d j Ended → Knows st' (with_worker d w') j Ended)
    → j ≢ id → Knows st d j role → Knows st' (with_worker d w') j role
caller_steps st st' d w' id j Nobody mine f a e apart k = (tt, tt)
caller_steps st st' d w' id j Unsent mine f a e apart k = absurd (apart (k.1 ∙ sym mine))
caller_steps st st' d w' id j (Sent b) mine f a e apart k = absurd (apart (k.1 ∙ sym mine))
caller_steps st st' d w' id j Served mine f a e apart k = absurd (apart (k.1 ∙ sym mine))
caller_steps st st' d w' id j Fresh mine f a e apart k = f k
caller_steps st st' d w' id j AtWork mine f a e apart k = a k
caller_steps st st' d w' id j Ended mine f a e apart k = e k

-- A step of the worker: no other seat is the worker's
worker_steps : (st st' : Stage) (d : Sides) (id j : ℕ) (role : Role) → id ≡ d.worker → (MayBe Unsent st → MayBe Unsent st') →
    ((b : Bool) → MayBe (Sent b) st → MayBe (Sent b) st') → (MayBe Served st → MayBe Served st')
    → j ≢ id → Knows st d j role → Knows st' d j role
worker_steps st st' d id j Nobody mine u s v apart k = (tt, tt)
worker_steps st st' d id j Unsent mine u s v apart k = (u k.0, k.1)
worker_steps st st' d id j (Sent b) mine u s v apart k = (s b k.0, k.1)
worker_steps st st' d id j Served mine u s v apart k = (v k.0, k.1)
worker_steps st st' d id j Fresh mine u s v apart k = absurd (apart (k.1 ∙ sym mine))
worker_steps st st' d id j AtWork mine u s v apart k = absurd (apart (k.1 ∙ sym mine))
worker_steps st st' d id j Ended mine u s v apart k = absurd (apart (k.1 ∙ sym mine))

-- the caller's view stays sent, where it does with the right and without it
stays_sent : (st st' : Stage) → (MayBe (Sent true) st → MayBe (Sent true) st') → (MayBe (Sent false) st → MayBe (Sent false) st') → (b : Bool) → MayBe (Sent b) st → MayBe (Sent b) st'
stays_sent st st' held bare true m = held m
stays_sent st st' held bare false m = bare m

at_lone : {A : Type 0} (a b : A) (j : ℕ) → get_elem? (a ∷ []) j ≡ some b → a ≡ b
at_lone a b zero e = some-injective a b e
at_lone a b (suc j) e = absurd (some-ne-none b (sym e))

at_lt : {A : Type 0} (l : List A) (i : ℕ) (a : A) → get_elem? l i ≡ some a → i < length l
at_lt [] i a e = absurd (some-ne-none a (sym e))
at_lt (x ∷ xs) zero a e = omega arith
at_lt (x ∷ xs) (suc i) a e = let r = at_lt xs i a e in omega arith

-- 1 of a role of the caller's, 2 of one of the worker's
abbrev kind : Role → ℕ
kind Nobody = 0
kind Unsent = 1
kind (Sent b) = 1
kind Served = 1
kind Fresh = 2
kind AtWork = 2
kind Ended = 2

-- the last of a list stands at its old length
at_end : {A : Type 0} (l : List A) (a b : A) (j : ℕ) → get_elem? (l ++ a ∷ []) j ≡ some b → ((j ≢ length l) × (get_elem? l j ≡ some b)) ⊎ ((j ≡ length l) × (a ≡ b))
at_end [] a b zero e = inr (refl, some-injective a b e)
at_end [] a b (suc j) e = absurd (some-ne-none b (sym e))
at_end (x ∷ xs) a b zero e = inl ((λ h. omega arith), e)
at_end (x ∷ xs) a b (suc j) e = ⊎_elim (λ t. let n = t.0 in inl ((λ h. n (omega arith)), t.1)) (λ t. inr (ap suc t.0, t.1)) (at_end xs a b j e)

module _ {C : Type 0} (n : C) where
  abbrev It : Type 0
  It = Option (Errand C)

  abbrev Homes : Type 0
  Homes = List (maybe.Option It)

  abbrev St : Type 0
  St = State It (View C)

  -- what a step owes, over the parts of the table
  abbrev Goes : List ℕ → Homes → List (View C) → ℕ → Sat C → ℕ → (ℕ → ℕ) → (ℕ → Sat C → Type 0) → Type 0
  Goes ws hs vs id me i f then =
      (u : View C) × (a : Act It) × Valid hs me.1 a
      × Turned n (stepped (record { words = ws; homes = hs; views = vs }) i (f (get_or ws i 0)) id me.1 u a)
      × then (get_or ws i 0) (u, carried_after me.1 a)

  at_words : (st : Stage) (d : Sides) (s : St) → At n st d s → (id : ℕ) (me : Sat C) (i : ℕ) (f : ℕ → ℕ) (then : ℕ → Sat C → Type 0)
      → Goes (opening_word st ∷ phase st ∷ []) s.homes s.views id me i f then → Goes s.words s.homes s.views id me i f then
  at_words st d s k id me i f then g = subst (λ (ws : List ℕ). Goes ws s.homes s.views id me i f then) (sym k.words) g

  -- the seat id has the view u now, and the round is at the stage st'
  moved_at : (st st' : Stage) (d d' : Sides) (s : St) → At n st d s → (id : ℕ) (u : View C) (homes' : Homes) → length homes' ≡ 1 → Slot n homes' st' → Knows st' d' id u.role → u.start ≡ n
      → ((j : ℕ) (role : Role) → j ≢ id → Knows st d j role → Knows st' d' j role)
      → (opening_word st' ≡ 1 → get_elem? (set s.views id u) d'.caller ≡ some (seen (caller_role st') n)) →
      (hired_at st' ≡ 1 → get_elem? (set s.views id u) d'.worker ≡ some (seen (worker_role st') n))
      → At n st' d' record { words = opening_word st' ∷ phase st' ∷ []; homes = homes'; views = set s.views id u }
  moved_at st st' d d' s k id u homes' deep slot mine noted others ct wt = record {
    words = refl;
    deep = deep;
    slot = slot;
    each_seat = λ j v e. ⊎_elim (λ (t : (j ≡ id) × (u ≡ v)). subst (λ (x : ℕ × View C). Knows st' d' x.0 x.1.role) (λ i. (sym t.0 i, t.1 i)) mine)
        (λ (t : (j ≢ id) × (get_elem? s.views j ≡ some v)). others j v.role t.0 (k.each_seat j v t.1)) (at_set s.views id j u v e);
    noted = λ j v e. ⊎_elim (λ (t : (j ≡ id) × (u ≡ v)). subst (λ (x : View C). x.start ≡ n) t.1 noted)
        (λ (t : (j ≢ id) × (get_elem? s.views j ≡ some v)). k.noted j v t.1) (at_set s.views id j u v e);
    caller_there = ct;
    worker_there = wt;
  }

  -- two seats of different kinds are two
  two_seats : (vs : List (View C)) (i j : ℕ) (v u : View C) → get_elem? vs i ≡ some v → get_elem? vs j ≡ some u → kind v.role ≢ kind u.role → i ≢ j
  two_seats vs i j v u a b other e = other (ap (λ (x : View C). kind x.role) (some-injective v u (sym a ∙ (ap (λ (z : ℕ). get_elem? vs z) e ∙ b))))

  -- where the seat's view stays as it was
  same_there : (vs : List (View C)) (id i : ℕ) (v u : View C) → get_elem? vs id ≡ some v → get_elem? vs i ≡ some u → get_elem? (set vs id v) i ≡ some u
  same_there vs id i v u at there = ap (λ (z : List (View C)). get_elem? z i) (set_again vs id v at) ∙ there

  -- the new view of the seat, where that is the seat i
  new_there : (vs : List (View C)) (id i : ℕ) (v : View C) (role : Role) (m : C) → get_elem? vs id ≡ some v → id ≡ i → m ≡ n → get_elem? (set vs id (seen role m)) i ≡ some (seen role n)
  new_there vs id i v role m at is same = ap (λ (z : ℕ). get_elem? (set vs id (seen role m)) z) (sym is) ∙ (set_here vs id (seen role m) (at_lt vs id v at) ∙ ap (λ (z : C). some (seen role z)) same)

  -- the view of another seat stays
  other_there : (vs : List (View C)) (id i : ℕ) (v u w : View C) → get_elem? vs id ≡ some v → get_elem? vs i ≡ some u → kind u.role ≢ kind v.role → get_elem? (set vs id w) i ≡ some u
  other_there vs id i v u w at there other = set_else vs id i w (two_seats vs i id u v there at other) ∙ there

  moved : (st st' : Stage) (d d' : Sides) (s : St) → At n st d s → (id : ℕ) (u : View C) (homes' : Homes) → length homes' ≡ 1 → Slot n homes' st' → Knows st' d' id u.role → u.start ≡ n
      → ((j : ℕ) (role : Role) → j ≢ id → Knows st d j role → Knows st' d' j role)
      → (opening_word st' ≡ 1 → get_elem? (set s.views id u) d'.caller ≡ some (seen (caller_role st') n)) →
      (hired_at st' ≡ 1 → get_elem? (set s.views id u) d'.worker ≡ some (seen (worker_role st') n))
      → Turned n record { words = opening_word st' ∷ phase st' ∷ []; homes = homes'; views = set s.views id u }
  moved st st' d d' s k id u homes' deep slot mine noted others ct wt =
      record { stage = st'; sides = d'; at = moved_at st st' d d' s k id u homes' deep slot mine noted others ct wt }

  -- nothing moves
  stays : (st : Stage) (d : Sides) (s : St) → At n st d s → (id : ℕ) (v : View C) → get_elem? s.views id ≡ some v →
      Turned n record { words = opening_word st ∷ phase st ∷ []; homes = s.homes; views = set s.views id v }
  stays st d s k id v at =
      moved st st d d s k id v s.homes k.deep k.slot (k.each_seat id v at) (k.noted id v at) (λ j role _ h. h)
      (λ e. same_there s.views id d.caller v (seen (caller_role st) n) at (k.caller_there e))
      (λ e. same_there s.views id d.worker v (seen (worker_role st) n) at (k.worker_there e))

  -- what the view of a seat tells, by whose role the stage is known
  record IsSeen (role : Role) (st : Stage) (id : ℕ) (m : C) (d : Sides) (s : St) : Type 0 where
    at : At n st d s
    mine : IsAt role d id
    same : m ≡ n

  is_seen : (role : Role) (st : Stage) (id : ℕ) (m : C) (s : St) (r : Turned n s) → (MayBe role r.stage → r.stage ≡ st)
      → get_elem? s.views id ≡ some (seen role m) → IsSeen role st id m r.sides s
  is_seen role st id m s r shows at =
      let known = r.at.each_seat id (seen role m) at in
      record { at = subst (λ (z : Stage). At n z r.sides s) (shows known.0) r.at; mine = known.1; same = r.at.noted id (seen role m) at }

  -- the table's one slot with this errand
  abbrev with_errand : St → Errand C → Homes
  with_errand s e = set s.homes 0 (some (Some e))

  holds_one : (s : St) (e : Errand C) → length s.homes ≡ 1 → length (with_errand s e) ≡ 1
  holds_one s e deep = length-set s.homes 0 (some (Some e)) ∙ deep

  lies : (s : St) (e : Errand C) (is_done : Bool) → length s.homes ≡ 1 → e.is_done ≡ is_done → e.start ≡ n → IsHome n is_done (with_errand s e)
  lies s e is_done deep is about = (e, set_here s.homes 0 (some (Some e)) (omega arith), is, about)

  -- the table when it is made
  pub makes : Turned n (opening (0 ∷ 0 ∷ []) (None ∷ []) (seen Nobody n))
  makes = record {
    stage = shut;
    sides = record { caller = 0; worker = 0 };
    at = record {
      words = refl;
      deep = refl;
      slot = refl;
      each_seat = λ j v e. subst (λ (x : View C). Knows shut (record { caller = 0; worker = 0 }) j x.role) (at_lone (seen Nobody n) v j e) (tt, tt);
      noted = λ j v e. sym (ap (λ (x : View C). x.start) (at_lone (seen Nobody n) v j e));
      caller_there = λ e. absurd (omega arith);
      worker_there = λ e. absurd (omega arith);
    };
  }

  opens_at : (st : Stage) (d : Sides) (slots id : ℕ) (s : St) (m : C) → At n st d s → get_elem? s.views id ≡ some (seen Nobody m)
      → Goes (opening_word st ∷ phase st ∷ []) s.homes s.views id (seen Nobody m, []) 0 (λ _. 1) (Opens (step slots 0 1 0 none) (seen Nobody m, []))
  opens_at shut d slots id s m k at = (
    seen Unsent m,
    takes 0 None,
    k.slot,
    moved shut opened d (record { caller = id; worker = d.worker }) s k id (seen Unsent m) (set s.homes 0 none) (length-set s.homes 0 none ∙ k.deep)
        (set_here s.homes 0 none (let d = k.deep in omega arith)) (refl, refl) (k.noted id (seen Nobody m) at)
        (λ j role apart h. subst (λ (r : Role). Knows opened (record { caller = id; worker = d.worker }) j r) (sym (none_yet role h.0)) (tt, tt))
        (λ _. new_there s.views id id (seen Nobody m) Unsent m at refl (k.noted id (seen Nobody m) at)) (λ e. absurd (omega arith)),
    refl,
  )
  opens_at opened d slots id s m k at = (seen Nobody m, keeps, tt, stays opened d s k id (seen Nobody m) at, refl)
  opens_at laid d slots id s m k at = (seen Nobody m, keeps, tt, stays laid d s k id (seen Nobody m) at, refl)
  opens_at seated d slots id s m k at = (seen Nobody m, keeps, tt, stays seated d s k id (seen Nobody m) at, refl)
  opens_at begun d slots id s m k at = (seen Nobody m, keeps, tt, stays begun d s k id (seen Nobody m) at, refl)
  opens_at finished d slots id s m k at = (seen Nobody m, keeps, tt, stays finished d s k id (seen Nobody m) at, refl)
  opens_at fetched d slots id s m k at = (seen Nobody m, keeps, tt, stays fetched d s k id (seen Nobody m) at, refl)

  pub opens : (slots id : ℕ) (m : C) → Allows (Turned n) slots id (seen Nobody m, []) 0 (λ _. 1) (Opens (step slots 0 1 0 none) (seen Nobody m, []))
  opens slots id m s r _ at _ =
      at_words r.stage r.sides s r.at id (seen Nobody m, []) 0 (λ _. 1) (Opens (step slots 0 1 0 none) (seen Nobody m, [])) (opens_at r.stage r.sides slots id s m r.at at)

  -- the caller's seat lays down an errand that is not done
  pub sends : (slots id : ℕ) (m : C) (e : Errand C) → e.is_done ≡ false → e.start ≡ m →
      Allows (Turned n) slots id (seen Unsent m, (0, Some e) ∷ []) 1 (λ _. 1) (Sends (step slots 1 1 0 none) (seen Unsent m, (0, Some e) ∷ []))
  sends slots id m e fresh about s r _ at _ =
      let is = is_seen Unsent opened id m s r (λ e. e) at in
      let k = is.at in
      at_words opened r.sides s k id (seen Unsent m, (0, Some e) ∷ []) 1 (λ _. 1) (Sends (step slots 1 1 0 none) (seen Unsent m, (0, Some e) ∷ [])) (
        seen (Sent true) m,
        gives,
        tt,
        moved opened laid r.sides r.sides s k id (seen (Sent true) m) (with_errand s e) (holds_one s e k.deep) (lies s e false k.deep fresh (about ∙ is.same)) (refl, is.mine) is.same
            (λ j role. caller_steps opened laid r.sides r.sides.worker id j role is.mine
            (λ h. never (λ e. omega arith) h.0) (λ h. never (λ e. omega arith) h.0) (λ h. ⊎_elim (never (λ e. omega arith)) (never (λ e. omega arith)) h.0))
            (λ _. new_there s.views id r.sides.caller (seen Unsent m) (Sent true) m at is.mine is.same) (λ e. absurd (omega arith)),
        refl,
      )

  -- the worker's right goes from the caller's seat to a new one
  pub splits : (id : ℕ) (m : C) → Splits (Turned n) id (seen (Sent true) m) (without_right (seen (Sent true) m)) (the_worker (seen (Sent true) m))
  splits id m s r at =
      let is = is_seen (Sent true) laid id m s r (λ e. e) at in
      let k = is.at in
      let old : List (View C) = set s.views id (seen (Sent false) m) in
      let new : ℕ = length old in
      let others : (j : ℕ) (role : Role) → j ≢ id → Knows laid r.sides j role → Knows seated (with_worker r.sides new) j role =
      λ j role. caller_steps laid seated r.sides new id j role is.mine
      (λ h. never (λ e. omega arith) h.0) (λ h. never (λ e. omega arith) h.0) (λ h. ⊎_elim (never (λ e. omega arith)) (never (λ e. omega arith)) h.0) in
      let each : (j : ℕ) (v : View C) → get_elem? old j ≡ some v → Knows seated (with_worker r.sides new) j v.role =
      λ j v e. ⊎_elim (λ (q : (j ≡ id) × (seen (Sent false) m ≡ v)). subst (λ (x : View C). Knows seated (with_worker r.sides new) j x.role) q.1 (inl refl, q.0 ∙ is.mine))
      (λ (q : (j ≢ id) × (get_elem? s.views j ≡ some v)). others j v.role q.0 (k.each_seat j v q.1)) (at_set s.views id j (seen (Sent false) m) v e) in
      let noted : (j : ℕ) (v : View C) → get_elem? old j ≡ some v → v.start ≡ n =
      λ j v e. ⊎_elim (λ (q : (j ≡ id) × (seen (Sent false) m ≡ v)). subst (λ (x : View C). x.start ≡ n) q.1 is.same)
      (λ (q : (j ≢ id) × (get_elem? s.views j ≡ some v)). k.noted j v q.1) (at_set s.views id j (seen (Sent false) m) v e) in
      record {
        stage = seated;
        sides = with_worker r.sides new;
        at = record {
          words = k.words;
          deep = k.deep;
          slot = k.slot;
          each_seat = λ j v e. ⊎_elim (λ (q : (j ≢ new) × (get_elem? old j ≡ some v)). each j v q.1)
              (λ (q : (j ≡ new) × (seen Fresh m ≡ v)). subst (λ (x : View C). Knows seated (with_worker r.sides new) j x.role) q.1 (refl, q.0)) (at_end old (seen Fresh m) v j e);
          noted = λ j v e. ⊎_elim (λ (q : (j ≢ new) × (get_elem? old j ≡ some v)). noted j v q.1)
              (λ (q : (j ≡ new) × (seen Fresh m ≡ v)). subst (λ (x : View C). x.start ≡ n) q.1 is.same) (at_end old (seen Fresh m) v j e);
          caller_there = λ _. at_longer old (seen Fresh m ∷ []) r.sides.caller (seen (Sent false) n) (new_there s.views id r.sides.caller (seen (Sent true) m) (Sent false) m at is.mine is.same);
          worker_there = λ _. at_last old (seen Fresh m) new refl ∙ ap (λ (z : C). some (seen Fresh z)) is.same;
        };
      }

  -- the worker takes the errand
  pub begins : (slots id : ℕ) (m : C) → Allows (Turned n) slots id (seen Fresh m, []) 1 (λ _. 2) (Takes (step slots 1 2 0 none) (seen Fresh m, []))
  begins slots id m s r _ at _ =
      let is = is_seen Fresh seated id m s r (λ e. e) at in
      let k = is.at in
      let home : IsHome n false s.homes = k.slot in
      at_words seated r.sides s k id (seen Fresh m, []) 1 (λ _. 2) (Takes (step slots 1 2 0 none) (seen Fresh m, [])) (
        seen AtWork m,
        takes 0 (Some home.0),
        home.1,
        moved seated begun r.sides r.sides s k id (seen AtWork m) (set s.homes 0 none) (length-set s.homes 0 none ∙ k.deep)
            (set_here s.homes 0 none (let d = k.deep in omega arith)) (refl, is.mine) is.same
            (λ j role. worker_steps seated begun r.sides id j role is.mine (never (λ e. omega arith))
            (stays_sent seated begun (never (λ e. omega arith)) (λ _. inr (inl refl))) (never (λ e. omega arith)))
            (λ _. other_there s.views id r.sides.caller (seen Fresh m) (seen (Sent false) n) (seen AtWork m) at (k.caller_there refl) (λ e. omega arith))
            (λ _. new_there s.views id r.sides.worker (seen Fresh m) AtWork m at is.mine is.same),
        (home.0, refl, home.2, subst (λ (z : C). let e : Errand C = home.0 in e.start ≡ z) (sym is.same) home.3),
      )

  -- the worker lays down the errand that is done
  pub ends : (slots id : ℕ) (m : C) (e : Errand C) → e.is_done ≡ true → e.start ≡ m →
      Allows (Turned n) slots id (seen AtWork m, (0, Some e) ∷ []) 1 (λ _. 3) (Finishes (step slots 1 3 0 none) (seen AtWork m, (0, Some e) ∷ []))
  ends slots id m e done about s r _ at _ =
      let me : Sat C = (seen AtWork m, (0, Some e) ∷ []) in
      let is = is_seen AtWork begun id m s r (λ e. e) at in
      let k = is.at in
      at_words begun r.sides s k id me 1 (λ _. 3) (Finishes (step slots 1 3 0 none) me) (
        seen Ended m,
        gives,
        tt,
        moved begun finished r.sides r.sides s k id (seen Ended m) (with_errand s e) (holds_one s e k.deep) (lies s e true k.deep done (about ∙ is.same)) (inl refl, is.mine) is.same
            (λ j role. worker_steps begun finished r.sides id j role is.mine (never (λ e. omega arith))
            (stays_sent begun finished (never (λ e. omega arith)) (λ _. inr (inr refl))) (never (λ e. omega arith)))
            (λ _. other_there s.views id r.sides.caller (seen AtWork m) (seen (Sent false) n) (seen Ended m) at (k.caller_there refl) (λ e. omega arith))
            (λ _. new_there s.views id r.sides.worker (seen AtWork m) Ended m at is.mine is.same),
        refl,
      )

  -- the caller finds the errand done
  fetches : (d : Sides) (slots id : ℕ) (m : C) (s : St) → At n finished d s → get_elem? s.views id ≡ some (seen (Sent false) m) → id ≡ d.caller
      → Goes (1 ∷ 3 ∷ []) s.homes s.views id (seen (Sent false) m, []) 1 (λ x. x) (Looks (step slots 1 0 0 none) (seen (Sent false) m, []))
  fetches d slots id m s k at mine =
      let same : m ≡ n = k.noted id (seen (Sent false) m) at in
      let lies : IsHome n true s.homes = k.slot in (
        seen Served m,
        takes 0 (Some lies.0),
        lies.1,
        moved finished fetched d d s k id (seen Served m) (set s.homes 0 none) (length-set s.homes 0 none ∙ k.deep)
            (set_here s.homes 0 none (let d = k.deep in omega arith)) (refl, mine) same
            (λ j role. caller_steps finished fetched d d.worker id j role mine (λ h. never (λ e. omega arith) h.0) (λ h. never (λ e. omega arith) h.0) (λ h. (inr refl, h.1)))
            (λ _. new_there s.views id d.caller (seen (Sent false) m) Served m at mine same)
            (λ _. other_there s.views id d.worker (seen (Sent false) m) (seen Ended n) (seen Served m) at (k.worker_there refl) (λ e. omega arith)),
        ((λ _. (lies.0, refl, lies.2, subst (λ (z : C). let e : Errand C = lies.0 in e.start ≡ z) (sym same) lies.3)), (λ other. absurd (other refl))),
      )

  -- it finds that the errand is not done
  waits : (st : Stage) (d : Sides) (slots id : ℕ) (m : C) (s : St) → At n st d s → get_elem? s.views id ≡ some (seen (Sent false) m) → phase st ≢ 3
      → Goes (opening_word st ∷ phase st ∷ []) s.homes s.views id (seen (Sent false) m, []) 1 (λ x. x) (Looks (step slots 1 0 0 none) (seen (Sent false) m, []))
  waits st d slots id m s k at early =
      (seen (Sent false) m, keeps, tt, stays st d s k id (seen (Sent false) m) at, ((λ e. absurd (early e)), (λ _. refl)))

  pub looks : (slots id : ℕ) (m : C) → Allows (Turned n) slots id (seen (Sent false) m, []) 1 (λ x. x) (Looks (step slots 1 0 0 none) (seen (Sent false) m, []))
  looks slots id m s r _ at _ =
      let known : Knows r.stage r.sides id (Sent false) = r.at.each_seat id (seen (Sent false) m) at in
      ⊎_elim
      (λ (e : r.stage ≡ finished). let k : At n finished r.sides s = subst (λ (z : Stage). At n z r.sides s) e r.at in
      at_words finished r.sides s k id (seen (Sent false) m, []) 1 (λ x. x) (Looks (step slots 1 0 0 none) (seen (Sent false) m, [])) (fetches r.sides slots id m s k at known.1))
      (λ (e : phase r.stage ≢ 3). at_words r.stage r.sides s r.at id (seen (Sent false) m, []) 1 (λ x. x)
      (Looks (step slots 1 0 0 none) (seen (Sent false) m, [])) (waits r.stage r.sides slots id m s r.at at e))
      (is_finished r.stage known.0)

  -- The same of a seat whose view and slots are known by an equation
  pub can_send : (slots id : ℕ) (me : Sat C) (e : Errand C) → me ≡ (seen Unsent me.0.start, (0, Some e) ∷ []) → e.is_done ≡ false →
      e.start ≡ me.0.start → Allows (Turned n) slots id me 1 (λ _. 1) (Sends (step slots 1 1 0 none) me)
  can_send slots id me e is fresh about = subst (λ (z : Sat C). Allows (Turned n) slots id z 1 (λ _. 1) (Sends (step slots 1 1 0 none) z)) (sym is) (sends slots id me.0.start e fresh about)

  pub can_split : (id : ℕ) (v : View C) → v ≡ seen (Sent true) v.start → Splits (Turned n) id v (without_right v) (the_worker v)
  can_split id v is = subst (λ (z : View C). Splits (Turned n) id z (without_right z) (the_worker z)) (sym is) (splits id v.start)

  pub can_begin : (slots id : ℕ) (me : Sat C) → me ≡ (seen Fresh me.0.start, []) → Allows (Turned n) slots id me 1 (λ _. 2) (Takes (step slots 1 2 0 none) me)
  can_begin slots id me is = subst (λ (z : Sat C). Allows (Turned n) slots id z 1 (λ _. 2) (Takes (step slots 1 2 0 none) z)) (sym is) (begins slots id me.0.start)

  pub can_end : (slots id : ℕ) (me : Sat C) (e : Errand C) → me ≡ (seen AtWork me.0.start, (0, Some e) ∷ []) → e.is_done ≡ true →
      e.start ≡ me.0.start → Allows (Turned n) slots id me 1 (λ _. 3) (Finishes (step slots 1 3 0 none) me)
  can_end slots id me e is done about = subst (λ (z : Sat C). Allows (Turned n) slots id z 1 (λ _. 3) (Finishes (step slots 1 3 0 none) z)) (sym is) (ends slots id me.0.start e done about)

  pub can_look : (slots id : ℕ) (me : Sat C) → me ≡ (seen (Sent false) me.0.start, []) → Allows (Turned n) slots id me 1 (λ x. x) (Looks (step slots 1 0 0 none) me)
  can_look slots id me is = subst (λ (z : Sat C). Allows (Turned n) slots id z 1 (λ x. x) (Looks (step slots 1 0 0 none) z)) (sym is) (looks slots id me.0.start)

  pub can_open : (slots id : ℕ) (me : Sat C) → me ≡ (seen Nobody me.0.start, []) → Allows (Turned n) slots id me 0 (λ _. 1) (Opens (step slots 0 1 0 none) me)
  can_open slots id me is = subst (λ (z : Sat C). Allows (Turned n) slots id z 0 (λ _. 1) (Opens (step slots 0 1 0 none) z)) (sym is) (opens slots id me.0.start)
