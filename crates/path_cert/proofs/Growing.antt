-- What a search by levels keeps at each arrival.
use Rattle.std.proofs.Common.{◌≡◌, ℕ, ◌<◌, ◌≢◌, Bool, true, false, ◌&&◌, ◌||◌, not, cond, ⊎_elim, List, [], ◌∷◌, ◌++◌, length, slice_set, sym, refl}
use Rattle.std.proofs.Common.{ap, subst, ◌∙◌, append-nil, append_assoc, eqb-true, eq-eqb, ◌==◌, IsTrue}
use Rattle.std.specs.Prelude.{IsSome}
use Rattle.std.proofs.Math.Bool.{or-false}
use Rattle.std.proofs.lemmas.Bool.{cases_eq, false≢true, or_cases, false_from_ne_true}
use Rattle.std.proofs.lemmas.List.{length-set, get_or-set_same, get_or-set_other}
use Rattle.graph_meaning.specs.Reach.{has_id}
use Rattle.graph_meaning.proofs.Membership.{has_id-append}
use Rattle.object_table.specs.Placed.{PlacedTable, id_in}
use Rattle.path_cert.specs.declared.arrival.Arrival.{Arrival}
use Rattle.path_cert.specs.declared.arrival.TheConstants.{NOWHERE}
use Rattle.path_cert.specs.Levels.{arrival_in, is_new}
use Rattle.path_cert.specs.Frontiers.{Front, FrontGrows}

-- the arrival at a cell is put, and the cell into the order where it is new
abbrev pub with_arrival : Front → ℕ → Arrival → Front
with_arrival f cell a = record {
  arrivals = slice_set f.arrivals cell a;
  order = cond (is_new (arrival_in f.arrivals cell)) (f.order ++ cell ∷ []) f.order;
}

pub arrival-same : (f : Front) (cell : ℕ) (a : Arrival) → cell < length f.arrivals → arrival_in (with_arrival f cell a).arrivals cell ≡ a
arrival-same f cell a within = get_or-set_same f.arrivals cell a NOWHERE within

pub arrival-other : (f : Front) (cell c : ℕ) (a : Arrival) → c ≢ cell → arrival_in (with_arrival f cell a).arrivals c ≡ arrival_in f.arrivals c
arrival-other f cell c a other = get_or-set_other f.arrivals cell c a NOWHERE other

-- what holds of the arrivals at all cells
pub at-each : (P : ℕ → Arrival → Type 0) (f : Front) (cell : ℕ) (a : Arrival) → cell < length f.arrivals → P cell a →
    ((c : ℕ) → c ≢ cell → P c (arrival_in f.arrivals c)) → (c : ℕ) → P c (arrival_in (with_arrival f cell a).arrivals c)
at-each P f cell a within here others c =
    ⊎_elim
    (λ same. subst (P c) (sym (ap (arrival_in (with_arrival f cell a).arrivals) same ∙ arrival-same f cell a within)) (subst (λ k. P k a) (sym same) here))
    (λ other. subst (P c) (sym (arrival-other f cell c a other)) (others c other))
    (cases_eq c cell)

and_not : (b : Bool) → false ≡ (b && not b)
and_not true = refl
and_not false = refl

pub Grows-refl : (p : PlacedTable) (f : Front) → FrontGrows p f f
Grows-refl p f = record {
  each = refl;
  fresh = [];
  order = sym (append-nil f.order);
  stays = λ cell is. is;
  new = λ cell. and_not (is_new (arrival_in f.arrivals cell));
  held = λ cell at. absurd (false≢true at);
}

both_new : (a b c : Bool) → (c ≡ true → b ≡ true) → (b ≡ true → a ≡ true) → ((a && not b) || (b && not c)) ≡ (a && not c)
both_new true true c to from = refl
both_new true false true to from = absurd (false≢true (to refl))
both_new true false false to from = refl
both_new false true c to from = absurd (false≢true (from refl))
both_new false false c to from = refl

pub Grows-trans : (p : PlacedTable) (f g h : Front) → FrontGrows p f g → FrontGrows p g h → FrontGrows p f h
Grows-trans p f g h first next = record {
  each = next.each ∙ first.each;
  fresh = first.fresh ++ next.fresh;
  order = next.order ∙ ap (λ xs. xs ++ next.fresh) first.order ∙ append_assoc f.order first.fresh next.fresh;
  stays = λ cell is. first.stays cell (next.stays cell is);
  new = λ cell.
      has_id-append first.fresh next.fresh cell
      ∙ (λ x. first.new cell x || next.new cell x)
      ∙ both_new (is_new (arrival_in f.arrivals cell)) (is_new (arrival_in g.arrivals cell)) (is_new (arrival_in h.arrivals cell)) (next.stays cell) (first.stays cell);
  held = λ cell at. ⊎_elim (first.held cell) (next.held cell) (or_cases _ _ (sym (has_id-append first.fresh next.fresh cell) ∙ at));
}

-- the cell, where it is new
abbrev fresh_of : Bool → ℕ → List ℕ
fresh_of new cell = cond new (cell ∷ []) []

put-order : (new : Bool) (order : List ℕ) (cell : ℕ) → cond new (order ++ cell ∷ []) order ≡ order ++ fresh_of new cell
put-order true order cell = refl
put-order false order cell = sym (append-nil order)

fresh-here : (new : Bool) (cell : ℕ) → has_id (fresh_of new cell) cell ≡ new
fresh-here true cell = or-false (cell == cell) ∙ eq-eqb cell cell refl
fresh-here false cell = refl

fresh-other : (new : Bool) (cell c : ℕ) → c ≢ cell → has_id (fresh_of new cell) c ≡ false
fresh-other true cell c other =
    or-false (cell == c) ∙ false_from_ne_true (cell == c) (λ same. other (sym (eqb-true cell c same)))
fresh-other false cell c other = refl

fresh-only : (new : Bool) (cell c : ℕ) → has_id (fresh_of new cell) c ≡ true → cell ≡ c
fresh-only true cell c at = eqb-true cell c (sym (or-false (cell == c)) ∙ at)
fresh-only false cell c at = absurd (false≢true at)

and_true : (b : Bool) → b ≡ (b && true)
and_true true = refl
and_true false = refl

-- an arrival at a cell that holds an object
pub Grows-arrival : (p : PlacedTable) (f : Front) (cell : ℕ) (a : Arrival) → cell < length f.arrivals → IsSome (id_in p cell) → is_new a ≡ false → FrontGrows p f (with_arrival f cell a)
Grows-arrival p f cell a within held some =
    let new = is_new (arrival_in f.arrivals cell) in
    record {
      each = length-set f.arrivals cell a;
      fresh = fresh_of new cell;
      order = put-order new f.order cell;
      stays = at-each (λ c b. IsTrue (is_new b) → IsTrue (is_new (arrival_in f.arrivals c))) f cell a within (λ is. absurd (false≢true (sym some ∙ is))) (λ c other is. is);
      new = at-each (λ c b. has_id (fresh_of new cell) c ≡ (is_new (arrival_in f.arrivals c) && not (is_new b))) f cell a within
          (fresh-here new cell ∙ and_true new ∙ ap (λ b. new && not b) (sym some))
          (λ c other. fresh-other new cell c other ∙ and_not (is_new (arrival_in f.arrivals c)));
      held = λ c at. subst (λ k. IsSome (id_in p k)) (fresh-only new cell c at) held;
    }

-- the order has the cells that it had, and those that got a level
pub order-grown : (p : PlacedTable) (f g : Front) → FrontGrows p f g → (P : ℕ → Type 0) → ((cell : ℕ) → IsTrue (has_id f.order cell) → P cell) →
    ((cell : ℕ) → IsSome (id_in p cell) → P cell) → (cell : ℕ) → IsTrue (has_id g.order cell) → P cell
order-grown p f g grows P old new cell at =
    ⊎_elim (old cell) (λ is. new cell (grows.held cell is)) (or_cases _ _ (sym (ap (λ xs. has_id xs cell) grows.order ∙ has_id-append f.order grows.fresh cell) ∙ at))
