-- The rule of a round, and what each step on its table tells. Word 0 is the opening word, word 1 the phase, and slot 0
-- has the errand.
use Rattle.std.specs.Prelude.{◌≡◌, ◌≢◌, ℕ, ◌==◌, ◌⊎◌, Option, Some, None, Bool, true, false, cond, List, [], ◌∷◌, length}
use mathlib.Core.Option.{some, none}
use mathlib.Core.Option as maybe
use lib.ListN.{get_elem?}
use Rattle.atomic_table.specs.Table.{State, Me, Step, rest}
use Rattle.parked_crew.specs.Errands.{Errand}
use Rattle.parked_crew.specs.declared.rule.View.{View}
use Rattle.parked_crew.specs.declared.rule.Role.{Role}
use Rattle.parked_crew.specs.declared.rule.Role.TheVariants.{Nobody, Unsent, Sent, Served, Fresh, AtWork, Ended}

-- How far a round is: nobody has opened it; the caller has the errand; the errand lies in the slot, and the caller has the
-- worker's right; the worker has a seat; the worker has the errand; the errand lies there and is done; the caller has it.
pub data Stage : Type 0 where
  shut : Stage
  opened : Stage
  laid : Stage
  seated : Stage
  begun : Stage
  finished : Stage
  fetched : Stage

-- What a stage shows: the two words; whether the worker has a seat, 1 or 0; and the roles of the caller and of the worker.
pub record Appearance : Type 0 where
  pub opening_word : ℕ
  pub phase : ℕ
  pub hired : ℕ
  pub caller : Role
  pub worker : Role

abbrev pub appearance_at : Stage → Appearance
appearance_at shut = record { opening_word = 0; phase = 0; hired = 0; caller = Nobody; worker = Nobody }
appearance_at opened = record { opening_word = 1; phase = 0; hired = 0; caller = Unsent; worker = Nobody }
appearance_at laid = record { opening_word = 1; phase = 1; hired = 0; caller = Sent true; worker = Nobody }
appearance_at seated = record { opening_word = 1; phase = 1; hired = 1; caller = Sent false; worker = Fresh }
appearance_at begun = record { opening_word = 1; phase = 2; hired = 1; caller = Sent false; worker = AtWork }
appearance_at finished = record { opening_word = 1; phase = 3; hired = 1; caller = Sent false; worker = Ended }
appearance_at fetched = record { opening_word = 1; phase = 3; hired = 1; caller = Served; worker = Ended }

abbrev pub opening_word : Stage → ℕ
opening_word st = (appearance_at st).opening_word

abbrev pub phase : Stage → ℕ
phase st = (appearance_at st).phase

abbrev pub hired_at : Stage → ℕ
hired_at st = (appearance_at st).hired

abbrev pub caller_role : Stage → Role
caller_role st = (appearance_at st).caller

abbrev pub worker_role : Stage → Role
worker_role st = (appearance_at st).worker

-- a seat of this role may be there at the stage
abbrev pub MayBe : Role → Stage → Type 0
MayBe Nobody st = Unit {0}
MayBe Unsent st = st ≡ opened
MayBe (Sent true) st = st ≡ laid
MayBe (Sent false) st = (st ≡ seated) ⊎ (st ≡ begun) ⊎ (st ≡ finished)
MayBe Served st = st ≡ fetched
MayBe Fresh st = st ≡ seated
MayBe AtWork st = st ≡ begun
MayBe Ended st = (st ≡ finished) ⊎ (st ≡ fetched)

-- which seats are the two sides' of a round
pub record Sides : Type 0 where
  pub caller : ℕ
  pub worker : ℕ

-- the seat j has this role only where it is the caller's or the worker's
abbrev pub IsAt : Role → Sides → ℕ → Type 0
IsAt Nobody sides j = Unit {0}
IsAt Unsent sides j = j ≡ sides.caller
IsAt (Sent b) sides j = j ≡ sides.caller
IsAt Served sides j = j ≡ sides.caller
IsAt Fresh sides j = j ≡ sides.worker
IsAt AtWork sides j = j ≡ sides.worker
IsAt Ended sides j = j ≡ sides.worker

-- the seat j may have this role at the stage
abbrev pub Knows : Stage → Sides → ℕ → Role → Type 0
Knows st sides j role = MayBe role st × IsAt role sides j

abbrev pub Sat : Type 0 → Type 0
Sat C = Me (Option (Errand C)) (View C)

abbrev pub ErrandStep : Type 0 → Type 0
ErrandStep C = Step (Option (Errand C))

module _ {C : Type 0} where
  abbrev pub seen : Role → C → View C
  seen role n = record { role = role; start = n }

  -- the slot is at home, with an errand about this share
  abbrev pub IsHome : C → Bool → List (maybe.Option (Option (Errand C))) → Type 0
  IsHome n is_done homes = (e : Errand C) × (get_elem? homes 0 ≡ some (some (Some e))) × (e.is_done ≡ is_done) × (e.start ≡ n)

  abbrev pub Slot : C → List (maybe.Option (Option (Errand C))) → Stage → Type 0
  Slot n homes shut = get_elem? homes 0 ≡ some (some None)
  Slot n homes opened = get_elem? homes 0 ≡ some none
  Slot n homes laid = IsHome n false homes
  Slot n homes seated = IsHome n false homes
  Slot n homes begun = get_elem? homes 0 ≡ some none
  Slot n homes finished = IsHome n true homes
  Slot n homes fetched = get_elem? homes 0 ≡ some none

  -- The table at a stage, where these seats are the caller's and the worker's.
  pub record At (n : C) (st : Stage) (sides : Sides) (s : State (Option (Errand C)) (View C)) : Type 0 where
    pub words : s.words ≡ opening_word st ∷ phase st ∷ []
    pub deep : length s.homes ≡ 1
    pub slot : Slot n s.homes st
    pub each_seat : (j : ℕ) (v : View C) → get_elem? s.views j ≡ some v → Knows st sides j v.role
    pub noted : (j : ℕ) (v : View C) → get_elem? s.views j ≡ some v → v.start ≡ n
    pub caller_there : opening_word st ≡ 1 → get_elem? s.views sides.caller ≡ some (seen (caller_role st) n)
    pub worker_there : hired_at st ≡ 1 → get_elem? s.views sides.worker ≡ some (seen (worker_role st) n)

  -- the rule of a round about the share n
  pub record Turned (n : C) (s : State (Option (Errand C)) (View C)) : Type 0 where
    pub stage : Stage
    pub sides : Sides
    pub at : At n stage sides s

  -- the first seat to open it is the caller's, and takes the empty slot
  abbrev pub Opens : ErrandStep C → Sat C → ℕ → Sat C → Type 0
  Opens st m found m' = m' ≡ cond (found == 0) (seen Unsent m.0.start, (0, None) ∷ m.1) m

  abbrev pub Sends : ErrandStep C → Sat C → ℕ → Sat C → Type 0
  Sends st m found m' = m' ≡ (seen (Sent true) m.0.start, rest m.1)

  -- the seat has this role now, and out with it an errand about its share that is done, or not
  abbrev pub Has : Role → Bool → Sat C → Sat C → Type 0
  Has role is_done m m' = (e : Errand C) × (m' ≡ (seen role m.0.start, (0, Some e) ∷ m.1)) × (e.is_done ≡ is_done) × (e.start ≡ m.0.start)

  abbrev pub Takes : ErrandStep C → Sat C → ℕ → Sat C → Type 0
  Takes st m found m' = Has AtWork false m m'

  abbrev pub Finishes : ErrandStep C → Sat C → ℕ → Sat C → Type 0
  Finishes st m found m' = m' ≡ (seen Ended m.0.start, rest m.1)

  abbrev pub Looks : ErrandStep C → Sat C → ℕ → Sat C → Type 0
  Looks st m found m' = (found ≡ 3 → Has Served true m m') × (found ≢ 3 → m' ≡ m)

  -- a split: the worker's right goes to a seat of its own
  abbrev pub without_right : View C → View C
  without_right v = seen (Sent false) v.start

  abbrev pub the_worker : View C → View C
  the_worker v = seen Fresh v.start
