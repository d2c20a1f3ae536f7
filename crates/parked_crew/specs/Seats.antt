-- What the caller's and the worker's seats know between two steps.
use Rattle.std.specs.Prelude.{◌≡◌, Option, Some, false, [], ◌∷◌}
use Rattle.atomic_table.specs.Seated.{TableId}
use Rattle.atomic_table.specs.declared.shared.Seat.{Seat}
use Rattle.parked_crew.specs.Errands.{Errand}
use Rattle.parked_crew.specs.declared.rule.View.{View}
use Rattle.parked_crew.specs.declared.rule.Role.{Role}
use Rattle.parked_crew.specs.declared.rule.Role.TheVariants.{Unsent}
use Rattle.parked_crew.specs.Rounds.{seen}

module _ {C : Type 0} where
  -- the share that the seat's round is about, as it was at first
  abbrev pub share_at : Seat (Option (Errand C)) (View C) → C
  share_at p = p.me.0.start

  -- the seat is of this table, which has two words and one slot
  abbrev pub IsSeatOf : TableId → Seat (Option (Errand C)) (View C) → Type 0
  IsSeatOf z p = (p.table_id ≡ z) × (z.words ≡ 2) × (z.slots ≡ 1)

  -- the seat has this role, and no slot out
  abbrev pub IsBare : Role → Seat (Option (Errand C)) (View C) → Type 0
  IsBare role p = p.me ≡ (seen role (share_at p), [])

  -- the caller's seat has the errand in the slot that it has out
  pub record IsReady (p : Seat (Option (Errand C)) (View C)) : Type 0 where
    pub errand : Errand C
    pub me : p.me ≡ (seen Unsent (share_at p), (0, Some errand) ∷ [])
    pub to_do : errand.is_done ≡ false
    pub about : errand.start ≡ share_at p
