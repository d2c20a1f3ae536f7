-- What an errand keeps.
use Rattle.std.specs.Prelude.{◌≡◌, Bool, true, false}

-- whether it is done, its share before, and its share
pub record Errand (C : Type 0) : Type 0 where
  pub is_done : Bool
  pub start : C
  pub share : C

-- Before the errand is done its share is as it was and can be worked off; after it, the share is as work leaves it.
pub record IsKept {C : Type 0} (can_work : C → Type 0) (worked : C → C → Type 0) (e : Errand C) : Type 0 where
  pub able : can_work e.start
  pub before : e.is_done ≡ false → e.share ≡ e.start
  pub after : e.is_done ≡ true → worked e.start e.share
