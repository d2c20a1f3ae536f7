-- Where two lists of bytes differ.
use Rattle.std.specs.Prelude.{◌≡◌, ◌≢◌, ℕ, ◌+◌, ◌-◌, ◌<◌, List, slice_get}

-- The place n, from 1, is the first at which the two differ, or only one of them has a byte.
pub record IsFirstDifference (xs ys : List ℕ) (n : ℕ) : Type 0 where
  pub from_one : 0 < n
  pub before : (k : ℕ) → k + 1 < n → slice_get xs k ≡ slice_get ys k
  pub here : slice_get xs (n - 1) ≢ slice_get ys (n - 1)
