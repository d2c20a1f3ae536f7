use Rattle.std.proofs.Common.{◌≡◌, ◌<◌, ℕ, length, get_or, None, Some}
use Rattle.std.specs.List.{slice_get}
use Rattle.object_paths.proofs.search.places_of.Given as goal

abbrev pub invariant-loop-place : goal.invariant-loop-place
invariant-loop-place l = record {
  each : length l.places.items ≡ l.cells;
  placed : (n cell : ℕ) → n < l.place → slice_get l.asked n ≡ Some cell → get_or l.places.items cell None ≡ Some n;
  only : (n cell : ℕ) → get_or l.places.items cell None ≡ Some n → slice_get l.asked n ≡ Some cell;
}
