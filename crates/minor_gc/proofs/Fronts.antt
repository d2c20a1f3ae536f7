-- A list that was cut to its first elements.
use Rattle.std.proofs.Common.{◌≡◌, ℕ, ◌<◌, ◌≤◌, List, length, take, get_or, ap, ◌∙◌}
use Rattle.std.proofs.lemmas.List.{length-take-le, get_or-take}

module _ {X : Type 0} (whole : List X) {front : List X} {n : ℕ} (is : front ≡ take n whole) where
  pub length-front : n ≤ length whole → length front ≡ n
  length-front within = ap length is ∙ length-take-le n whole within

  pub get_or-front : (k : ℕ) (d : X) → k < n → get_or front k d ≡ get_or whole k d
  get_or-front k d within = ap (λ xs. get_or xs k d) is ∙ get_or-take n whole k d within
