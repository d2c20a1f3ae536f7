-- Lists in pages.
use Rattle.std.specs.Prelude.{◌≡◌, ℕ, ◌-◌, ◌≤◌, List, length, take, All}
use Rattle.std.specs.List.{flat_map}

-- A list, and for how many more elements there is memory.
pub record Roomy (X : Type 0) : Type 0 where
  pub cells : List X
  pub room : ℕ

-- the elements of all pages, one page after another
abbrev pub all_of : {X : Type 0} → List (List X) → List X
all_of pages = flat_map (λ p. p) pages

-- the first `count` elements of the pages; the others are room
abbrev pub in_pages : {X : Type 0} → List (List X) → ℕ → Roomy X
in_pages pages count = record { cells = take count (all_of pages); room = length (all_of pages) - count }

-- Each page has 1,024 elements, of which the first `count` are used.
pub record IsPaged {X : Type 0} (pages : List (List X)) (count : ℕ) : Type 0 where
  pub full : All (λ p. length p ≡ 1024) pages
  pub used : count ≤ length (all_of pages)
