-- What clauses say of passes: what each met, whose passes they are, and what all of them met together.
use Rattle.std.specs.Prelude.{◌≡◌, ℕ, ◌^◌, Bool, List, [], map, length, is_some}
use Rattle.std.specs.List.{All, range_with_len}
use Rattle.heap_base.specs.Counting.{total, times}
use Rattle.header_rule.specs.declared.headers.Headers.{Headers}
use Rattle.header_rule.specs.declared.mark.Mark.{Mark}
use Rattle.header_rule.specs.declared.mark.Marks.{Marks}
use Rattle.header_rule.specs.declared.pass.Pass.{Pass}
use Rattle.header_rule.specs.declared.shared_words.SharedWords.{SharedWords}
use Rattle.header_rule.specs.Layout.{is_given, marks_passing}
use Rattle.header_rule.specs.Reaches.{view_of}
use Rattle.header_rule.specs.Seats.{HasSeatOn, HasOwnWords, ReachesWords}
use Rattle.header_rule.specs.Views.{times_marked}

-- the cells that the pass met, in order
abbrev pub adds : Pass → List ℕ
adds p = (view_of p.reach).adds

-- those of them that it won
abbrev pub wins : Pass → List ℕ
wins p = (view_of p.reach).wins

-- the marks that it set, each with its cell
abbrev pub marks : Pass → List (ℕ × Mark)
marks p = (view_of p.reach).marks

-- the marks that a meet of the cell x sets
abbrev pub marks_at : ℕ → Marks → List (ℕ × Mark)
marks_at x given = marks_passing (is_given given) x

-- the pass has met nothing
pub record IsFresh (p : Pass) : Type 0 where
  pub left : p.left ≡ 2 ^ 51
  pub adds : adds p ≡ []
  pub wins : wins p ≡ []
  pub marks : marks p ≡ []

-- several passes may reach the words
abbrev pub are_shared : Headers → Bool
are_shared h = is_some h.shared

-- the pass has a seat on the table
abbrev pub HasSeat : SharedWords → Pass → Type 0
HasSeat t p = HasSeatOn t p.reach

-- and is one of so many
abbrev pub IsSeated : SharedWords → ℕ → Pass → Type 0
IsSeated t workers p = HasSeat t p × (p.workers ≡ workers)

-- the pass is one of those that were made with the headers
abbrev pub IsPassOf : Headers → Pass → Type 0
IsPassOf h p = ReachesWords h.shared h.cells p.reach × (p.workers ≡ h.workers)

-- the pass q is of the headers, and has the number of p
abbrev pub IsSamePass : Headers → Pass → Pass → Type 0
IsSamePass h p q = IsPassOf h q × (q.number ≡ p.number)

-- the pass q is the pass p, and has met nothing more
pub record IsAsBefore (p q : Pass) : Type 0 where
  pub number : q.number ≡ p.number
  pub left : q.left ≡ p.left
  pub adds : adds q ≡ adds p
  pub wins : wins q ≡ wins p
  pub marks : marks q ≡ marks p

abbrev pub numbers : List Pass → List ℕ
numbers ps = map (λ p. p.number) ps

-- they are all the passes that were made with the headers, in order
abbrev pub ArePassesOf : Headers → List Pass → Type 0
ArePassesOf h ps = All (IsPassOf h) ps × (numbers ps ≡ range_with_len 0 h.workers)

abbrev pub rights_of : Pass → ℕ
rights_of p = (view_of p.reach).rights

-- they have seats on the table, with all the rights
abbrev pub AreAllSeats : SharedWords → List Pass → Type 0
AreAllSeats t ps = All (HasSeat t) ps × (total rights_of ps ≡ 16)

-- there is one, with words of its own for so many cells
abbrev pub IsAlone : ℕ → List Pass → Type 0
IsAlone cells ps = All (λ p. HasOwnWords cells p.reach) ps × (length ps ≡ 1)

-- the headers have so many cells and so many passes, which are these and have met nothing
pub record AreNew (many_cells many_workers : ℕ) (h : Headers) (ps : List Pass) : Type 0 where
  pub cells : h.cells ≡ many_cells
  pub workers : h.workers ≡ many_workers
  pub count : length ps ≡ many_workers
  pub passes : ArePassesOf h ps
  pub fresh : All IsFresh ps

-- how often the cell x stands in the adds of all passes, and in their wins
abbrev pub all_adds : ℕ → List Pass → ℕ
all_adds x ps = total (λ p. times x (adds p)) ps

abbrev pub all_wins : ℕ → List Pass → ℕ
all_wins x ps = total (λ p. times x (wins p)) ps

-- how often the mark m of the cell x stands in the marks of all passes
abbrev pub all_marks : Mark → ℕ → List Pass → ℕ
all_marks m x ps = total (λ p. times_marked m x (marks p)) ps
