-- What each kind of step tells the seat that makes it: the seat's view afterwards.
use Rattle.std.specs.Prelude.{◌≡◌, ℕ, ◌+◌, ◌-◌, ◌==◌, Bool, List, [], ◌∷◌, ◌++◌, if◌then◌else◌}
use Rattle.atomic_table.specs.Table.{Step, Me}
use Rattle.heap_base.specs.Counting.{IsOnce}
use Rattle.header_rule.specs.declared.mark.Mark.{Mark}
use Rattle.header_rule.specs.declared.mark.Marks.{Marks}
use Rattle.header_rule.specs.declared.view.View.{View}
use Rattle.header_rule.specs.Layout.{count_of, has_bit, is_given, marks_passing}
use Rattle.header_rule.specs.Rule.{new_view}
use Rattle.header_rule.specs.Views.{TellsWord}

-- a view, and the slots that the seat has taken, of which the table has none
abbrev SeatState : Type 0
SeatState = Me (Unit {0}) View

-- the first seat has all the rights where it found 0
abbrev pub TakesRights : Step (Unit {0}) → SeatState → ℕ → SeatState → Type 0
TakesRights st m found m' = m' ≡ (new_view (if found == 0 then 16 else 0), m.1)

-- the cell x was met, and won or not
abbrev pub with_add : ℕ → Bool → View → View
with_add x won v = record v { adds = v.adds ++ x ∷ []; wins = if won then v.wins ++ x ∷ [] else v.wins }

-- the cell is won where the count found was 0, and no cell was won twice
abbrev pub AddsCell : Step (Unit {0}) → SeatState → ℕ → SeatState → Type 0
AddsCell st m found m' = (m' ≡ (with_add (st.word - 1) (count_of found == 0) m.0, m.1)) × IsOnce m'.0.wins

abbrev pub with_marks : List (ℕ × Mark) → View → View
with_marks marks v = record v { marks = v.marks ++ marks }

-- what a view becomes by a meet of the cell x, which won it or not, and set these marks
abbrev pub after_meet : ℕ → Marks → Bool → View → View
after_meet x given won v = with_marks (marks_passing (is_given given) x) (with_add x won v)

-- the marks are those whose bits were set
abbrev pub SetsMarks : Step (Unit {0}) → SeatState → ℕ → SeatState → Type 0
SetsMarks st m found m' = m' ≡ (with_marks (marks_passing (has_bit st.first) (st.word - 1)) m.0, m.1)

-- Nothing changes, and a seat with all the rights is told of the word.
abbrev pub ReadsWord : Step (Unit {0}) → SeatState → ℕ → SeatState → Type 0
ReadsWord st m found m' = (m' ≡ m) × (m.0.rights ≡ 16 → TellsWord st.word found m.0)

abbrev pub one_right_less : View → View
one_right_less v = record v { rights = v.rights - 1 }

-- the rights and lists of both
abbrev pub both_views : View → View → View
both_views v w = record { rights = v.rights + w.rights; adds = v.adds ++ w.adds; wins = v.wins ++ w.wins; marks = v.marks ++ w.marks }
