-- What the bytes of a snapshot stand for, or the first reason why they stand for nothing.
use Rattle.std.specs.Prelude.{◌≡◌, ℕ, ◌+◌, ◌==◌, List, [], ◌∷◌, length, take, nat_lt, if◌then◌else◌, Option, None, Some, Result, Ok, Err, ⊤}
use Rattle.std.specs.List.{count_by}
use Rattle.graph_meaning.specs.declared.views.HeapView.{HeapView}
use Rattle.trace_reader.specs.Items.{pieces, line_of}
use Rattle.trace_run.specs.Lines.{is_whole}
use Rattle.heap_snapshot.specs.declared.refusal.SnapError.{SnapError}
use Rattle.heap_snapshot.specs.declared.refusal.SnapError.TheVariants.{Refused, OutOfMemory}
use Rattle.heap_snapshot.specs.declared.refusal.SnapWhy.{SnapWhy}
use Rattle.heap_snapshot.specs.declared.refusal.SnapWhy.TheVariants.{TooLong, BadLine, Unended, Dangling}
use Rattle.heap_snapshot.specs.declared.read.TheConstants.{LONGEST_SNAPSHOT}
use Rattle.heap_snapshot.specs.Lines.{line_in}
use Rattle.heap_snapshot.specs.Table.{Reading, nothing_read, is_ended, take_said}
use Rattle.heap_snapshot.specs.Dangling.{first_dangling}

-- the line of this number, from 1, is refused for this reason
pub record Refusal : Type 0 where
  pub line : ℕ
  pub why : SnapWhy

abbrev pub refusal_at : {A : Type 0} → ℕ → SnapWhy → Result A Refusal
refusal_at line why = Err (record { line = line; why = why })

-- a view in which nothing dangles
abbrev pub unless_dangling : HeapView → Option (ℕ × ℕ) → Result HeapView Refusal
unless_dangling v None = Ok v
unless_dangling v (Some d) = refusal_at d.0 (Dangling d.1)

-- the view of what was read to the end
abbrev pub view_read : Reading → HeapView
view_read r = record { objects = r.objects; roots = r.roots }

-- what stands behind the last whole line, where so many lines were read: nothing, and that line is the end
abbrev pub at_end : ℕ → Reading → Result HeapView Refusal
at_end lines r =
    if is_ended r.stage then unless_dangling (view_read r) (first_dangling (view_read r)) else refusal_at (lines + 1) Unended

abbrev pub after_line : ℕ → Option Reading → (Reading → Result HeapView Refusal) → Result HeapView Refusal
after_line line None go_on = refusal_at line BadLine
after_line line (Some r) go_on = go_on r

-- what these pieces of a text lead to, each with its newline but for a last one that has none, where so many lines were read
unfoldable pub meaning_from : ℕ → Reading → List (List ℕ) → Result HeapView Refusal
meaning_from lines r [] = at_end lines r
meaning_from lines r (piece ∷ pieces) =
    if is_whole piece then after_line (lines + 1) (take_said r (line_in (line_of piece))) (λ next. meaning_from (lines + 1) next pieces)
    else refusal_at (lines + 1) Unended

-- what the bytes stand for, however many they are
abbrev pub meaning_of : List ℕ → Result HeapView Refusal
meaning_of bytes = meaning_from 0 nothing_read (pieces bytes)

-- the number of the line in which the first byte behind these stands
abbrev pub line_behind : List ℕ → ℕ
line_behind bytes = count_by (λ b. b == 10) bytes + 1

-- what is read: a view, or a refusal
unfoldable pub snapshot_in : List ℕ → Result HeapView Refusal
snapshot_in bytes =
    if nat_lt LONGEST_SNAPSHOT (length bytes) then refusal_at (line_behind (take LONGEST_SNAPSHOT bytes)) TooLong
    else meaning_of bytes

-- ---- laws

-- the bytes stand for the view
abbrev pub StandsFor : List ℕ → HeapView → Type 0
StandsFor bytes v = meaning_of bytes ≡ Ok v

-- some text stands for the view
abbrev pub IsLawful : HeapView → Type 0
IsLawful v = (bytes : List ℕ) × StandsFor bytes v

-- the refusal is the one there is, unless memory ran out
abbrev pub Fails : SnapError → Result HeapView Refusal → Type 0
Fails (Refused line why) read = read ≡ refusal_at line why
Fails OutOfMemory read = ⊤

-- the answer to a reading is what is read, unless memory ran out
abbrev pub Reads : Result HeapView SnapError → Result HeapView Refusal → Type 0
Reads (Ok v) read = read ≡ Ok v
Reads (Err e) read = Fails e read
