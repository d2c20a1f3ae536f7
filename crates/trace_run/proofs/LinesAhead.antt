-- Lines that were read before their turn, in the bytes of which no line was given yet.
use Rattle.std.proofs.Common.{◌≡◌, ℕ, ◌+◌, ◌-◌, ◌<◌, ◌≤◌, List, [], length, take, drop, get_or, None, true, All, ◌++◌, refl, sym, ap, ◌∙◌, subst, arith}
use Rattle.std.specs.List.{starts_with}
use Rattle.std.specs.Prelude.{nat_eq}
use Rattle.std.proofs.lemmas.Bool.Decides.{Decides-eqb}
use Rattle.std.proofs.lemmas.List.{drop-append-le, drop-drop, get_or_append_left, length-append, length-drop, take-append-le}
use Rattle.std.proofs.lemmas.Slice.Eq.{starts_is}
use Rattle.streams.specs.Streams.{Stream}
use Rattle.heap_base.specs.declared.limits.TheConstants.{LONGEST_TRACE}
use Rattle.trace_reader.specs.Ahead.{GivesKnown, IsReadAt, IsReadOf}
use Rattle.trace_reader.specs.Cuts.{HasNoNewline}
use Rattle.trace_reader.specs.Cutter.{CutterState, GivesLine, TellsItem}
use Rattle.trace_reader.specs.Meaning.{item_of_line}
use Rattle.trace_reader.specs.declared.line_ahead.LineAhead.{LineAhead}
use Rattle.trace_run.specs.Progress.{HasGiven}
use Rattle.trace_run.proofs.Progress.{cuts_of, piece_not_empty}

-- The bytes begin at this place of a text, and have the line where that doesn't begin before them.
abbrev pub StandsAhead : List ℕ → ℕ → LineAhead → Type 0
StandsAhead bytes place line = place ≤ line.from → IsReadAt (drop (line.from - place) bytes) line

-- what stands behind a line and its newline changes nothing
read_before : (bytes more : List ℕ) (line : LineAhead) → IsReadAt bytes line → IsReadAt (bytes ++ more) line
read_before bytes more line read =
    let there = read.first.there in
    let front : take line.bytes (bytes ++ more) ≡ take line.bytes bytes = take-append-le line.bytes bytes more (omega arith) in
    record {
      first = record {
        there = omega (arith, there, length-append bytes more);
        one_line = subst HasNoNewline (sym front) read.first.one_line;
        newline = get_or_append_left bytes more 0 line.bytes there ∙ read.first.newline;
      };
      told = subst (λ (l : List ℕ). TellsItem line.told (item_of_line l)) (sym front) read.told;
    }

-- a line of a text whose rest the bytes begin with
pub stands_ahead : (text bytes : List ℕ) (place : ℕ) (line : LineAhead) → place ≤ length text → starts_with nat_eq bytes (drop place text) ≡ true → IsReadOf text line →
    StandsAhead bytes place line
stands_ahead text bytes place line within same read later =
    let there : line.bytes < length (drop line.from text) = read.first.there in
    let rest = drop (length (drop place text)) bytes in
    let split : bytes ≡ drop place text ++ rest = (starts_is Decides-eqb bytes (drop place text) true (sym same)).0 refl in
    let n = line.from - place in
    let behind : drop n (drop place text) ≡ drop line.from text = drop-drop n place text ∙ ap (λ k. drop k text) (omega (arith, later)) in
    let fits : n ≤ length (drop place text) = omega (arith, later, there, length-drop place text, length-drop line.from text) in
    subst (λ (b : List ℕ). IsReadAt b line) (sym (ap (drop n) split ∙ drop-append-le n (drop place text) rest fits ∙ ap (λ b. b ++ rest) behind))
    (read_before (drop line.from text) rest line read)

-- and behind so many bytes more
pub stands_behind : (bytes : List ℕ) (place n : ℕ) (line : LineAhead) → StandsAhead bytes place line → StandsAhead (drop n bytes) (place + n) line
stands_behind bytes place n line stands later =
    let earlier : place ≤ line.from = omega (arith, later) in
    subst (λ (b : List ℕ). IsReadAt b line) (sym (drop-drop (line.from - (place + n)) n bytes ∙ ap (λ k. drop k bytes) (omega (arith, later)))) (stands earlier)

pub all_stand_ahead : (text bytes : List ℕ) (place : ℕ) (lines : List LineAhead) → place ≤ length text → starts_with nat_eq bytes (drop place text) ≡ true → All (IsReadOf text) lines →
    All (StandsAhead bytes place) lines
all_stand_ahead text bytes place lines within same read k d there = stands_ahead text bytes place _ within same (read k d there)

pub all_stand_behind : (bytes : List ℕ) (place n : ℕ) (lines : List LineAhead) → All (StandsAhead bytes place) lines → All (StandsAhead (drop n bytes) (place + n)) lines
all_stand_behind bytes place n lines stand k d there = stands_behind bytes place n _ (stand k d there)

-- the line at this place
pub stands_here : (bytes : List ℕ) (place : ℕ) (lines : List LineAhead) (k : ℕ) (line : LineAhead) → All (StandsAhead bytes place) lines → k < length lines →
    line ≡ get_or lines k line → place ≡ line.from → IsReadAt bytes line
stands_here bytes place lines k line stand there is here =
    let stands : StandsAhead bytes place line = subst (StandsAhead bytes place) (sym is) (stand k line there) in
    let none : line.from - place ≡ 0 = omega (arith, here) in
    subst (λ (n : ℕ). IsReadAt (drop n bytes) line) none (stands (omega (arith, here)))

-- What a line that is known to come next does to the cutter.
pub record IsKnown (c c' : CutterState) (n number : ℕ) : Type 0 where
  pub given : HasGiven c' number
  pub few : n < LONGEST_TRACE
  pub next : number ≡ n + 1
  pub grown : c.given ≤ c'.given

pub known : (c c' : CutterState) (n bytes number : ℕ) → HasGiven c n → GivesKnown c c' bytes number → IsKnown c c' n number
known c c' n bytes number has gives =
    let source : Stream = record { bytes = None; faults = 0 } in
    let steps = gives.steps source in
    let line : GivesLine c c' (c.pending ++ []) number = cuts_of c.stopped _ _ has.going steps.cuts in
    let some = piece_not_empty _ _ _ line.next in
    record {
      given = record {
        lines = omega (arith, line.number, line.lines);
        few_lines = omega (arith, line.lines, line.given, has.few_lines, some);
        within = omega (arith, line.within, steps.limit);
        limit = omega (arith, has.limit, steps.limit);
        going = line.stopped;
      };
      few = omega (arith, has.lines, has.few_lines, has.limit, line.given, line.within, some);
      next = omega (arith, line.number, has.lines);
      grown = omega (arith, line.given);
    }
