-- How the pieces of a trace, and their items, meet the steps of a cutter.
use Rattle.std.proofs.Common.{◌≡◌, ◌≢◌, ℕ, ◌+◌, ◌<◌, ◌≤◌, ◌&&◌, false, eqb, ltb, leb, not, IsTrue, List, [], ◌∷◌, ◌++◌, length, take, drop, get_or}
use Rattle.std.proofs.Common.{refl, sym, ap, ◌∙◌, arith, append_assoc, append-nil, length-append, length-take-le, take-append-drop, inl, inr}
use Rattle.std.specs.List.{concat}
use Rattle.std.proofs.lemmas.Bool.{ne_eqb, cond-true, cond-false, le-ltb, lt-ltb, le-leb, lt-leb, cases_lt}
use Rattle.std.proofs.lemmas.Bool.Decides.{eqb_tells}
use Rattle.std.proofs.lemmas.List.Elements.{All-head, All-tail, All-more}
use Rattle.std.proofs.lemmas.List.Sums.{take_while-cons}
use Rattle.heap_base.specs.declared.limits.TheConstants.{LONGEST_LINE}
use Rattle.graph_meaning.specs.declared.refusal.Refusal.TheVariants.{LineTooLong, TraceTooLong}
use Rattle.trace_reader.specs.Cuts.{HasNoNewline, HasTooLongLine, EndsPastLimit}
use Rattle.trace_reader.specs.Cutter.{CutterState, GivesLine, HasNoLineLeft, room}
use Rattle.trace_reader.specs.Items.{pieces, in_front, line_of, item_of, items_from}
use Rattle.trace_reader.specs.Meaning.{Item, refused, item_of_line}
use Rattle.trace_reader.proofs.Newlines.{front_of_front}
use Rattle.trace_reader.proofs.Steps.{line_split}

head_is_none : (b : ℕ) (bytes : List ℕ) → HasNoNewline (b ∷ bytes) → eqb b 10 ≡ false
head_is_none b bytes none = ne_eqb b 10 (All-head (λ b. b ≢ 10) b bytes none)

-- ---- pieces

pub pieces-nil : pieces [] ≡ []
unfolding pieces
pieces-nil = refl

pub pieces-line : (line rest : List ℕ) → HasNoNewline line → pieces ((line ++ 10 ∷ []) ++ rest) ≡ (line ++ 10 ∷ []) ∷ pieces rest
unfolding pieces
pieces-line [] rest none = refl
pieces-line (b ∷ line) rest none =
    cond-false (eqb b 10) _ _ (head_is_none b line none) ∙ ap (in_front b) (pieces-line line rest (All-tail (λ b. b ≢ 10) b line none))

pub pieces-last : (line : List ℕ) → HasNoNewline line → 0 < length line → pieces line ≡ line ∷ []
unfolding pieces
pieces-last [] none there = absurd (omega arith)
pieces-last (b ∷ []) none there = cond-false (eqb b 10) _ _ (head_is_none b [] none)
pieces-last (b ∷ c ∷ line) none there =
    cond-false (eqb b 10) _ _ (head_is_none b (c ∷ line) none)
    ∙ ap (in_front b) (pieces-last (c ∷ line) (All-tail (λ b. b ≢ 10) b (c ∷ line) none) (omega arith))

-- the first piece begins with bytes among which no newline stands
pub pieces-front : (front rest : List ℕ) → HasNoNewline front → 0 < length front → (first : List ℕ) × (others : List (List ℕ)) × (pieces (front ++ rest) ≡ (front ++ first) ∷ others)
unfolding pieces
pieces-front [] rest none there = absurd (omega arith)
pieces-front (b ∷ []) rest none there =
    let start = cond-false (eqb b 10) ((b ∷ []) ∷ pieces rest) (in_front b (pieces rest)) (head_is_none b [] none) in
    let joined : (first : List ℕ) × (others : List (List ℕ)) × (in_front b (pieces rest) ≡ (b ∷ first) ∷ others) =
    elim (pieces rest) as (λ ps. (first : List ℕ) × (others : List (List ℕ)) × (in_front b ps ≡ (b ∷ first) ∷ others)) [
      | [] ↦ ([], [], refl)
      | p ∷ ps ↦ (p, ps, refl)
    ] in
    (joined.0, joined.1, start ∙ joined.2)
pieces-front (b ∷ c ∷ front) rest none there =
    let later = pieces-front (c ∷ front) rest (All-tail (λ b. b ≢ 10) b (c ∷ front) none) (omega arith) in (
      later.0,
      later.1,
      cond-false (eqb b 10) _ _ (head_is_none b (c ∷ front) none) ∙ ap (in_front b) later.2,
    )

pub line_of-line : (line : List ℕ) → HasNoNewline line → line_of (line ++ 10 ∷ []) ≡ line
line_of-line [] none = refl
line_of-line (b ∷ line) none =
    take_while-cons (λ b. not (eqb b 10)) b (line ++ 10 ∷ [])
    ∙ cond-true (not (eqb b 10)) _ _ (ap not (head_is_none b line none))
    ∙ ap (λ l. b ∷ l) (line_of-line line (All-tail (λ b. b ≢ 10) b line none))

-- what a piece's line begins with
pub line_of-front : (front rest : List ℕ) → HasNoNewline front → line_of (front ++ rest) ≡ front ++ line_of rest
line_of-front [] rest none = refl
line_of-front (b ∷ front) rest none =
    take_while-cons (λ b. not (eqb b 10)) b (front ++ rest)
    ∙ cond-true (not (eqb b 10)) _ _ (ap not (head_is_none b front none))
    ∙ ap (λ l. b ∷ l) (line_of-front front rest (All-tail (λ b. b ≢ 10) b front none))

pub line_of-last : (line : List ℕ) → HasNoNewline line → line_of line ≡ line
line_of-last line none =
    ap line_of (sym (append-nil line)) ∙ line_of-front line [] none ∙ append-nil line

-- ---- items

pub items_from-cons : (limit before : ℕ) (piece : List ℕ) (rest : List (List ℕ)) → items_from limit before (piece ∷ rest) ≡ item_of limit before piece ∷ items_from limit (before + length piece) rest
unfolding items_from
items_from-cons limit before piece rest = refl

pub items_from-append : (limit before : ℕ) (ps qs : List (List ℕ)) → items_from limit before (ps ++ qs) ≡ items_from limit before ps ++ items_from limit (before + length (concat ps)) qs
unfolding items_from
items_from-append limit before [] qs = ap (λ n. items_from limit n qs) (omega arith)
items_from-append limit before (p ∷ ps) qs =
    ap (λ is. item_of limit before p ∷ is) (
    items_from-append limit (before + length p) ps qs
    ∙ ap (λ n. items_from limit (before + length p) ps ++ items_from limit n qs) (omega (arith, length-append p (concat ps)))
    )

-- a piece within both limits is what its line is
pub item_of-short : (limit before : ℕ) (piece : List ℕ) → length (line_of piece) ≤ LONGEST_LINE → before + length piece ≤ limit → item_of limit before piece ≡ item_of_line (line_of piece)
unfolding item_of
item_of-short limit before piece short within =
    cond-false _ _ _ (ap (λ b. b && leb (before + LONGEST_LINE) limit) (le-ltb LONGEST_LINE (length (line_of piece)) short))
    ∙ cond-false _ _ _ (le-ltb limit (before + length piece) within)

pub item_of-too_long : (limit before : ℕ) (piece : List ℕ) → LONGEST_LINE < length (line_of piece) → before + LONGEST_LINE ≤ limit → item_of limit before piece ≡ refused LineTooLong
unfolding item_of
item_of-too_long limit before piece long within =
    cond-true _ _ _ (ap (λ b. b && leb (before + LONGEST_LINE) limit) (lt-ltb LONGEST_LINE (length (line_of piece)) long) ∙ le-leb (before + LONGEST_LINE) limit within)

pub item_of-past_limit : (limit before : ℕ) (piece : List ℕ) → (LONGEST_LINE < length (line_of piece) → before + LONGEST_LINE ≤ limit → ⊥) →
    limit < before + length piece → item_of limit before piece ≡ refused TraceTooLong
unfolding item_of
item_of-past_limit limit before piece not_long past =
    let long = length (line_of piece) in
    let test : (ltb LONGEST_LINE long && leb (before + LONGEST_LINE) limit) ≡ false =
    elim (cases_lt LONGEST_LINE long) as (λ _. (ltb LONGEST_LINE long && leb (before + LONGEST_LINE) limit) ≡ false) [
      | inl more ↦ ap (λ b. b && leb (before + LONGEST_LINE) limit) (lt-ltb LONGEST_LINE long more)
          ∙ lt-leb (before + LONGEST_LINE) limit (elim (cases_lt limit (before + LONGEST_LINE)) [ inl out ↦ out | inr close ↦ absurd (not_long more close) ])
      | inr less ↦ ap (λ b. b && leb (before + LONGEST_LINE) limit) (le-ltb LONGEST_LINE long less)
    ] in
    cond-false _ _ _ test
    ∙ cond-true _ _ _ (lt-ltb limit (before + length piece) past)

-- ---- steps of a cutter

module _ (old new : CutterState) (bytes : List ℕ) (n : ℕ) (gives : GivesLine old new bytes n) where
  -- a line that is given is what its piece is
  pub item_of-given : item_of old.limit old.given gives.piece ≡ item_of_line new.line
  item_of-given =
      let same : line_of gives.piece ≡ new.line =
      elim gives.next.ended as (λ _. line_of gives.piece ≡ new.line) [
        | inl whole ↦ ap line_of whole ∙ line_of-line new.line gives.next.one_line
        | inr last ↦ ap line_of last.0 ∙ line_of-last new.line gives.next.one_line
      ] in
      item_of-short old.limit old.given gives.piece (omega (arith, ap length same, gives.short)) (omega (arith, gives.given, gives.within)) ∙ ap item_of_line same

  -- the piece of a line that is given is the first, whatever the source gives after it; nothing, where its end was read
  pub pieces-given : (rest : List ℕ) → (IsTrue new.at_end → rest ≡ []) → pieces (bytes ++ rest) ≡ gives.piece ∷ pieces (new.pending ++ rest)
  pieces-given rest end =
      let next = gives.next in
      let piece = gives.piece in
      ap (λ bs. pieces (bs ++ rest)) next.split
      ∙ ap pieces (append_assoc piece new.pending rest)
      ∙ elim next.ended as (λ _. pieces (piece ++ (new.pending ++ rest)) ≡ piece ∷ pieces (new.pending ++ rest)) [
        | inl whole ↦ ap (λ p. pieces (p ++ (new.pending ++ rest))) whole ∙ pieces-line new.line (new.pending ++ rest) next.one_line ∙ ap (λ p. p ∷ pieces (new.pending ++ rest)) (sym whole)
        | inr last ↦ (
            let nothing : new.pending ++ rest ≡ [] = ap (λ l. l ++ rest) last.2 ∙ end last.3 in
            let left : pieces (piece ++ (new.pending ++ rest)) ≡ piece ∷ [] =
            ap (λ l. pieces (piece ++ l)) nothing ∙ ap pieces (append-nil piece) ∙ ap pieces last.0 ∙ pieces-last new.line next.one_line last.1 ∙ ap (λ p. p ∷ []) (sym last.0) in
            left ∙ ap (λ ps. piece ∷ ps) (sym (ap pieces nothing ∙ pieces-nil))
            )
      ]

  -- so the items that are left are what that line is, and then those of the bytes behind it
  pub items_from-given : (rest : List ℕ) → (IsTrue new.at_end → rest ≡ [])
      → items_from old.limit old.given (pieces (bytes ++ rest)) ≡ item_of_line new.line ∷ items_from old.limit new.given (pieces (new.pending ++ rest))
  items_from-given rest end =
      let later = pieces (new.pending ++ rest) in
      ap (items_from old.limit old.given) (pieces-given rest end)
      ∙ items_from-cons old.limit old.given gives.piece later
      ∙ ap (λ item. item ∷ items_from old.limit (old.given + length gives.piece) later) item_of-given
      ∙ ap (λ k. item_of_line new.line ∷ items_from old.limit k later) (sym gives.given)

-- no item is left where no byte is
pub items_from-done : (new : CutterState) (limit given : ℕ) (rest : List ℕ) → HasNoLineLeft new → rest ≡ [] → items_from limit given (pieces (new.pending ++ rest)) ≡ []
unfolding items_from pieces
items_from-done new limit given rest done end =
    ap (λ bs. items_from limit given (pieces (bs ++ rest))) done.nothing_left ∙ ap (λ bs. items_from limit given (pieces bs)) end

-- the first item left is the refusal that the cutter met, whatever the source gives after its bytes
pub items_from-line_too_long : (new : CutterState) (rest : List ℕ) → HasTooLongLine new.pending (room new) →
    (more : List Item) × (items_from new.limit new.given (pieces (new.pending ++ rest)) ≡ refused LineTooLong ∷ more)
items_from-line_too_long new rest long =
    let front = take (LONGEST_LINE + 1) new.pending in
    let size : length front ≡ LONGEST_LINE + 1 = length-take-le (LONGEST_LINE + 1) new.pending long.there in
    let after = drop (LONGEST_LINE + 1) new.pending ++ rest in
    let first = pieces-front front after long.one_line (omega arith) in
    let whole : new.pending ++ rest ≡ front ++ after =
    ap (λ bs. bs ++ rest) (sym (take-append-drop (LONGEST_LINE + 1) new.pending)) ∙ append_assoc front (drop (LONGEST_LINE + 1) new.pending) rest in
    let piece = front ++ first.0 in
    let line : length (line_of piece) ≡ length front + length (line_of first.0) = ap length (line_of-front front first.0 long.one_line) ∙ length-append front (line_of first.0) in (
      items_from new.limit (new.given + length piece) first.1,
      ap (λ bs. items_from new.limit new.given (pieces bs)) whole
          ∙ ap (items_from new.limit new.given) first.2
          ∙ items_from-cons new.limit new.given piece first.1
          ∙ ap (λ item. item ∷ items_from new.limit (new.given + length piece) first.1) (item_of-too_long new.limit new.given piece (omega arith) (omega (arith, long.within))),
    )

past_limit : (limit given : ℕ) (bytes piece : List ℕ) (others : List (List ℕ)) → pieces bytes ≡ piece ∷ others
    → (LONGEST_LINE < length (line_of piece) → given + LONGEST_LINE ≤ limit → ⊥) → limit < given + length piece
    → (more : List Item) × (items_from limit given (pieces bytes) ≡ refused TraceTooLong ∷ more)
past_limit limit given bytes piece others is not_long past =
    let more = items_from limit (given + length piece) others in (
      more,
      ap (items_from limit given) is
          ∙ items_from-cons limit given piece others
          ∙ ap (λ item. item ∷ more) (item_of-past_limit limit given piece not_long past),
    )

-- it is not whole in the bytes that the trace may still have, and is not too long by one byte more
pub items_from-trace_too_long : (new : CutterState) (rest : List ℕ) → new.given ≤ new.limit → EndsPastLimit new.pending (room new) →
    (more : List Item) × (items_from new.limit new.given (pieces (new.pending ++ rest)) ≡ refused TraceTooLong ∷ more)
items_from-trace_too_long new rest within past =
    let pending = new.pending in
    let n = room new in
    let front = take n pending in
    let there : n < length pending = past.there in
    let size : length front ≡ n = length-take-le n pending (omega arith) in
    let not_long : HasNoNewline (take (LONGEST_LINE + 1) pending) → LONGEST_LINE < length pending → LONGEST_LINE ≤ n → ⊥ =
    λ none long close. past.not_too_long (record { there = omega arith; one_line = none; within = close }) in
    elim (eqb_tells (get_or pending n 0) 10) as (λ _. (more : List Item) × (items_from new.limit new.given (pieces (pending ++ rest)) ≡ refused TraceTooLong ∷ more)) [
      | inl newline ↦ (
          let piece = front ++ 10 ∷ [] in
          let line : length (line_of piece) ≡ n = ap length (line_of-line front past.one_line) ∙ size in
          let whole : pending ++ rest ≡ piece ++ (drop (n + 1) pending ++ rest) =
          ap (λ bs. bs ++ rest) (line_split pending n (record { there = past.there; one_line = past.one_line; newline = newline.1 }))
          ∙ append_assoc piece (drop (n + 1) pending) rest in
          past_limit new.limit new.given (pending ++ rest) piece (pieces (drop (n + 1) pending ++ rest)) (
          ap pieces whole ∙ pieces-line front (drop (n + 1) pending ++ rest) past.one_line
          ) (
          λ long close. not_long (front_of_front pending (LONGEST_LINE + 1) n (omega arith) past.one_line) (omega arith) (omega arith)
          ) (omega (arith, length-append front (10 ∷ [])))
          )
      | inr other ↦ (
          let more = take (n + 1) pending in
          let none : HasNoNewline more = All-more (λ b. b ≢ 10) pending n 0 past.there past.one_line other.1 in
          let more_size : length more ≡ n + 1 = length-take-le (n + 1) pending (omega arith) in
          let after = drop (n + 1) pending ++ rest in
          let first = pieces-front more after none (omega arith) in
          let whole : pending ++ rest ≡ more ++ after =
          ap (λ bs. bs ++ rest) (sym (take-append-drop (n + 1) pending)) ∙ append_assoc more (drop (n + 1) pending) rest in
          let piece = more ++ first.0 in
          past_limit new.limit new.given (pending ++ rest) piece first.1 (ap pieces whole ∙ first.2) (
          λ long close. not_long (front_of_front pending (LONGEST_LINE + 1) (n + 1) (omega arith) none) (omega arith) (omega arith)
          ) (omega (arith, length-append more first.0))
          )
    ]
