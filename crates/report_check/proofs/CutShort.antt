-- What a run wrote before a read of the trace failed is a beginning of the report, whatever follows.
use Rattle.std.proofs.Common.{◌≡◌, ◌≢◌, ◌==◌, ◌||◌, arith, ℕ, ◌+◌, List, [], ◌∷◌, ◌++◌, length, Bool, true, false, IsTrue, refl, sym, ◌∙◌, ap, subst, eqb-true}
use Rattle.std.specs.List.{concat, AllByRecursion}
use Rattle.std.specs.Prelude.{filter}
use Rattle.std.proofs.lemmas.Bool.{false≢true, ne_eqb}
use Rattle.std.proofs.lemmas.List.{append_assoc, append-nil}
use Rattle.std.proofs.lemmas.List.Elements.{All-nil, All-cons, All-head, All-tail}
use Rattle.heap_base.specs.declared.limits.TheConstants.{LONGEST_TRACE}
use Rattle.report.specs.Run.{RunRules}
use Rattle.trace_reader.specs.Cuts.{HasNoNewline}
use Rattle.trace_reader.specs.Items.{pieces, items_from, items_of}
use Rattle.trace_reader.specs.Meaning.{Item}
use Rattle.trace_reader.proofs.Pieces.{pieces-nil, pieces-last, pieces-line, items_from-append}
use Rattle.trace_run.specs.Audits.{audit_meaning, audit_report, first_audit_state}
use Rattle.trace_run.specs.Lines.{is_whole, whole_lines}
use Rattle.trace_run.specs.Program.{Effect, ProgramMeaning, Report, by_effect, goes_on, halts, refuses, report_by, report_on, run, takes_item}
use Rattle.trace_run.specs.Progress.{IsWholeLine}
use Rattle.trace_run.proofs.Reports.{audit_is_reported}
use Rattle.trace_run.proofs.Runs.{report_on-text}

-- ---- whole lines

is_whole-line : (xs ys : List ℕ) → is_whole (xs ++ 10 ∷ ys) ≡ true
is_whole-line [] ys = refl
is_whole-line (x ∷ xs) ys = ap (λ t. (x == 10) || t) (is_whole-line xs ys) ∙ or_true (x == 10)
  where
    or_true : (b : Bool) → (b || true) ≡ true
    or_true true = refl
    or_true false = refl

is_whole-front : (xs : List ℕ) → HasNoNewline xs → is_whole xs ≡ false
is_whole-front [] none = refl
is_whole-front (x ∷ xs) none =
    rw (ne_eqb x 10 (All-head (λ b. b ≢ 10) x xs none), is_whole-front xs (All-tail (λ b. b ≢ 10) x xs none)) refl

filter-whole : (done ps : List (List ℕ)) → AllByRecursion IsWholeLine done → filter is_whole (done ++ ps) ≡ done ++ filter is_whole ps
filter-whole [] ps all = refl
filter-whole (p ∷ done) ps all =
    rw (ap is_whole all.0.2 ∙ is_whole-line all.0.0 []) (ap (λ qs. p ∷ qs) (filter-whole done ps all.1))

filter-front : (front : List ℕ) → HasNoNewline front → filter is_whole (pieces front) ≡ []
filter-front [] none = ap (filter is_whole) pieces-nil
filter-front (b ∷ front) none =
    ap (filter is_whole) (pieces-last (b ∷ front) none (omega arith)) ∙ (rw (is_whole-front (b ∷ front) none) refl)

-- the pieces of whole lines are these lines
pieces-whole_lines : (done : List (List ℕ)) → AllByRecursion IsWholeLine done → pieces (concat done) ≡ done
pieces-whole_lines [] all = pieces-nil
pieces-whole_lines (p ∷ done) all =
    ap (λ q. pieces (q ++ concat done)) all.0.2 ∙ pieces-line all.0.0 (concat done) all.0.1
    ∙ ap (λ q. q ∷ pieces (concat done)) (sym all.0.2) ∙ ap (λ ps. p ∷ ps) (pieces-whole_lines done all.1)

-- the whole lines of bytes that were cut into these lines, where the front of one line is left
whole_lines-cut : (bytes front : List ℕ) (done : List (List ℕ)) → pieces bytes ≡ done ++ pieces front → AllByRecursion IsWholeLine done → HasNoNewline front → whole_lines bytes ≡ concat done
unfolding whole_lines
whole_lines-cut bytes front done cut all none =
    ap concat (ap (filter is_whole) cut ∙ filter-whole done (pieces front) all ∙ ap (λ ps. done ++ ps) (filter-front front none) ∙ append-nil done)

-- ---- bytes are whole lines and the front of one

record Split (bytes : List ℕ) : Type 0 where
  done : List (List ℕ)
  front : List ℕ
  is : bytes ≡ concat done ++ front
  whole : AllByRecursion IsWholeLine done
  none : HasNoNewline front

other-byte : (b : ℕ) → (b == 10) ≡ false → b ≢ 10
other-byte b is same = absurd (false≢true (sym is ∙ ap (λ x. x == 10) same))

split : (bytes : List ℕ) → Split bytes
split [] = record { done = []; front = []; is = refl; whole = tt; none = All-nil (λ b. b ≢ 10) }
split (b ∷ bytes) = go (b == 10) refl (split bytes)
  where
    go : (newline : Bool) → (b == 10) ≡ newline → Split bytes → Split (b ∷ bytes)
    go true is s = record {
      done = (b ∷ []) ∷ s.done;
      front = s.front;
      is = ap (λ t. b ∷ t) s.is;
      whole = (([], All-nil (λ b. b ≢ 10), ap (λ x. x ∷ []) (eqb-true b 10 is)), s.whole);
      none = s.none;
    }
    go false is s = longer s.done s.front s.is s.whole s.none
      where
        longer : (done : List (List ℕ)) (front : List ℕ) → bytes ≡ concat done ++ front → AllByRecursion IsWholeLine done → HasNoNewline front → Split (b ∷ bytes)
        longer [] front same whole none = record {
          done = [];
          front = b ∷ front;
          is = ap (λ t. b ∷ t) same;
          whole = tt;
          none = All-cons (λ b. b ≢ 10) b front (other-byte b is) none;
        }
        longer (line ∷ done) front same whole none = record {
          done = (b ∷ line) ∷ done;
          front = front;
          is = ap (λ t. b ∷ t) same;
          whole =
              ((b ∷ whole.0.0, All-cons (λ b. b ≢ 10) b whole.0.0 (other-byte b is) whole.0.1, ap (λ t. b ∷ t) whole.0.2), whole.1);
          none = none;
        }

pieces-done : (done : List (List ℕ)) (rest : List ℕ) → AllByRecursion IsWholeLine done → pieces (concat done ++ rest) ≡ done ++ pieces rest
pieces-done [] rest all = refl
pieces-done (p ∷ done) rest all =
    ap pieces (append_assoc p (concat done) rest)
    ∙ ap (λ q. pieces (q ++ (concat done ++ rest))) all.0.2
    ∙ pieces-line all.0.0 (concat done ++ rest) all.0.1
    ∙ ap (λ q. q ∷ pieces (concat done ++ rest)) (sym all.0.2)
    ∙ ap (λ ps. p ∷ ps) (pieces-done done rest all.1)

-- the items of the whole lines are the first ones of the trace
first-items : (bytes rest : List ℕ) → (more : List Item) × (items_of LONGEST_TRACE (bytes ++ rest) ≡ items_of LONGEST_TRACE (whole_lines bytes) ++ more)
first-items bytes rest =
    let s = split bytes in
    let others = pieces (s.front ++ rest) in
    let lines : whole_lines bytes ≡ concat s.done =
    whole_lines-cut bytes s.front s.done (ap pieces s.is ∙ pieces-done s.done s.front s.whole) s.whole s.none in
    let first : pieces (whole_lines bytes) ≡ s.done = ap pieces lines ∙ pieces-whole_lines s.done s.whole in
    let all : pieces (bytes ++ rest) ≡ s.done ++ others =
    ap (λ t. pieces (t ++ rest)) s.is ∙ ap pieces (append_assoc (concat s.done) s.front rest) ∙ pieces-done s.done (s.front ++ rest) s.whole in
    let more = items_from LONGEST_TRACE (0 + length (concat s.done)) others in (
      more,
      ap (items_from LONGEST_TRACE 0) all ∙ items_from-append LONGEST_TRACE 0 s.done others
          ∙ ap (λ ps. items_from LONGEST_TRACE 0 ps ++ more) (sym first),
    )

-- ---- what is written of the first items

module _ {State : Type 0} (p : ProgramMeaning State) where
  run-begins : (s : State) (n : ℕ) (items more : List Item) → IsTrue (report_on (run p s n items)).is_at_end →
      (rest : List ℕ) × ((run p s n items).texts ++ rest ≡ (report_on (run p s n (items ++ more))).text)
  unfolding run
  run-begins s n [] more end = ((report_on (run p s n more)).text, refl)
  run-begins s n (item ∷ items) more end = go (λ s' end. run-begins s' (n + 1) items more end) (takes_item p s item) end
    where
      go : ((s' : State) → IsTrue (report_on (run p s' (n + 1) items)).is_at_end →
          (rest : List ℕ) × ((run p s' (n + 1) items).texts ++ rest ≡ (report_on (run p s' (n + 1) (items ++ more))).text)) → (e : Effect State) → IsTrue (report_on (by_effect (n + 1) e (λ s'. run p s' (n + 1) items))).is_at_end →
          (rest : List ℕ) × ((by_effect (n + 1) e (λ s'. run p s' (n + 1) items)).texts ++ rest ≡ (report_on (by_effect (n + 1) e (λ s'. run p s' (n + 1) (items ++ more)))).text)
      go on (goes_on text s') end =
          let r = on s' end in
          (r.0, append_assoc text (run p s' (n + 1) items).texts r.0 ∙ ap (λ t. text ++ t) r.1 ∙ sym (report_on-text text (run p s' (n + 1) (items ++ more))))
      go on (refuses r) end = absurd (false≢true end)
      go on (halts text last) end = absurd (false≢true end)

-- the part on the whole lines begins the report on the trace
pub part-begins : (rules : RunRules) (bytes rest : List ℕ) → IsTrue (audit_report rules (items_of LONGEST_TRACE (whole_lines bytes))).is_at_end →
    (more : List ℕ) × ((audit_report rules (items_of LONGEST_TRACE (whole_lines bytes))).part ++ more ≡ (audit_report rules (items_of LONGEST_TRACE (bytes ++ rest))).text)
part-begins rules bytes rest end =
    let lines = items_of LONGEST_TRACE (whole_lines bytes) in
    let first = first-items bytes rest in
    let begun =
    run-begins audit_meaning (first_audit_state rules) 0 lines first.0 (subst (λ (r : Report). IsTrue r.is_at_end) (sym (audit_is_reported rules lines)) end) in (
      begun.0,
      ap (λ (r : Report). r.part ++ begun.0) (sym (audit_is_reported rules lines))
          ∙ begun.1
          ∙ ap (λ (is : List Item). (report_by audit_meaning (first_audit_state rules) is).text) (sym first.1)
          ∙ ap (λ (r : Report). r.text) (audit_is_reported rules (items_of LONGEST_TRACE (bytes ++ rest))),
    )
