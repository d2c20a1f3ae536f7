-- A text in which no line breaks the snapshot is the text of a view.
use Rattle.std.proofs.Common.{◌≡◌, ◌≢◌, ◌⊎◌, ℕ, ◌+◌, ◌≤◌, eqb, true, false, List, [], ◌∷◌, ◌++◌, length, Option, None, Some, Result, sym, refl, ap}
use Rattle.std.proofs.Common.{◌∙◌, subst, arith, append_assoc, append-nil, length-append, zero, suc, inl, inr, ⊎_elim}
use Rattle.std.specs.List.{flat_map}
use Rattle.std.proofs.lemmas.Bool.{cond_both, cond-true, false≢true}
use Rattle.std.proofs.lemmas.Bool.Decides.{eqb_tells}
use Rattle.std.proofs.lemmas.List.Elements.{All-nil, All-cons}
use Rattle.std.proofs.lemmas.Grind.{flat_map-append}
use Rattle.trace_reader.specs.Cuts.{HasNoNewline}
use Rattle.trace_reader.specs.Items.{pieces}
use Rattle.trace_reader.proofs.Pieces.{pieces-line, line_of-line}
use Rattle.trace_run.specs.Lines.{is_whole}
use Rattle.graph_meaning.specs.declared.views.ObjectView.{ObjectView}
use Rattle.graph_meaning.specs.declared.views.HeapView.{HeapView}
use Rattle.heap_snapshot.specs.declared.line.Line.{Line}
use Rattle.heap_snapshot.specs.declared.stage.Stage.{Stage}
use Rattle.heap_snapshot.specs.declared.stage.Stage.TheVariants.{Empty, Begun, InObject, InRoots, Ended}
use Rattle.heap_snapshot.specs.declared.refusal.SnapWhy.TheVariants.{BadLine, Unended}
use Rattle.heap_snapshot.specs.Lines.{line_text, line_bytes, line_in}
use Rattle.heap_snapshot.specs.Text.{lines_of, snapshot_text}
use Rattle.heap_snapshot.specs.Table.{Reading, nothing_read, is_ended, take_line, take_said}
use Rattle.heap_snapshot.specs.Taken.{AreLines, AreLinesAt}
use Rattle.heap_snapshot.specs.Dangling.{first_dangling}
use Rattle.heap_snapshot.specs.Reading.{Refusal, refusal_at, view_read, unless_dangling, at_end, after_line, meaning_from, meaning_of}
use Rattle.heap_snapshot.proofs.Meanings.{whole_line, meaning-end, meaning-rest}
use Rattle.heap_snapshot.proofs.Sound.{line_is_next}
use Rattle.heap_snapshot.proofs.Spoken.{line_in-is}

-- a line with its newline, and what stands behind it
abbrev HasLine : List ℕ → Type 0
HasLine bytes = (line : List ℕ) × (rest : List ℕ) × HasNoNewline line × (bytes ≡ (line ++ 10 ∷ []) ++ rest)

cut_line : (bytes : List ℕ) → HasNoNewline bytes ⊎ HasLine bytes
cut_line [] = inl (All-nil (λ b. b ≢ 10))
cut_line (b ∷ bytes) =
    ⊎_elim
    (λ (newline : (eqb b 10 ≡ true) × (b ≡ 10)). inr ([], bytes, All-nil (λ b. b ≢ 10), ap (λ c. c ∷ bytes) newline.1))
    (λ (other : (eqb b 10 ≡ false) × (b ≢ 10)).
    ⊎_elim (λ (none : HasNoNewline bytes). inl (All-cons (λ b. b ≢ 10) b bytes other.1 none))
    (λ (cut : HasLine bytes). inr (b ∷ cut.0, cut.1, All-cons (λ b. b ≢ 10) b cut.0 other.1 cut.2, ap (λ l. b ∷ l) cut.3))
    (cut_line bytes))
    (eqb_tells b 10)

ended_lines : (stage : Stage) (objects : List ObjectView) (roots : List (List ℕ × ℕ)) (lines : List Line) → is_ended stage ≡ true →
    AreLinesAt stage objects roots lines → lines ≡ lines_of (record { objects = objects; roots = roots })
ended_lines Empty objects roots lines end are = absurd (false≢true end)
ended_lines Begun objects roots lines end are = absurd (false≢true end)
ended_lines (InObject o) objects roots lines end are = absurd (false≢true end)
ended_lines InRoots objects roots lines end are = absurd (false≢true end)
ended_lines Ended objects roots lines end are = are

-- the bytes with one line more taken
one_more : (taken : List Line) (l : Line) (line rest : List ℕ) → line ≡ line_text l
    → flat_map line_bytes taken ++ ((line ++ 10 ∷ []) ++ rest) ≡ flat_map line_bytes (taken ++ l ∷ []) ++ rest
one_more taken l line rest same =
    ap (λ (t : List ℕ). flat_map line_bytes taken ++ ((t ++ 10 ∷ []) ++ rest)) same
    ∙ sym (append_assoc (flat_map line_bytes taken) (line_bytes l) rest)
    ∙ ap (λ (t : List ℕ). (flat_map line_bytes taken ++ t) ++ rest) (sym (append-nil (line_bytes l)))
    ∙ ap (λ (t : List ℕ). t ++ rest) (sym (flat_map-append line_bytes taken (l ∷ [])))

-- some bytes say this line
abbrev pub IsSaid : Line → Type 0
IsSaid l = (line : List ℕ) × (line_in line ≡ Some l)

-- What holds of the two refusals of a line, and of what the text of a view leads to, holds of what the bytes lead to. J is what each line keeps.
module _ (whole : List ℕ) (J : Reading → Type 0)
    (keeps : (r : Reading) (l : Line) (s : Reading) → IsSaid l → take_line r l ≡ Some s → J r → J s) (P : Result HeapView Refusal → Type 0)
    (bad : (line : ℕ) → P (refusal_at line BadLine)) (unended : (line : ℕ) → P (refusal_at line Unended))
    (text : (r : Reading) → J r → is_ended r.stage ≡ true → whole ≡ snapshot_text (view_read r) → P (unless_dangling (view_read r) (first_dangling (view_read r))))
  where
    end : (lines : ℕ) (r : Reading) (taken : List Line) → J r → AreLines r taken → whole ≡ flat_map line_bytes taken → P (at_end lines r)
    unfolding snapshot_text
    end lines r taken so are same =
        cond_both (is_ended r.stage) (unless_dangling (view_read r) (first_dangling (view_read r))) (refusal_at (lines + 1) Unended) P
        (λ ended. text r so ended (same ∙ ap (flat_map line_bytes) (ended_lines r.stage r.objects r.roots taken ended are)))
        (λ going. unended (lines + 1))

    last : (lines : ℕ) (r : Reading) (taken : List Line) (bytes : List ℕ) → J r → AreLines r taken → whole ≡ flat_map line_bytes taken ++ bytes →
        HasNoNewline bytes → P (meaning_from lines r (pieces bytes))
    last lines r taken [] so are same none =
        subst P (sym (meaning-end lines r [] refl)) (end lines r taken so are (same ∙ append-nil (flat_map line_bytes taken)))
    last lines r taken (b ∷ bytes) so are same none = subst P (sym (meaning-rest lines r (b ∷ bytes) none (omega arith))) (unended (lines + 1))

    -- by what the line says, and where it may stand
    by_reading : (lines : ℕ) (s : Option Reading) (go_on : Reading → Result HeapView Refusal) → ((next : Reading) → s ≡ Some next → P (go_on next)) → P (after_line lines s go_on)
    by_reading lines None go_on each = bad lines
    by_reading lines (Some next) go_on each = each next refl

    by_line : (lines : ℕ) (r : Reading) (said : Option Line) (go_on : Reading → Result HeapView Refusal) →
        ((l : Line) (next : Reading) → said ≡ Some l → take_line r l ≡ Some next → P (go_on next)) → P (after_line lines (take_said r said) go_on)
    by_line lines r None go_on each = bad lines
    by_line lines r (Some l) go_on each = by_reading lines (take_line r l) go_on (λ next taken. each l next refl taken)

    from : (n : ℕ) (lines : ℕ) (r : Reading) (taken : List Line) (bytes : List ℕ) → length bytes ≤ n → J r → AreLines r taken →
        whole ≡ flat_map line_bytes taken ++ bytes → P (meaning_from lines r (pieces bytes))
    unfolding meaning_from
    from zero lines r taken [] few so are same = last lines r taken [] so are same (All-nil (λ b. b ≢ 10))
    from zero lines r taken (b ∷ bytes) few so are same = absurd (omega arith)
    from (suc n) lines r taken bytes few so are same =
        ⊎_elim (λ (none : HasNoNewline bytes). last lines r taken bytes so are same none)
        (λ (cut : HasLine bytes).
        let line : List ℕ = cut.0 in
        let rest : List ℕ = cut.1 in
        let go_on : Reading → Result HeapView Refusal = λ next. meaning_from (lines + 1) next (pieces rest) in
        let less : length rest ≤ n = omega (arith, ap length cut.3, length-append (line ++ 10 ∷ []) rest, length-append line (10 ∷ [])) in
        let leads : meaning_from lines r (pieces bytes) ≡ after_line (lines + 1) (take_said r (line_in line)) go_on =
        ap (meaning_from lines r) (ap pieces cut.3 ∙ pieces-line line rest cut.2)
        ∙ cond-true (is_whole (line ++ 10 ∷ [])) _ _ (whole_line line)
        ∙ ap (λ l. after_line (lines + 1) (take_said r (line_in l)) go_on) (line_of-line line cut.2) in
        subst P (sym leads)
        (by_line (lines + 1) r (line_in line) go_on (λ l next said take.
        from n (lines + 1) next (taken ++ l ∷ []) rest less (keeps r l next (line, said) take so) (line_is_next r l next taken take are)
        (same ∙ ap (λ (t : List ℕ). flat_map line_bytes taken ++ t) cut.3 ∙ one_more taken l line rest (line_in-is line l said)))))
        (cut_line bytes)

pub by_reading_text : (bytes : List ℕ) (J : Reading → Type 0) → J nothing_read →
    ((r : Reading) (l : Line) (s : Reading) → IsSaid l → take_line r l ≡ Some s → J r → J s) → (P : Result HeapView Refusal → Type 0) →
    ((line : ℕ) → P (refusal_at line BadLine)) → ((line : ℕ) → P (refusal_at line Unended))
    → ((r : Reading) → J r → is_ended r.stage ≡ true → bytes ≡ snapshot_text (view_read r) → P (unless_dangling (view_read r) (first_dangling (view_read r)))) → P (meaning_of bytes)
by_reading_text bytes J start keeps P bad unended text = from bytes J keeps P bad unended text (length bytes) 0 nothing_read [] bytes (omega arith) start (refl, refl, refl) refl

pub by_text : (bytes : List ℕ) (P : Result HeapView Refusal → Type 0) → ((line : ℕ) → P (refusal_at line BadLine)) →
    ((line : ℕ) → P (refusal_at line Unended)) → ((v : HeapView) → bytes ≡ snapshot_text v → P (unless_dangling v (first_dangling v))) →
    P (meaning_of bytes)
by_text bytes P bad unended text = by_reading_text bytes (λ r. Unit {0}) tt (λ r l s said taken so. tt) P bad unended (λ r so ended same. text (view_read r) same)
