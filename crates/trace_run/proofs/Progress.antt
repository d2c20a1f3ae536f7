-- A run that is under way: what was read, cut and written so far.
use Rattle.std.proofs.Common.{◌≡◌, ℕ, ◌+◌, ◌-◌, ◌<◌, ◌≤◌, List, [], ◌∷◌, ◌++◌, length, Bool, true, false, IsTrue, Option, Some, None, Result}
use Rattle.std.proofs.Common.{Ok, MatchOption, IfSome, refl, sym, ◌∙◌, ap, subst, arith, ⊎_elim}
use Rattle.std.specs.List.{concat, AllByRecursion}
use Rattle.std.proofs.lemmas.List.Folds.{concat-append}
use Rattle.std.specs.Io.KnownBytes.{Appends, Consumes, IsAtEnd}
use Rattle.std.proofs.KnownBytes.{Consumes-nil, Consumes-trans, Appends-nil, Appends-trans}
use Rattle.std.proofs.lemmas.List.{append_assoc, append-nil, length-append}
use Rattle.std.proofs.lemmas.Bool.{false≢true, true≢false}
use Rattle.streams.specs.Streams.{Stream}
use Rattle.trace_reader.specs.declared.error.CutError.{CutError}
use Rattle.trace_reader.specs.Meaning.{Item, item_of_line}
use Rattle.trace_reader.specs.Items.{pieces, items_from, item_of}
use Rattle.trace_reader.specs.Cutter.{CutterState, fresh_cutter, IsNextPiece, GivesLine, StepsOn, Cuts, with_source}
use Rattle.trace_run.specs.Program.{ProgramMeaning, goes_on, takes_item}
use Rattle.trace_run.specs.Outcome.{Outside}
use Rattle.trace_run.specs.Progress.{RunsTo, IsWholeLine, items_so_far, Progress, InProgress}
use Rattle.trace_run.proofs.Runs.{RunsTo-nil, RunsTo-push}
use Rattle.trace_reader.proofs.Pieces.{item_of-given, pieces-given, items_from-append, items_from-cons}

-- at the beginning
begins : {State : Type 0} (p : ProgramMeaning State) (limit : ℕ) (first : State) (start : Outside) → InProgress p limit first start start (fresh_cutter limit) first 0
unfolding items_from
begins p limit first start = record {
  taken = [];
  done = [];
  text = [];
  so_far = record {
    consumed = Consumes-nil start.source.bytes;
    split = refl;
    cut = λ more end. refl;
    whole = λ end. tt;
    ran = RunsTo-nil p first;
    given = refl;
    within = omega arith;
    lines = refl;
    few_lines = omega arith;
    written = Appends-nil start.sink.bytes;
    same_limit = refl;
    stopped = refl;
    end_read = λ end. absurd (false≢true end);
    reads = omega arith;
    writes = omega arith;
  };
}

pub begins_at : {State : Type 0} (p : ProgramMeaning State) (limit : ℕ) (first : State) (start : Outside) (c : CutterState) → c ≡ fresh_cutter limit → InProgress p limit first start start c first 0
begins_at p limit first start c e =
    subst (λ (x : CutterState). InProgress p limit first start start x first 0) (sym e) (begins p limit first start)

-- fewer lines were read than a trace may have bytes, unless the limit is reached
pub lines_within : {State : Type 0} (p : ProgramMeaning State) (limit : ℕ) (first : State) (start now : Outside) (c : CutterState) (s : State) (n : ℕ) →
    InProgress p limit first start now c s n → n ≤ limit
lines_within p limit first start now c s n progress = omega (arith, progress.so_far.few_lines, progress.so_far.within)

-- ---- one line more

concat-push : (ps : List (List ℕ)) (p : List ℕ) → concat (ps ++ p ∷ []) ≡ concat ps ++ p
concat-push ps p = concat-append ps (p ∷ []) ∙ ap (λ t. concat ps ++ t) (append-nil p)

whole-push : (ps : List (List ℕ)) (p : List ℕ) → AllByRecursion IsWholeLine ps → IsWholeLine p → AllByRecursion IsWholeLine (ps ++ p ∷ [])
whole-push [] p all h = (h, tt)
whole-push (q ∷ ps) p all h = (all.0, whole-push ps p all.1 h)

-- the cutter's step, where it stood at no refusal
pub cuts_of : (o : Option CutError) (P : Type 0) (Q : CutError → Type 0) → o ≡ None → MatchOption o P Q → P
cuts_of o P Q e h = let F : Option CutError → Type 0 = λ x. MatchOption x P Q in subst F e h

-- the end's having been read stays
pub still_at_end : (old new : Bool) (took : List ℕ) (P : Type 0) → (IsTrue old → IsTrue new × (took ≡ [])) → new ≡ false → old ≡ false
still_at_end true new took P stays e = absurd (true≢false (sym (stays refl).0 ∙ e))
still_at_end false new took P stays e = refl

-- after a step that gives a line, the pieces of all bytes go on behind it
cut_on : (old new : CutterState) (taken took : List ℕ) (n : ℕ) (done : List (List ℕ)) →
    ((more : List ℕ) → (IsTrue old.at_end → more ≡ []) → pieces (taken ++ more) ≡ done ++ pieces (old.pending ++ more)) →
    (IsTrue old.at_end → IsTrue new.at_end × (took ≡ [])) → (line : GivesLine old new (old.pending ++ took) n) →
    (more : List ℕ) → (IsTrue new.at_end → more ≡ []) → pieces ((taken ++ took) ++ more) ≡ (done ++ line.piece ∷ []) ++ pieces (new.pending ++ more)
cut_on old new taken took n done cut stays line more end =
    ap pieces (append_assoc taken took more)
    ∙ cut (took ++ more) (λ t. ap (λ x. x ++ more) (stays t).1 ∙ end (stays t).0)
    ∙ ap (λ t. done ++ pieces t) (sym (append_assoc old.pending took more))
    ∙ ap (λ ps. done ++ ps) (pieces-given old new (old.pending ++ took) n line more end)
    ∙ sym (append_assoc done (line.piece ∷ []) (pieces (new.pending ++ more)))

whole_piece : (new : CutterState) (piece bytes : List ℕ) → IsNextPiece new piece bytes → new.at_end ≡ false → IsWholeLine piece
whole_piece new piece bytes next e =
    ⊎_elim (λ p. (new.line, next.one_line, p)) (λ p. absurd (false≢true (sym e ∙ p.3))) next.ended

-- the items of one piece more
items_so_far-push : (limit : ℕ) (done : List (List ℕ)) (given : ℕ) (line piece : List ℕ) → given ≡ length (concat done) → item_of limit given piece ≡ item_of_line line →
    items_so_far limit (done ++ piece ∷ []) ≡ items_so_far limit done ++ item_of_line line ∷ []
unfolding items_from
items_so_far-push limit done given line piece count item =
    items_from-append limit 0 done (piece ∷ [])
    ∙ ap (λ b. items_from limit 0 done ++ items_from limit b (piece ∷ [])) (omega (arith, count))
    ∙ ap (λ is. items_from limit 0 done ++ is) (items_from-cons limit given piece [] ∙ ap (λ i. i ∷ items_from limit (given + length piece) []) item)

-- where the end was read, it stays read while nothing is taken
end_stays : (start before after : Option (List ℕ)) (taken took : List ℕ) → Consumes start before taken → IfSome start (λ bytes. IsAtEnd before) → took ≡ [] →
    Consumes before after took → IfSome start (λ bytes. IsAtEnd after)
end_stays None before after taken took consumed end nothing more = tt
end_stays (Some bytes) None after taken took consumed end nothing more = absurd consumed
end_stays (Some bytes) (Some xs) None taken took consumed end nothing more = absurd more
end_stays (Some bytes) (Some xs) (Some ys) taken took consumed end nothing more = sym (more ∙ ap (λ t. t ++ ys) nothing) ∙ end

end_for : (start after : Option (List ℕ)) → IsAtEnd after → IfSome start (λ bytes. IsAtEnd after)
end_for None after end = tt
end_for (Some bytes) after end = end

-- where the end has been read, the source is at its end
pub end_now : {State : Type 0} (p : ProgramMeaning State) (limit : ℕ) (first : State) (start now now' : Outside) (c c' : CutterState) (s : State) (n : ℕ)
    (taken took : List ℕ) (done : List (List ℕ)) (text : List ℕ) (result : Result (Option ℕ) CutError) →
    Progress p limit first start now c s n taken done text → StepsOn (with_source c now.source) (with_source c' now'.source) result took →
    IsTrue c'.at_end → IfSome start.source.bytes (λ bytes. IsAtEnd now'.source.bytes)
end_now p limit first start now now' c c' s n taken took done text result so_far steps t =
    ⊎_elim (λ old. end_stays start.source.bytes now.source.bytes now'.source.bytes taken took so_far.consumed (so_far.end_read old) (steps.stays_at_end old).1 steps.consumes)
    (λ e. end_for start.source.bytes now'.source.bytes e) (steps.at_end t)

pub piece_not_empty : (new : CutterState) (piece bytes : List ℕ) → IsNextPiece new piece bytes → 0 < length piece
piece_not_empty new piece bytes next =
    ⊎_elim (λ e. omega (arith, ap length e, length-append new.line (10 ∷ []))) (λ e. omega (arith, ap length e.0, e.1)) next.ended

line_taken_by : {State : Type 0} (p : ProgramMeaning State) (limit : ℕ) (first : State) (start now now' : Outside) (c c' : CutterState) (s s' : State) (n number : ℕ) (took more : List ℕ) →
    InProgress p limit first start now c s n → StepsOn (with_source c now.source) (with_source c' now'.source) (Ok (Some number)) took →
    GivesLine c c' (c.pending ++ took) number →
    takes_item p s (item_of_line c'.line) ≡ goes_on more s' → Appends now.sink.bytes now'.sink.bytes more → now.sink.faults ≤ now'.sink.faults →
    InProgress p limit first start now' c' s' number
line_taken_by p limit first start now now' c c' s s' n number took more progress steps line effect written writes =
    let so_far = progress.so_far in
    let piece = line.piece in
    let item : item_of limit c.given piece ≡ item_of_line c'.line = ap (λ l. item_of l c.given piece) (sym so_far.same_limit) ∙ item_of-given c c' (c.pending ++ took) number line in
    let concat_now = concat-push progress.done piece in
    let next_number : n + 1 ≡ number = omega (arith, line.number, so_far.lines) in
    let some : 0 < length piece = piece_not_empty _ _ _ line.next in
    let items_now = items_so_far-push limit progress.done c.given c'.line piece so_far.given item in
    let ran_now : RunsTo p first (items_so_far limit progress.done ++ item_of_line c'.line ∷ []) (progress.text ++ more) s' (n + 1) =
    RunsTo-push p first s s' (items_so_far limit progress.done) progress.text more n (item_of_line c'.line) so_far.ran effect in
    record {
      taken = progress.taken ++ took;
      done = progress.done ++ piece ∷ [];
      text = progress.text ++ more;
      so_far = record {
        consumed = Consumes-trans _ _ _ _ _ so_far.consumed steps.consumes;
        split = ap (λ t. t ++ took) so_far.split ∙ append_assoc (concat progress.done) c.pending took ∙ ap (λ t. concat progress.done ++ t) line.next.split
            ∙ sym (append_assoc (concat progress.done) piece c'.pending) ∙ ap (λ t. t ++ c'.pending) (sym concat_now);
        cut = cut_on c c' progress.taken took number progress.done so_far.cut steps.stays_at_end line;
        whole = λ e. whole-push progress.done piece (so_far.whole (still_at_end c.at_end c'.at_end took (Unit {0}) steps.stays_at_end e)) (whole_piece _ _ _ line.next e);
        ran = subst (λ (m : ℕ). RunsTo p first (items_so_far limit (progress.done ++ piece ∷ [])) (progress.text ++ more) s' m) next_number
            (subst (λ (is : List Item). RunsTo p first is (progress.text ++ more) s' (n + 1)) (sym items_now) ran_now);
        given = omega (arith, line.given, so_far.given, ap length concat_now, length-append (concat progress.done) piece);
        within = omega (arith, line.within, so_far.same_limit);
        lines = omega (arith, line.number, line.lines);
        few_lines = omega (arith, next_number, line.given, so_far.few_lines, some);
        written = Appends-trans _ _ _ _ _ so_far.written written;
        same_limit = steps.limit ∙ so_far.same_limit;
        stopped = line.stopped;
        end_read = end_now p limit first start now now' c c' s n progress.taken took progress.done progress.text _ so_far steps;
        reads = omega (arith, so_far.reads, steps.later);
        writes = omega (arith, so_far.writes, writes);
      };
    }

-- a line was given and taken, and the run goes on
pub line_taken : {State : Type 0} (p : ProgramMeaning State) (limit : ℕ) (first : State) (start now now' : Outside) (c c' : CutterState) (s s' : State) (n number : ℕ) (took line more : List ℕ) →
    InProgress p limit first start now c s n → StepsOn (with_source c now.source) (with_source c' now'.source) (Ok (Some number)) took → line ≡ c'.line →
    takes_item p s (item_of_line line) ≡ goes_on more s' → Appends now.sink.bytes now'.sink.bytes more → now.sink.faults ≤ now'.sink.faults →
    InProgress p limit first start now' c' s' number
line_taken p limit first start now now' c c' s s' n number took line more progress steps e effect written writes =
    let cut : Cuts (with_source c now.source) (with_source c' now'.source) (c.pending ++ took) (Ok (Some number)) = cuts_of c.stopped _ _ progress.so_far.stopped steps.cuts in
    line_taken_by p limit first start now now' c c' s s' n number took more progress steps cut (ap (λ (l : List ℕ). takes_item p s (item_of_line l)) (sym e) ∙ effect) written writes

-- the line that was given is fewer than the limit in number
pub line_within : {State : Type 0} (p : ProgramMeaning State) (limit : ℕ) (first : State) (start now : Outside) (source : Stream) (c c' : CutterState) (s : State) (n number : ℕ) (took : List ℕ) →
    InProgress p limit first start now c s n → StepsOn (with_source c now.source) (with_source c' source) (Ok (Some number)) took → (n < limit) × (n + 1 ≡ number)
line_within p limit first start now source c c' s n number took progress steps =
    let so_far = progress.so_far in
    let cut : Cuts (with_source c now.source) (with_source c' source) (c.pending ++ took) (Ok (Some number)) = cuts_of c.stopped _ _ so_far.stopped steps.cuts in
    (omega (arith, cut.given, cut.within, so_far.same_limit, so_far.few_lines, piece_not_empty _ _ _ cut.next), omega (arith, cut.number, so_far.lines))

-- each line that is given leaves fewer bytes of the limit
pub line_leaves_fewer :
    {State : Type 0} (p : ProgramMeaning State) (limit : ℕ) (first : State) (start now : Outside) (source : Stream) (c c' : CutterState) (s : State) (n number : ℕ) (took : List ℕ) →
    InProgress p limit first start now c s n → StepsOn (with_source c now.source) (with_source c' source) (Ok (Some number)) took → limit - c'.given < limit - c.given
line_leaves_fewer p limit first start now source c c' s n number took progress steps =
    let so_far = progress.so_far in
    let cut : Cuts (with_source c now.source) (with_source c' source) (c.pending ++ took) (Ok (Some number)) = cuts_of c.stopped _ _ so_far.stopped steps.cuts in
    omega (arith, cut.given, cut.within, so_far.same_limit, piece_not_empty _ _ _ cut.next)
