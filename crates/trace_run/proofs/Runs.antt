-- What the items of a trace do to the run of a program, one after another.
use Rattle.std.proofs.Common.{◌≡◌, ℕ, ◌+◌, List, [], ◌∷◌, ◌++◌, refl, sym, ◌∙◌, ap}
use Rattle.std.proofs.lemmas.List.{append_assoc, append-nil}
use Rattle.trace_reader.specs.Meaning.{Item, refused}
use Rattle.graph_meaning.specs.declared.refusal.Refusal.{Refusal}
use Rattle.trace_run.specs.Progress.{RunsTo}
use Rattle.trace_run.specs.Program.{ProgramMeaning, goes_on, takes_item, RunResult, refused_line, end_of_trace, ends_so, behind, by_effect, run, report_on, last_text}

pub behind-twice : (x y : List ℕ) (r : RunResult) → behind x (behind y r) ≡ behind (x ++ y) r
behind-twice x y r = ap (λ (t : List ℕ). let ran : RunResult = record { texts = t; ending = r.ending } in ran) (sym (append_assoc x y r.texts))

-- the run goes on from its first item
pub run-takes : {State : Type 0} (p : ProgramMeaning State) (s : State) (lines : ℕ) (item : Item) (items : List Item) →
    run p s lines (item ∷ items) ≡ by_effect (lines + 1) (takes_item p s item) (λ next. run p next (lines + 1) items)
unfolding run
run-takes p s lines item items = refl

pub run-nil : {State : Type 0} (p : ProgramMeaning State) (s : State) (lines : ℕ) → run p s lines [] ≡ ends_so (end_of_trace (p.ends s))
unfolding run
run-nil p s lines = refl

pub run-refused : {State : Type 0} (p : ProgramMeaning State) (s : State) (lines : ℕ) (r : Refusal) (items : List Item) → run p s lines (refused r ∷ items) ≡ ends_so (refused_line (lines + 1) r)
unfolding run
run-refused p s lines r items = refl

pub RunsTo-nil : {State : Type 0} (p : ProgramMeaning State) (s : State) → RunsTo p s [] [] s 0
RunsTo-nil p s = record { on = λ more. refl }

-- one item more
pub RunsTo-push : {State : Type 0} (p : ProgramMeaning State) (s s' s'' : State) (items : List Item) (text more_text : List ℕ) (n : ℕ) (item : Item) →
    RunsTo p s items text s' n → takes_item p s' item ≡ goes_on more_text s'' → RunsTo p s (items ++ item ∷ []) (text ++ more_text) s'' (n + 1)
RunsTo-push p s s' s'' items text more_text n item leads is = record {
  on = λ more.
      ap (run p s 0) (append_assoc items (item ∷ []) more)
      ∙ leads.on (item ∷ more)
      ∙ ap (behind text) (run-takes p s' n item more ∙ ap (λ e. by_effect (n + 1) e (λ next. run p next (n + 1) more)) is)
      ∙ behind-twice text more_text (run p s'' (n + 1) more);
}

-- where nothing follows, the run comes to its end
pub run-leads_to : {State : Type 0} (p : ProgramMeaning State) (s s' : State) (items : List Item) (text : List ℕ) (n : ℕ) →
    RunsTo p s items text s' n → run p s 0 items ≡ behind text (ends_so (end_of_trace (p.ends s')))
run-leads_to p s s' items text n leads =
    ap (run p s 0) (sym (append-nil items)) ∙ leads.on [] ∙ ap (behind text) (run-nil p s' n)

-- ---- the report

pub report_on-text : (text : List ℕ) (r : RunResult) → (report_on (behind text r)).text ≡ text ++ (report_on r).text
report_on-text text r = append_assoc text r.texts (last_text r.ending)

pub report_on-behind : (text : List ℕ) (r : RunResult) →
    ((report_on (behind text r)).status ≡ (report_on r).status) × ((report_on (behind text r)).is_halted ≡ (report_on r).is_halted) × ((report_on (behind text r)).is_at_end ≡ (report_on r).is_at_end)
report_on-behind text r = (refl, refl, refl)
