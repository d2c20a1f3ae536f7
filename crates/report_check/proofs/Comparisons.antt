-- What a comparison has found, step by step.
use Rattle.std.proofs.Common.{◌≡◌, ◌==◌, true, false, eqb-true, ◌≢◌, ◌⊎◌, ⊎_elim, ℕ, zero, suc, ◌+◌, ◌-◌, ◌<◌, ◌≤◌, List, [], ◌∷◌, ◌++◌, length, take, drop, get_or, Option, None, Some, Ok, Err, Result, IfOk, inl, inr, refl, sym, ap, subst, ◌∙◌, arith}
use Rattle.std.specs.List.{slice_get}
use Rattle.std.specs.Option.{IfSome}
use Rattle.std.specs.Io.KnownBytes.{Appends, Consumes, IsAtEnd, Keeps}
use Rattle.std.proofs.Math.Seq.{take-add}
use Rattle.std.proofs.lemmas.List.{append_assoc, append-nil, append_cancel_left, length-append, take-append-drop, take_more}
use Rattle.std.proofs.lemmas.Bool.{false≢true}
use Rattle.heap_base.specs.declared.status.Status.{Status}
use Rattle.heap_base.specs.declared.status.Status.TheVariants.{Clean, Violated, TraceFault, ReadFault, WriteFault, NoMemory, Usage}
use Rattle.heap_base.specs.declared.limits.TheConstants.{LONGEST_TRACE}
use Rattle.streams.specs.Sinks.{AppendsPart}
use Rattle.graph_meaning.specs.declared.reaction.React.TheVariants.{Report}
use Rattle.trace_reader.specs.Items.{items_of}
use Rattle.trace_run.specs.Audits.{audit_report, rules_by}
use Rattle.trace_run.specs.Facts.{HasFacts}
use Rattle.trace_run.specs.Outcome.{EndsAs, IsCutShort, Outside, trace_report}
use Rattle.trace_run.proofs.Causes.{facts_follow}
use Rattle.report_check.specs.Reports.{TellsOfReports, report_with_paths}
use Rattle.report_check.specs.declared.compared.Compared.{Compared}
use Rattle.report_check.specs.declared.outcome.CheckError.{CheckError}
use Rattle.report_check.proofs.CutShort.{part-begins}
use Rattle.report_check.specs.Differences.{IsFirstDifference}
use Rattle.report_check.specs.Comparing.{HasFound, Holds, TellsDifference, taken_bytes}
use Rattle.report_check.specs.declared.compared.Compared.TheVariants.{Equal, Differs}

-- ---- lists

pub no_items : (xs : List ℕ) → (length xs == 0) ≡ true → xs ≡ []
no_items [] none = refl
no_items (x ∷ xs) none = let is : suc (length xs) ≡ 0 = eqb-true (suc (length xs)) 0 none in absurd (omega (arith, is))

pub some_items : (xs : List ℕ) → (length xs == 0) ≡ false → xs ≡ [] → ⊥
some_items xs some none = absurd (false≢true (sym some ∙ ap (λ ys. length ys == 0) none))

take-front : (xs ys : List ℕ) (n : ℕ) → n ≤ length xs → take n (xs ++ ys) ≡ take n xs
take-front xs ys zero within = refl
take-front [] ys (suc n) within = absurd (omega arith)
take-front (x ∷ xs) ys (suc n) within = ap (λ t. x ∷ t) (take-front xs ys n (omega arith))

length-front : (xs : List ℕ) (n : ℕ) → n ≤ length xs → length (take n xs) ≡ n
length-front xs zero within = refl
length-front [] (suc n) within = absurd (omega arith)
length-front (x ∷ xs) (suc n) within = ap suc (length-front xs n (omega arith))

get-front : (xs ys : List ℕ) (k : ℕ) → k < length xs → slice_get (xs ++ ys) k ≡ slice_get xs k
get-front [] ys k less = absurd (omega arith)
get-front (x ∷ xs) ys zero less = refl
get-front (x ∷ xs) ys (suc k) less = get-front xs ys k (omega arith)

get-behind : (front xs : List ℕ) (k n : ℕ) → n ≡ length front + k → slice_get (front ++ xs) n ≡ slice_get xs k
get-behind [] xs k n is = ap (slice_get xs) (omega (arith, is))
get-behind (x ∷ front) xs k zero is = absurd (omega (arith, is))
get-behind (x ∷ front) xs k (suc n) is = get-behind front xs k n (omega (arith, is))

front-same : (front xs ys : List ℕ) (k : ℕ) → k < length front → slice_get (front ++ xs) k ≡ slice_get (front ++ ys) k
front-same front xs ys k less = get-front front xs k less ∙ sym (get-front front ys k less)

-- behind a common front they differ in the first place
differ-behind : (front xs ys : List ℕ) (n : ℕ) → n ≡ length front + 1 → slice_get xs 0 ≢ slice_get ys 0 → IsFirstDifference (front ++ xs) (front ++ ys) n
differ-behind front xs ys n is apart = record {
  from_one = omega arith;
  before = λ k less. front-same front xs ys k (omega arith);
  here = λ same. apart (sym (get-behind front xs 0 (n - 1) (omega (arith, is))) ∙ same ∙ get-behind front ys 0 (n - 1) (omega (arith, is)));
}

-- ---- at the beginning, and reads

pub found-first : (whole left : Option (List ℕ)) → left ≡ whole → HasFound whole left [] 0 None
found-first None left same = record { within = tt; consumed = tt; apart = tt }
found-first (Some bytes) left same = record {
  within = omega arith;
  consumed = subst (λ (l : Option (List ℕ)). Consumes (Some bytes) l []) (sym same) refl;
  apart = tt;
}

pub found-failed : (whole left left' : Option (List ℕ)) (pending : List ℕ) (place : ℕ) → HasFound whole left [] place None → pending ≡ [] → Keeps left left' →
    HasFound whole left' pending place None
found-failed None left left' pending place found none kept = record { within = tt; consumed = tt; apart = tt }
found-failed (Some bytes) None left' pending place found none kept = absurd found.consumed
found-failed (Some bytes) (Some xs) None pending place found none kept = absurd kept
found-failed (Some bytes) (Some xs) (Some ys) pending place found none kept = record {
  within = found.within;
  consumed =
      subst (λ (t : List ℕ). bytes ≡ (take place bytes ++ pending) ++ t) (sym kept)
      (subst (λ (t : List ℕ). bytes ≡ (take place bytes ++ t) ++ xs) (sym none) found.consumed);
  apart = tt;
}

pub found-read : (whole left left' : Option (List ℕ)) (piece : List ℕ) (place : ℕ) → HasFound whole left [] place None → Consumes left left' piece →
    HasFound whole left' piece place None
found-read None left left' piece place found consumed = record { within = tt; consumed = tt; apart = tt }
found-read (Some bytes) None left' piece place found consumed = absurd found.consumed
found-read (Some bytes) (Some xs) None piece place found consumed = absurd consumed
found-read (Some bytes) (Some xs) (Some ys) piece place found consumed = record {
  within = found.within;
  consumed =
      found.consumed ∙ ap (λ t. t ++ xs) (append-nil (take place bytes)) ∙ ap (λ t. take place bytes ++ t) consumed
      ∙ sym (append_assoc (take place bytes) piece ys);
  apart = tt;
}

-- ---- a piece of the text

module _ (bytes pending xs : List ℕ) (place : ℕ) (within : place ≤ length bytes) (split : bytes ≡ (take place bytes ++ pending) ++ xs) where
  -- what stands behind the equal bytes
  rest-is : drop place bytes ≡ pending ++ xs
  rest-is =
      append_cancel_left (take place bytes) (drop place bytes) (pending ++ xs)
      (take-append-drop place bytes ∙ split ∙ append_assoc (take place bytes) pending xs)

  module _ (n : ℕ) (few : n ≤ length pending) where
    more-equal : take (place + n) bytes ≡ take place bytes ++ take n pending
    more-equal = take-add place n bytes ∙ ap (λ t. take place bytes ++ take n t) rest-is ∙ ap (λ t. take place bytes ++ t) (take-front pending xs n few)

    more-within : place + n ≤ length bytes
    more-within =
        omega (arith, few, ap length split, length-append (take place bytes ++ pending) xs, length-append (take place bytes) pending, length-front bytes place within)

    more-split : bytes ≡ (take (place + n) bytes ++ drop n pending) ++ xs
    more-split =
        split
        ∙ ap (λ t. t ++ xs)
        (ap (λ t. take place bytes ++ t) (sym (take-append-drop n pending))
        ∙ sym (append_assoc (take place bytes) (take n pending) (drop n pending))
        ∙ ap (λ t. t ++ drop n pending) (sym more-equal))

    get-more : slice_get bytes (place + n) ≡ slice_get (pending ++ xs) n
    get-more =
        ap (λ t. slice_get t (place + n)) (split ∙ append_assoc (take place bytes) pending xs)
        ∙ get-behind (take place bytes) (pending ++ xs) n (place + n) (omega (arith, length-front bytes place within))

-- so many bytes more are equal
pub found-equal : (whole left : Option (List ℕ)) (pending : List ℕ) (place n : ℕ) → HasFound whole left pending place None → n ≤ length pending →
    HasFound whole left (drop n pending) (place + n) None
found-equal None left pending place n found few = record { within = tt; consumed = tt; apart = tt }
found-equal (Some bytes) None pending place n found few = absurd found.consumed
found-equal (Some bytes) (Some xs) pending place n found few = record {
  within = more-within bytes pending xs place found.within found.consumed n few;
  consumed = more-split bytes pending xs place found.within found.consumed n few;
  apart = tt;
}

pub taken-equal : (whole left : Option (List ℕ)) (pending piece : List ℕ) (place n : ℕ) → HasFound whole left pending place None → n ≤ length pending →
    take n pending ≡ take n piece → Appends (taken_bytes whole place None) (taken_bytes whole (place + n) None) (take n piece)
taken-equal None left pending piece place n found few same = tt
taken-equal (Some bytes) None pending piece place n found few same = absurd found.consumed
taken-equal (Some bytes) (Some xs) pending piece place n found few same =
    append-nil (take (place + n) bytes) ∙ more-equal bytes pending xs place found.within found.consumed n few
    ∙ ap (λ t. take place bytes ++ t) same
    ∙ ap (λ t. t ++ take n piece) (sym (append-nil (take place bytes)))

-- the byte behind them is another, or there is none
abbrev pub IsOther : List ℕ → Option (List ℕ) → ℕ → ℕ → Type 0
IsOther pending left n byte = ((n < length pending) × (slice_get pending n ≢ Some byte)) ⊎ ((pending ≡ []) × IsAtEnd left)

pub found-other : (whole left : Option (List ℕ)) (pending : List ℕ) (place n byte : ℕ) → HasFound whole left pending place None → n ≤ length pending →
    IsOther pending left n byte → HasFound whole left (drop n pending) (place + n) (Some byte)
found-other None left pending place n byte found few other = record { within = tt; consumed = tt; apart = tt }
found-other (Some bytes) None pending place n byte found few other = absurd found.consumed
found-other (Some bytes) (Some xs) pending place n byte found few other = record {
  within = more-within bytes pending xs place found.within found.consumed n few;
  consumed = tt;
  apart =
      λ same.
      (let next : slice_get (pending ++ xs) n ≡ Some byte = sym (get-more bytes pending xs place found.within found.consumed n few) ∙ same in
      ⊎_elim (λ o. o.1 (sym (get-front pending xs n o.0) ∙ next))
      (λ o. let none : slice_get [] n ≡ Some byte = sym (ap (λ t. slice_get t n) (ap (λ t. t ++ xs) o.0 ∙ o.1)) ∙ next in cc) other);
}

pub taken-other : (whole left : Option (List ℕ)) (pending piece : List ℕ) (place n byte : ℕ) → HasFound whole left pending place None → n ≤ length pending →
    take n pending ≡ take n piece → n < length piece → byte ≡ get_or piece n 0 →
    Appends (taken_bytes whole place None) (taken_bytes whole (place + n) (Some byte)) (take (n + 1) piece)
taken-other None left pending piece place n byte found few same less is = tt
taken-other (Some bytes) None pending piece place n byte found few same less is = absurd found.consumed
taken-other (Some bytes) (Some xs) pending piece place n byte found few same less is =
    ap (λ t. t ++ byte ∷ []) (more-equal bytes pending xs place found.within found.consumed n few ∙ ap (λ t. take place bytes ++ t) same)
    ∙ append_assoc (take place bytes) (take n piece) (byte ∷ [])
    ∙ ap (λ b. take place bytes ++ (take n piece ++ b ∷ [])) is
    ∙ ap (λ t. take place bytes ++ t) (sym (take_more piece n 0 less))
    ∙ ap (λ t. t ++ take (n + 1) piece) (sym (append-nil (take place bytes)))

-- nothing more is left of the report
module _ (whole left : Option (List ℕ)) (pending : List ℕ) (place byte : ℕ) (found : HasFound whole left pending place None) (none : pending ≡ []) (end : IsAtEnd left) where
  same-place : place + 0 ≡ place
  same-place = omega arith

  pub found-none : HasFound whole left pending place (Some byte)
  found-none = subst (λ (p : ℕ). HasFound whole left pending p (Some byte)) same-place (found-other whole left pending place 0 byte found (omega arith) (inr (none, end)))

  pub taken-none : (piece : List ℕ) → 0 < length piece → byte ≡ get_or piece 0 0 → Appends (taken_bytes whole place None) (taken_bytes whole place (Some byte)) (take 1 piece)
  taken-none piece some is =
      subst (λ (p : ℕ). Appends (taken_bytes whole place None) (taken_bytes whole p (Some byte)) (take 1 piece)) same-place
      (taken-other whole left pending piece place 0 byte found (omega arith) refl some is)

-- ---- the run that wrote

all-taken : (whole old new : Option (List ℕ)) (place : ℕ) (other : Option ℕ) (text : List ℕ) → old ≡ taken_bytes whole 0 None → new ≡ taken_bytes whole place other →
    Appends old new text → IfSome (taken_bytes whole place other) (λ bytes. bytes ≡ text)
all-taken None old new place other text before after appends = tt
all-taken (Some bytes) old new place other text before after appends =
    let F : Option (List ℕ) → Type 0 = λ o. Appends o (taken_bytes (Some bytes) place other) text in
    let G : Option (List ℕ) → Type 0 = λ o. Appends old o text in
    subst F before (subst G after appends)

part-taken : (whole old new : Option (List ℕ)) (place : ℕ) (other : Option ℕ) (text : List ℕ) → old ≡ taken_bytes whole 0 None → new ≡ taken_bytes whole place other →
    AppendsPart old new text → IfSome (taken_bytes whole place other) (λ bytes. (rest : List ℕ) × (bytes ++ rest ≡ text))
part-taken None old new place other text before after part = tt
part-taken (Some bytes) old new place other text before after part =
    let rest = drop part.0 text in
    (rest, ap (λ t. t ++ rest) (all-taken (Some bytes) old new place other (take part.0 text) before after part.2) ∙ take-append-drop part.0 text)

-- A run that wrote the report into a comparison that was fresh.
module _ (paths : ℕ) (old new : Outside) (whole : Option (List ℕ)) (place : ℕ) (other : Option ℕ) (before : old.sink.bytes ≡ taken_bytes whole 0 None)
    (after : new.sink.bytes ≡ taken_bytes whole place other) where
  abbrev Ends : Status → Type 0
  Ends answer = EndsAs (trace_report LONGEST_TRACE (audit_report (rules_by paths Report))) old new answer

  -- a read of the trace failed: the whole lines before it have a beginning of the report
  cut-taken : (bytes : List ℕ) → old.source.bytes ≡ Some bytes → IsCutShort (trace_report LONGEST_TRACE (audit_report (rules_by paths Report))) old new →
      IfSome (taken_bytes whole place other) (λ taken. (rest : List ℕ) × (taken ++ rest ≡ report_with_paths paths bytes))
  cut-taken bytes is cut =
      let (rest, all) = read-of old.source.bytes new.source.bytes bytes cut.bytes is cut.read in
      let begun = part-begins (rules_by paths Report) cut.bytes rest cut.goes_on in
      let text = report_with_paths paths bytes in
      let same : (audit_report (rules_by paths Report) (items_of LONGEST_TRACE (cut.bytes ++ rest))).text ≡ text = ap (report_with_paths paths) (sym all) in
      longer whole place other _ begun.0 text (all-taken whole old.sink.bytes new.sink.bytes place other _ before after cut.part) (begun.1 ∙ same)
    where
      -- the bytes that were read begin the trace
      read-of : (left after : Option (List ℕ)) (bytes read : List ℕ) → left ≡ Some bytes → Consumes left after read → (rest : List ℕ) × (bytes ≡ read ++ rest)
      read-of None after bytes read is consumed = absurd cc
      read-of (Some xs) None bytes read is consumed = absurd consumed
      read-of (Some xs) (Some rest) bytes read is consumed = let same : xs ≡ bytes = cc in (rest, sym same ∙ consumed)

      longer : (whole : Option (List ℕ)) (place : ℕ) (other : Option ℕ) (part more text : List ℕ) → IfSome (taken_bytes whole place other) (λ taken. taken ≡ part) → part ++ more ≡ text →
          IfSome (taken_bytes whole place other) (λ taken. (rest : List ℕ) × (taken ++ rest ≡ text))
      longer None place other part more text is begins = tt
      longer (Some whole) place other part more text is begins = (more, ap (λ t. t ++ more) is ∙ begins)

  holds-of : (bytes : List ℕ) (answer : Status) → old.source.bytes ≡ Some bytes → Ends answer → Holds answer (taken_bytes whole place other) (report_with_paths paths bytes)
  holds-of bytes answer is ends = go answer ends (facts_follow (trace_report LONGEST_TRACE (audit_report (rules_by paths Report))) old new answer bytes is ends).0
    where
      go : (answer : Status) → Ends answer → HasFacts (audit_report (rules_by paths Report) (items_of LONGEST_TRACE bytes)) old new answer →
          Holds answer (taken_bytes whole place other) (report_with_paths paths bytes)
      go Clean ends facts = all-taken whole old.sink.bytes new.sink.bytes place other _ before after (facts.whole (inl refl)).appended
      go Violated ends facts = all-taken whole old.sink.bytes new.sink.bytes place other _ before after (facts.whole (inr refl)).appended
      go TraceFault ends facts = all-taken whole old.sink.bytes new.sink.bytes place other _ before after (facts.fault_report refl)
      go ReadFault ends facts = cut-taken bytes is ends.1
      go WriteFault ends facts = part-taken whole old.sink.bytes new.sink.bytes place other _ before after (facts.part (inl refl))
      go NoMemory ends facts = part-taken whole old.sink.bytes new.sink.bytes place other _ before after (facts.part (inr refl))
      go Usage ends facts = absurd ends

  pub tells-reports : (answer : Status) (result : Result Compared CheckError) → Ends answer →
      ((text : List ℕ) → Holds answer (taken_bytes whole place other) text → IfOk result (TellsDifference whole text)) → IfOk result (TellsOfReports paths old.source.bytes whole)
  tells-reports answer (Err e) ends tells = tt
  tells-reports answer (Ok compared) ends tells = go old.source.bytes refl
    where
      go : (trace : Option (List ℕ)) → old.source.bytes ≡ trace → TellsOfReports paths trace whole compared
      go None is = tt
      go (Some bytes) is = tells (report_with_paths paths bytes) (holds-of bytes answer is ends)

-- ---- what is known of the whole text

-- a beginning was taken, whichever status the run has
a-part : (status : Status) (taken text : List ℕ) → Holds status (Some taken) text → (rest : List ℕ) × (taken ++ rest ≡ text)
a-part Clean taken text holds = ([], append-nil taken ∙ holds)
a-part Violated taken text holds = ([], append-nil taken ∙ holds)
a-part TraceFault taken text holds = ([], append-nil taken ∙ holds)
a-part ReadFault taken text holds = holds
a-part WriteFault taken text holds = holds
a-part NoMemory taken text holds = holds
a-part Usage taken text holds = absurd holds

pub tells-other : (whole left : Option (List ℕ)) (pending : List ℕ) (place byte n : ℕ) (status : Status) (text : List ℕ) → HasFound whole left pending place (Some byte) →
    n ≡ place + 1 → Holds status (taken_bytes whole place (Some byte)) text → TellsDifference whole text (Differs n)
tells-other None left pending place byte n status text found is holds = tt
tells-other (Some bytes) left pending place byte n status text found is holds =
    let part = a-part status (take place bytes ++ byte ∷ []) text holds in
    let front = take place bytes in
    let long = length-front bytes place found.within in
    subst (λ (xs : List ℕ). IsFirstDifference xs text n) (take-append-drop place bytes)
    (subst (λ (ys : List ℕ). IsFirstDifference (front ++ drop place bytes) ys n) (sym (append_assoc front (byte ∷ []) part.0) ∙ part.1)
    (differ-behind front (drop place bytes) (byte ∷ part.0) n (omega (arith, is, long))
    (λ same. found.apart
    (ap (λ t. slice_get t place) (sym (take-append-drop place bytes)) ∙ get-behind front (drop place bytes) 0 place (omega (arith, long)) ∙ same))))

-- all of it was taken, and nothing is left of the report
pub tells-equal : (whole left : Option (List ℕ)) (pending : List ℕ) (place : ℕ) (text : List ℕ) → HasFound whole left pending place None → pending ≡ [] → IsAtEnd left →
    IfSome (taken_bytes whole place None) (λ bytes. bytes ≡ text) → TellsDifference whole text Equal
tells-equal None left pending place text found none end all = tt
tells-equal (Some bytes) None pending place text found none end all = absurd found.consumed
tells-equal (Some bytes) (Some xs) pending place text found none end all =
    found.consumed ∙ ap (λ t. (take place bytes ++ pending) ++ t) end ∙ append-nil (take place bytes ++ pending) ∙ ap (λ t. take place bytes ++ t) none ∙ all

-- or something is
pub tells-more : (whole left : Option (List ℕ)) (pending : List ℕ) (place n : ℕ) (text : List ℕ) → HasFound whole left pending place None → (pending ≡ [] → ⊥) → n ≡ place + 1 →
    IfSome (taken_bytes whole place None) (λ bytes. bytes ≡ text) → TellsDifference whole text (Differs n)
tells-more None left pending place n text found some is all = tt
tells-more (Some bytes) None pending place n text found some is all = absurd found.consumed
tells-more (Some bytes) (Some xs) [] place n text found some is all = absurd (some refl)
tells-more (Some bytes) (Some xs) (x ∷ pending) place n text found some is all =
    let front = take place bytes in
    subst (λ (ys : List ℕ). IsFirstDifference bytes ys n) all
    (subst (λ (t : List ℕ). IsFirstDifference t (front ++ []) n) (sym (found.consumed ∙ append_assoc front (x ∷ pending) xs))
    (differ-behind front (x ∷ pending ++ xs) [] n (omega (arith, is, length-front bytes place found.within)) (λ same. cc)))
