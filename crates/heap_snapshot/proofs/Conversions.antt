-- What a run over the bytes of a snapshot does.
use Rattle.std.proofs.Common.{◌≡◌, ℕ, ◌<◌, ◌≤◌, ltb, List, [], ◌++◌, length, take, Option, None, Some, IfSome, Result, Ok, Err, sym, refl, ap, ◌∙◌, subst, ⊎_elim, arith, append-nil, length-append}
use Rattle.std.proofs.lemmas.List.{take-append-le}
use Rattle.std.specs.Io.KnownBytes.{Appends, Consumes, Keeps}
use Rattle.std.proofs.KnownBytes.{Appends-nil}
use Rattle.std.proofs.lemmas.Bool.{cases_lt, cond-true, lt-ltb}
use Rattle.streams.specs.Sinks.{AppendsPart}
use Rattle.streams.specs.Streams.{Stream}
use Rattle.heap_base.specs.declared.status.Status.{Status}
use Rattle.heap_base.specs.declared.status.Status.TheVariants.{Clean, TraceFault}
use Rattle.graph_meaning.specs.declared.views.HeapView.{HeapView}
use Rattle.heap_snapshot.specs.declared.read.TheConstants.{LONGEST_SNAPSHOT}
use Rattle.heap_snapshot.specs.declared.refusal.SnapWhy.TheVariants.{TooLong}
use Rattle.heap_snapshot.specs.Reading.{Refusal, refusal_at, line_behind, snapshot_in}
use Rattle.trace_run.specs.Outcome.{Outside, WritesOnce, sink_change}
use Rattle.heap_snapshot.specs.ToTrace.{IsRead, WritesPart, ConversionEndsAs, view_status, snapshot_status, text_by, text_of}

-- the bytes past the most that a snapshot may have don't matter
same_reading : (text more : List ℕ) → LONGEST_SNAPSHOT < length text → snapshot_in (text ++ more) ≡ snapshot_in text
unfolding snapshot_in
same_reading text more long =
    let le : LONGEST_SNAPSHOT ≤ length text = omega arith in
    let long_all : LONGEST_SNAPSHOT < length (text ++ more) = omega (arith, length-append text more) in
    let all : snapshot_in (text ++ more) ≡ refusal_at (line_behind (take LONGEST_SNAPSHOT (text ++ more))) TooLong =
    cond-true (ltb LONGEST_SNAPSHOT (length (text ++ more))) _ _ (lt-ltb LONGEST_SNAPSHOT (length (text ++ more)) long_all) in
    let some : snapshot_in text ≡ refusal_at (line_behind (take LONGEST_SNAPSHOT text)) TooLong = cond-true (ltb LONGEST_SNAPSHOT (length text)) _ _ (lt-ltb LONGEST_SNAPSHOT (length text) long) in
    all ∙ ap (λ (t : List ℕ). refusal_at (line_behind t) TooLong) (take-append-le LONGEST_SNAPSHOT text more le) ∙ sym some

-- where the bytes are a snapshot, they are no more than one may have
short_if_clean : (text : List ℕ) → snapshot_status text ≡ Clean → length text ≤ LONGEST_SNAPSHOT
unfolding snapshot_in
short_if_clean text clean =
    ⊎_elim (λ (long : LONGEST_SNAPSHOT < length text).
    let long_text : snapshot_in text ≡ refusal_at (line_behind (take LONGEST_SNAPSHOT text)) TooLong =
    cond-true (ltb LONGEST_SNAPSHOT (length text)) _ _ (lt-ltb LONGEST_SNAPSHOT (length text) long) in
    let fault : snapshot_status text ≡ TraceFault = ap view_status long_text in absurd (cc))
    (λ (short : length text ≤ LONGEST_SNAPSHOT). short) (cases_lt LONGEST_SNAPSHOT (length text))

-- the bytes that the source had left, or those that were read where it doesn't tell them
pub record IsAll (before : Option (List ℕ)) (text bytes : List ℕ) : Type 0 where
  pub told : IfSome before (λ left. left ≡ bytes)
  pub same : snapshot_in bytes ≡ snapshot_in text
  pub short : length text ≤ LONGEST_SNAPSHOT → bytes ≡ text

all_of : (before after : Option (List ℕ)) (text : List ℕ) → IsRead before after text → (bytes : List ℕ) × IsAll before text bytes
all_of None after text read = (text, record { told = tt; same = refl; short = λ _. refl })
all_of (Some left) None text read = absurd read.consumed
all_of (Some left) (Some rest) text read =
    ⊎_elim (λ (long : LONGEST_SNAPSHOT < length text).
    (text ++ rest, record { told = read.consumed; same = same_reading text rest long; short = λ short. absurd (omega arith) }))
    (λ (short : length text ≤ LONGEST_SNAPSHOT).
    let whole : text ++ rest ≡ text = ap (λ (t : List ℕ). text ++ t) (read.whole short) ∙ append-nil text in
    (text, record { told = read.consumed ∙ whole; same = refl; short = λ _. refl })) (cases_lt LONGEST_SNAPSHOT (length text))

module _ (old new : Outside) (text bytes : List ℕ) (read : IsRead old.source.bytes new.source.bytes text) (all : IsAll old.source.bytes text bytes) where
  same_text : text_of text ≡ text_of bytes
  same_text = ap text_by (sym all.same)

  same_status : snapshot_status bytes ≡ snapshot_status text
  same_status = ap view_status all.same

  whole_part : AppendsPart old.sink.bytes new.sink.bytes (text_of text) → WritesPart old new
  whole_part part = record { bytes = bytes; snapshot = all.told; part = subst (λ (t : List ℕ). AppendsPart old.sink.bytes new.sink.bytes t) same_text part }

  written : (found : Result HeapView Refusal) → snapshot_in text ≡ found → Appends old.sink.bytes new.sink.bytes (text_of text) → ConversionEndsAs old new (view_status found)
  written (Ok v) is appends = record {
    bytes = bytes;
    snapshot = all.told;
    read = subst (Consumes old.source.bytes new.source.bytes) (sym (all.short (short_if_clean text (ap view_status is)))) read.consumed;
    taken = same_status ∙ ap view_status is;
    text = subst (λ (t : List ℕ). Appends old.sink.bytes new.sink.bytes t) same_text appends;
  }
  written (Err r) is appends = record {
    bytes = bytes;
    snapshot = all.told;
    refused = same_status ∙ ap view_status is;
    text = subst (λ (t : List ℕ). Appends old.sink.bytes new.sink.bytes t) same_text appends;
  }

-- what was read, and then written once
converted : (old new : Outside) (text : List ℕ) (answer : Status) → IsRead old.source.bytes new.source.bytes text →
    WritesOnce (text_of text) (snapshot_status text) (sink_change old.sink new.sink) answer → ConversionEndsAs old new answer
converted old new text answer read writes =
    let (bytes, all) = all_of old.source.bytes new.source.bytes text read in
    ⊎_elim
    (λ done. subst (ConversionEndsAs old new) (sym done.0) (written old new text bytes read all (snapshot_in text) refl done.1))
    (λ failed. subst (ConversionEndsAs old new) (sym failed.0) (failed.1, whole_part old new text bytes read all failed.2)) writes

-- the same, of a text and a status that are those of what was read
module _ (old new : Outside) (text : List ℕ) {written : List ℕ} {status answer : Status} (read : IsRead old.source.bytes new.source.bytes text) where
  pub converted_by : written ≡ text_of text → status ≡ snapshot_status text → WritesOnce written status (sink_change old.sink new.sink) answer → ConversionEndsAs old new answer
  converted_by is_text is_status writes =
      let with_text = subst (λ (t : List ℕ). WritesOnce t status (sink_change old.sink new.sink) answer) is_text writes in
      converted old new text answer read (subst (λ (s : Status). WritesOnce (text_of text) s (sink_change old.sink new.sink) answer) is_status with_text)

some_bytes : (left : Option (List ℕ)) → (bytes : List ℕ) × IfSome left (λ told. told ≡ bytes)
some_bytes None = ([], tt)
some_bytes (Some left) = (left, refl)

-- memory ran out before anything was written
pub nothing_converted : (old new : Outside) → new.sink ≡ old.sink → WritesPart old new
nothing_converted old new same =
    let some = some_bytes old.source.bytes in
    record {
      bytes = some.0;
      snapshot = some.1;
      part = subst (λ (k : Stream). AppendsPart old.sink.bytes k.bytes (text_of some.0)) (sym same) (0, omega arith, Appends-nil old.sink.bytes);
    }

pub keeps_same : (held : Option (List ℕ)) → Keeps held held
keeps_same None = tt
keeps_same (Some xs) = refl
