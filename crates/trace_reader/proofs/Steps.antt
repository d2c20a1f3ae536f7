-- A step of the cutter, from the reading and from the cut that it found.
use Rattle.std.proofs.Common.{◌≡◌, ℕ, ◌+◌, ◌-◌, ◌⊎◌, suc, Bool, Option, None, List, [], ◌∷◌, ◌++◌, length, take, drop, Result, Err, refl, sym, ap, ◌∙◌}
use Rattle.std.proofs.Common.{arith, subst, append_assoc, length-append, length-take-le, inl, inr, add-one}
use Rattle.std.proofs.Math.Seq.{split_at}
use Rattle.std.specs.Option.{MatchOption}
use Rattle.std.proofs.KnownBytes.{Consumes-nil}
use Rattle.std.proofs.lemmas.List.{append-nil}
use Rattle.streams.specs.Streams.{Stream}
use Rattle.trace_reader.specs.declared.error.CutError.{CutError}
use Rattle.trace_reader.specs.Cutter.{CutterState, CutterWithSource, Cuts, StepsOn, MayRead, GivesLine}
use Rattle.trace_reader.specs.Cuts.{HasNoNewline, IsLine, IsFirstNewline}
use Rattle.trace_reader.specs.Reads.{ReadsOn, read_state}

pub step_of_cut : (old new : CutterWithSource) (held : List ℕ) (result : Result (Option ℕ) CutError) (took : List ℕ)
    → old.cutter.stopped ≡ None → new.cutter.limit ≡ old.cutter.limit
    → ReadsOn (read_state old.cutter.pending old.cutter.at_end old.source) (read_state held new.cutter.at_end new.source) took
    → Cuts old new held result
    → StepsOn old new result took
step_of_cut old new held result took going limit reads cuts = record {
  consumes = reads.consumes;
  cuts =
      let Q : CutError → Type 0 = λ e. (result ≡ Err e) × (new.cutter ≡ old.cutter) × (took ≡ []) in
      let P : Type 0 = Cuts old new (old.cutter.pending ++ took) result in
      subst (λ (o : Option CutError). MatchOption o P Q) (sym going) (subst (λ bytes. Cuts old new bytes result) reads.held cuts);
  at_end = reads.at_end;
  stays_at_end = reads.stays_at_end;
  limit = limit;
  reads =
      elim reads.asks as (λ _. MayRead old.cutter ⊎ (new.source ≡ old.source)) [
        | inl may ↦ inl (record { one_line = may.0; not_at_end = may.1; stopped = going })
        | inr same ↦ inr same
      ];
  later = reads.later;
}

-- no byte is taken from the source
pub reads_nothing : (held : List ℕ) (at_end : Bool) (source : Stream) → ReadsOn (read_state held at_end source) (read_state held at_end source) []
reads_nothing held at_end source = record {
  held = sym (append-nil held);
  consumes = Consumes-nil source.bytes;
  at_end = λ old. inl old;
  stays_at_end = λ old. (old, refl);
  asks = inr refl;
  later = omega arith;
}

-- a line and its newline, and what is behind them
pub line_split : (held : List ℕ) (n : ℕ) → IsFirstNewline held n → held ≡ (take n held ++ 10 ∷ []) ++ drop (n + 1) held
line_split held n first =
    split_at held n 0 first.there
    ∙ ap (λ b. take n held ++ b ∷ drop (suc n) held) first.newline
    ∙ sym (append_assoc (take n held) (10 ∷ []) (drop (suc n) held))
    ∙ ap (λ k. (take n held ++ 10 ∷ []) ++ drop k held) (sym (add-one n))

pub gives_line : (old new : CutterState) (held : List ℕ) (allowed n : ℕ) → IsLine held allowed n → allowed ≡ old.limit - old.given
    → new.line ≡ take n held → new.pending ≡ drop (n + 1) held → new.given ≡ old.given + (n + 1) → new.lines ≡ old.lines + 1 → new.stopped ≡ None
    → GivesLine old new held (old.lines + 1)
gives_line old new held allowed n is allowed_is line pending given lines stopped =
    let size : length (take n held) ≡ n = length-take-le n held (let there = is.newline.there in omega arith) in
    record {
      piece = take n held ++ 10 ∷ [];
      next = record {
        split = line_split held n is.newline ∙ ap (λ rest. (take n held ++ 10 ∷ []) ++ rest) (sym pending);
        one_line = subst HasNoNewline (sym line) is.newline.one_line;
        ended = inl (ap (λ l. l ++ 10 ∷ []) (sym line));
      };
      number = refl;
      lines = lines;
      given = given ∙ ap (λ k. old.given + k) (sym (length-append (take n held) (10 ∷ []) ∙ ap (λ k. k + 1) size));
      short = omega (arith, ap length line, is.short);
      within = omega (arith, is.within);
      stopped = stopped;
    }
