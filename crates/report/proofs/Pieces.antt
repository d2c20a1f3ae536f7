-- A text that is written piece by piece, and parts of a text.
use Rattle.std.proofs.Common.{◌≡◌, ℕ, ◌+◌, List, [], ◌++◌, length, take, drop, slice_get, Option, Some, Result, Ok, Err, OnErr, refl, sym, ◌∙◌, ap, subst, arith}
use Rattle.std.proofs.lemmas.List.{append_assoc, append-nil, length-append, take-append-le, take-append-drop}
use Rattle.std.proofs.lemmas.Grind.{flat_map-append}
use Rattle.std.specs.List.{flat_map}
use Rattle.std.proofs.Math.Seq.{take-append-add}
use Rattle.std.specs.Io.KnownBytes.{Appends}
use Rattle.std.proofs.KnownBytes.{Appends-nil, Appends-trans}
use Rattle.streams.specs.Sinks.{AppendsPart}
use Rattle.graph_meaning.specs.declared.collection.Collection.{Collection}
use Rattle.report.specs.Text.{cleared_line, collection_text, summary_line, verdict_line}
use Rattle.report.specs.Pieces.{IsWritten}
use Rattle.report.proofs.Ranges.{flat_map_take_next}

-- what is so in any case
pub on_err_always : {T E P : Type 0} (r : Result T E) → P → OnErr r P
on_err_always (Ok v) p = tt
on_err_always (Err e) p = p

-- ---- parts of a text

-- a part of a text is a part of a text that goes on
pub AppendsPart-longer : (old new : Option (List ℕ)) (front rest : List ℕ) → AppendsPart old new front → AppendsPart old new (front ++ rest)
AppendsPart-longer old new front rest (n, within, part) =
    (n, omega (arith, length-append front rest), subst (λ (t : List ℕ). Appends old new t) (sym (take-append-le n front rest within)) part)

-- behind what was appended before, a part of the rest is a part of the whole
pub AppendsPart-behind : (start held after : Option (List ℕ)) (front text whole : List ℕ) → whole ≡ front ++ text → Appends start held front →
    AppendsPart held after text → AppendsPart start after whole
AppendsPart-behind start held after front text whole e before (n, within, part) = (
  length front + n,
  omega (arith, ap length e, length-append front text),
  subst (λ (t : List ℕ). Appends start after t) (sym (ap (take (length front + n)) e ∙ take-append-add front text n)) (Appends-trans _ _ _ _ _ before part),
)

-- ---- pieces

-- where nothing is written yet, the piece is the text
pub IsWritten-first : (held : Option (List ℕ)) (piece : List ℕ) → IsWritten held held piece piece
IsWritten-first held piece = ([], Appends-nil held, refl)

-- what is put behind the piece is put behind the text
pub IsWritten-more : (start held : Option (List ℕ)) (piece text more : List ℕ) → IsWritten start held piece text → IsWritten start held (piece ++ more) (text ++ more)
IsWritten-more start held piece text more (front, before, same) = (front, before, sym (append_assoc front piece more) ∙ ap (λ t. t ++ more) same)

-- the piece is written, and the next one is empty
pub IsWritten-put : (start held held' : Option (List ℕ)) (piece text : List ℕ) → IsWritten start held piece text → Appends held held' piece → IsWritten start held' [] text
IsWritten-put start held held' piece text (front, before, same) put = (front ++ piece, Appends-trans _ _ _ _ _ before put, append-nil (front ++ piece) ∙ same)

-- with the last piece the text is written
pub whole_written : (start held held' : Option (List ℕ)) (piece text : List ℕ) → IsWritten start held piece text → Appends held held' piece → Appends start held' text
whole_written start held held' piece text (front, before, same) put = subst (λ (t : List ℕ). Appends start held' t) same (Appends-trans _ _ _ _ _ before put)

-- a part of the piece is written
pub part_written : (start held held' : Option (List ℕ)) (piece text : List ℕ) → IsWritten start held piece text → AppendsPart held held' piece → AppendsPart start held' text
part_written start held held' piece text (front, before, same) part = AppendsPart-behind start held held' front piece text (sym same) before part

-- nothing of it is
pub before_written : (start held : Option (List ℕ)) (piece text : List ℕ) → IsWritten start held piece text → AppendsPart start held text
before_written start held piece text written = part_written start held held piece text written (0, omega arith, Appends-nil held)

-- ---- lines

-- one line more stands behind the piece
pub IsWritten-line : {X : Type 0} (line : X → List ℕ) (start held : Option (List ℕ)) (piece piece' text : List ℕ) (xs : List X) (i : ℕ) (x : X) → slice_get xs i ≡ Some x →
    piece' ≡ piece ++ line x → IsWritten start held piece (text ++ flat_map line (take i xs)) → IsWritten start held piece' (text ++ flat_map line (take (i + 1) xs))
IsWritten-line line start held piece piece' text xs i x is more written =
    subst (λ (p : List ℕ). IsWritten start held p (text ++ flat_map line (take (i + 1) xs))) (sym more)
    (subst (λ (t : List ℕ). IsWritten start held (piece ++ line x) t) (flat_map_take_next line text xs i x is) (IsWritten-more start held piece (text ++ flat_map line (take i xs)) (line x) written))

-- a part of the first lines is a part of all
pub part_of_lines : {X : Type 0} (line : X → List ℕ) (start held : Option (List ℕ)) (text : List ℕ) (xs : List X) (i : ℕ) → AppendsPart start held (text ++ flat_map line (take i xs)) →
    AppendsPart start held (text ++ flat_map line xs)
part_of_lines line start held text xs i part =
    let first = flat_map line (take i xs) in
    let rest = flat_map line (drop i xs) in
    let all : first ++ rest ≡ flat_map line xs = sym (flat_map-append line (take i xs) (drop i xs)) ∙ ap (flat_map line) (take-append-drop i xs) in
    subst (λ (t : List ℕ). AppendsPart start held t) (append_assoc text first rest ∙ ap (λ t. text ++ t) all) (AppendsPart-longer start held (text ++ first) rest part)

-- ---- the lines of a collection

-- its first line, those of its verdicts, and what was cleared
pub collection_text-parts : (c : Collection) (first : List ℕ) → first ≡ summary_line c → (first ++ flat_map (verdict_line c.number) c.verdicts) ++ cleared_line c ≡ collection_text c
unfolding collection_text
collection_text-parts c first is = ap (λ t. t ++ flat_map (verdict_line c.number) c.verdicts ++ cleared_line c) is

-- a part of the lines before the last is a part of all
pub part_of_collection : (c : Collection) (start held : Option (List ℕ)) (first : List ℕ) → first ≡ summary_line c → AppendsPart start held (first ++ flat_map (verdict_line c.number) c.verdicts) →
    AppendsPart start held (collection_text c)
part_of_collection c start held first is part =
    subst (λ (t : List ℕ). AppendsPart start held t) (collection_text-parts c first is) (AppendsPart-longer start held (first ++ flat_map (verdict_line c.number) c.verdicts) (cleared_line c) part)

-- the last piece has the lines that are left
pub last_piece : (c : Collection) (start held : Option (List ℕ)) (first piece piece' : List ℕ) → first ≡ summary_line c → piece' ≡ piece ++ cleared_line c →
    IsWritten start held piece (first ++ flat_map (verdict_line c.number) c.verdicts) → IsWritten start held piece' (collection_text c)
last_piece c start held first piece piece' is more written =
    subst (λ (p : List ℕ). IsWritten start held p (collection_text c)) (sym more)
    (subst (λ (t : List ℕ). IsWritten start held (piece ++ cleared_line c) t) (collection_text-parts c first is)
    (IsWritten-more start held piece (first ++ flat_map (verdict_line c.number) c.verdicts) (cleared_line c) written))
