-- A line that is written is read back, and so are lines one after another.
use Rattle.std.proofs.Common.{◌≡◌, ◌≢◌, ℕ, ◌+◌, ◌<◌, ◌≤◌, ◌^◌, Bool, true, false, not, eqb, ltb, IsTrue, IsUtf8, List, [], ◌∷◌, ◌++◌, length, take, drop, get_or}
use Rattle.std.proofs.Common.{Option, None, Some, Result, All, sym, refl, ap, ◌∙◌, arith, length-append}
use Rattle.std.specs.Bool.{⊤}
use Rattle.std.specs.Prelude.{codes, decimal, option_and_then}
use Rattle.std.specs.List.{flat_map, list_all, position_or_len}
use Rattle.std.specs.Str.Parse.{AllDigits}
use Rattle.std.proofs.Math.Seq.{take-append_seam, get_or-append_seam}
use Rattle.std.proofs.lemmas.Bool.{false≢true, and_parts, cond-true, cond-false, ne_eqb, eq-eqb, leb-true, lt-ltb}
use Rattle.std.proofs.lemmas.Fmt.{decimal_is_IsNumeral, IsAscii-decimal}
use Rattle.std.proofs.lemmas.List.{get_or_append_left}
use Rattle.std.proofs.lemmas.List.Elements.{All-nil, All-cons, All-head, All-tail, All-weaker, All-append}
use Rattle.std.proofs.lemmas.List.Sums.{position_or_len_is}
use Rattle.std.proofs.lemmas.Option.{none-some, same_Some}
use Rattle.std.proofs.lemmas.Str.{IsUtf8-from_is_utf8, IsUtf8-from_ascii, IsUtf8-append}
use Rattle.json.proofs.Printed.Utf8.{IsUtf8-are_ascii}
use Rattle.std.proofs.lemmas.Str.Parse.{digit_from_value}
use Rattle.heap_base.specs.Names.{is_name, is_name_byte}
use Rattle.graph_meaning.specs.declared.views.HeapView.{HeapView}
use Rattle.trace_reader.specs.Cuts.{HasNoNewline}
use Rattle.trace_reader.specs.Items.{pieces}
use Rattle.trace_reader.specs.Meaning.{only_if}
use Rattle.trace_reader.proofs.Pieces.{pieces-line, line_of-line}
use Rattle.trace_run.specs.Lines.{is_whole}
use Rattle.heap_snapshot.specs.declared.line.Line.{Line}
use Rattle.heap_snapshot.specs.declared.line.Line.TheVariants.{Head, Object, Slot, Root, End}
use Rattle.heap_snapshot.specs.Formed.{IsId, IsName}
use Rattle.heap_snapshot.specs.Lines.{line_text, line_bytes, line_in, text_in, words_in, said_by, object_line_in, slot_line_in, root_line_in, number_first, number_in, id_from, first_word, ◌>>=◌}
use Rattle.heap_snapshot.specs.Reading.{Refusal, at_end, after_line, meaning_from}
use Rattle.heap_snapshot.specs.Table.{Reading, take_line, take_said}
use Rattle.heap_snapshot.proofs.Lines.{line_of_text}
use Rattle.heap_snapshot.proofs.Meanings.{whole_line, meaning-end}
use Rattle.heap_snapshot.proofs.Numbers.{number_in-decimal}
use Rattle.heap_snapshot.proofs.Spoken.{behind_space, four, six}

-- ---- bytes that stand nowhere in a text

without : (c : ℕ) (text : List ℕ) → list_all (λ b. not (eqb b c)) text ≡ true → All (λ b. b ≢ c) text
without c [] none = All-nil (λ b. b ≢ c)
without c (b ∷ text) none =
    let parts = and_parts (not (eqb b c)) (list_all (λ b. not (eqb b c)) text) none in
    All-cons (λ b. b ≢ c) b text (apart (eqb b c) refl parts.0) (without c text parts.1)
  where
    apart : (is : Bool) → eqb b c ≡ is → not is ≡ true → b ≢ c
    apart true at differs = absurd (false≢true differs)
    apart false at differs = λ same. false≢true (sym at ∙ eq-eqb b c same)

digits_high : (ds : List ℕ) → AllDigits 10 ds → All (λ b. 48 ≤ b) ds
digits_high [] digits = All-nil (λ b. 48 ≤ b)
digits_high (d ∷ ds) digits = All-cons (λ b. 48 ≤ b) d ds (digit_from_value d digits.0).0 (digits_high ds digits.1)

-- no space and no newline stands in a number
number_without : (c n : ℕ) → c < 48 → n < 2 ^ 32 → All (λ b. b ≢ c) (decimal n)
number_without c n low below =
    All-weaker (λ b. 48 ≤ b) (λ b. b ≢ c) (λ b high same. omega arith) (decimal n) (digits_high (decimal n) (decimal_is_IsNumeral n (omega arith)).0.1)

name_bytes : (name : List ℕ) → list_all is_name_byte name ≡ true → All (λ b. b ≢ 10) name
name_bytes [] is = All-nil (λ b. b ≢ 10)
name_bytes (b ∷ name) is =
    let parts = and_parts (is_name_byte b) (list_all is_name_byte name) is in
    let high = leb-true 32 b (and_parts _ _ parts.0).0 in
    All-cons (λ b. b ≢ 10) b name (λ same. omega arith) (name_bytes name parts.1)

-- no newline stands in a name
name_without : (name : List ℕ) → IsTrue (is_name name) → All (λ b. b ≢ 10) name
name_without name is = name_bytes name (and_parts _ _ is).1

-- ---- words

-- the first word of a text
first_word-written : (word rest : List ℕ) → All (λ b. b ≢ 32) word → first_word (word ++ 32 ∷ rest) ≡ Some (word, rest)
unfolding first_word
first_word-written word rest none =
    let is_space : ℕ → Bool = λ b. eqb b 32 in
    let text : List ℕ = word ++ 32 ∷ rest in
    let count : length text ≡ length word + length (32 ∷ rest) = length-append word (32 ∷ rest) in
    let place : position_or_len is_space text ≡ length word =
    position_or_len_is is_space text (length word) 0 (omega arith)
    (λ k below. ne_eqb (get_or text k 0) 32 (λ same. none k 0 below (sym (get_or_append_left word (32 ∷ rest) 0 k below) ∙ same)))
    (λ within. eq-eqb (get_or text (length word) 0) 32 (get_or-append_seam word 32 rest 0)) in
    let there : ltb (position_or_len is_space text) (length text) ≡ true = lt-ltb (position_or_len is_space text) (length text) (omega arith) in
    let split : ℕ → Option (List ℕ × List ℕ) = λ n. Some (take n text, drop (n + 1) text) in
    let front : List ℕ → Option (List ℕ × List ℕ) = λ w. Some (w, drop (length word + 1) text) in
    let behind : List ℕ → Option (List ℕ × List ℕ) = λ r. Some (word, r) in
    cond-true (ltb (position_or_len is_space text) (length text)) _ _ there
    ∙ ap split place ∙ ap front (take-append_seam word (32 ∷ rest)) ∙ ap behind (behind_space word rest)

-- a number that is the first word
number_first-written : (n : ℕ) (rest : List ℕ) → n < 2 ^ 32 → number_first (decimal n ++ 32 ∷ rest) ≡ Some (n, rest)
unfolding number_first
number_first-written n rest below =
    ap (λ (o : Option (List ℕ × List ℕ)). o >>= (λ split. number_in split.0 >>= (λ n. Some (n, split.1)))) (first_word-written (decimal n) rest (number_without 32 n (omega arith) below))
    ∙ ap (λ (o : Option ℕ). o >>= (λ n. Some (n, rest))) (number_in-decimal n below)

id_from-written : (id : ℕ) → IsId id → id_from id ≡ Some id
id_from-written id is = cond-false (eqb id 0) None (Some id) (ne_eqb id 0 (λ zero. omega (arith, is.0)))

kept : (name : List ℕ) → IsName name → only_if is_name name ≡ Some name
kept name is = cond-true (is_name name) (Some name) None is.0

object_in-written : (id slots : ℕ) (kind : List ℕ) → IsId id → slots < 2 ^ 32 → IsName kind → object_line_in (decimal id ++ 32 ∷ (decimal slots ++ 32 ∷ kind)) ≡ Some (Object id slots kind)
unfolding object_line_in
object_in-written id slots kind is_id few is_kind =
    ap (λ (o : Option (ℕ × List ℕ)). o >>= (λ first. number_first first.1 >>= (λ second. id_from first.0 >>= (λ id. only_if is_name second.1 >>= (λ kind. Some (Object id second.0 kind))))))
    (number_first-written id (decimal slots ++ 32 ∷ kind) is_id.1)
    ∙ ap (λ (o : Option (ℕ × List ℕ)). o >>= (λ second. id_from id >>= (λ id. only_if is_name second.1 >>= (λ kind. Some (Object id second.0 kind))))) (number_first-written slots kind few)
    ∙ ap (λ (o : Option ℕ). o >>= (λ id. only_if is_name kind >>= (λ kind. Some (Object id slots kind)))) (id_from-written id is_id)
    ∙ ap (λ (o : Option (List ℕ)). o >>= (λ kind. Some (Object id slots kind))) (kept kind is_kind)

slot_in-written : (slot to : ℕ) → slot < 2 ^ 32 → IsId to → slot_line_in (decimal slot ++ 32 ∷ decimal to) ≡ Some (Slot slot to)
unfolding slot_line_in
slot_in-written slot to few is_id =
    ap (λ (o : Option (ℕ × List ℕ)). o >>= (λ first. number_in first.1 >>= (λ n. id_from n >>= (λ to. Some (Slot first.0 to))))) (number_first-written slot (decimal to) few)
    ∙ ap (λ (o : Option ℕ). o >>= (λ n. id_from n >>= (λ to. Some (Slot slot to)))) (number_in-decimal to is_id.1)
    ∙ ap (λ (o : Option ℕ). o >>= (λ to. Some (Slot slot to))) (id_from-written to is_id)

root_in-written : (to : ℕ) (name : List ℕ) → IsId to → IsName name → root_line_in (decimal to ++ 32 ∷ name) ≡ Some (Root to name)
unfolding root_line_in
root_in-written to name is_id is_it =
    ap (λ (o : Option (ℕ × List ℕ)). o >>= (λ first. id_from first.0 >>= (λ to. only_if is_name first.1 >>= (λ name. Some (Root to name))))) (number_first-written to name is_id.1)
    ∙ ap (λ (o : Option ℕ). o >>= (λ to. only_if is_name name >>= (λ name. Some (Root to name)))) (id_from-written to is_id)
    ∙ ap (λ (o : Option (List ℕ)). o >>= (λ name. Some (Root to name))) (kept name is_it)

-- ---- a line

-- its numbers, ids and names are such as a line of a snapshot may have
abbrev pub IsWritten : Line → Type 0
IsWritten Head = ⊤
IsWritten (Object id slots kind) = IsId id × (slots < 2 ^ 32) × IsName kind
IsWritten (Slot slot to) = (slot < 2 ^ 32) × IsId to
IsWritten (Root to name) = IsId to × IsName name
IsWritten End = ⊤

text_in-written : (l : Line) → IsWritten l → text_in (line_text l) ≡ Some l
unfolding text_in words_in
text_in-written Head is = refl
text_in-written (Object id slots kind) is =
    ap text_in (sym (six (codes "object ") (decimal id) (codes " ") (decimal slots) (codes " ") kind))
    ∙ ap (λ (o : Option (List ℕ × List ℕ)). o >>= (λ split. said_by split.0 split.1))
    (first_word-written (codes "object") (decimal id ++ 32 ∷ (decimal slots ++ 32 ∷ kind)) (without 32 (codes "object") refl))
    ∙ object_in-written id slots kind is.0 is.1 is.2
text_in-written (Slot slot to) is =
    ap text_in (sym (four (codes "slot ") (decimal slot) (codes " ") (decimal to)))
    ∙ ap (λ (o : Option (List ℕ × List ℕ)). o >>= (λ split. said_by split.0 split.1)) (first_word-written (codes "slot") (decimal slot ++ 32 ∷ decimal to) (without 32 (codes "slot") refl))
    ∙ slot_in-written slot to is.0 is.1
text_in-written (Root to name) is =
    ap text_in (sym (four (codes "root ") (decimal to) (codes " ") name))
    ∙ ap (λ (o : Option (List ℕ × List ℕ)). o >>= (λ split. said_by split.0 split.1)) (first_word-written (codes "root") (decimal to ++ 32 ∷ name) (without 32 (codes "root") refl))
    ∙ root_in-written to name is.0 is.1
text_in-written End is = refl

decimal_text : (n : ℕ) → n < 2 ^ 32 → IsUtf8 (decimal n)
decimal_text n below = IsUtf8-from_ascii (decimal n) (IsAscii-decimal n (omega arith))

-- a line is a text
is_text : (l : Line) → IsWritten l → IsUtf8 (line_text l)
is_text Head is = IsUtf8-are_ascii (codes "heapsnap 1") refl
is_text (Object id slots kind) is =
    let word = IsUtf8-append (codes "object ") (decimal id) (IsUtf8-are_ascii (codes "object ") refl) (decimal_text id is.0.1) in
    let number = IsUtf8-append _ (decimal slots) (IsUtf8-append _ (codes " ") word (IsUtf8-are_ascii (codes " ") refl)) (decimal_text slots is.1) in
    IsUtf8-append _ kind (IsUtf8-append _ (codes " ") number (IsUtf8-are_ascii (codes " ") refl)) (IsUtf8-from_is_utf8 kind is.2.1)
is_text (Slot slot to) is =
    let word = IsUtf8-append (codes "slot ") (decimal slot) (IsUtf8-are_ascii (codes "slot ") refl) (decimal_text slot is.0) in
    IsUtf8-append _ (decimal to) (IsUtf8-append _ (codes " ") word (IsUtf8-are_ascii (codes " ") refl)) (decimal_text to is.1.1)
is_text (Root to name) is =
    let word = IsUtf8-append (codes "root ") (decimal to) (IsUtf8-are_ascii (codes "root ") refl) (decimal_text to is.0.1) in
    IsUtf8-append _ name (IsUtf8-append _ (codes " ") word (IsUtf8-are_ascii (codes " ") refl)) (IsUtf8-from_is_utf8 name is.1.1)
is_text End is = IsUtf8-are_ascii (codes "end") refl

-- it is read back
line_in-written : (l : Line) → IsWritten l → line_in (line_text l) ≡ Some l
line_in-written l is = line_of_text (line_text l) (is_text l is) ∙ text_in-written l is

abbrev Unbroken : ℕ → Type 0
Unbroken b = b ≢ 10

-- it has no newline
one_line : (l : Line) → IsWritten l → HasNoNewline (line_text l)
one_line Head is = without 10 (codes "heapsnap 1") refl
one_line (Object id slots kind) is =
    let space = without 10 (codes " ") refl in
    let word = All-append Unbroken (codes "object ") (decimal id) (without 10 (codes "object ") refl) (number_without 10 id (omega arith) is.0.1) in
    let front : List ℕ = codes "object " ++ decimal id ++ codes " " in
    let number =
    All-append Unbroken front (decimal slots) (All-append Unbroken (codes "object " ++ decimal id) (codes " ") word space) (number_without 10 slots (omega arith) is.1) in
    All-append Unbroken (front ++ decimal slots ++ codes " ") kind (All-append Unbroken (front ++ decimal slots) (codes " ") number space) (name_without kind is.2.0)
one_line (Slot slot to) is =
    let word = All-append Unbroken (codes "slot ") (decimal slot) (without 10 (codes "slot ") refl) (number_without 10 slot (omega arith) is.0) in
    All-append Unbroken (codes "slot " ++ decimal slot ++ codes " ") (decimal to)
    (All-append Unbroken (codes "slot " ++ decimal slot) (codes " ") word (without 10 (codes " ") refl)) (number_without 10 to (omega arith) is.1.1)
one_line (Root to name) is =
    let word = All-append Unbroken (codes "root ") (decimal to) (without 10 (codes "root ") refl) (number_without 10 to (omega arith) is.0.1) in
    All-append Unbroken (codes "root " ++ decimal to ++ codes " ") name
    (All-append Unbroken (codes "root " ++ decimal to) (codes " ") word (without 10 (codes " ") refl)) (name_without name is.1.0)
one_line End is = without 10 (codes "end") refl

-- ---- lines one after another

-- a line that may stand there is taken
reads_line : (lines : ℕ) (r next : Reading) (l : Line) (rest : List ℕ) → IsWritten l → take_line r l ≡ Some next
    → meaning_from lines r (pieces (line_bytes l ++ rest)) ≡ meaning_from (lines + 1) next (pieces rest)
unfolding meaning_from
reads_line lines r next l rest is taken =
    let go_on : Reading → Result HeapView Refusal = λ s. meaning_from (lines + 1) s (pieces rest) in
    ap (meaning_from lines r) (pieces-line (line_text l) rest (one_line l is))
    ∙ cond-true (is_whole (line_text l ++ 10 ∷ [])) _ _ (whole_line (line_text l))
    ∙ ap (λ (t : List ℕ). after_line (lines + 1) (take_said r (line_in t)) go_on) (line_of-line (line_text l) (one_line l is))
    ∙ ap (λ (o : Option Line). after_line (lines + 1) (take_said r o) go_on) (line_in-written l is)
    ∙ ap (λ (o : Option Reading). after_line (lines + 1) o go_on) taken

-- what has been read with these lines more, unless one of them may not stand there
abbrev pub take_all : Reading → List Line → Option Reading
take_all r [] = Some r
take_all r (l ∷ lines) = option_and_then (λ next. take_all next lines) (take_line r l)

pub reads_lines : (lines : ℕ) (r s : Reading) (ls : List Line) → All IsWritten ls → take_all r ls ≡ Some s → (n : ℕ) × (meaning_from lines r (pieces (flat_map line_bytes ls)) ≡ at_end n s)
reads_lines lines r s [] are taken = (lines, meaning-end lines r [] refl ∙ ap (at_end lines) (same_Some r s taken))
reads_lines lines r s (l ∷ ls) are taken =
    go (take_line r l) refl (λ next more. reads_lines (lines + 1) next s ls (All-tail IsWritten l ls are) more) taken
  where
    go : (o : Option Reading) → take_line r l ≡ o →
        ((next : Reading) → take_all next ls ≡ Some s → (n : ℕ) × (meaning_from (lines + 1) next (pieces (flat_map line_bytes ls)) ≡ at_end n s)) →
        option_and_then (λ next. take_all next ls) o ≡ Some s → (n : ℕ) × (meaning_from lines r (pieces (flat_map line_bytes (l ∷ ls))) ≡ at_end n s)
    go None at later none = absurd (none-some s none)
    go (Some next) at later more =
        let rest = later next more in
        (rest.0, reads_line lines r next l (flat_map line_bytes ls) (All-head IsWritten l ls are) at ∙ rest.1)
