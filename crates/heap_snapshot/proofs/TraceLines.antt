-- Each line of the trace of a view is read as its operation.
use Rattle.std.proofs.Common.{◌≡◌, ◌≢◌, ℕ, ◌+◌, ◌*◌, ◌^◌, ◌<◌, ◌≤◌, Bool, true, not, ◌&&◌, eqb, ltb, leb, IsUtf8, List, [], ◌∷◌, ◌++◌, length}
use Rattle.std.proofs.Common.{codes, decimal, Option, None, Some, option_map, option_and_then, Ok, sym, refl, ap, ◌∙◌, subst, arith, append_assoc}
use Rattle.std.proofs.Common.{append-nil, length-append, inl, inr}
use Rattle.std.specs.List.{list_all}
use Rattle.std.specs.Char.{digit_value}
use Rattle.std.specs.Str.Parse.{AllDigits}
use Rattle.std.proofs.lemmas.Bool.{true≢false, and_parts, and_from, cond-true, lt-ltb, le-leb, leb-true, eq-eqb}
use Rattle.std.proofs.lemmas.Bool.Decides.{eqb_tells}
use Rattle.std.proofs.lemmas.Fmt.{decimal_is_IsNumeral, length-decimal-le, IsAscii-decimal}
use Rattle.std.proofs.lemmas.List.Elements.{All-nil, All-cons, All-append}
use Rattle.std.proofs.lemmas.Str.{IsUtf8-append, IsUtf8-from_ascii, IsUtf8-from_is_utf8}
use Rattle.json.specs.Lex.{tokens}
use Rattle.json.specs.Token.{Token}
use Rattle.json.specs.Json as json
use Rattle.json.specs.Tree as tree
use Rattle.json.specs.Print.{escape_byte, escape, quoted}
use Rattle.json.proofs.Printed.Decimals.{IsNumber-decimal}
use Rattle.json.proofs.Printed.Strings.{escape_byte_plain}
use Rattle.json.proofs.Printed.Tokens.{tokens-print}
use Rattle.json.proofs.Printed.Trees.{ArePrintable-json_tokens, value-json_tokens}
use Rattle.json.proofs.Printed.Utf8.{are_ascii, IsUtf8-are_ascii, IsUtf8-quoted}
use Rattle.serde_json.specs.Data.{unsigned, Data, string}
use Rattle.serde_json.specs.Read.{read, number_of, of_json, max_depth}
use Rattle.serde_json.specs.Written.{outline, compact_text}
use Rattle.serde_json.proofs.Numbers.{number_of-decimal}
use Rattle.serde_json.proofs.OnLiterals.{serde_json_on_literals}
use Rattle.serde_json.proofs.Texts.{print-outline}
use Rattle.heap_base.specs.Names.{is_name, is_name_byte}
use Rattle.heap_base.specs.declared.limits.TheConstants.{LONGEST_NAME}
use Rattle.graph_meaning.specs.declared.event.Event.{Event}
use Rattle.graph_meaning.specs.declared.event.Event.TheVariants.{Alloc, Store, Root}
use Rattle.graph_meaning.specs.declared.refusal.FieldName.TheVariants.{IdField, TypeField, SlotsField, AtField, SlotField, ToField, NameField}
use Rattle.trace_reader.specs.Cuts.{HasNoNewline}
use Rattle.trace_reader.specs.Meaning.{event, id_value, count_value, target_value, name_value, good_value, ◌>>=◌, event_in, operation, alloc_in}
use Rattle.trace_reader.specs.Meaning.{store_in, root_in, event_of_json, item_from, item_of_line}
use Rattle.trace_reader.proofs.Json.{json_of_text}
use Rattle.heap_snapshot.specs.Formed.{IsId, IsName}
use Rattle.heap_snapshot.specs.Trace.{whole, alloc_data, store_data, root_data}

-- ---- what a line is made of

-- UTF-8 of so many bytes at most, none of them a newline
pub record IsPart (most : ℕ) (text : List ℕ) : Type 0 where
  pub utf8 : IsUtf8 text
  pub one_line : HasNoNewline text
  pub short : length text ≤ most

part-append : {m n : ℕ} {xs ys : List ℕ} → IsPart m xs → IsPart n ys → IsPart (m + n) (xs ++ ys)
part-append {m} {n} {xs} {ys} x y = record {
  utf8 = IsUtf8-append xs ys x.utf8 y.utf8;
  one_line = All-append (λ b. b ≢ 10) xs ys x.one_line y.one_line;
  short = omega (arith, x.short, y.short, length-append xs ys);
}

-- no byte of these is a newline, and each is ASCII
abbrev is_plain : List ℕ → Bool
is_plain [] = true
is_plain (b ∷ bytes) = not (eqb b 10) && is_plain bytes

plain-one_line : (bytes : List ℕ) → is_plain bytes ≡ true → HasNoNewline bytes
plain-one_line [] is = All-nil (λ b. b ≢ 10)
plain-one_line (b ∷ bytes) is =
    let parts = and_parts (not (eqb b 10)) (is_plain bytes) is in
    All-cons (λ b. b ≢ 10) b bytes (λ same. true≢false (sym parts.0 ∙ ap not (eq-eqb b 10 same))) (plain-one_line bytes parts.1)

digits-one_line : (digits : List ℕ) → AllDigits 10 digits → HasNoNewline digits
digits-one_line [] are = All-nil (λ b. b ≢ 10)
digits-one_line (d ∷ digits) are =
    All-cons (λ b. b ≢ 10) d digits (λ same. let small : digit_value 10 < 10 = subst (λ (x : ℕ). digit_value x < 10) same are.0 in absurd (omega arith)) (digits-one_line digits are.1)

decimal-part : (n : ℕ) → n < 2 ^ 32 → IsPart 10 (decimal n)
decimal-part n below =
    let small : n < 2 ^ 64 = omega arith in
    record {
      utf8 = IsUtf8-from_ascii (decimal n) (IsAscii-decimal n small);
      one_line = digits-one_line (decimal n) (decimal_is_IsNumeral n small).0.1;
      short = length-decimal-le 10 n (omega arith) (omega arith) small;
    }

-- what stands for a byte of a name: the byte, or it behind a backslash
escaped : (b : ℕ) → is_name_byte b ≡ true → HasNoNewline (escape_byte b) × (length (escape_byte b) ≤ 2)
unfolding escape_byte
escaped b is =
    let low : 32 ≤ b = leb-true 32 b (and_parts (leb 32 b) (not (eqb b 127)) is).0 in
    elim (eqb_tells b 34) as (λ _. HasNoNewline (escape_byte b) × (length (escape_byte b) ≤ 2)) [
      | inl quote ↦ subst (λ (x : ℕ). HasNoNewline (escape_byte x) × (length (escape_byte x) ≤ 2)) (sym quote.1) (plain-one_line (escape_byte 34) refl, omega arith)
      | inr no_quote ↦ (
          elim (eqb_tells b 92) as (λ _. HasNoNewline (escape_byte b) × (length (escape_byte b) ≤ 2)) [
            | inl backslash ↦ subst (λ (x : ℕ). HasNoNewline (escape_byte x) × (length (escape_byte x) ≤ 2)) (sym backslash.1) (plain-one_line (escape_byte 92) refl, omega arith)
            | inr no_backslash ↦ (
                subst (λ (xs : List ℕ). HasNoNewline xs × (length xs ≤ 2)) (sym (escape_byte_plain b no_quote.1 no_backslash.1 low))
                (All-cons (λ b. b ≢ 10) b [] (λ same. absurd (omega arith)) (All-nil (λ b. b ≢ 10)), omega arith)
                )
          ]
          )
    ]

escape-part : (name : List ℕ) → list_all is_name_byte name ≡ true → HasNoNewline (escape name) × (length (escape name) ≤ 2 * length name)
escape-part [] is = (All-nil (λ b. b ≢ 10), omega arith)
escape-part (b ∷ name) is =
    let parts = and_parts (is_name_byte b) (list_all is_name_byte name) is in
    let one = escaped b parts.0 in
    let later = escape-part name parts.1 in (
      All-append (λ b. b ≢ 10) (escape_byte b) (escape name) one.0 later.0,
      omega (arith, one.1, later.1, length-append (escape_byte b) (escape name)),
    )

name-part : (name : List ℕ) → IsName name → IsPart 514 (quoted name)
name-part name is =
    let parts = and_parts (leb 1 (length name) && leb (length name) LONGEST_NAME) (list_all is_name_byte name) is.0 in
    let few : length name ≤ LONGEST_NAME = leb-true (length name) LONGEST_NAME (and_parts (leb 1 (length name)) (leb (length name) LONGEST_NAME) parts.0).1 in
    let inner = escape-part name parts.1 in
    record {
      utf8 = IsUtf8-quoted name (IsUtf8-from_is_utf8 name is.1);
      one_line = All-cons (λ b. b ≢ 10) 34 (escape name ++ 34 ∷ []) (λ same. absurd (omega arith)) (All-append (λ b. b ≢ 10) (escape name) (34 ∷ []) inner.0 (plain-one_line (34 ∷ []) refl));
      short = omega (arith, few, inner.1, length-append (escape name) (34 ∷ []));
    }

-- ---- the compact texts, part by part

alloc_parts : (id slots : ℕ) (kind : List ℕ) →
    compact_text (alloc_data id slots kind) ≡ codes "{\"id\":" ++ (decimal id ++ (codes ",\"op\":\"alloc\",\"slots\":" ++ (decimal slots ++ (codes ",\"type\":" ++ (quoted kind ++ codes "}")))))
unfolding serde_json_on_literals
alloc_parts id slots kind = simp append_assoc

store_parts : (at slot to : ℕ) →
    compact_text (store_data at slot to) ≡ codes "{\"at\":" ++ (decimal at ++ (codes ",\"op\":\"store\",\"slot\":" ++ (decimal slot ++ (codes ",\"to\":" ++ (decimal to ++ codes "}")))))
unfolding serde_json_on_literals
store_parts at slot to = simp append_assoc

root_parts : (name : List ℕ) (to : ℕ) → compact_text (root_data name to) ≡ codes "{\"name\":" ++ (quoted name ++ (codes ",\"op\":\"root\",\"to\":" ++ (decimal to ++ codes "}")))
unfolding serde_json_on_literals
root_parts name to = simp append_assoc

literal : (text : List ℕ) → are_ascii text ≡ true → is_plain text ≡ true → length text ≤ 40 → IsPart 40 text
literal text ascii plain short = record { utf8 = IsUtf8-are_ascii text ascii; one_line = plain-one_line text plain; short = short }

closing : IsPart 40 (codes "}")
closing = literal (codes "}") refl refl (omega arith)

longer : {n : ℕ} {text : List ℕ} (most : ℕ) → n ≤ most → IsPart n text → IsPart most text
longer most less is = record { utf8 = is.utf8; one_line = is.one_line; short = omega (arith, is.short) }

-- two numbers and a third value between literals
three_values : {a b c value : List ℕ} (m n : ℕ) → (m < 2 ^ 32) × (n < 2 ^ 32) → IsPart 40 a × IsPart 40 b × IsPart 40 c → IsPart 514 value →
    IsPart 1000 (a ++ (decimal m ++ (b ++ (decimal n ++ (c ++ (value ++ codes "}"))))))
three_values m n below (is_a, is_b, is_c) is =
    let third = part-append is_c (part-append is closing) in
    let second = part-append is_b (part-append (decimal-part n below.1) third) in
    longer 1000 (omega arith) (part-append is_a (part-append (decimal-part m below.0) second))

-- numbers and a name that an allocation may have
pub record IsFitAlloc (id slots : ℕ) (kind : List ℕ) : Type 0 where
  pub legal_id : IsId id
  pub few_slots : slots < 2 ^ 32
  pub legal_kind : IsName kind

-- numbers that a store may have
pub record IsFitStore (at slot to : ℕ) : Type 0 where
  pub legal_at : IsId at
  pub low_slot : slot < 2 ^ 32
  pub legal_to : IsId to

alloc-part : (id slots : ℕ) (kind : List ℕ) → IsFitAlloc id slots kind → IsPart 1000 (compact_text (alloc_data id slots kind))
alloc-part id slots kind fit =
    subst (IsPart 1000) (sym (alloc_parts id slots kind))
    (three_values id slots (fit.legal_id.1, fit.few_slots)
    (literal (codes "{\"id\":") refl refl (omega arith), literal (codes ",\"op\":\"alloc\",\"slots\":") refl refl (omega arith), literal (codes ",\"type\":") refl refl (omega arith))
    (name-part kind fit.legal_kind))

store-part : (at slot to : ℕ) → IsFitStore at slot to → IsPart 1000 (compact_text (store_data at slot to))
store-part at slot to fit =
    subst (IsPart 1000) (sym (store_parts at slot to))
    (three_values at slot (fit.legal_at.1, fit.low_slot)
    (literal (codes "{\"at\":") refl refl (omega arith), literal (codes ",\"op\":\"store\",\"slot\":") refl refl (omega arith), literal (codes ",\"to\":") refl refl (omega arith))
    (longer 514 (omega arith) (decimal-part to fit.legal_to.1)))

root-part : (name : List ℕ) (to : ℕ) → IsName name → to < 2 ^ 32 → IsPart 1000 (compact_text (root_data name to))
root-part name to is c =
    let last = part-append (literal (codes ",\"op\":\"root\",\"to\":") refl refl (omega arith)) (part-append (decimal-part to c) closing) in
    subst (IsPart 1000) (sym (root_parts name to))
    (longer 1000 (omega arith) (part-append (literal (codes "{\"name\":") refl refl (omega arith)) (part-append (name-part name is) last)))

-- ---- they are read back

module _ (d : Data) (value : of_json (outline d) ≡ Some d) (numbers : tree.HasNumbers (outline d)) (shallow : tree.depth (outline d) ≤ max_depth) where
  read_text : read (compact_text d) ≡ Some d
  read_text =
      let written : List Token = tree.json_tokens (outline d) in
      let same : tokens (compact_text d) ≡ written ++ [] = ap tokens (sym (print-outline d)) ∙ tokens-print written (ArePrintable-json_tokens (outline d) numbers) ∙ sym (append-nil written) in
      ap (λ (found : Option (json.Json × List Token)). option_and_then of_json (option_and_then (λ (p : json.Json × List Token). json.if_last p.0 p.1) found))
      (ap (json.value max_depth) same ∙ value-json_tokens (outline d) max_depth [] shallow)
      ∙ value

alloc_read : (id slots : ℕ) (kind : List ℕ) → IsFitAlloc id slots kind → read (compact_text (alloc_data id slots kind)) ≡ Some (alloc_data id slots kind)
alloc_read id slots kind fit =
    let a : id < 2 ^ 64 = omega (arith, fit.legal_id.1) in
    let b : slots < 2 ^ 64 = omega (arith, fit.few_slots) in
    let one : number_of (decimal id) ≡ Some (unsigned id) = number_of-decimal id a in
    let two : number_of (decimal slots) ≡ Some (unsigned slots) = number_of-decimal slots b in
    read_text (alloc_data id slots kind) (rw (one, two) refl) (IsNumber-decimal id a, (tt, (IsNumber-decimal slots b, (tt, tt)))) (omega arith)

store_read : (at slot to : ℕ) → IsFitStore at slot to → read (compact_text (store_data at slot to)) ≡ Some (store_data at slot to)
store_read at slot to fit =
    let a : at < 2 ^ 64 = omega (arith, fit.legal_at.1) in
    let b : slot < 2 ^ 64 = omega (arith, fit.low_slot) in
    let c : to < 2 ^ 64 = omega (arith, fit.legal_to.1) in
    let one : number_of (decimal at) ≡ Some (unsigned at) = number_of-decimal at a in
    let two : number_of (decimal slot) ≡ Some (unsigned slot) = number_of-decimal slot b in
    let three : number_of (decimal to) ≡ Some (unsigned to) = number_of-decimal to c in
    read_text (store_data at slot to) (rw (one, two, three) refl) (IsNumber-decimal at a, (tt, (IsNumber-decimal slot b, (IsNumber-decimal to c, tt)))) (omega arith)

root_read : (name : List ℕ) (to : ℕ) → to < 2 ^ 64 → read (compact_text (root_data name to)) ≡ Some (root_data name to)
root_read name to c =
    let one : number_of (decimal to) ≡ Some (unsigned to) = number_of-decimal to c in
    read_text (root_data name to) (rw one refl) (tt, (tt, (IsNumber-decimal to c, tt))) (omega arith)

-- ---- and are the operations

id_is : (n : ℕ) → IsId n → id_value (whole n) ≡ Some n
id_is n is =
    let low : 1 ≤ n = omega (arith, is.0) in
    cond-true (leb 1 n && ltb n (2 ^ 32)) (Some n) None (and_from (leb 1 n) (ltb n (2 ^ 32)) (le-leb 1 n low) (lt-ltb n (2 ^ 32) is.1))

count_is : (n : ℕ) → n < 2 ^ 32 → count_value (whole n) ≡ Some n
count_is n below = cond-true (ltb n (2 ^ 32)) (Some n) None (lt-ltb n (2 ^ 32) below)

name_is : (name : List ℕ) → IsName name → name_value (string name) ≡ Some name
name_is name is = cond-true (is_name name) (Some name) None is.0

target_is : (n : ℕ) → IsId n → target_value (whole n) ≡ Some (Some n)
target_is n is = ap (λ (o : Option ℕ). option_map (λ (x : ℕ). Some x) o) (id_is n is)

alloc_means : (id slots : ℕ) (kind : List ℕ) → IsFitAlloc id slots kind → event_in (alloc_data id slots kind) ≡ Ok (Alloc id kind slots 0)
unfolding event_in operation alloc_in
alloc_means id slots kind fit =
    ap (λ (i : Option ℕ). good_value IdField i >>=
    (λ i. good_value TypeField (name_value (string kind)) >>= (λ k. good_value SlotsField (count_value (whole slots)) >>= (λ n. Ok (Alloc i k n 0)))))
    (id_is id fit.legal_id)
    ∙ ap (λ (k : Option (List ℕ)). good_value TypeField k >>= (λ k. good_value SlotsField (count_value (whole slots)) >>= (λ n. Ok (Alloc id k n 0)))) (name_is kind fit.legal_kind)
    ∙ ap (λ (n : Option ℕ). good_value SlotsField n >>= (λ n. Ok (Alloc id kind n 0))) (count_is slots fit.few_slots)

store_means : (at slot to : ℕ) → IsFitStore at slot to → event_in (store_data at slot to) ≡ Ok (Store at slot (Some to))
unfolding event_in operation store_in
store_means at slot to fit =
    ap (λ (i : Option ℕ). good_value AtField i >>=
    (λ i. good_value SlotField (count_value (whole slot)) >>= (λ n. good_value ToField (target_value (whole to)) >>= (λ t. Ok (Store i n t)))))
    (id_is at fit.legal_at)
    ∙ ap (λ (n : Option ℕ). good_value SlotField n >>= (λ n. good_value ToField (target_value (whole to)) >>= (λ t. Ok (Store at n t)))) (count_is slot fit.low_slot)
    ∙ ap (λ (t : Option (Option ℕ)). good_value ToField t >>= (λ t. Ok (Store at slot t))) (target_is to fit.legal_to)

root_means : (name : List ℕ) (to : ℕ) → IsName name → IsId to → event_in (root_data name to) ≡ Ok (Root name (Some to))
unfolding event_in operation root_in
root_means name to is c =
    ap (λ (n : Option (List ℕ)). good_value NameField n >>= (λ n. good_value ToField (target_value (whole to)) >>= (λ t. Ok (Root n t)))) (name_is name is)
    ∙ ap (λ (t : Option (Option ℕ)). good_value ToField t >>= (λ t. Ok (Root name t))) (target_is to c)

-- ---- lines

-- a text that is read as this operation, of a length that a line may have
pub record IsLineOf (text : List ℕ) (e : Event) : Type 0 where
  pub one_line : HasNoNewline text
  pub short : length text ≤ 1000
  pub item : item_of_line text ≡ event e

module _ (d : Data) (e : Event) (means : event_in d ≡ Ok e) where
  -- a text that begins with a brace isn't blank
  item_of_text : (rest : List ℕ) → IsUtf8 (123 ∷ rest) → read (123 ∷ rest) ≡ Some d → item_of_line (123 ∷ rest) ≡ event e
  unfolding item_of_line
  item_of_text rest utf8 is =
      ap (λ (o : Option Data). item_from (event_of_json o)) (json_of_text (123 ∷ rest) utf8 ∙ is) ∙ ap item_from means

  line_of_data : (text : List ℕ) → ((rest : List ℕ) × (text ≡ 123 ∷ rest)) → IsPart 1000 text → read text ≡ Some d → IsLineOf text e
  line_of_data text begins part is = record {
    one_line = part.one_line;
    short = part.short;
    item = subst (λ (t : List ℕ). IsUtf8 t → read t ≡ Some d → item_of_line t ≡ event e) (sym begins.1) (item_of_text begins.0) part.utf8 is;
  }

pub alloc_is_line : (id slots : ℕ) (kind : List ℕ) → IsFitAlloc id slots kind → IsLineOf (compact_text (alloc_data id slots kind)) (Alloc id kind slots 0)
alloc_is_line id slots kind fit =
    line_of_data (alloc_data id slots kind) (Alloc id kind slots 0) (alloc_means id slots kind fit) (compact_text (alloc_data id slots kind)) (_, refl)
    (alloc-part id slots kind fit) (alloc_read id slots kind fit)

pub store_is_line : (at slot to : ℕ) → IsFitStore at slot to → IsLineOf (compact_text (store_data at slot to)) (Store at slot (Some to))
store_is_line at slot to fit =
    line_of_data (store_data at slot to) (Store at slot (Some to)) (store_means at slot to fit) (compact_text (store_data at slot to)) (_, refl)
    (store-part at slot to fit) (store_read at slot to fit)

pub root_is_line : (name : List ℕ) (to : ℕ) → IsName name → IsId to → IsLineOf (compact_text (root_data name to)) (Root name (Some to))
root_is_line name to is c =
    line_of_data (root_data name to) (Root name (Some to)) (root_means name to is c) (compact_text (root_data name to)) (_, refl)
    (root-part name to is c.1) (root_read name to (omega (arith, c.1)))
